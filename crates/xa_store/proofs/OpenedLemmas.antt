-- What the tests of columns tell.
use Rattle.std.proofs.Common.{◌≡◌, inl, inr, Bool, List, ℕ, true, false, refl, sym, true≢false}
use Rattle.xa_store.proofs.Common.{IsUtf8, is_utf8, cases_Bool, IsUtf8-from_is_utf8, is_utf8-from_IsUtf8}
use Rattle.sqlite.specs.declared.types.Value.{Value}
use Rattle.sqlite.specs.declared.types.Value.TheVariants.{Null, Int, Real, Text, Blob}
use Rattle.xa_store.specs.Opened.{holds_text_if_any}

pub is_text : (bytes : List ℕ) → IsUtf8 bytes → is_utf8 bytes ≡ true
is_text bytes text = is_utf8-from_IsUtf8 bytes text

pub is_no_text : (bytes : List ℕ) → ¬ (IsUtf8 bytes) → is_utf8 bytes ≡ false
is_no_text bytes none = elim (cases_Bool (is_utf8 bytes)) [ inl text ↦ absurd (none (IsUtf8-from_is_utf8 bytes text)) | inr denied ↦ denied ]

-- a test that holds of texts alone, and of each
pub text_told : (bytes : List ℕ) (b : Bool) → (b ≡ true → IsUtf8 bytes) → (IsUtf8 bytes → b ≡ true) → b ≡ is_utf8 bytes
text_told bytes true held told = sym (is_text bytes (held refl))
text_told bytes false held told = sym (is_no_text bytes (λ text. true≢false (sym (told text))))

-- what is told of nothing, of each text and of what is neither
pub if_any_told : (test : List ℕ → Bool) (value : Value) (b : Bool) → (value ≡ Null → b ≡ true) → ((bytes : List ℕ) → value ≡ Text bytes → b ≡ test bytes) → (holds_text_if_any (λ _. true) value ≡ false → b ≡ false) → b ≡ holds_text_if_any test value
if_any_told test Null b nothing text other = nothing refl
if_any_told test (Text bytes) b nothing text other = text bytes refl
if_any_told test (Int n) b nothing text other = other refl
if_any_told test (Real x) b nothing text other = other refl
if_any_told test (Blob bytes) b nothing text other = other refl

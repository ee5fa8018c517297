-- Reading booleans agrees with their grammar.
use Rattle.std.proofs.Common.{◌≡◌, ℕ, Bool, true, false, ◌⊎◌, inl, inr, List, Ok, Err, refl}
use Rattle.std.specs.Prelude.{codes, bytes_eq, ⊤}
use Rattle.std.proofs.lemmas.Slice.Eq.{bytes_eq-Decides}
use Rattle.xa_value.specs.declared.read_error.ReadError.TheVariants.{NotThisType}
use Rattle.xa_value.specs.Lexical.{trimmed, trimmed_start, trimmed_end}
use Rattle.xa_value.specs.parsing.Number.{read_boolean}
use Rattle.xa_value.specs.BooleanGrammar.{Word, word_true, word_false, digit_one, digit_zero, print_word, word_value}

pub boolean_means : (w : Word) → ⊤ → read_boolean (print_word w) ≡ Ok (word_value w)
unfolding read_boolean
boolean_means word_true any = refl
boolean_means word_false any = refl
boolean_means digit_one any = refl
boolean_means digit_zero any = refl

pub boolean_solid : (w : Word) → ⊤ → trimmed (print_word w) ≡ print_word w
unfolding trimmed_start trimmed_end
boolean_solid word_true any = refl
boolean_solid word_false any = refl
boolean_solid digit_one any = refl
boolean_solid digit_zero any = refl

abbrev Covered : List ℕ → Type 0
Covered text = ((w : Word) × ⊤ × (text ≡ print_word w)) ⊎ (read_boolean text ≡ Err NotThisType)

-- a text that is a boolean is one of the words
pub boolean_covers : (text : List ℕ) → ((w : Word) × ⊤ × (text ≡ print_word w)) ⊎ (read_boolean text ≡ Err NotThisType)
unfolding read_boolean
boolean_covers text = by_true (bytes_eq text (codes "true")) refl
  where
    by_zero : (b : Bool) → bytes_eq text (codes "true") ≡ false → bytes_eq text (codes "1") ≡ false → bytes_eq text (codes "false") ≡ false → bytes_eq text (codes "0") ≡ b → Covered text
    by_zero true t o f e = inl (digit_zero, tt, (bytes_eq-Decides text (codes "0")).0 e)
    by_zero false t o f e = inr (rw (t, o, f, e) refl)

    by_false : (b : Bool) → bytes_eq text (codes "true") ≡ false → bytes_eq text (codes "1") ≡ false → bytes_eq text (codes "false") ≡ b → Covered text
    by_false true t o e = inl (word_false, tt, (bytes_eq-Decides text (codes "false")).0 e)
    by_false false t o e = by_zero (bytes_eq text (codes "0")) t o e refl

    by_one : (b : Bool) → bytes_eq text (codes "true") ≡ false → bytes_eq text (codes "1") ≡ b → Covered text
    by_one true t e = inl (digit_one, tt, (bytes_eq-Decides text (codes "1")).0 e)
    by_one false t e = by_false (bytes_eq text (codes "false")) t e refl

    by_true : (b : Bool) → bytes_eq text (codes "true") ≡ b → Covered text
    by_true true e = inl (word_true, tt, (bytes_eq-Decides text (codes "true")).0 e)
    by_true false e = by_one (bytes_eq text (codes "1")) e refl

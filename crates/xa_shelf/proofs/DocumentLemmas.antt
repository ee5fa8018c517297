-- What stands under a text is its document: once it was found, and after it was put there.
use Rattle.std.proofs.Common.{◌≡◌, ℕ, zero, suc, ◌-◌, Bool, true, false, cond, List, [], ◌∷◌, take, Option, Some, None, Result, Ok, Err, OnErr, bytes_eq, string_bytes, String, refl, sym, ap, subst, ◌∙◌}
use Rattle.std.specs.Prelude.{IfSome, IsUtf8, is_some}
use Rattle.std.specs.Option.{option_map_or}
use Rattle.std.proofs.lemmas.Bool.{true≢false}
use Rattle.std.proofs.Math.Logic.{∥∥₁_elim}
use Rattle.std.specs.Cmp.Lexicographic.{bytes_decides}
use Rattle.std.specs.Map.{lookup, lookup_entry, remove_entry}
use Rattle.lru.specs.LruCache.{LruCache, promoted, put_entries}
use Rattle.xa_notation.specs.declared.document.Parsed.{Parsed}
use Rattle.xa_notation.specs.Document.{document_of}
use Rattle.xa_shelf.specs.Readings.{IsDocument, AreDocuments, asked_for, is_among, texts_of, without}
use Rattle.xa_shelf.proofs.EntryLemmas.{value_found, all_put}

-- what is found under a text is its document
pub found_document : {A : Type 0} (text : List ℕ) (es : List (String A × Parsed)) (v : Parsed) → AreDocuments es → Some v ≡ lookup (λ k. bytes_eq text (string_bytes k)) es → document_of text ≡ Ok v
found_document text es v all h =
    let on = value_found IsDocument (λ k. bytes_eq text (string_bytes k)) es v all (sym h) in
    ap document_of ((bytes_decides text (string_bytes on.0)).0 on.2) ∙ on.1

-- a text with its document may be put among others
pub put_documents : {A : Type 0} (c : LruCache (String A) Parsed) (key : String A) (v : Parsed) → document_of (string_bytes key) ≡ Ok v → AreDocuments c.entries
    → AreDocuments (put_entries (λ a b. bytes_eq (string_bytes a) (string_bytes b)) c key v)
put_documents c key v this all =
    all_put IsDocument (λ a b. bytes_eq (string_bytes a) (string_bytes b)) c key v (λ j same. ap document_of (sym ((bytes_decides (string_bytes key) (string_bytes j)).0 same)) ∙ this) this all

-- what holds anyway holds at a failure
pub at_failure : {X E : Type 0} (P : Type 0) (r : Result X E) → P → OnErr r P
at_failure P (Ok x) p = tt
at_failure P (Err e) p = p

-- ---- the texts

-- a document is found under a text exactly where the text is one of those that are held
pub found_among : {A : Type 0} (text : List ℕ) (es : List (String A × Parsed)) → is_some (lookup (λ k. bytes_eq text (string_bytes k)) es) ≡ is_among text (texts_of es)
found_among text [] = refl
found_among text (e ∷ es) = by_case (bytes_eq text (string_bytes e.0)) refl (found_among text es) where
  by_case : (b : Bool) → bytes_eq text (string_bytes e.0) ≡ b → is_some (lookup (λ k. bytes_eq text (string_bytes k)) es) ≡ is_among text (texts_of es)
      → is_some (lookup (λ k. bytes_eq text (string_bytes k)) (e ∷ es)) ≡ is_among text (texts_of (e ∷ es))
  by_case true at others = rw at refl
  by_case false at others = rw at others

-- so is its entry, and its text is that one
abbrev Looked : {A : Type 0} → List ℕ → List (String A × Parsed) → Option (String A × Parsed) → Type 0
Looked text es o = (is_some o ≡ is_among text (texts_of es)) × IfSome o (λ e. string_bytes e.0 ≡ text)

looked : {A : Type 0} (text : List ℕ) (es : List (String A × Parsed)) → Looked text es (lookup_entry (λ k. bytes_eq text (string_bytes k)) es)
looked text [] = (refl, tt)
looked text (e ∷ es) = by_case (bytes_eq text (string_bytes e.0)) refl (looked text es) where
  by_case : (b : Bool) → bytes_eq text (string_bytes e.0) ≡ b → Looked text es (lookup_entry (λ k. bytes_eq text (string_bytes k)) es)
      → Looked text (e ∷ es) (lookup_entry (λ k. bytes_eq text (string_bytes k)) (e ∷ es))
  by_case true at others = rw at (refl, sym ((bytes_decides text (string_bytes e.0)).0 at))
  by_case false at others = rw at others

removed_texts : {A : Type 0} (text : List ℕ) (es : List (String A × Parsed)) → texts_of (remove_entry (λ k. bytes_eq text (string_bytes k)) es) ≡ without text (texts_of es)
removed_texts text [] = refl
removed_texts text (e ∷ es) = by_case (bytes_eq text (string_bytes e.0)) refl (removed_texts text es) where
  by_case : (b : Bool) → bytes_eq text (string_bytes e.0) ≡ b → texts_of (remove_entry (λ k. bytes_eq text (string_bytes k)) es) ≡ without text (texts_of es)
      → texts_of (remove_entry (λ k. bytes_eq text (string_bytes k)) (e ∷ es)) ≡ without text (texts_of (e ∷ es))
  by_case true at others = rw at refl
  by_case false at others = rw at (ap (λ ts. string_bytes e.0 ∷ ts) others)

taken_texts : {A : Type 0} (n : ℕ) (es : List (String A × Parsed)) → texts_of (take n es) ≡ take n (texts_of es)
taken_texts zero es = refl
taken_texts (suc n) [] = refl
taken_texts (suc n) (e ∷ es) = ap (λ ts. string_bytes e.0 ∷ ts) (taken_texts n es)

-- once it was asked for, it stands first, if it is held
pub promoted_texts : {A : Type 0} (text : List ℕ) (es : List (String A × Parsed)) → texts_of (promoted (λ k. bytes_eq text (string_bytes k)) es) ≡ asked_for text (texts_of es)
promoted_texts text es = by_entry (lookup_entry (λ k. bytes_eq text (string_bytes k)) es) (looked text es) where
  by_entry : (o : Option (String _ × Parsed)) → Looked text es o
      → texts_of (option_map_or (λ e. e ∷ remove_entry (λ k. bytes_eq text (string_bytes k)) es) o es) ≡ asked_for text (texts_of es)
  by_entry None look = ap (λ b. cond b (text ∷ without text (texts_of es)) (texts_of es)) look.0
  by_entry (Some e) look =
      ap (λ t. t ∷ texts_of (remove_entry (λ k. bytes_eq text (string_bytes k)) es)) look.1
      ∙ ap (λ ts. text ∷ ts) (removed_texts text es)
      ∙ ap (λ b. cond b (text ∷ without text (texts_of es)) (texts_of es)) look.0

-- a text that isn't held is put in front of them, and 128 are left
pub put_texts : {A : Type 0} (c : LruCache (String A) Parsed) (key : String A) (v : Parsed) → c.cap ≡ 128 → is_among (string_bytes key) (texts_of c.entries) ≡ false
    → texts_of (put_entries (λ a b. bytes_eq (string_bytes a) (string_bytes b)) c key v) ≡ take 128 (string_bytes key ∷ texts_of c.entries)
put_texts c key v size is_new = by_entry (lookup_entry (λ k. bytes_eq (string_bytes key) (string_bytes k)) c.entries) (looked (string_bytes key) c.entries) where
  by_entry : (o : Option (String _ × Parsed)) → Looked (string_bytes key) c.entries o
      → texts_of (option_map_or (λ e. (e.0, v) ∷ remove_entry (λ k. bytes_eq (string_bytes key) (string_bytes k)) c.entries) o ((key, v) ∷ take (c.cap - 1) c.entries))
      ≡ take 128 (string_bytes key ∷ texts_of c.entries)
  by_entry None look =
      ap (λ ts. string_bytes key ∷ ts) (taken_texts (c.cap - 1) c.entries)
      ∙ ap (λ n. string_bytes key ∷ take (n - 1) (texts_of c.entries)) size
  by_entry (Some e) look = absurd (true≢false (look.0 ∙ is_new))

-- a text that is held is UTF-8
pub among_utf8 : {A : Type 0} (text : List ℕ) (es : List (String A × Parsed)) → is_among text (texts_of es) ≡ true → ∥ IsUtf8 text ∥₁
among_utf8 text [] e = absurd (true≢false (sym e))
among_utf8 text (f ∷ es) e = by_case (bytes_eq text (string_bytes f.0)) refl (among_utf8 text es) where
  by_case : (b : Bool) → bytes_eq text (string_bytes f.0) ≡ b → (is_among text (texts_of es) ≡ true → ∥ IsUtf8 text ∥₁) → ∥ IsUtf8 text ∥₁
  by_case true at others = subst (λ t. ∥ IsUtf8 t ∥₁) (sym ((bytes_decides text (string_bytes f.0)).0 at)) f.0.ok
  by_case false at others = others (rw at at e)

pub none_among : {A : Type 0} (text : List ℕ) (es : List (String A × Parsed)) → ¬ (IsUtf8 text) → is_among text (texts_of es) ≡ true → ⊥
none_among text es not_utf8 e = ∥∥₁_elim (among_utf8 text es e) (λ x y. absurd x) not_utf8

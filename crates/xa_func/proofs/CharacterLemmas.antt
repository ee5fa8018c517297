-- A part stands in a text by characters where it does by bytes.
use Rattle.std.proofs.Common.{◌≡◌, refl, sym, ap, subst, ◌∙◌, ℕ, suc, zero, ◌+◌, ◌≤◌, ◌<◌, arith, Bool, true, false, ◌||◌, nat_eq}
use Rattle.std.proofs.Common.{List, [], ◌∷◌, ◌++◌, length, take, drop, append_assoc}
use Rattle.std.specs.Prelude.{chars, encode_utf8, encode_utf8_all, slice_index, IsUtf8, IsCharBoundary}
use Rattle.std.specs.List.{starts_with, ends_with}
use lib.Utf8.{scalars}
use lib.ListN.{get_or, length-append}
use lib.Seq.{take_at, drop_at}
use Rattle.std.proofs.lemmas.Bool.Decides.{Decides-eqb}
use Rattle.std.proofs.lemmas.Slice.Eq.{starts_is, ends_is}
use Rattle.std.proofs.lemmas.List.Prefix.{at_reads}
use Rattle.std.proofs.lemmas.Str.{IsUtf8-take, IsCharBoundary-at_seam, IsCharBoundary-start, encodes-append, encodes_same}
use Rattle.std.proofs.lemmas.Str.{cons_from_encodes, length-le-encodes, chars_from_encodes}
use Rattle.xa_func.specs.declared.func_id.TextPart.{TextPart}
use Rattle.xa_func.specs.declared.func_id.TextPart.TheVariants.{StartsWith, EndsWith, Contains}
use Rattle.xa_func.specs.Text.{contains, has_part}

same_answer : (a b : Bool) → (a ≡ true → b ≡ true) → (b ≡ true → a ≡ true) → a ≡ b
same_answer true b there back = sym (there refl)
same_answer false true there back = back refl
same_answer false false there back = refl

-- ---- lists of numbers, of bytes or of characters

begins_with : (s p : List ℕ) → (starts_with nat_eq s p ≡ true → s ≡ p ++ drop (length p) s) × ((rest : List ℕ) → s ≡ p ++ rest → starts_with nat_eq s p ≡ true)
begins_with s p = starts_is Decides-eqb s p (starts_with nat_eq s p) refl

ends_so : (s p : List ℕ) → (ends_with nat_eq s p ≡ true → (front : List ℕ) × (s ≡ front ++ p)) × ((front : List ℕ) → s ≡ front ++ p → ends_with nat_eq s p ≡ true)
ends_so s p = let k = ends_is Decides-eqb s p (ends_with nat_eq s p) refl in ((λ e. (_, k.0 e)), k.1)

or_true : (b : Bool) → (b || true) ≡ true
or_true true = refl
or_true false = refl

here_first : (s p : List ℕ) → starts_with nat_eq s p ≡ true → contains s p ≡ true
here_first [] p e = e
here_first (c ∷ cs) p e = rw e refl

holds_in : (front p rest : List ℕ) → contains (front ++ (p ++ rest)) p ≡ true
holds_in [] p rest = here_first (p ++ rest) p ((begins_with (p ++ rest) p).1 rest refl)
holds_in (f ∷ fs) p rest = rw (holds_in fs p rest) (or_true (starts_with nat_eq (f ∷ (fs ++ (p ++ rest))) p))

-- a list in which another stands
abbrev pub HasInside : List ℕ → List ℕ → Type 0
HasInside s p = (front : List ℕ) × (rest : List ℕ) × (s ≡ front ++ (p ++ rest))

in_text : (s p : List ℕ) → contains s p ≡ true → HasInside s p
in_text [] p e = ([], drop (length p) [], (begins_with [] p).0 e)
in_text (c ∷ cs) p e = by_case (in_text cs p) (starts_with nat_eq (c ∷ cs) p) refl where
  by_case : (contains cs p ≡ true → HasInside cs p) → (b : Bool) → starts_with nat_eq (c ∷ cs) p ≡ b → HasInside (c ∷ cs) p
  by_case further true here = ([], drop (length p) (c ∷ cs), (begins_with (c ∷ cs) p).0 here)
  by_case further false here =
      let rest : contains cs p ≡ true = rw here at e in
      let f = further rest in
      (c ∷ f.0, f.1, ap (λ l. c ∷ l) f.2)

-- ---- characters, whose bytes begin so

begun : (ps cs r : List ℕ) → encode_utf8_all cs ≡ encode_utf8_all ps ++ r → (es : List ℕ) × (cs ≡ ps ++ es) × (encode_utf8_all es ≡ r)
begun [] cs r e = (cs, refl, e)
begun (p ∷ ps) cs r e =
    let k = cons_from_encodes cs (encode_utf8_all ps ++ r) p (e ∙ append_assoc (encode_utf8 p) (encode_utf8_all ps) r) in
    let m = begun ps k.0 r k.2 in
    (m.0, k.1 ∙ ap (λ l. p ∷ l) m.1, m.2)

-- the characters before a place at which one begins, and those from there on
parted : (cs f r : List ℕ) → scalars cs ≡ true → encode_utf8_all cs ≡ f ++ r → IsCharBoundary (encode_utf8_all cs) (length f)
    → (fs : List ℕ) × (es : List ℕ) × (cs ≡ fs ++ es) × (encode_utf8_all es ≡ r)
parted cs f r s e b =
    let u = IsUtf8-take (encode_utf8_all cs) (length f) (cs, (s, refl)) b in
    let front : encode_utf8_all u.0 ≡ f = u.1.1 ∙ ap (take (length f)) e ∙ take_at f r (length f) refl in
    let m = begun u.0 cs r (e ∙ ap (λ l. l ++ r) (sym front)) in
    (u.0, m.0, m.1, m.2)

-- one begins where the bytes of some do
at_first : (cs f : List ℕ) (p : ℕ) (ps r : List ℕ) → scalars (p ∷ ps) ≡ true → encode_utf8_all cs ≡ f ++ (encode_utf8_all (p ∷ ps) ++ r)
    → IsCharBoundary (encode_utf8_all cs) (length f)
at_first cs f p ps r s e =
    let part : List ℕ = encode_utf8_all (p ∷ ps) in
    let within : 0 < length part = omega (arith, length-le-encodes (p ∷ ps)) in
    let behind : drop (length f) (encode_utf8_all cs) ≡ part ++ r = ap (drop (length f)) e ∙ drop_at f (part ++ r) (length f) refl in
    let read : get_or (encode_utf8_all cs) (length f + 0) 0 ≡ get_or part 0 0 = at_reads 0 (encode_utf8_all cs) part (length f) r behind 0 within in
    let place : length f + 0 ≡ length f = omega arith in
    let byte : get_or (encode_utf8_all cs) (length f) 0 ≡ get_or part 0 0 = ap (λ n. get_or (encode_utf8_all cs) n 0) (sym place) ∙ read in
    let lead = IsCharBoundary-start part (p ∷ ps, (s, refl)) in
    (omega (arith, ap length e, length-append f (part ++ r)), λ l a. let h = lead.1 within (omega (arith, byte, a)) in omega (arith, byte, h))

-- ---- each question

starts_alike : (cs ps : List ℕ) → starts_with nat_eq (encode_utf8_all cs) (encode_utf8_all ps) ≡ starts_with nat_eq cs ps
starts_alike cs ps = same_answer _ _
    (λ e. let k = begun ps cs _ ((begins_with (encode_utf8_all cs) (encode_utf8_all ps)).0 e) in (begins_with cs ps).1 k.0 k.1)
    (λ e. (begins_with (encode_utf8_all cs) (encode_utf8_all ps)).1 _ (ap encode_utf8_all ((begins_with cs ps).0 e) ∙ encodes-append ps (drop (length ps) cs)))

ends_alike : (cs ps : List ℕ) → scalars cs ≡ true → scalars ps ≡ true → ends_with nat_eq (encode_utf8_all cs) (encode_utf8_all ps) ≡ ends_with nat_eq cs ps
ends_alike cs ps s t = same_answer _ _ there back where
  there : ends_with nat_eq (encode_utf8_all cs) (encode_utf8_all ps) ≡ true → ends_with nat_eq cs ps ≡ true
  there e =
      let k = (ends_so (encode_utf8_all cs) (encode_utf8_all ps)).0 e in
      let b = IsCharBoundary-at_seam (encode_utf8_all cs) k.0 (encode_utf8_all ps) k.1 (ps, (t, refl)) in
      let m = parted cs k.0 (encode_utf8_all ps) s k.1 b in
      (ends_so cs ps).1 m.0 (m.2 ∙ ap (λ l. m.0 ++ l) (encodes_same m.1 ps m.3))

  back : ends_with nat_eq cs ps ≡ true → ends_with nat_eq (encode_utf8_all cs) (encode_utf8_all ps) ≡ true
  back e =
      let k = (ends_so cs ps).0 e in
      (ends_so (encode_utf8_all cs) (encode_utf8_all ps)).1 (encode_utf8_all k.0) (ap encode_utf8_all k.1 ∙ encodes-append k.0 ps)

inside_alike : (cs ps : List ℕ) → scalars cs ≡ true → scalars ps ≡ true → contains (encode_utf8_all cs) (encode_utf8_all ps) ≡ true → contains cs ps ≡ true
inside_alike cs [] s t e = holds_in [] [] cs
inside_alike cs (p ∷ ps) s t e =
    let k = in_text (encode_utf8_all cs) (encode_utf8_all (p ∷ ps)) e in
    let b = at_first cs k.0 p ps k.1 t k.2 in
    let m = parted cs k.0 (encode_utf8_all (p ∷ ps) ++ k.1) s k.2 b in
    let n = begun (p ∷ ps) m.1 k.1 m.3 in
    let whole : cs ≡ m.0 ++ ((p ∷ ps) ++ n.0) = m.2 ∙ ap (λ l. m.0 ++ l) n.1 in
    subst (λ l. contains l (p ∷ ps) ≡ true) (sym whole) (holds_in m.0 (p ∷ ps) n.0)

contains_alike : (cs ps : List ℕ) → scalars cs ≡ true → scalars ps ≡ true → contains (encode_utf8_all cs) (encode_utf8_all ps) ≡ contains cs ps
contains_alike cs ps s t = same_answer _ _ (inside_alike cs ps s t) back where
  back : contains cs ps ≡ true → contains (encode_utf8_all cs) (encode_utf8_all ps) ≡ true
  back e =
      let k = in_text cs ps e in
      let whole : encode_utf8_all cs ≡ encode_utf8_all k.0 ++ (encode_utf8_all ps ++ encode_utf8_all k.1) =
      ap encode_utf8_all k.2 ∙ encodes-append k.0 (ps ++ k.1) ∙ ap (λ l. encode_utf8_all k.0 ++ l) (encodes-append ps k.1) in
      subst (λ l. contains l (encode_utf8_all ps) ≡ true) (sym whole) (holds_in (encode_utf8_all k.0) (encode_utf8_all ps) (encode_utf8_all k.1))

alike : (place : TextPart) (cs ps : List ℕ) → scalars cs ≡ true → scalars ps ≡ true → has_part place (encode_utf8_all cs) (encode_utf8_all ps) ≡ has_part place cs ps
alike StartsWith cs ps s t = starts_alike cs ps
alike EndsWith cs ps s t = ends_alike cs ps s t
alike Contains cs ps s t = contains_alike cs ps s t

pub by_characters : (place : TextPart) (text part : List ℕ) → IsUtf8 text → IsUtf8 part → has_part place text part ≡ has_part place (chars text) (chars part)
by_characters place text part u v =
    let c : u.0 ≡ chars text = chars_from_encodes u.0 text u u.1.1 in
    let d : v.0 ≡ chars part = chars_from_encodes v.0 part v v.1.1 in
    (λ k. has_part place (sym u.1.1 k) (sym v.1.1 k)) ∙ alike place u.0 v.0 u.1.0 v.1.0 ∙ (λ k. has_part place (c k) (d k))

-- A part stands in a text where a search finds it.
use Rattle.std.proofs.Common.{◌≡◌, refl, sym, ℕ, suc, zero, ◌+◌, ◌≤◌, ◌<◌, arith, Bool, true, false, ◌||◌, nat_eq, List, [], ◌∷◌, length, Option, Some, None}
use Rattle.std.specs.Prelude.{is_some, slice_index}
use Rattle.std.specs.List.{starts_with}
use Rattle.std.proofs.lemmas.Bool.{eq-eqb, eqb-true, and_parts}
use Rattle.memchr.specs.Find.{OccursAt, FindsNeedle}
use Rattle.xa_func.specs.Text.{contains}

-- one byte later
later : (c : ℕ) (cs part : List ℕ) (k : ℕ) → OccursAt cs part k → OccursAt (c ∷ cs) part (suc k)
later c cs part k o = record {
  fits = let h = o.fits in omega arith;
  reads = λ j within. let e : suc k + j ≡ suc (k + j) = omega arith in rw e (o.reads j within);
}

sooner : (c : ℕ) (cs part : List ℕ) (k : ℕ) → OccursAt (c ∷ cs) part (suc k) → OccursAt cs part k
sooner c cs part k o = record {
  fits = let h = o.fits in omega arith;
  reads = λ j within. let e : suc k + j ≡ suc (k + j) = omega arith in let h = o.reads j within in rw e at h;
}

-- at the beginning
begins : (text part : List ℕ) → OccursAt text part 0 → starts_with nat_eq text part ≡ true
begins text [] o = refl
begins [] (p ∷ ps) o = let h = o.fits in absurd (omega arith)
begins (t ∷ ts) (p ∷ ps) o = rw (eq-eqb p t (sym (o.reads 0 (omega arith)))) (begins ts ps rest) where
  rest : OccursAt ts ps 0
  rest = record {
    fits = let h = o.fits in omega arith;
    reads = λ j within.
        let e : 0 + suc j ≡ suc j = omega arith in
        let z : 0 + j ≡ j = omega arith in
        let h = o.reads (suc j) (omega arith) in
        rw z (rw e at h);
  }

-- a byte and what follows it, at the beginning
stands_further : (t : ℕ) (ts : List ℕ) (p : ℕ) (ps : List ℕ) → p ≡ t → OccursAt ts ps 0 → OccursAt (t ∷ ts) (p ∷ ps) 0
stands_further t ts p ps same rest = record {
  fits = let h = rest.fits in omega arith;
  reads = reads;
} where
  reads : (j : ℕ) → j < length (p ∷ ps) → slice_index (t ∷ ts) (0 + j) ≡ slice_index (p ∷ ps) j
  reads zero within = sym same
  reads (suc j) within =
      let e : 0 + suc j ≡ suc j = omega arith in
      let z : 0 + j ≡ j = omega arith in
      let h = rest.reads j (omega arith) in
      rw e (rw z at h)

stands : (text part : List ℕ) → starts_with nat_eq text part ≡ true → OccursAt text part 0
stands text [] e = record { fits = omega arith; reads = λ j within. absurd (omega arith) }
stands [] (p ∷ ps) e = cc
stands (t ∷ ts) (p ∷ ps) e =
    let parts = and_parts (nat_eq p t) (starts_with nat_eq ts ps) e in
    stands_further t ts p ps (eqb-true p t parts.0) (stands ts ps parts.1)

-- where it occurs, the text contains it
occurs_in : (text part : List ℕ) (k : ℕ) → OccursAt text part k → contains text part ≡ true
occurs_in [] part k o = begins [] part (record { fits = let h = o.fits in omega arith; reads = λ j within. let h = o.fits in absurd (omega arith) })
occurs_in (c ∷ cs) part zero o = rw (begins (c ∷ cs) part o) refl
occurs_in (c ∷ cs) part (suc k) o = rw (occurs_in cs part k (sooner c cs part k o)) (by_case (starts_with nat_eq (c ∷ cs) part)) where
  by_case : (b : Bool) → (b || true) ≡ true
  by_case true = refl
  by_case false = refl

-- and where it occurs nowhere, the text doesn't
found_in : (text part : List ℕ) → contains text part ≡ true → (k : ℕ) × (k ≤ length text) × OccursAt text part k
found_in [] part e = (0, omega arith, stands [] part e)
found_in (c ∷ cs) part e = by_case (found_in cs part) (starts_with nat_eq (c ∷ cs) part) refl where
  by_case : (contains cs part ≡ true → (k : ℕ) × (k ≤ length cs) × OccursAt cs part k)
      → (b : Bool) → starts_with nat_eq (c ∷ cs) part ≡ b → (k : ℕ) × (k ≤ length (c ∷ cs)) × OccursAt (c ∷ cs) part k
  by_case further true here = (0, omega arith, stands (c ∷ cs) part here)
  by_case further false here =
      let rest : contains cs part ≡ true = rw here at e in
      let found = further rest in
      let low : found.0 ≤ length cs = found.1 in
      (suc found.0, omega arith, later c cs part found.0 found.2)

pub contains_found : (text part : List ℕ) (r : Option ℕ) → FindsNeedle text part 0 r → is_some r ≡ contains text part
contains_found text part (Some k) found = sym (occurs_in text part k found.1)
contains_found text part None nowhere = by_case (contains text part) refl where
  by_case : (b : Bool) → contains text part ≡ b → false ≡ b
  by_case false e = refl
  by_case true e =
      let found = found_in text part e in
      let low : found.0 ≤ length text = found.1 in
      absurd (nowhere found.0 (omega arith) (omega arith) found.2)

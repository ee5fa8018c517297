-- A zone that was read prints as a text that reads as the same zone.
use Rattle.std.proofs.Common.{◌≡◌, ℕ, zero, suc, ◌+◌, ◌*◌, ◌/◌, ◌%◌, ◌≤◌, Bool, true, false, ◌⊎◌, inl, inr, List, [], ◌∷◌, ◌++◌, length, ℤ, pos, negsuc, Option, Some, None, Result, Ok, Err, refl, subst, arith, append_assoc}
use Rattle.std.specs.Prelude.{if◌then◌else◌, nat_le, bytes_eq, codes, ◌==◌}
use Rattle.std.proofs.lemmas.Bool.{and_parts}
use borrow.Author.Tests.{le-leb, leb-true, ne_eqb}
use Rattle.jiff_core.proofs.SignedLemmas.{signed_arith}
use Rattle.xa_value.specs.declared.read_error.ReadError.{ReadError}
use Rattle.xa_value.specs.declared.read_error.ReadError.TheVariants.{NotThisType, OutOfRange}
use Rattle.xa_value.specs.Lexical.{last_digits, with_sign}
use Rattle.xa_value.specs.parsing.Lexical.{two_digits, begins_with}
use Rattle.xa_value.specs.Zone.{IsOffset, offset_text, zone_text}
use Rattle.xa_value.specs.parsing.Zone.{is_offset_text, read_offset, read_zone}
use Rattle.xa_value.specs.TimeGrammar.{Zone, absent, utc, offset, IsZone as IsZoneTree, print_zone, zone_value, is_zone_in_range}
use Rattle.xa_value.proofs.PrintedLemmas.{number-padded, digits_padded}

-- what a choice that gave a value shows
pub if_ok : {A : Type 0} (b : Bool) (x y : Result A ReadError) (z : A) → (if b then x else y) ≡ Ok z → ((b ≡ true) × (x ≡ Ok z)) ⊎ ((b ≡ false) × (y ≡ Ok z))
if_ok true x y z h = inl (refl, h)
if_ok false x y z h = inr (refl, h)

pub if_ok_or_err : {A : Type 0} (b : Bool) (x : Result A ReadError) (e : ReadError) (z : A) → (if b then x else Err e) ≡ Ok z → (b ≡ true) × (x ≡ Ok z)
if_ok_or_err true x e z h = (refl, h)
if_ok_or_err false x e z h = absurd (cc)

-- the zone's offset is in range
abbrev pub IsZone : Option ℤ → Type 0
IsZone None = Unit {0}
IsZone (Some minutes) = IsOffset minutes

signed_in_range : (b : Bool) (n : ℕ) → n ≤ 840 → IsOffset (with_sign b n)
signed_in_range true zero h = (omega (arith, signed_arith), omega (arith, signed_arith))
signed_in_range true (suc n) h = (omega (arith, signed_arith), omega (arith, signed_arith))
signed_in_range false n h = (omega (arith, signed_arith), omega (arith, signed_arith))

offset_read : (text : List ℕ) (z : Option ℤ) → read_offset text ≡ Ok z → IsZone z
unfolding read_offset
offset_read text z h =
    let k = if_ok_or_err _ _ OutOfRange z h in
    let parts = and_parts (nat_le (two_digits text 4) 59) (nat_le (two_digits text 1 * 60 + two_digits text 4) 840) k.0 in
    let e : Some (with_sign (begins_with 45 text) (two_digits text 1 * 60 + two_digits text 4)) ≡ z = cc in
    subst IsZone e (signed_in_range (begins_with 45 text) (two_digits text 1 * 60 + two_digits text 4) (leb-true _ 840 parts.1))

-- the zone of a text that is there, and that isn't `Z`
abbrev offset_or_not : List ℕ → Result (Option ℤ) ReadError
offset_or_not text = if is_offset_text text then read_offset text else Err NotThisType

abbrev utc_or_offset : List ℕ → Result (Option ℤ) ReadError
utc_or_offset text = if bytes_eq text (codes "Z") then Ok (Some (pos 0)) else offset_or_not text

-- a zone that was read is in range
pub zone_read : (text : List ℕ) (z : Option ℤ) → read_zone text ≡ Ok z → IsZone z
unfolding read_zone
zone_read text z h = elim (if_ok (length text == 0) (Ok None) (utc_or_offset text) z h) [
  | inl empty ↦ let e : None ≡ z = cc in subst IsZone e tt
  | inr present ↦ elim (if_ok (bytes_eq text (codes "Z")) (Ok (Some (pos 0))) (offset_or_not text) z present.1) [
    | inl letter ↦ let e : Some (pos 0) ≡ z = cc in subst IsZone e (omega (arith, signed_arith), omega (arith, signed_arith))
    | inr other ↦ offset_read text z (if_ok_or_err (is_offset_text text) (read_offset text) NotThisType z other.1).1
  ]
]

-- the zone that an offset prints as
pub record ZoneWritten (z : Option ℤ) : Type 0 where
  pub tree : Zone
  pub valid : IsZoneTree tree
  pub text : zone_text z ≡ print_zone tree
  pub in_range : is_zone_in_range tree ≡ true
  pub value : zone_value tree ≡ z

-- a sign, and hours and minutes
offset_regroup : (mark n : ℕ) → mark ∷ [] ++ offset_text n ≡ mark ∷ [] ++ last_digits 2 (n / 60) ++ codes ":" ++ last_digits 2 (n % 60)
offset_regroup mark n = simp append_assoc

offset_written : (b : Bool) (n : ℕ) (z : Option ℤ) → n ≤ 840 → zone_text z ≡ print_zone (offset b (last_digits 2 (n / 60)) (last_digits 2 (n % 60))) → Some (with_sign b n) ≡ z → ZoneWritten z
offset_written b n z h text value =
    let whole : n / 60 * 60 + n % 60 ≡ n = omega arith in
    let hours = number-padded 2 (n / 60) (omega arith) in
    let minutes = number-padded 2 (n % 60) (omega arith) in
    record {
      tree = offset b (last_digits 2 (n / 60)) (last_digits 2 (n % 60));
      valid = (digits_padded 2 (n / 60), digits_padded 2 (n % 60));
      text = text;
      in_range = rw (hours, minutes, whole, le-leb (n % 60) 59 (omega arith), le-leb n 840 h) refl;
      value = rw (hours, minutes, whole) value;
    }

pub zone_written : (z : Option ℤ) → IsZone z → ZoneWritten z
zone_written None h = record { tree = absent; valid = tt; text = refl; in_range = refl; value = refl }
zone_written (Some (pos zero)) h = record { tree = utc; valid = tt; text = refl; in_range = refl; value = refl }
zone_written (Some (pos (suc n))) h =
    let other = ne_eqb (suc n) 0 (λ e. absurd (omega arith)) in
    offset_written false (suc n) (Some (pos (suc n))) (omega (arith, signed_arith)) (rw other (offset_regroup 43 (suc n))) refl
zone_written (Some (negsuc n)) h = offset_written true (suc n) (Some (negsuc n)) (omega (arith, signed_arith)) (offset_regroup 45 (suc n)) refl

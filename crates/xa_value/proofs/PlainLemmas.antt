-- A value that was read is the value of the plain member as which it is written.
use Rattle.std.proofs.Common.{◌≡◌, ℕ, true, List, ℤ, Result, Ok, Err, refl, subst}
use Rattle.base64.specs.GeneralPurpose.{IsBytes}
use Rattle.xa_value.specs.declared.data_type.DataType.{DataType}
use Rattle.xa_value.specs.declared.data_type.DataType.TheVariants as type
use Rattle.xa_value.specs.declared.plain.Plain.TheVariants as plain
use Rattle.xa_value.specs.declared.value.Value.{Value}
use Rattle.xa_value.specs.declared.value.Value.TheVariants as value
use Rattle.xa_value.specs.declared.read_error.ReadError.{ReadError}
use Rattle.xa_value.specs.Lexical.{trimmed}
use Rattle.xa_value.specs.Reading.{read_as, read}
use Rattle.xa_value.specs.Printing.{printed}
use Rattle.xa_value.specs.Plain.{is_integer, from_plain, to_plain, PlainBack}
use Rattle.xa_value.proofs.DayLemmas.{test_le}
use Rattle.xa_value.proofs.NumberReads.{IsInteger, integer_read}
use Rattle.xa_value.proofs.RoundTripLemmas.{reads_back_at}

-- a value that was read under a variant is of that variant
of_variant : {A : Type 0} (variant : A → Value) (r : Result A ReadError) (v : Value) → read_as variant r ≡ Ok v → (a : A) × (r ≡ Ok a) × (variant a ≡ v)
of_variant variant (Ok a) v h = (a, refl, cc)
of_variant variant (Err e) v h = absurd (cc)

-- its member is its text
abbrev IsText : Value → Type 0
IsText v = to_plain v ≡ plain.Text (printed v)

-- its member has it as its value
abbrev Back : DataType → Value → Type 0
Back t v = from_plain t (to_plain v) ≡ Ok v

text_back : (t : DataType) (v : Value) → IsText v → read t (printed v) ≡ Ok v → Back t v
text_back t v e h = rw e h

variant_back : {A : Type 0} (t : DataType) (variant : A → Value) (r : Result A ReadError) (v : Value) → ((a : A) → IsText (variant a))
    → read_as variant r ≡ Ok v → read t (printed v) ≡ Ok v → Back t v
variant_back t variant r v e h back =
    let k = of_variant variant r v h in
    text_back t v (subst IsText k.2 (e k.0)) back

integer_fits : (z : ℤ) → IsInteger z → is_integer z ≡ true
integer_fits z h = rw (test_le _ _ h.0, test_le _ _ h.1) refl

integer_back : (z : ℤ) → IsInteger z → Back type.Integer (value.Integer z)
integer_back z h = rw (integer_fits z h) refl

pub plain_back_at : (t : DataType) (text : List ℕ) → IsBytes text → PlainBack t text
plain_back_at type.String text byte v h = let e : value.String text ≡ v = cc in subst (Back type.String) e refl
plain_back_at type.Boolean text byte v h = subst (Back type.Boolean) (of_variant value.Boolean _ v h).2 refl
plain_back_at type.Integer text byte v h =
    let k = of_variant value.Integer _ v h in
    subst (Back type.Integer) k.2 (integer_back k.0 (integer_read _ k.0 k.1))
plain_back_at type.Date text byte v h = variant_back type.Date value.Date _ v (λ a. refl) h (reads_back_at type.Date text byte v h)
plain_back_at type.Time text byte v h = variant_back type.Time value.Time _ v (λ a. refl) h (reads_back_at type.Time text byte v h)
plain_back_at type.DateTime text byte v h =
    variant_back type.DateTime value.DateTime _ v (λ a. refl) h (reads_back_at type.DateTime text byte v h)
plain_back_at type.DayTimeDuration text byte v h =
    variant_back type.DayTimeDuration value.DayTimeDuration _ v (λ a. refl) h (reads_back_at type.DayTimeDuration text byte v h)
plain_back_at type.YearMonthDuration text byte v h =
    variant_back type.YearMonthDuration value.YearMonthDuration _ v (λ a. refl) h (reads_back_at type.YearMonthDuration text byte v h)
plain_back_at type.AnyUri text byte v h =
    let e : value.AnyUri (trimmed text) ≡ v = cc in
    text_back type.AnyUri v (subst IsText e refl) (reads_back_at type.AnyUri text byte v h)
plain_back_at type.HexBinary text byte v h =
    variant_back type.HexBinary value.HexBinary _ v (λ a. refl) h (reads_back_at type.HexBinary text byte v h)
plain_back_at type.Base64Binary text byte v h =
    variant_back type.Base64Binary value.Base64Binary _ v (λ a. refl) h (reads_back_at type.Base64Binary text byte v h)

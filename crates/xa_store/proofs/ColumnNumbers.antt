-- The numbers by which columns hold kinds, roles, activities and types.
use Rattle.std.proofs.Common.{◌≡◌, ℕ, zero, suc, ℤ, pos, negsuc, Bool, true, false, if◌then◌else◌, Option, Some, None, IfOk, refl, sym, to_z, of_z, w64, arith}
use Rattle.std.specs.Int.{from_bool}
use Rattle.std.specs.Option.{ok_or}
use Rattle.std.specs.Prelude.{unwrap_or}
use Rattle.xa_store.proofs.Common.{ints, DocumentKind, Failure, Role, is_bit, is_count, nat_of, type_numbered, activity_number, flag_in, kind_in, kind_number, role_in, role_number, type_in}
use Rattle.xa_value.specs.declared.data_type.DataType.{DataType}
use Rattle.xa_value.specs.declared.data_type.DataType.TheVariants.{String, Boolean, Integer, Date, Time, DateTime, DayTimeDuration, YearMonthDuration, AnyUri, HexBinary, Base64Binary}
use Rattle.xa_value.specs.Types.{place_of, type_at}
use Rattle.xa_policy.specs.declared.reference.DocumentKind.TheVariants.{Policy, PolicySet}
use Rattle.xa_notation.specs.declared.token.Role.TheVariants.{Ask, Admin}

-- ---- bits

-- what the number is read as, that a column holds it, and that it is a bit
pub record IsBitOf {X : Type 0} (write : X → ℤ) (read : ℤ → X) (x : X) : Type 0 where
  pub back : read (write x) ≡ x
  pub held : to_z w64 (of_z w64 (write x)) ≡ write x
  pub low : is_bit (write x) ≡ true

pub of_kind : (kind : DocumentKind) → IsBitOf kind_number kind_in kind
of_kind Policy = record { back = refl; held = refl; low = refl }
of_kind PolicySet = record { back = refl; held = refl; low = refl }

pub of_role : (role : Role) → IsBitOf role_number role_in role
of_role Ask = record { back = refl; held = refl; low = refl }
of_role Admin = record { back = refl; held = refl; low = refl }

pub of_activity : (active : Bool) → IsBitOf activity_number flag_in active
of_activity true = record { back = refl; held = refl; low = refl }
of_activity false = record { back = refl; held = refl; low = refl }

-- a truth counts as its bit
pub bit_counted : (b : Bool) → pos (from_bool b) ≡ activity_number b
bit_counted true = refl
bit_counted false = refl

beyond : (n : ℕ) → is_bit (pos (suc (suc n))) ≡ true → ⊥
beyond n h = grind (arith, ints)

below : (n : ℕ) → is_bit (negsuc n) ≡ true → ⊥
below n h = grind (arith, ints)

-- a bit is written as it was read, if both bits are
pub from_bit : {X : Type 0} (write : X → ℤ) (read : ℤ → X) → write (read (pos 0)) ≡ pos 0 → write (read (pos 1)) ≡ pos 1 → (n : ℤ) → is_bit n ≡ true → n ≡ write (read n)
from_bit write read first second (pos zero) h = sym first
from_bit write read first second (pos (suc zero)) h = sym second
from_bit write read first second (pos (suc (suc n))) h = absurd (beyond n h)
from_bit write read first second (negsuc n) h = absurd (below n h)

-- ---- types

-- what the number is read as, which type it names, and that a column holds it
pub record IsNumberOf (type : DataType) : Type 0 where
  pub back : type_in (pos (place_of type)) ≡ type
  pub named : type_numbered (pos (place_of type)) ≡ Some type
  pub held : to_z w64 (of_z w64 (pos (place_of type))) ≡ pos (place_of type)

pub of_type : (type : DataType) → IsNumberOf type
of_type String = record { back = refl; named = refl; held = refl }
of_type Boolean = record { back = refl; named = refl; held = refl }
of_type Integer = record { back = refl; named = refl; held = refl }
of_type Date = record { back = refl; named = refl; held = refl }
of_type Time = record { back = refl; named = refl; held = refl }
of_type DateTime = record { back = refl; named = refl; held = refl }
of_type DayTimeDuration = record { back = refl; named = refl; held = refl }
of_type YearMonthDuration = record { back = refl; named = refl; held = refl }
of_type AnyUri = record { back = refl; named = refl; held = refl }
of_type HexBinary = record { back = refl; named = refl; held = refl }
of_type Base64Binary = record { back = refl; named = refl; held = refl }

-- a number that names a type is read as it
pub type_read : (n : ℤ) (e : Failure) → IfOk (ok_or (type_numbered n) e) (λ type. type ≡ type_in n)
type_read n e = go (is_count n) (type_at (nat_of n))
  where
    go : (b : Bool) (o : Option DataType) → IfOk (ok_or (if b then o else None) e) (λ type. type ≡ unwrap_or o String)
    go true (Some type) = refl
    go true None = tt
    go false o = tt

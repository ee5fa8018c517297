-- Whole numbers without bound, and what of them fits 64 bits (XACML 3.0, core, appendix A.3.2).
use Rattle.std.specs.Prelude.{if◌then◌else◌, List, [], ◌∷◌, ℤ, pos, unsigned_abs}
use Rattle.std.specs.Prelude.{int_div, int_rem, ◌+ℤ◌, ◌-ℤ◌, ◌*ℤ◌, Result, Ok, Err}
use Rattle.std.specs.Ordering.{int_eq}
use Rattle.xa_func.specs.declared.func_id.Arithmetic.{Arithmetic}
use Rattle.xa_func.specs.declared.func_id.Arithmetic.TheVariants.{Add, Multiply, Subtract, Divide, Mod}
use Rattle.xa_func.specs.declared.fault.FuncFault.{FuncFault}
use Rattle.xa_func.specs.declared.fault.FuncFault.TheVariants.{ZeroDivisor, Overflow}
use Rattle.xa_value.specs.Gives.{◌>>=◌}
use Rattle.xa_value.specs.Plain.{is_integer}
use Rattle.xa_func.specs.Arguments.{misfit}

-- a number outside 64 bits is a fault
unfoldable pub within : ℤ → Result ℤ FuncFault
within z = if is_integer z then Ok z else Err Overflow

-- the quotient, truncated toward zero
unfoldable pub quotient : ℤ → ℤ → Result ℤ FuncFault
quotient a b = if int_eq b (pos 0) then Err ZeroDivisor else within (int_div a b)

-- the remainder, with the dividend's sign
unfoldable pub remainder : ℤ → ℤ → Result ℤ FuncFault
remainder a b = if int_eq b (pos 0) then Err ZeroDivisor else Ok (int_rem a b)

-- one step of each function
abbrev pub operation : Arithmetic → ℤ → ℤ → Result ℤ FuncFault
operation Add a b = within (a +ℤ b)
operation Multiply a b = within (a *ℤ b)
operation Subtract a b = within (a -ℤ b)
operation Divide a b = quotient a b
operation Mod a b = remainder a b

-- the steps from left to right, up to the first fault
abbrev pub left_to_right : (ℤ → ℤ → Result ℤ FuncFault) → ℤ → List ℤ → Result ℤ FuncFault
left_to_right step a [] = Ok a
left_to_right step a (b ∷ bs) = step a b >>= λ c. left_to_right step c bs

-- a function of two or more integers
abbrev pub arithmetic : Arithmetic → List ℤ → Result ℤ FuncFault
arithmetic f [] = misfit
arithmetic f (a ∷ bs) = left_to_right (operation f) a bs

-- the absolute value
abbrev pub absolute : List ℤ → Result ℤ FuncFault
absolute (a ∷ []) = within (pos (unsigned_abs a))
absolute _ = misfit

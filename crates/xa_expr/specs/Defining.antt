-- How variables are added one by one, as `Variables::define` says it. What a policy's variables are,
-- `specs/Variables` says.
use Rattle.std.specs.Prelude.{ℕ, Bool, true, false, if◌then◌else◌, List, [], ◌∷◌, ◌++◌, Result, Ok, Err}
use Rattle.xa_value.specs.Gives.{◌>>=◌}
use Rattle.xa_expr.specs.declared.check_error.CheckError.{CheckError}
use Rattle.xa_expr.specs.declared.expr.Expr.{Expr}
use Rattle.xa_expr.specs.declared.typed.Typed.{Typed}
use Rattle.xa_expr.specs.declared.variables.Definition.{Definition}
use Rattle.xa_expr.specs.Typing.{checked}
use Rattle.xa_expr.specs.Variables.{is_defined}

-- whether a variable is put after others: not if one of its name is there, and else if its expression passes under
-- those
abbrev pub may_be_defined : List Definition → List ℕ → Expr → Result Bool CheckError
may_be_defined definitions name expression =
    if is_defined definitions name then Ok false else checked definitions expression >>= (λ t. Ok true)

-- definitions with one after them, if its expression passed
abbrev pub with_last : List Definition → List ℕ → Result Typed CheckError → List Definition
with_last definitions name (Ok t) = definitions ++ record { name = name; expression = t } ∷ []
with_last definitions name (Err e) = definitions

-- the definitions after a variable was put after them, or was not
abbrev pub defined : List Definition → List ℕ → Expr → List Definition
defined definitions name expression =
    if is_defined definitions name then definitions else with_last definitions name (checked definitions expression)

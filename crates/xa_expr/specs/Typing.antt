-- The type check of expressions (XACML 3.0, core, sections 5.24, 5.25, 5.27 to 5.29, 5.31 and 7.4, appendix A.3): from
-- an expression as a policy has it to one whose functions and variables are found, or its first fault.
use Rattle.std.specs.Prelude.{◌≡◌, ℕ, suc, not, nat_lt, bytes_eq, if◌then◌else◌, List}
use Rattle.std.specs.Prelude.{[], ◌∷◌, map, length, Option, Some, None, Result, Ok, Err}
use Rattle.xa_value.specs.Gives.{◌>>=◌}
use Rattle.xa_func.specs.declared.func_id.FuncId.{FuncId}
use Rattle.xa_func.specs.declared.func_id.FuncId.TheVariants as function
use Rattle.xa_func.specs.declared.func_id.HigherOrder.{HigherOrder}
use Rattle.xa_func.specs.Names.{function_named}
use Rattle.xa_func.specs.Signature.{signature_of}
use Rattle.xa_func.specs.Table.{is_scalar}
use Rattle.xa_bag.specs.HigherOrder.{collected}
use Rattle.xa_expr.specs.declared.check_error.CheckError.{CheckError}
use Rattle.xa_expr.specs.declared.check_error.CheckError.TheVariants.{UnknownFunction, WrongCount}
use Rattle.xa_expr.specs.declared.check_error.CheckError.TheVariants.{WrongType, UnknownVariable, TooDeep}
use Rattle.xa_expr.specs.declared.expr.Expr.{Expr, fold-Expr, out-Expr}
use Rattle.xa_expr.specs.declared.expr.Expr.TheOpen.{Expr-F}
use Rattle.xa_expr.specs.declared.typed.Typed.{Typed}
use Rattle.xa_expr.specs.declared.typed.Typed.TheVariants as typed
use Rattle.xa_expr.specs.declared.variables.Definition.{Definition}
use Rattle.xa_expr.specs.Typed.{kind_of_typed, counted, accepted, higher_counted, higher_accepted}

-- what an expression is at its place: the name of a function, if it is a Function; and what it comes to as an argument
-- at a depth
pub record Judged : Type 0 where
  pub function : Option (List ℕ)
  pub argument : ℕ → Result Typed CheckError

-- at most 24 expressions stand inside one another
abbrev pub at_depth : {X : Type 0} → ℕ → Result X CheckError → Result X CheckError
at_depth depth answer = if nat_lt 24 depth then Err TooDeep else answer

-- the variable of the name, which the definition at a place has
abbrev pub variable_from : ℕ → List Definition → List ℕ → Result Typed CheckError
variable_from place [] name = Err UnknownVariable
variable_from place (d ∷ ds) name =
    if bytes_eq d.name name then Ok (typed.Variable place (kind_of_typed d.expression))
    else variable_from (suc place) ds name

abbrev pub variable_named : List Definition → List ℕ → Result Typed CheckError
variable_named definitions name = variable_from 0 definitions name

-- all arguments at a depth, or the first fault
abbrev pub arguments : ℕ → List Judged → Result (List Typed) CheckError
arguments depth js = collected (map (λ j. j.argument depth) js)

-- the function on arguments that are of its number and kinds
abbrev pub applied : FuncId → List Typed → Result Typed CheckError
applied f ts =
    if not (counted (signature_of f) (length ts)) then Err WrongCount
    else if accepted (signature_of f) (map kind_of_typed ts) then Ok (typed.Apply f ts)
    else Err WrongType

-- the higher-order function on its inner function and arguments that are of its number and kinds
abbrev pub higher_applied : HigherOrder → FuncId → List Typed → Result Typed CheckError
higher_applied h f ts =
    if not (higher_counted h f (length ts)) then Err WrongCount
    else if higher_accepted h f (map kind_of_typed ts) then Ok (typed.HigherOrder h f ts)
    else Err WrongType

-- a function as an argument, which is known if it is one of values
abbrev pub known_inner : Option FuncId → Result FuncId CheckError
known_inner (Some f) = if is_scalar f then Ok f else Err UnknownFunction
known_inner None = Err UnknownFunction

-- the inner function: a Function stands first in a higher-order Apply, and nothing else does
abbrev pub inner_named : Option (List ℕ) → Result FuncId CheckError
inner_named (Some name) = known_inner (function_named name)
inner_named None = Err WrongType

-- a higher-order Apply whose arguments are at the depth
abbrev pub higher_order : HigherOrder → ℕ → List Judged → Result Typed CheckError
higher_order h depth [] = Err WrongCount
higher_order h depth (j ∷ js) =
    at_depth depth (inner_named j.function) >>= (λ f. arguments depth js >>= higher_applied h f)

-- an Apply of a function of values and bags, whose arguments are at the depth
abbrev pub first_order : FuncId → ℕ → List Judged → Result Typed CheckError
first_order f depth js = arguments depth js >>= applied f

-- an Apply whose arguments are at the depth
abbrev pub apply : Option FuncId → ℕ → List Judged → Result Typed CheckError
apply None depth js = Err UnknownFunction
apply (Some (function.HigherOrder h)) depth js = higher_order h depth js
apply (Some f) depth js = first_order f depth js

-- an expression that is no Function
abbrev pub argument : (ℕ → Result Typed CheckError) → Judged
argument answer = record { function = None; argument = λ depth. at_depth depth (answer depth) }

-- each expression, by what those in it are; a Function is no argument but that of a higher-order Apply
abbrev pub judged_step : List Definition → Expr-F Judged → Judged
judged_step variables (Expr-F.Value v) = argument (λ depth. Ok (typed.Literal v))
judged_step variables (Expr-F.Designator d) = argument (λ depth. Ok (typed.Attribute d))
judged_step variables (Expr-F.Apply name js) = argument (λ depth. apply (function_named name) (suc depth) js)
judged_step variables (Expr-F.Function name) =
    record { function = Some name; argument = λ depth. at_depth depth (Err WrongType) }
judged_step variables (Expr-F.Variable name) = argument (λ depth. variable_named variables name)

abbrev pub judged : List Definition → Expr → Judged
judged variables = fold-Expr Judged (judged_step variables)

-- an Apply of a function that there isn't, so that its arguments aren't looked at
abbrev pub NamesNone : Expr-F Expr → Type 0
NamesNone (Expr-F.Apply name arguments) = function_named name ≡ None
NamesNone (Expr-F.Value v) = ⊥
NamesNone (Expr-F.Designator d) = ⊥
NamesNone (Expr-F.Function name) = ⊥
NamesNone (Expr-F.Variable name) = ⊥

abbrev pub AppliesNone : Expr → Type 0
AppliesNone expression = NamesNone (out-Expr expression)

-- the checked expression, or the first fault, if the expression stands in no other and these variables are defined
-- before it
abbrev pub checked : List Definition → Expr → Result Typed CheckError
checked variables expression = (judged variables expression).argument 1

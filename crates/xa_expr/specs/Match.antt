-- Matches: a function of two values that gives a boolean, a literal and a designator (XACML 3.0, core, sections 5.9
-- and 7.6). That the function takes them is part of each match (`right`).
use Rattle.std.specs.Prelude.{◌≡◌, refl, ℕ, Bool, true, false, List, Option, Some, None, Result, Ok, Err}
use Rattle.xa_value.specs.declared.value.Value.{Value}
use Rattle.xa_func.specs.declared.func_id.FuncId.{FuncId}
use Rattle.xa_func.specs.Names.{function_named}
use Rattle.xa_expr.specs.declared.check_error.CheckError.{CheckError}
use Rattle.xa_expr.specs.declared.check_error.CheckError.TheVariants.{UnknownFunction, WrongType}
use Rattle.xa_expr.specs.declared.designator.Designator.{Designator}
use Rattle.xa_expr.specs.declared.match_.Match.{Match}
use Rattle.xa_expr.specs.MatchTypes.{argument_kinds, may_ask}

-- the match of a function, which may stand in one or may not
abbrev pub matched_where : (f : FuncId) (literal : Value) (d : Designator) (b : Bool)
    → may_ask f (argument_kinds literal d.data_type) ≡ b → Result Match CheckError
matched_where f literal d true may = Ok (record { function = f; literal = literal; designator = d; right = may })
matched_where f literal d false may_not = Err WrongType

-- the match of the function that was found
abbrev pub matched_by : Option FuncId → Value → Designator → Result Match CheckError
matched_by None literal d = Err UnknownFunction
matched_by (Some f) literal d = matched_where f literal d (may_ask f (argument_kinds literal d.data_type)) refl

-- the match of a function's name, a literal and a designator, or its fault (5.9)
abbrev pub matched : List ℕ → Value → Designator → Result Match CheckError
matched name literal d = matched_by (function_named name) literal d

-- The kinds of checked expressions under variables, for each sort of expression.
use Rattle.std.proofs.Common.{◌≡◌, ℕ, List, map, sym, ap, ◌∙◌}
use Rattle.std.specs.Prelude.{Option, slice_get, ◌&&◌}
use Rattle.xa_func.specs.declared.func_id.FuncId.{FuncId}
use Rattle.xa_func.specs.declared.func_id.HigherOrder.{HigherOrder}
use Rattle.xa_func.specs.declared.signature.Kind.{Kind}
use Rattle.xa_func.specs.Signature.{signature_of, result_type_of}
use Rattle.xa_func.specs.Table.{is_scalar}
use Rattle.xa_bag.specs.Applying.{kind_given}
use Rattle.xa_expr.specs.declared.typed.Typed.{Typed}
use Rattle.xa_expr.specs.declared.typed.Typed.TheFolds.{fold-roll-Typed}
use Rattle.xa_expr.specs.declared.typed.Typed.TheOpen.{Typed-F}
use Rattle.xa_expr.specs.declared.typed.Typed.TheViews.{out-roll-Typed}
use Rattle.xa_expr.specs.declared.typed.Typed.TheVariants.{rolls-Variable, rolls-Apply, rolls-HigherOrder}
use Rattle.xa_expr.specs.declared.typed.Typed.TheVariants as typed
use Rattle.xa_expr.specs.Typed.{kind_at, kind_of_typed, kind_under, under_step, variable_kind, kind_where, all_there, accepted, result_kind, higher_accepted}

pub under_variable : (vs : List Kind) (place : ℕ) (k : Kind) → kind_under vs (typed.Variable place k) ≡ variable_kind (slice_get vs place) k
under_variable vs place k = ap (kind_under vs) (sym (rolls-Variable place k)) ∙ fold-roll-Typed (Option Kind) (under_step vs) (Typed-F.Variable place k)

pub under_apply : (vs : List Kind) (f : FuncId) (ts : List Typed)
    → kind_under vs (typed.Apply f ts) ≡ kind_where (accepted (signature_of f)) (result_kind (signature_of f)) (all_there (map (kind_under vs) ts))
under_apply vs f ts = ap (kind_under vs) (sym (rolls-Apply f ts)) ∙ fold-roll-Typed (Option Kind) (under_step vs) (Typed-F.Apply f ts)

pub under_higher_order : (vs : List Kind) (h : HigherOrder) (f : FuncId) (ts : List Typed)
    → kind_under vs (typed.HigherOrder h f ts)
    ≡ kind_where (λ given. is_scalar f && higher_accepted h f given) (kind_given h (result_type_of (signature_of f))) (all_there (map (kind_under vs) ts))
under_higher_order vs h f ts = ap (kind_under vs) (sym (rolls-HigherOrder h f ts)) ∙ fold-roll-Typed (Option Kind) (under_step vs) (Typed-F.HigherOrder h f ts)

-- and their own kinds
pub kind_variable : (place : ℕ) (k : Kind) → kind_of_typed (typed.Variable place k) ≡ k
kind_variable place k = ap kind_of_typed (sym (rolls-Variable place k)) ∙ ap kind_at (out-roll-Typed (Typed-F.Variable place k))

pub kind_apply : (f : FuncId) (ts : List Typed) → kind_of_typed (typed.Apply f ts) ≡ result_kind (signature_of f)
kind_apply f ts = ap kind_of_typed (sym (rolls-Apply f ts)) ∙ ap kind_at (out-roll-Typed (Typed-F.Apply f ts))

pub kind_higher_order : (h : HigherOrder) (f : FuncId) (ts : List Typed) → kind_of_typed (typed.HigherOrder h f ts) ≡ kind_given h (result_type_of (signature_of f))
kind_higher_order h f ts = ap kind_of_typed (sym (rolls-HigherOrder h f ts)) ∙ ap kind_at (out-roll-Typed (Typed-F.HigherOrder h f ts))

-- The names of methods, one after another; and a router that takes a pattern refuses it for want of memory alone.
use Rattle.std.proofs.Common.{◌≡◌, ◌≢◌, ℕ, true, List, [], ◌∷◌, ◌++◌, Result, Ok, Err, refl, ap, sym, ◌∙◌, append-nil, append_assoc}
use Rattle.std.specs.Prelude.{codes}
use Rattle.matchit.specs.Rows.{RowsOf}
use Rattle.matchit.specs.Route.{Scan}
use Rattle.matchit.specs.Router.{RouteOf, InsertsRead}
use Rattle.matchit.specs.declared.error.InsertError.{InsertError}
use Rattle.matchit.specs.declared.error.InsertError.TheVariants.{Conflict, InvalidParamSegment, InvalidParam, InvalidCatchAll, OutOfMemory}
use Rattle.xa_http.specs.declared.command.Command.{Command}
use Rattle.xa_http.specs.declared.method.Method.{Method}
use Rattle.xa_http.specs.declared.table.Place.{Place}
use Rattle.xa_http.specs.Table.{name_of, names_in, takes}

-- the names after the first, each after a comma and a space
abbrev pub further_names : List (Method × Command) → List ℕ
further_names [] = []
further_names ((method, _) ∷ rows) = codes ", " ++ (name_of method ++ further_names rows)

first_name : (row : Method × Command) (rows : List (Method × Command)) → names_in (row ∷ rows) ≡ name_of row.0 ++ further_names rows
first_name row [] = sym (append-nil (name_of row.0))
first_name row (next ∷ rows) =
    ap (λ names. name_of row.0 ++ codes ", " ++ names) (first_name next rows) ∙ append_assoc (name_of row.0) (codes ", ") _

pub first_pushed : (bytes : List ℕ) (row : Method × Command) (others rows : List (Method × Command))
    → rows ≡ row ∷ others → bytes ++ names_in rows ≡ bytes ++ name_of row.0 ++ further_names others
first_pushed bytes row others rows e = rw (e, first_name row others) (sym (append_assoc bytes (name_of row.0) (further_names others)))

pub never_refused : (read : Result Scan InsertError) (place : Place) (old new : RowsOf (RouteOf Place)) (e : InsertError)
    → takes read old ≡ true → InsertsRead read place old new (Err e) → e ≢ OutOfMemory → ⊥
never_refused (Ok scan) place old new (Conflict with) taken refused other = let none = refused.1.1 in cc
never_refused (Ok scan) place old new InvalidParamSegment taken refused other = refused.1
never_refused (Ok scan) place old new InvalidParam taken refused other = refused.1
never_refused (Ok scan) place old new InvalidCatchAll taken refused other = refused.1
never_refused (Ok scan) place old new OutOfMemory taken refused other = other refl
never_refused (Err error) place old new e taken refused other = cc

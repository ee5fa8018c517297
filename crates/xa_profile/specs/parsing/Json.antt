-- A list that is read item by item, after what is there already.
use Rattle.std.specs.Prelude.{List, ◌++◌, Result, Ok, Err}
use Rattle.xa_profile.specs.declared.request_error.RequestError.{RequestError}

-- items after those that are there
abbrev pub behind : {X : Type 0} → List X → Result (List X) RequestError → Result (List X) RequestError
behind items (Ok others) = Ok (items ++ others)
behind items (Err e) = Err e

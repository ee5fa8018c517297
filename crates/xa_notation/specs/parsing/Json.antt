-- A list that is read item by item, after what is there already.
use Rattle.std.specs.Prelude.{List, ◌++◌, Result, Ok, Err}

-- items after those that are there
abbrev pub behind : {X E : Type 0} → List X → Result (List X) E → Result (List X) E
behind before (Ok others) = Ok (before ++ others)
behind before (Err e) = Err e

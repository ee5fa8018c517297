use Rattle.std.proofs.Common.{◌≡◌, ◌++◌, drop, codes, option_map}
use Rattle.std.specs.Option.{option_to_list}
use Rattle.xa_http.specs.Fields.{values_of}
use Rattle.xa_server.specs.Authorization.{the_only}
use Rattle.xa_server.proofs.authorization.authorization_of.Given as goal

-- the one that was found and those that are left are all there are
abbrev pub invariant-loop-field : goal.invariant-loop-field
invariant-loop-field l = the_only (values_of (codes "Authorization") l.fields) ≡ the_only (option_to_list (option_map (λ value. value.now) l.found) ++ values_of (codes "Authorization") (drop l.field-index l.fields))

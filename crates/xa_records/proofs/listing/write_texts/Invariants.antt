use Rattle.std.proofs.Common.{◌≡◌, map, drop, ◌++◌}
use Rattle.serde_json.specs.Data.{string}
use Rattle.xa_profile.specs.writing.Tokens.{items_behind}
use Rattle.xa_records.proofs.listing.write_texts.Given as goal

-- what was written, and then the texts that are left
abbrev pub invariant-loop-text : goal.invariant-loop-text
invariant-loop-text l =
    (l.out.before ≡ l.initial.out.before)
    × (l.out.tokens ++ items_behind (map string (drop l.text-index l.texts)) ≡ l.initial.out.tokens ++ items_behind (map string l.texts))

use Rattle.std.proofs.Common.{◌≡◌, ◌∷◌, [], ◌++◌, ◌∙◌, append_assoc}
use Rattle.std.proofs.lemmas.Result.{on_ok_weaker}
use Rattle.json.specs.Token.{end_object}
use Rattle.xa_records.specs.Listing.{listed_data}
use Rattle.xa_records.proofs.listing.ListedToJson.write.Goals as goal

-- member after member, and the closing bracket
pub returns : goal.returns
unfolding listed_data
returns c =
    let id = rw c.as_str.ensures at c.in_ok-write_named_text.ensures.1 in
    let kind = rw c.name.ensures at c.in_ok-write_named_text-2.ensures.1 in
    let version = rw (c.as_str-2.ensures, c.in_ok-version.ensures) at c.in_ok-write_named_text-3.ensures.1 in
    on_ok_weaker c.end_object.result
    (λ (end : c.end_object.new.self.tokens ≡ c.write_named_text-3.new.out.tokens ++ end_object ∷ []). (
      c.end_object.ensures.room.0 ∙ c.in_ok-write_named_text-3.ensures.0 ∙ c.in_ok-write_named_text-2.ensures.0 ∙ c.in_ok-write_named_text.ensures.0
          ∙ c.boolean.ensures.room.0 ∙ c.key.ensures.room.0 ∙ c.begin_object.ensures.room.0,
      rw (end, version, kind, id, c.in_ok-boolean.ensures.ok, c.in_ok-key.ensures.ok, c.in_ok-begin_object.ensures.ok) (simp append_assoc),
    ))
    c.end_object.ensures.ok

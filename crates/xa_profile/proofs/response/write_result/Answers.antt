use Rattle.std.proofs.Common.{◌≡◌, ◌∷◌, [], ◌++◌, ◌∙◌, append_assoc}
use Rattle.std.proofs.lemmas.Result.{on_ok_weaker}
use Rattle.json.specs.Token.{end_object}
use Rattle.xa_profile.proofs.TokenLemmas.{tokens_of_result}
use Rattle.xa_profile.proofs.response.write_result.Goals as goal

-- member after member, and the closing bracket
pub returns : goal.returns
returns c =
    let advice = rw c.advice.ensures at c.in_ok-write_items_if_any.ensures.1 in
    let included = rw c.as_slice-places.ensures at c.in_ok-write_included_objects.ensures.1 in
    let decision = rw c.decision_text.ensures at c.in_ok-write_text.ensures.1 in
    let obligations = rw c.obligations.ensures at c.in_ok-write_items_if_any-2.ensures.1 in
    let named = rw c.as_slice-ids.ensures at c.in_ok-write_identifiers_if_any.ensures.1 in
    let status = rw c.name.ensures at c.in_ok-key.ensures.ok in
    on_ok_weaker c.end_object.result
    (λ (end : c.end_object.new.self.tokens ≡ c.write_status.new.out.tokens ++ end_object ∷ []). (
      c.end_object.ensures.room.0 ∙ c.in_ok-write_status.ensures.0 ∙ c.key.ensures.room.0 ∙ c.in_ok-write_identifiers_if_any.ensures.0 ∙ c.in_ok-write_items_if_any-2.ensures.0
          ∙ c.in_ok-write_text.ensures.0 ∙ c.in_ok-write_included_objects.ensures.0 ∙ c.in_ok-write_items_if_any.ensures.0 ∙ c.begin_object.ensures.room.0,
      rw (end, c.in_ok-write_status.ensures.1, status, named, obligations, decision, included, advice, c.in_ok-begin_object.ensures.ok, tokens_of_result) (simp append_assoc),
    ))
    c.end_object.ensures.ok

use Rattle.std.proofs.Common.{◌≡◌, [], ◌∙◌, map, codes, append_assoc}
use Rattle.serde_json.specs.Data.{Data, object, string, member, no_members}
use Rattle.xa_profile.proofs.TokenLemmas.{text_of_tokens}
use Rattle.xa_profile.specs.Response.{listing}
use Rattle.xa_profile.specs.writing.Tokens.{tokens}
use Rattle.xa_records.specs.Listing.{names_body}
use Rattle.xa_records.proofs.listing.write_names.Goals as goal

-- the tokens of an object of one member were written, and nothing before them
pub returns : goal.returns
unfolding names_body
returns c =
    let body : Data = object (member (codes "Domain") (listing (map string c.args.names.now)) no_members) in
    let before : c.end_object.new.self.before ≡ [] =
    c.in_ok-end_object.ensures.room.0 ∙ c.in_ok-write_texts.ensures.0 ∙ c.in_ok-key.ensures.room.0 ∙ c.in_ok-begin_object.ensures.room.0
    ∙ c.new-out.ensures.before ∙ c.new.ensures.items in
    let written : c.end_object.new.self.tokens ≡ tokens body =
    rw (c.in_ok-end_object.ensures.ok, c.in_ok-write_texts.ensures.1, c.in_ok-key.ensures.ok, c.in_ok-begin_object.ensures.ok, c.new-out.ensures.tokens) (simp append_assoc) in
    rw (c.into_inner.ensures.items, before, written) (text_of_tokens body)

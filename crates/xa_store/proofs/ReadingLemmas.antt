-- What is read of a domain, by its rows.
use Rattle.std.proofs.Common.{◌≡◌, ℕ, List, [], map, filter, Option, Some, None, option_map, option_and_then, sym, ap, ◌∙◌}
use Rattle.xa_store.proofs.Common.{get, entries, DocumentKey, Domain, state_of, gate_of, gate_of_domain, kept_view_of, listing_of, listing_of_state, text_in, text_of, token_of, view_of_state, nat_of, Rows, domain_of, kept_of, state_at}
use Rattle.xa_records.specs.declared.gate.Gate.{Gate}
use Rattle.xa_records.specs.declared.gate.Token.{Token}
use Rattle.xa_records.specs.declared.kept_view.KeptView.{KeptView}
use Rattle.xa_records.specs.declared.listed.Listed.{Listed}
use Rattle.xa_store.specs.declared.query.domain.FoundDomain.{FoundDomain}
use Rattle.xa_store.specs.keeping.Lookup.{IsDomain, TellsGate}
use Rattle.xa_store.specs.keeping.Steps.{is_named}
use Rattle.xa_store.proofs.ChangeLemmas.{kept_at, kept_one}
use Rattle.xa_store.proofs.FilterLemmas.{find_none}

module _ (rows : Rows) (name : List ℕ) where
  pub kept_none : filter (is_named name) rows.domains ≡ [] → get (kept_of rows).domains name ≡ None
  kept_none none = kept_at rows name ∙ ap (option_map (domain_of rows)) (find_none (is_named name) rows.domains none)

  pub state_none : filter (is_named name) rows.domains ≡ [] → state_of name (kept_of rows) ≡ None
  state_none none = ap (option_map (λ (domain : Domain). domain.state)) (kept_none none)

  pub gate_absent : filter (is_named name) rows.domains ≡ [] → None ≡ gate_of name (kept_of rows)
  gate_absent none = sym (ap (option_map gate_of_domain) (kept_none none))

  pub text_absent : (key : DocumentKey) → filter (is_named name) rows.domains ≡ [] → None ≡ text_of name key (kept_of rows)
  text_absent key none = sym (ap (option_and_then (text_in key)) (state_none none))

  pub listing_absent : filter (is_named name) rows.domains ≡ [] → None ≡ listing_of name (kept_of rows)
  listing_absent none = sym (ap (option_map listing_of_state) (state_none none))

  pub view_absent : filter (is_named name) rows.domains ≡ [] → None ≡ kept_view_of name (kept_of rows)
  view_absent none = sym (ap (option_map view_of_state) (state_none none))

  module _ (found : FoundDomain) (is : IsDomain name rows found) where
    pub state_is : state_of name (kept_of rows) ≡ Some (state_at rows found.number)
    state_is = ap (option_map (λ (domain : Domain). domain.state)) (kept_one rows name is.row is.only) ∙ ap (λ n. Some (state_at rows n)) (sym is.number)

    pub gate_is : (tokens : List Token) → tokens ≡ map token_of (entries (state_at rows found.number).tokens) → (gate : Gate) → TellsGate found tokens gate → Some gate ≡ gate_of name (kept_of rows)
    gate_is tokens told gate tells =
        let number : nat_of is.row.number ≡ tells.0 = ap nat_of (sym is.number ∙ tells.2) in
        let epoch : nat_of is.row.epoch ≡ tells.1 = ap nat_of (sym is.epoch ∙ tells.3) in
        let same : map token_of (entries (state_at rows is.row.number).tokens) ≡ tokens = ap (λ n. map token_of (entries (state_at rows n).tokens)) (sym is.number) ∙ sym told in
        ap Some tells.4
        ∙ sym (ap (option_map gate_of_domain) (kept_one rows name is.row is.only) ∙ (λ i. let gate : Gate = record { number = number i; epoch = epoch i; tokens = same i } in Some gate))

    pub text_there : (key : DocumentKey) (text : Option (List ℕ)) → text ≡ text_in key (state_at rows found.number) → text ≡ text_of name key (kept_of rows)
    text_there key text told = told ∙ sym (ap (option_and_then (text_in key)) state_is)

    pub listing_there : (listed : List Listed) → listed ≡ listing_of_state (state_at rows found.number) → Some listed ≡ listing_of name (kept_of rows)
    listing_there listed told = ap Some told ∙ sym (ap (option_map listing_of_state) state_is)

    pub view_there : (view : KeptView) → view ≡ view_of_state (state_at rows found.number) → Some view ≡ kept_view_of name (kept_of rows)
    view_there view told = ap Some told ∙ sym (ap (option_map view_of_state) state_is)

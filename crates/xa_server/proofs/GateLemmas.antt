-- Gates that are remembered are those of the domains.
use Rattle.std.proofs.Common.{◌≡◌, ◌≢◌, ℕ, List, [], ◌∷◌, refl, sym, ap, ◌∙◌, subst, cond}
use Rattle.std.specs.Prelude.{true, false, Option, Some, None, option_and_then, option_map, Result, Ok, Err, bytes_eq}
use Rattle.std.specs.FinMap.{get}
use Rattle.std.specs.Cmp.Lexicographic.{nat_list_eq_equiv}
use Rattle.std.specs.List.{IsDistinct}
use Rattle.std.specs.Map.{keys_of, lookup}
use Rattle.std.proofs.lemmas.Bool.Decides.{not_from_Decides}
use Rattle.std.proofs.lemmas.Map.{lookup-remove_entry}
use Rattle.std.proofs.lemmas.Slice.Eq.{bytes_eq-Decides}
use Rattle.lru.specs.LruCache.{lru_cache}
use Rattle.xa_http.specs.declared.message.Message.{Message}
use Rattle.xa_notation.specs.declared.token.Role.{Role}
use Rattle.xa_notation.specs.declared.token.Role.TheVariants.{Admin, Ask}
use Rattle.xa_records.specs.declared.gate.Gate.{Gate}
use Rattle.xa_records.specs.Kept.{Domain, Kept, state_of}
use Rattle.xa_records.specs.Readings.{gate_of, gate_of_domain}
use Rattle.xa_shelf.proofs.EntryLemmas.{all_promoted, all_put, all_removed, value_found}
use Rattle.xa_server.specs.declared.revision.Revision.{Revision}
use Rattle.xa_server.specs.declared.handling_error.HandlingError.{HandlingError}
use Rattle.xa_server.specs.declared.handling_error.HandlingError.TheVariants.{Error, Failed}
use Rattle.xa_server.specs.handling.Gates.{forgetting, remembering, revision_by, revision_in, revision_of, revision_with, role_in, using_gate, without_gate}
use Rattle.xa_server.specs.handling.Replying.{Answers}
use Rattle.xa_server.specs.Machine.{MachineAnswer, admitted, admitted_by, digest_shown, permitted}
use Rattle.xa_server.specs.Resources.{AllStand, AreGates, IsGate, ResourcesModel}
use Rattle.xa_server.proofs.AdmissionLemmas.{role_is}
use Rattle.xa_server.proofs.GrowthLemmas.{grows}
use Rattle.xa_server.proofs.ReadyLemmas.{ready_grown}
use Rattle.xa_server.proofs.ValidLemmas.{valid_grown}
use Rattle.xa_server.proofs.WorkLemmas.{gate_opens}

one_name : (a b : List ℕ) → bytes_eq a b ≡ true → a ≡ b
one_name a b same = (bytes_eq-Decides a b).0 same

-- ---- a gate that is remembered

one_gate : (a b : Gate) → Some a ≡ Some b → a ≡ b
one_gate a b e = cc

-- one that is found is that of the domain
found_gate : (kept : Kept) (name : List ℕ) (gates : List (List ℕ × Gate)) (gate : Gate) → AreGates kept gates → lookup (bytes_eq name) gates ≡ Some gate → gate_of name kept ≡ Some gate
found_gate kept name gates gate are found =
    let on = value_found (IsGate kept) (bytes_eq name) gates gate are found in
    subst (λ n. gate_of n kept ≡ Some gate) (sym (one_name name on.0 on.2)) on.1

-- each role may ask for decisions
may_ask : (role : Role) → permitted role Ask ≡ Ok tt
may_ask Admin = refl
may_ask Ask = refl

-- a token that is found lets in
lets_in : (kept : Kept) (name digest : List ℕ) (gate : Gate) (role : Role) → gate_of name kept ≡ Some gate → role_in digest gate.tokens ≡ Some role
    → admitted_by Ask (state_of name kept) (Some digest) ≡ Ok tt
lets_in kept name digest gate role opens has = by_gate (gate_opens kept name gate opens) where
  by_gate : ((d : Domain) × (get kept.domains name ≡ Some d) × (gate_of_domain d ≡ gate)) → admitted_by Ask (state_of name kept) (Some digest) ≡ Ok tt
  by_gate (d, there, is) =
      let in_map : get d.state.tokens digest ≡ Some role = sym (role_is digest d.state.tokens) ∙ ap (λ g. role_in digest g.tokens) is ∙ has in
      rw (there, in_map) (may_ask role)

-- what it opens
module _ (kept : Kept) (name digest : List ℕ) (gates : List (List ℕ × Gate)) (revision : Revision) (are : AreGates kept gates) where
  by_role : (gate : Gate) (role : Option Role) → gate_of name kept ≡ Some gate → role_in digest gate.tokens ≡ role → option_map (λ _. revision_by gate) role ≡ Some revision
      → (revision_of name kept ≡ Some revision) × (admitted_by Ask (state_of name kept) (Some digest) ≡ Ok tt)
  by_role gate None opens has is = absurd cc
  by_role gate (Some role) opens has is = (ap (option_map revision_by) opens ∙ is, lets_in kept name digest gate role opens has)

  by_lookup : (found : Option Gate) → lookup (bytes_eq name) gates ≡ found → option_and_then (revision_with digest) found ≡ Some revision
      → (revision_of name kept ≡ Some revision) × (admitted_by Ask (state_of name kept) (Some digest) ≡ Ok tt)
  by_lookup None there is = absurd cc
  by_lookup (Some gate) there is = by_role gate (role_in digest gate.tokens) (found_gate kept name gates gate are there) refl is

pub known_opens : (kept : Kept) (name digest : List ℕ) (message : Message) (resources : ResourcesModel) (revision : Revision) → digest_shown message ≡ Some digest → AllStand kept resources
    → revision_in name digest resources.gates ≡ Some revision → (revision_of name kept ≡ Some revision) × (admitted Ask (state_of name kept) message ≡ Ok tt)
known_opens kept name digest message resources revision shown stand is =
    subst (λ d. (revision_of name kept ≡ Some revision) × (admitted_by Ask (state_of name kept) d ≡ Ok tt)) (sym shown)
    (by_lookup kept name digest resources.gates revision stand.gates (lookup (bytes_eq name) resources.gates) refl is)

-- ---- what stands

pub used_stands : (kept : Kept) (name : List ℕ) (resources : ResourcesModel) → AllStand kept resources → AllStand kept (using_gate name resources)
used_stands kept name resources stand = record { decisions = stand.decisions; views = stand.views; gates = all_promoted (IsGate kept) (bytes_eq name) resources.gates stand.gates }

pub remembered_stands : (kept : Kept) (name : List ℕ) (gate : Gate) (resources : ResourcesModel) → gate_of name kept ≡ Some gate → AllStand kept resources → AllStand kept (remembering name gate resources)
remembered_stands kept name gate resources opens stand = record {
  decisions = stand.decisions;
  views = stand.views;
  gates = all_put (IsGate kept) bytes_eq (lru_cache resources.gates 512) name gate (λ j same. subst (λ n. gate_of n kept ≡ Some gate) (one_name name j same) opens) opens stand.gates;
}

pub same_stands : (old new : Kept) (resources : ResourcesModel) → new ≡ old → AllStand old resources → AllStand new resources
same_stands old new resources same stand = subst (λ k. AllStand k resources) (sym same) stand

forgotten_stands : (kept : Kept) (name : List ℕ) (resources : ResourcesModel) → AllStand kept resources → AllStand kept (forgetting name resources)
forgotten_stands kept name resources stand = record { decisions = stand.decisions; views = stand.views; gates = all_removed (IsGate kept) (bytes_eq name) resources.gates stand.gates }

-- none stands under a name whose gate was forgotten
pub gone : (name : List ℕ) (gates : List (List ℕ × Gate)) → IsDistinct bytes_eq (keys_of gates) → lookup (bytes_eq name) (without_gate name gates) ≡ None
gone name gates apart =
    lookup-remove_entry nat_list_eq_equiv (bytes_eq name) (nat_list_eq_equiv.congr name) name gates apart ∙ ap (λ same. cond same None (lookup (bytes_eq name) gates)) (nat_list_eq_equiv.refl name)

-- the gates of all other domains are theirs after a change
gates_left : (old new : Kept) (name : List ℕ) → ((other : List ℕ) → other ≢ name → get new.domains other ≡ get old.domains other)
    → (gates : List (List ℕ × Gate)) → lookup (bytes_eq name) gates ≡ None → AreGates old gates → AreGates new gates
gates_left old new name others [] none are = tt
gates_left old new name others (entry ∷ gates) none are = (elim (bytes_eq name entry.0) as (λ y. bytes_eq name entry.0 ≡ y → AreGates new (entry ∷ gates)) [
  | true ↦ λ t. let found : Some entry.1 ≡ None = rw t at none in absurd cc
  | false ↦ λ t.
      let apart : entry.0 ≢ name = λ same. not_from_Decides (bytes_eq name entry.0) (bytes_eq-Decides name entry.0) t (sym same) in
      (ap (option_map gate_of_domain) (others entry.0 apart) ∙ are.0, gates_left old new name others gates (rw t at none) are.1)
]) refl

-- after a message of that domain, whose gate was forgotten first
pub changed_stands : (old new : Kept) (name : List ℕ) (result : Result (List ℕ) HandlingError) (meant : MachineAnswer) (resources : ResourcesModel) → Answers old new name result meant → AllStand old resources
    → lookup (bytes_eq name) (without_gate name resources.gates) ≡ None → AllStand new (forgetting name resources)
changed_stands old new name (Ok bytes) meant resources (after, is, changed) stand none = record {
  decisions = valid_grown old new (grows old new name after changed) resources.decisions.cached stand.decisions;
  views = ready_grown old new (grows old new name after changed) resources.views.views stand.views;
  gates = gates_left old new name changed.others (without_gate name resources.gates) none (all_removed (IsGate old) (bytes_eq name) resources.gates stand.gates);
}
changed_stands old new name (Err (Error code)) meant resources answers stand none = same_stands old new (forgetting name resources) answers.1 (forgotten_stands old name resources stand)
changed_stands old new name (Err (Failed failure)) meant resources answers stand none = same_stands old new (forgetting name resources) answers (forgotten_stands old name resources stand)

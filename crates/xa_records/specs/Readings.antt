-- What is read of a domain: nothing of one that is absent.
use Rattle.std.specs.Prelude.{ℕ, List, map, filter, Option, option_map, option_and_then}
use Rattle.std.specs.FinMap.{get, entries}
use Rattle.xa_policy.specs.declared.document_key.DocumentKey.{DocumentKey}
use Rattle.xa_notation.specs.declared.token.Role.{Role}
use Rattle.xa_records.specs.declared.active_text.ActiveText.{ActiveText}
use Rattle.xa_records.specs.declared.gate.Gate.{Gate}
use Rattle.xa_records.specs.declared.gate.Token.{Token}
use Rattle.xa_records.specs.declared.kept_view.KeptView.{KeptView}
use Rattle.xa_records.specs.declared.listed.Listed.{Listed}
use Rattle.xa_records.specs.DomainState.{DomainState, StoredDocument}
use Rattle.xa_records.specs.Kept.{Domain, Kept, state_of}

abbrev pub token_of : List ℕ × Role → Token
token_of entry = record { digest = entry.0; role = entry.1 }

-- the number, the epoch and the tokens of a domain
abbrev pub gate_of_domain : Domain → Gate
gate_of_domain domain =
    record { number = domain.number; epoch = domain.epoch; tokens = map token_of (entries domain.state.tokens) }

abbrev pub gate_of : List ℕ → Kept → Option Gate
gate_of name kept = option_map gate_of_domain (get kept.domains name)

-- the text of a document, with its key
abbrev pub active_text : DocumentKey × StoredDocument → ActiveText
active_text entry = record { key = entry.0; text = entry.1.text }

-- the texts of the active ones among these documents
abbrev pub active_among : List (DocumentKey × StoredDocument) → List ActiveText
active_among documents = map active_text (filter (λ entry. entry.1.active) documents)

-- the texts of the active documents, in the order of their keys
abbrev pub active_texts : DomainState → List ActiveText
active_texts state = active_among (entries state.documents)

-- what decides in a domain
abbrev pub view_of_state : DomainState → KeptView
view_of_state state = record { texts = active_texts state; root = state.root; source = state.source }

abbrev pub kept_view_of : List ℕ → Kept → Option KeptView
kept_view_of name kept = option_map view_of_state (state_of name kept)

-- the text of the document of that key
abbrev pub text_in : DocumentKey → DomainState → Option (List ℕ)
text_in key state = option_map (λ document. document.text) (get state.documents key)

abbrev pub text_of : List ℕ → DocumentKey → Kept → Option (List ℕ)
text_of name key kept = option_and_then (text_in key) (state_of name kept)

abbrev pub listed_of : DocumentKey × StoredDocument → Listed
listed_of entry = record { key = entry.0; active = entry.1.active }

-- all documents, in the order of their keys
abbrev pub listing_of_state : DomainState → List Listed
listing_of_state state = map listed_of (entries state.documents)

abbrev pub listing_of : List ℕ → Kept → Option (List Listed)
listing_of name kept = option_map listing_of_state (state_of name kept)

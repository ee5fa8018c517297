-- Gates that are remembered, each under its domain's name, the most recently used first.
use Rattle.std.specs.Prelude.{ℕ, List, [], ◌∷◌, Option, Some, None, option_and_then, option_map, bytes_eq}
use Rattle.std.specs.Prelude.{if◌then◌else◌}
use Rattle.std.specs.Map.{lookup, remove_entry}
use Rattle.lru.specs.LruCache.{lru_cache, promoted as entries_promoted, put_entries}
use Rattle.xa_notation.specs.declared.token.Role.{Role}
use Rattle.xa_records.specs.declared.gate.Gate.{Gate}
use Rattle.xa_records.specs.declared.gate.Token.{Token}
use Rattle.xa_records.specs.Kept.{Kept}
use Rattle.xa_records.specs.Readings.{gate_of}
use Rattle.xa_server.specs.declared.revision.Revision.{Revision}
use Rattle.xa_server.specs.Resources.{ResourcesModel}

-- the revision of a gate's domain: its number and its epoch
abbrev pub revision_by : Gate → Revision
revision_by gate = record { number = gate.number; epoch = gate.epoch }

-- the revision of the domain of a name, if there is one
abbrev pub revision_of : List ℕ → Kept → Option Revision
revision_of name kept = option_map revision_by (gate_of name kept)

-- the role that the token of a digest has among these tokens
abbrev pub role_in : List ℕ → List Token → Option Role
role_in digest [] = None
role_in digest (token ∷ tokens) = if bytes_eq token.digest digest then Some token.role else role_in digest tokens

-- the revision of a gate's domain, if one of its tokens has the digest
abbrev pub revision_with : List ℕ → Gate → Option Revision
revision_with digest gate = option_map (λ _. revision_by gate) (role_in digest gate.tokens)

-- the revision by the gate that is remembered under a name, if one of its tokens has the digest
abbrev pub revision_in : List ℕ → List ℕ → List (List ℕ × Gate) → Option Revision
revision_in name digest gates = option_and_then (revision_with digest) (lookup (bytes_eq name) gates)

-- the gates after the one under a name was made the most recently used
abbrev pub promoted : List ℕ → List (List ℕ × Gate) → List (List ℕ × Gate)
promoted name gates = entries_promoted (bytes_eq name) gates

-- the gates with one more under a name; of 512 others the least recently used is evicted
abbrev pub with_gate : List ℕ → Gate → List (List ℕ × Gate) → List (List ℕ × Gate)
with_gate name gate gates = put_entries bytes_eq (lru_cache gates 512) name gate

-- the gates without the one under a name
abbrev pub without_gate : List ℕ → List (List ℕ × Gate) → List (List ℕ × Gate)
without_gate name gates = remove_entry (bytes_eq name) gates

-- what is cached after the gate under a name was made the most recently used
abbrev pub using_gate : List ℕ → ResourcesModel → ResourcesModel
using_gate name resources = record resources { gates = promoted name resources.gates }

-- what is cached with one more gate under a name
abbrev pub remembering : List ℕ → Gate → ResourcesModel → ResourcesModel
remembering name gate resources = record resources { gates = with_gate name gate resources.gates }

-- what is cached without the gate under a name
abbrev pub forgetting : List ℕ → ResourcesModel → ResourcesModel
forgetting name resources = record resources { gates = without_gate name resources.gates }

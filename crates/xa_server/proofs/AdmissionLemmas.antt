-- The tokens of a domain, as a list and as a map.
use Rattle.std.proofs.Common.{◌≡◌, ℕ, List, [], ◌∷◌, refl, sym, ap, ◌∙◌, cond}
use Rattle.std.specs.Prelude.{Some, map}
use Rattle.std.specs.FinMap.{FinMap, entries, find, get, get-entries}
use Rattle.std.specs.Ordering.{eq_by_cmp}
use Rattle.std.specs.Cmp.{eq_by_cmp_equiv}
use Rattle.std.specs.Cmp.Lexicographic.{nat_list_cmp_total}
use Rattle.std.proofs.lemmas.Map.Text.{is_eq-slice_cmp}
use Rattle.xa_notation.specs.declared.token.Role.{Role}
use Rattle.xa_records.specs.DomainState.{compare_bytes}
use Rattle.xa_records.specs.Readings.{token_of}
use Rattle.xa_server.specs.handling.Gates.{role_in}

-- the role of a digest among entries
among : (digest : List ℕ) (tokens : List (List ℕ × Role)) → role_in digest (map token_of tokens) ≡ find compare_bytes digest tokens
among digest [] = refl
among digest (token ∷ tokens) =
    ap (λ b. cond b (Some token.1) (role_in digest (map token_of tokens))) (sym (is_eq-slice_cmp token.0 digest) ∙ (eq_by_cmp_equiv nat_list_cmp_total).symm token.0 digest)
    ∙ ap (cond (eq_by_cmp compare_bytes digest token.0) (Some token.1)) (among digest tokens)

-- the role of a digest is that under which the map has it
pub role_is : (digest : List ℕ) (tokens : FinMap compare_bytes Role) → role_in digest (map token_of (entries tokens)) ≡ get tokens digest
role_is digest tokens = among digest (entries tokens) ∙ sym (get-entries tokens digest)

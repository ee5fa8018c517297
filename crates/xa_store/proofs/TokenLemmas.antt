-- What the queries on tokens find.
use Rattle.std.proofs.Common.{◌≡◌, ℕ, ℤ, List, [], ◌∷◌, map, length, false, Ordering, is_eq, int_eq, Option, refl, sym, ap, ◌∙◌}
use Rattle.xa_store.proofs.Common.{entries, len, len-entries, length-map, Row, State, Shown, Trees, Int, Blob, IsPlain, understood, col, reads_as, sort_by, all_of, map-map, map_same, IsAscending, last_key, value_cmp-Blob, Role, compare_bytes, token_of, bytes_total, TokenRow, token_row, token_in, role_number, IsKeepersStore, same_token, schema_2, rows_of, state_at, tokens_at, token_entry}
use Rattle.xa_records.specs.declared.gate.Token.{Token}
use Rattle.xa_store.specs.keeping.Lookup.{FindsRole}
use Rattle.xa_store.specs.keeping.Columns.{TellsOne, role_told, token_told}
use Rattle.xa_store.specs.keeping.Steps.{is_token}
use Rattle.xa_store.specs.keeping.Texts.{show_role, show_tokens}
use Rattle.xa_store.proofs.FoundLemmas.{finds_one, found_sorted}
use Rattle.xa_store.proofs.HitLemmas.{token_hit, tokens_hit}
use Rattle.xa_store.proofs.OrderedLemmas.{apart_among, apart_then, entries_sorted}
use Rattle.xa_store.proofs.SqlLemmas.{Answered, answered}
use Rattle.xa_store.proofs.ColumnNumbers.{of_role}
use Rattle.xa_store.proofs.TextLemmas.{is, show_role_is, show_tokens_is}

pub role_plain : IsPlain (understood schema_2 show_role)
role_plain = show_role_is.2

pub tokens_plain : IsPlain (understood schema_2 show_tokens)
tokens_plain = show_tokens_is.2

-- ---- the role of one

module _ (old new : State) (number : ℤ) (digest : List ℕ) (ours : IsKeepersStore old) (rows : List Row) (shown : Shown show_role (Int number ∷ Blob digest ∷ []) old new rows) where
  abbrev db : Trees
  db = old.now.trees

  abbrev given : Row
  given = Int number ∷ Blob digest ∷ []

  answer : Answered 3 (is 1 0 ∷ is 2 1 ∷ []) (col 1 3 ∷ []) [] db refl given rows
  answer =
      answered 3 (is 1 0 ∷ is 2 1 ∷ []) (col 1 3 ∷ []) [] db refl given rows
      (reads_as show_role given old new schema_2 ours.rests.schema _ show_role_is.0 show_role_is.2 show_role_is.1 rows shown).answer

  pub role_found : (o : Option Role) → TellsOne role_told rows o → FindsRole number digest (rows_of db) o
  role_found =
      finds_one 3 (is 1 0 ∷ is 2 1 ∷ []) (col 1 3 ∷ []) [] db refl given token_row token_in ours.tables.tokens.written (is_token number digest)
      (all_of _ (token_hit number digest db) (map token_in (db 3))) role_told (λ t. t.role) (all_of _ (λ t. (of_role t.role).back) _) rows answer

-- ---- all of a domain

module _ (old new : State) (number : ℤ) (ours : IsKeepersStore old) (rows : List Row) (shown : Shown show_tokens (Int number ∷ []) old new rows) where
  abbrev trees : Trees
  trees = old.now.trees

  abbrev listed : List TokenRow
  listed = tokens_at (rows_of trees).tokens number

  abbrev by_digest : TokenRow → TokenRow → Ordering
  by_digest a b = compare_bytes a.digest b.digest

  untied : IsAscending (λ a b. is_eq (by_digest a b) ≡ false) listed
  untied =
      apart_among (λ (t : TokenRow). int_eq t.number number) (λ a b. same_token a b ≡ false) (λ a b. is_eq (by_digest a b) ≡ false)
      (λ a b p q h. apart_then a.number b.number number (is_eq (by_digest a b)) p q h) (map token_in (trees 3)) ours.tables.tokens.apart

  all : Answered 3 (is 1 0 ∷ []) (col 1 2 ∷ col 1 3 ∷ []) (2 ∷ []) trees refl (Int number ∷ []) rows
  all =
      answered 3 (is 1 0 ∷ []) (col 1 2 ∷ col 1 3 ∷ []) (2 ∷ []) trees refl (Int number ∷ []) rows
      (reads_as show_tokens (Int number ∷ []) old new schema_2 ours.rests.schema _ show_tokens_is.0 show_tokens_is.2 show_tokens_is.1 rows shown).answer

  abbrev show_token : TokenRow → Row
  show_token t = Blob t.digest ∷ Int (role_number t.role) ∷ []

  ordered : rows ≡ map show_token (sort_by by_digest listed)
  ordered =
      found_sorted 3 (is 1 0 ∷ []) (col 1 2 ∷ col 1 3 ∷ []) (2 ∷ []) trees refl (Int number ∷ []) token_row token_in ours.tables.tokens.written (λ t. int_eq t.number number)
      (all_of _ (tokens_hit number trees) (map token_in (trees 3))) by_digest (λ a b. last_key (value_cmp-Blob a.digest b.digest)) untied rows all

  pub tokens_read : map token_told rows ≡ map token_of (entries (state_at (rows_of trees) number).tokens)
  tokens_read =
      ap (map token_told) ordered ∙ map-map token_told show_token (sort_by by_digest listed)
      ∙ map_same _ _ (λ (t : TokenRow). ap (λ role. let token : Token = record { digest = t.digest; role = role } in token) (of_role t.role).back) (sort_by by_digest listed)
      ∙ sym (map-map token_of token_entry (sort_by by_digest listed)) ∙ ap (map token_of) (sym (entries_sorted bytes_total (λ (t : TokenRow). t.digest) (λ t. t.role) listed untied))

  pub tokens_counted : length rows ≡ len (state_at (rows_of trees) number).tokens
  tokens_counted =
      ap length ordered ∙ length-map (sort_by by_digest listed) show_token
      ∙ sym (len-entries (state_at (rows_of trees) number).tokens ∙ ap length (entries_sorted bytes_total (λ (t : TokenRow). t.digest) (λ t. t.role) listed untied) ∙ length-map (sort_by by_digest listed) token_entry)

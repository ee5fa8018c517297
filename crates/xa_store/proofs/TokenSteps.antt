-- What the statements on tokens make of the rows.
use Rattle.std.proofs.Common.{◌≡◌, ℕ, ℤ, List, [], ◌∷◌, ◌++◌, map, filter, true, false, ◌&&◌, Ok, refl, sym, ap, ◌∙◌, int_eq}
use Rattle.xa_store.proofs.Common.{eq_by_cmp, and_parts, and_from, Chosen, State, Executes, col, Trees, Null, Int, Blob, Eq, cast_row, with_rowid, next_rowid, next_key, update_where, delete_where, all_of, all_weaker, same_int, at_ints, at_blobs, then_term, last_term, same_bytes, bytes_eq_refl, Role, compare_bytes, TokenRow, role_number, token_row, token_in, HaveWrittenRows, same_token, schema_2, tokens}
use Rattle.xa_store.specs.declared.step.Step.TheVariants.{AddToken, SetRole, DropToken}
use Rattle.xa_store.specs.keeping.Steps.{is_token}
use Rattle.xa_store.specs.keeping.Texts as text
use Rattle.xa_store.proofs.ChangeLemmas.{none_pass}
use Rattle.xa_store.proofs.HitLemmas.{turn_bytes}
use Rattle.xa_store.proofs.HoldLemmas.{Back, came_last, changed, tokens_now, went_out}
use Rattle.xa_store.proofs.KeyLemmas.{own_number}
use Rattle.xa_store.proofs.LastLemmas.{apart_few}
use Rattle.xa_store.proofs.SqlLemmas.{answered}
use Rattle.xa_store.proofs.ColumnNumbers.{of_role}
use Rattle.xa_store.proofs.StepLemmas.{Stepped, cast_int, cast_null}
use Rattle.xa_store.proofs.TableLemmas.{updates, deletes, inserts}
use Rattle.xa_store.proofs.TextLemmas.{is, set_role_is, add_token_is, drop_token_is}
use Rattle.xa_store.proofs.WriteLemmas.{next_rowid_is, row_added, row_updated, rows_removed}

-- ---- tokens

token_back : (t : TokenRow) → token_in (token_row t) ≡ t
token_back t = λ i. record { rowid = t.rowid; number = t.number; digest = t.digest; role = (of_role t.role).back i }

token_cast : (t : TokenRow) → cast_row tokens (token_row t) ≡ token_row t
token_cast t = λ i. cast_int t.rowid i ∷ cast_int t.number i ∷ Blob t.digest ∷ cast_int (role_number t.role) i ∷ []

tokens_alike : (n : ℤ) (g : List ℕ) (a b : TokenRow) → is_token n g a ≡ true → is_token n g b ≡ true → same_token a b ≡ true
tokens_alike n g a b here there =
    let p = and_parts _ _ here in
    let q = and_parts _ _ there in
    let number : a.number ≡ b.number = same_int a.number n p.0 ∙ sym (same_int b.number n q.0) in
    let digest : a.digest ≡ b.digest = sym (same_bytes g a.digest p.1) ∙ same_bytes g b.digest q.1 in
    and_from _ _ (ap (λ k. int_eq k b.number) number ∙ own_number b.number) (ap (λ d. eq_by_cmp compare_bytes d b.digest) digest ∙ bytes_eq_refl b.digest)

module _ (old new : State) (has : old.now.schema ≡ schema_2) (count : ℕ) (was : HaveWrittenRows old.now.trees) (n : ℤ) (g : List ℕ) where
  abbrev db : Trees
  db = old.now.trees

  abbrev next : Trees
  next = new.now.trees

  abbrev ts : List TokenRow
  ts = map token_in (db 3)

  abbrev rowid_of : TokenRow → ℤ
  rowid_of t = t.rowid

  -- a token comes
  pub token_added_stepped : (role : Role) → filter (is_token n g) ts ≡ [] → Executes text.add_token (Int n ∷ Blob g ∷ Int (role_number role) ∷ []) old new (Ok count) → Stepped old new (AddToken n g role)
  token_added_stepped role none h =
      let params = Int n ∷ Blob g ∷ Int (role_number role) ∷ [] in
      let token : TokenRow = record { rowid = next_key rowid_of ts; number = n; digest = g; role = role } in
      let row = Null ∷ Int n ∷ Blob g ∷ Int (role_number role) ∷ [] in
      let adds = inserts text.add_token params old new has 2 tokens refl count _ 4 refl refl add_token_is h in
      let bare : cast_row tokens row ≡ row = λ i. cast_null i ∷ cast_int n i ∷ Blob g ∷ cast_int (role_number role) i ∷ [] in
      let id : next_rowid (db 3) ≡ next_key rowid_of ts = ap next_rowid was.tokens.written ∙ next_rowid_is token_row rowid_of (λ _. refl) ts in
      let put : with_rowid Chosen (db 3) (cast_row tokens row) ≡ token_row token = ap (with_rowid Chosen (db 3)) bare ∙ ap (λ k. Int k ∷ Int n ∷ Blob g ∷ Int (role_number role) ∷ []) id in
      let wrote = row_added token_row rowid_of (λ _. refl) tokens db next ts was.tokens.written was.tokens.rise token row put adds.edited in
      let fresh = all_weaker (λ t. is_token n g t ≡ false) (λ t. same_token t token ≡ false) (λ t differs. ap (λ b. int_eq t.number n && b) (turn_bytes t.digest g) ∙ differs) ts (none_pass (is_token n g) ts none) in
      record {
        schema = adds.schema;
        database = adds.database;
        tables = tokens_now db next was (ts ++ token ∷ []) wrote (came_last token was.tokens refl wrote.rows (token_back token) fresh);
      }

  -- the role of a token
  pub role_set_stepped : (role : Role) → Executes text.set_role (Int n ∷ Blob g ∷ Int (role_number role) ∷ []) old new (Ok count) → Stepped old new (SetRole n g role)
  role_set_stepped role h =
      let params = Int n ∷ Blob g ∷ Int (role_number role) ∷ [] in
      let shown = col 1 0 ∷ col 1 0 ∷ col 1 1 ∷ col 1 2 ∷ col 0 2 ∷ [] in
      let f : TokenRow → TokenRow = λ t. record t { role = role } in
      let edits = updates text.set_role params old new has 2 tokens refl count _ set_role_is h in
      let answer = answered 3 (is 1 0 ∷ is 2 1 ∷ []) shown [] db refl params edits.rows edits.answer.answer in
      let hit = all_of _ (λ (t : TokenRow). then_term (at_ints false Eq t.number n) (last_term (at_blobs false Eq t.digest g) ∙ turn_bytes t.digest g)) ts in
      let few = apart_few same_token (is_token n g) (tokens_alike n g) ts was.tokens.apart in
      let wrote = row_updated token_row rowid_of (λ _. refl) tokens db next ts was.tokens.written was.tokens.rise (is 1 0 ∷ is 2 1 ∷ []) shown refl params (is_token n g) hit
      f (λ t. Int t.rowid ∷ Int t.number ∷ Blob t.digest ∷ Int (role_number role) ∷ []) (λ _. refl) (λ t. token_cast (f t)) (λ _. refl) few edits.rows answer edits.edited in
      record {
        schema = edits.schema;
        database = edits.database;
        tables =
            tokens_now db next was (update_where (is_token n g) f ts) wrote
            (changed (is_token n g) f was.tokens (λ _. refl) (λ a b. refl) (λ a b. refl) wrote.rows (all_of (Back token_row token_in) token_back (update_where (is_token n g) f ts)));
      }

  -- a token goes
  pub token_dropped_stepped : Executes text.drop_token (Int n ∷ Blob g ∷ []) old new (Ok count) → Stepped old new (DropToken n g)
  token_dropped_stepped h =
      let params = Int n ∷ Blob g ∷ [] in
      let edits = deletes text.drop_token params old new has 2 tokens refl count _ drop_token_is h in
      let answer = answered 3 (is 1 0 ∷ is 2 1 ∷ []) (col 1 0 ∷ []) [] db refl params edits.rows edits.answer.answer in
      let hit = all_of _ (λ (t : TokenRow). then_term (at_ints false Eq t.number n) (last_term (at_blobs false Eq t.digest g) ∙ turn_bytes t.digest g)) ts in
      let wrote = rows_removed token_row rowid_of (λ _. refl) tokens db next ts was.tokens.written was.tokens.rise (is 1 0 ∷ is 2 1 ∷ []) (col 1 0 ∷ []) refl params (is_token n g) hit
      (λ _. refl) refl edits.rows answer edits.edited in
      record {
        schema = edits.schema;
        database = edits.database;
        tables = tokens_now db next was (delete_where (is_token n g) ts) wrote (went_out (is_token n g) was.tokens wrote.rows);
      }

-- Sound rows of the table of documents are rows that the keeper writes.
use Rattle.std.proofs.Common.{◌≡◌, ◌≤◌, ℕ, ℤ, true, false, List, [], ◌∷◌, length, drop, unwrap_or, int_eq, bytes_eq, None, Result, Ok, Err, refl, sym, ap, subst, ◌∙◌, true≢false, arith}
use Rattle.xa_store.proofs.Common.{Row, column, Trees, Value, Int, Text, IsSound, same_int, first_of_both, second_of_both, agree, are_typed, Eq, int_of, bytes_of, at_ints, at_texts, then_term, last_term, bytes_eq_refl, DocumentKey, DocumentKind, read_version, version_text, Parsed, document_of, IsDocumentOf, Documents, as_read, holds_key, is_assigned, is_bit, is_sound_table, is_whole_row, DocumentRow, activity_number, flag_in, document_in, document_row, result_ok, kind_in, kind_number, AreRows, same_document, schema_2, policies, rising}
use Rattle.sqlite_value.specs.Keys.{first_key}
use Rattle.xa_notation.specs.declared.notation_error.NotationError.{NotationError}
use Rattle.xa_store.specs.Rows.{version_in}
use Rattle.xa_store.proofs.AreRowsLemmas.{rows_apart}
use Rattle.xa_store.proofs.ColumnNumbers.{from_bit, of_kind}
use Rattle.xa_store.proofs.HitLemmas.{same_key}
use Rattle.xa_store.proofs.KeyLemmas.{own_number}
use Rattle.xa_store.proofs.ReadLemmas.{int_back}
use Rattle.xa_store.proofs.ShapeLemmas.{blob_held, by_columns, int_held, never_int, row_long, row_short, text_held}
use Rattle.xa_store.proofs.ShapedLemmas.{free_of, same_text}
use Rattle.xa_store.proofs.VersionLemmas.{document_version}

-- ---- the key that columns hold

kind_held : (kind : DocumentKind) (n : ℤ) → int_eq (kind_number kind) n ≡ true → n ≡ kind_number (kind_in n)
kind_held kind n h = subst (λ m. m ≡ kind_number (kind_in m)) (same_int (kind_number kind) n h) (ap kind_number (sym (of_kind kind).back))

version_held : (version text : List ℕ) → read_version (version_text version) ≡ Ok version → bytes_eq (version_text version) text ≡ true → text ≡ version_text (version_in text)
unfolding version_in
version_held version text reads h =
    subst (λ t. t ≡ version_text (unwrap_or (result_ok (read_version t)) [])) (same_text (version_text version) text h) (ap (λ r. version_text (unwrap_or (result_ok r) [])) (sym reads))

abbrev IsKey : Value → Value → Value → Type 0
IsKey kind id version = (kind ≡ Int (kind_number (kind_in (int_of kind)))) × (id ≡ Text (bytes_of id)) × (version ≡ Text (version_text (version_in (bytes_of version))))

key_held : (kind id version : Value) (body : List ℕ) (r : Result Parsed NotationError) → document_of body ≡ r → holds_key kind id version r ≡ true → IsKey kind id version
key_held kind id version body (Ok parsed) is h =
    let k = int_held (int_eq (kind_number parsed.kind)) kind (first_of_both _ _ (first_of_both _ _ h)) in
    let i = text_held (bytes_eq parsed.id) id (second_of_both _ _ (first_of_both _ _ h)) in
    let v = text_held (bytes_eq (version_text parsed.version)) version (second_of_both _ _ h) in
    (k.0 ∙ ap Int (kind_held parsed.kind (int_of kind) k.1), i.0, v.0 ∙ ap Text (version_held parsed.version (bytes_of version) (document_version body parsed is) v.1))
key_held kind id version body (Err e) is h = absurd (true≢false (sym h))

-- ---- the text is a document of the key

version_named : (version : List ℕ) → read_version (version_text version) ≡ Ok version → version_in (version_text version) ≡ version
unfolding version_in
version_named version reads = ap (λ r. unwrap_or (result_ok r) []) reads

document_of_key : (kind id version : Value) (body : List ℕ) (r : Result Parsed NotationError) → document_of body ≡ r → holds_key kind id version r ≡ true
    → IsDocumentOf (record { kind = kind_in (int_of kind); id = bytes_of id; version = version_in (bytes_of version) }) body
document_of_key kind id version body (Ok parsed) is h =
    let k = (int_held (int_eq (kind_number parsed.kind)) kind (first_of_both _ _ (first_of_both _ _ h))).1 in
    let i = (text_held (bytes_eq parsed.id) id (second_of_both _ _ (first_of_both _ _ h))).1 in
    let v = (text_held (bytes_eq (version_text parsed.version)) version (second_of_both _ _ h)).1 in
    let kinds = sym (of_kind parsed.kind).back ∙ ap kind_in (same_int (kind_number parsed.kind) (int_of kind) k) in
    let ids = same_text parsed.id (bytes_of id) i in
    let versions = sym (version_named parsed.version (document_version body parsed is)) ∙ ap version_in (same_text (version_text parsed.version) (bytes_of version) v) in
    (parsed, is, λ j. record { kind = kinds j; id = ids j; version = versions j })
document_of_key kind id version body (Err e) is h = absurd (true≢false (sym h))

pub document_held : (next : ℤ) (row : Row) → is_whole_row Documents next (as_read Documents row) ≡ true → IsDocumentOf (document_in row).key (document_in row).text
document_held next row whole =
    let text = blob_held (λ body. holds_key (column row 2) (column row 3) (column row 4) (document_of body)) (column row 5) (second_of_both _ _ (second_of_both _ _ whole)) in
    document_of_key (column row 2) (column row 3) (column row 4) (bytes_of (column row 5)) (document_of (bytes_of (column row 5))) refl text.1

-- ---- a row

document_back : (next : ℤ) (row : Row) → are_typed None 0 policies.columns (drop 1 row) ≡ true → is_whole_row Documents next (as_read Documents row) ≡ true → row ≡ document_row (document_in row)
document_back next row typed whole =
    let rest = second_of_both _ _ whole in
    let number = int_held (is_assigned next) (column row 1) (first_of_both _ _ (first_of_both _ _ rest)) in
    let active = int_held is_bit (column row 6) (second_of_both _ _ (first_of_both _ _ rest)) in
    let text = blob_held (λ body. holds_key (column row 2) (column row 3) (column row 4) (document_of body)) (column row 5) (second_of_both _ _ rest) in
    let key = key_held (column row 2) (column row 3) (column row 4) (bytes_of (column row 5)) (document_of (bytes_of (column row 5))) refl text.1 in
    let rowid = int_back (column row 0) (first_of_both _ _ whole) in
    let less : length row ≤ 7 = row_short None policies.columns row typed in
    let more = row_long row 6 (never_int (column row 6) _ active.0) in
    by_columns 7 row (omega (arith, less, more))
    ∙ (λ i. rowid i ∷ number.0 i ∷ key.0 i ∷ key.1 i ∷ key.2 i ∷ text.0 i ∷ (active.0 ∙ ap Int (from_bit activity_number flag_in refl refl _ active.1)) i ∷ [])

-- ---- no two rows have one key

-- if a row has this number and this key
abbrev with_key : DocumentRow → ℤ × DocumentKey → DocumentRow
with_key d p = record d { number = p.0; key = p.1 }

key_agrees : (a b : DocumentRow) → agree rising (1 ∷ 2 ∷ 3 ∷ 4 ∷ []) (document_row a) (1 ∷ 2 ∷ 3 ∷ 4 ∷ []) (document_row (with_key b (a.number, a.key))) ≡ true
unfolding first_key
key_agrees a b =
    then_term (at_ints false Eq a.number a.number ∙ own_number a.number)
    (then_term (at_ints false Eq (kind_number a.key.kind) (kind_number a.key.kind) ∙ own_number (kind_number a.key.kind))
    (then_term (at_texts false Eq a.key.id a.key.id ∙ bytes_eq_refl a.key.id) (last_term (at_texts false Eq (version_text a.key.version) (version_text a.key.version) ∙ bytes_eq_refl (version_text a.key.version)))))

keys_agree : (a b : DocumentRow) → same_document a b ≡ true → agree rising (1 ∷ 2 ∷ 3 ∷ 4 ∷ []) (document_row a) (1 ∷ 2 ∷ 3 ∷ 4 ∷ []) (document_row b) ≡ true
keys_agree a b h =
    let number = same_int a.number b.number (first_of_both _ _ h) in
    let key = same_key a.key b.key (second_of_both _ _ h) in
    subst (λ (p : ℤ × DocumentKey). agree rising (1 ∷ 2 ∷ 3 ∷ 4 ∷ []) (document_row a) (1 ∷ 2 ∷ 3 ∷ 4 ∷ []) (document_row (with_key b p)) ≡ true) (λ i. (number i, key i)) (key_agrees a b)

pub documents_are : (db : Trees) (next : ℤ) → IsSound schema_2 db → is_sound_table db next Documents ≡ true → AreRows document_row document_in (λ d. d.rowid) same_document (db 5)
documents_are db next sound h =
    rows_apart Documents next db h document_row document_in (λ (d : DocumentRow). d.rowid) same_document (λ r. refl) schema_2 sound policies refl (λ P all. all.1.1.1.0)
    (λ r t p w. document_back next r t w) (λ d. refl) (1 ∷ 2 ∷ 3 ∷ 4 ∷ []) keys_agree (λ r u. free_of _ (first_of_both _ _ u))

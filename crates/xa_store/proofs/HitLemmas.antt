-- Which rows pass the tests of the statements.
use Rattle.std.proofs.Common.{◌≡◌, ℕ, ℤ, Bool, true, false, ◌&&◌, List, [], ◌∷◌, Ordering, Less, Equal, Greater, is_eq, nat_cmp, int_eq, refl, sym, ap, ap₂, ◌∙◌, true≢false, inl, inr}
use Rattle.xa_store.proofs.Common.{eq_by_cmp, ordering_then, nat_list_cmp_total, Trees, Int, Text, Blob, Eq, at_ints, at_texts, at_blobs, then_term, last_term, turn_eq, same_bytes, bytes_eq_refl, DocumentKey, DocumentKind, compare_keys, place_of_kind, version_text, compare_bytes, keys_exact, DomainRow, TokenRow, DocumentRow, RootRow, PlacedRow, domain_row, token_row, document_row, root_row, placed_row, kind_number, version_in, col}
use Rattle.xa_policy.specs.declared.reference.DocumentKind.TheVariants.{Policy, PolicySet}
use Rattle.xa_records.proofs.FinMapLemmas.{here_or_elsewhere}
use Rattle.xa_store.specs.keeping.Steps.{is_named, is_token, is_document}
use Rattle.xa_store.proofs.SqlLemmas.{hits}
use Rattle.xa_store.proofs.TextLemmas.{is}

-- two texts are compared either way round
pub turn_bytes : (a b : List ℕ) → eq_by_cmp compare_bytes a b ≡ eq_by_cmp compare_bytes b a
turn_bytes = turn_eq compare_bytes nat_list_cmp_total

pub name_hit : (name : List ℕ) (db : Trees) (d : DomainRow) → hits 1 (is 2 0 ∷ []) (col 1 0 ∷ col 1 3 ∷ []) [] db refl (Text name ∷ []) (domain_row d) ≡ is_named name d
name_hit name db d = last_term (at_texts false Eq d.name name) ∙ turn_bytes d.name name

pub tokens_hit : (number : ℤ) (db : Trees) (t : TokenRow) → hits 3 (is 1 0 ∷ []) (col 1 2 ∷ col 1 3 ∷ []) (2 ∷ []) db refl (Int number ∷ []) (token_row t) ≡ int_eq t.number number
tokens_hit number db t = last_term (at_ints false Eq t.number number)

pub token_hit : (number : ℤ) (digest : List ℕ) (db : Trees) (t : TokenRow)
    → hits 3 (is 1 0 ∷ is 2 1 ∷ []) (col 1 3 ∷ []) [] db refl (Int number ∷ Blob digest ∷ []) (token_row t) ≡ is_token number digest t
token_hit number digest db t = then_term (at_ints false Eq t.number number) (last_term (at_blobs false Eq t.digest digest) ∙ turn_bytes t.digest digest)

pub kinds_hit : (number : ℤ) (db : Trees) (d : DocumentRow) → hits 5 (is 1 0 ∷ []) (col 1 2 ∷ []) (2 ∷ 3 ∷ 4 ∷ []) db refl (Int number ∷ []) (document_row d) ≡ int_eq d.number number
kinds_hit number db d = last_term (at_ints false Eq d.number number)

pub documents_hit : (number : ℤ) (db : Trees) (d : DocumentRow)
    → hits 5 (is 1 0 ∷ []) (col 1 2 ∷ col 1 3 ∷ col 1 4 ∷ col 1 6 ∷ []) (2 ∷ 3 ∷ 4 ∷ []) db refl (Int number ∷ []) (document_row d) ≡ int_eq d.number number
documents_hit number db d = last_term (at_ints false Eq d.number number)

pub root_hit : (number : ℤ) (db : Trees) (r : RootRow)
    → hits 7 (is 0 0 ∷ []) (col 1 2 ∷ col 1 3 ∷ col 1 4 ∷ col 1 5 ∷ col 1 6 ∷ []) [] db refl (Int number ∷ []) (root_row r) ≡ int_eq r.number number
root_hit number db r = last_term (at_ints false Eq r.number number)

pub source_hit : (number : ℤ) (db : Trees) (a : PlacedRow)
    → hits 10 (is 1 0 ∷ []) (col 1 3 ∷ col 1 4 ∷ col 1 5 ∷ col 1 6 ∷ col 1 7 ∷ col 1 8 ∷ []) (2 ∷ []) db refl (Int number ∷ []) (placed_row a) ≡ int_eq a.number number
source_hit number db a = last_term (at_ints false Eq a.number number)

-- ---- a document by its key

pub same_key : (a b : DocumentKey) → eq_by_cmp compare_keys a b ≡ true → a ≡ b
same_key a b h = elim (here_or_elsewhere keys_exact a b) [ inl same ↦ same | inr apart ↦ absurd (true≢false (sym h ∙ apart)) ]

pub eq_then : (a b : Ordering) → is_eq (ordering_then a b) ≡ (is_eq a && is_eq b)
eq_then Less b = refl
eq_then Equal b = refl
eq_then Greater b = refl

kinds_alike : (k l : DocumentKind) → int_eq (kind_number k) (kind_number l) ≡ is_eq (nat_cmp (place_of_kind l) (place_of_kind k))
kinds_alike Policy Policy = refl
kinds_alike Policy PolicySet = refl
kinds_alike PolicySet Policy = refl
kinds_alike PolicySet PolicySet = refl

-- texts that read as their versions tie as the versions do
versions_alike : (a b : List ℕ) → version_in (version_text a) ≡ a → version_in (version_text b) ≡ b → eq_by_cmp compare_bytes (version_text a) (version_text b) ≡ eq_by_cmp compare_bytes a b
versions_alike a b p q = go (eq_by_cmp compare_bytes (version_text a) (version_text b)) (eq_by_cmp compare_bytes a b) refl refl
  where
    go : (c d : Bool) → eq_by_cmp compare_bytes (version_text a) (version_text b) ≡ c → eq_by_cmp compare_bytes a b ≡ d → c ≡ d
    go true true e f = refl
    go false false e f = refl
    go true false e f =
        let same : a ≡ b = sym p ∙ ap version_in (same_bytes (version_text a) (version_text b) e) ∙ q in
        absurd (true≢false (sym (bytes_eq_refl b) ∙ ap (λ x. eq_by_cmp compare_bytes x b) (sym same) ∙ f))
    go false true e f =
        let same : a ≡ b = same_bytes a b f in
        absurd (true≢false (sym (bytes_eq_refl (version_text b)) ∙ ap (λ x. eq_by_cmp compare_bytes (version_text x) (version_text b)) (sym same) ∙ e))

and_group : (a b c : Bool) → ((a && b) && c) ≡ (a && (b && c))
and_group true b c = refl
and_group false b c = refl

keys_alike : (key : DocumentKey) (d : DocumentRow) → version_in (version_text key.version) ≡ key.version → version_in (version_text d.key.version) ≡ d.key.version
    → (int_eq (kind_number d.key.kind) (kind_number key.kind) && (eq_by_cmp compare_bytes d.key.id key.id && eq_by_cmp compare_bytes (version_text d.key.version) (version_text key.version)))
    ≡ eq_by_cmp compare_keys key d.key
keys_alike key d p q =
    ap₂ ◌&&◌ (kinds_alike d.key.kind key.kind) (ap₂ ◌&&◌ (turn_bytes d.key.id key.id) (versions_alike d.key.version key.version q p ∙ turn_bytes d.key.version key.version))
    ∙ sym (eq_then (ordering_then (nat_cmp (place_of_kind key.kind) (place_of_kind d.key.kind)) (compare_bytes key.id d.key.id)) (compare_bytes key.version d.key.version)
    ∙ ap (λ b. b && eq_by_cmp compare_bytes key.version d.key.version) (eq_then (nat_cmp (place_of_kind key.kind) (place_of_kind d.key.kind)) (compare_bytes key.id d.key.id))
    ∙ and_group (is_eq (nat_cmp (place_of_kind key.kind) (place_of_kind d.key.kind))) (eq_by_cmp compare_bytes key.id d.key.id) (eq_by_cmp compare_bytes key.version d.key.version))

pub document_hit : (number : ℤ) (key : DocumentKey) (db : Trees) (d : DocumentRow) → version_in (version_text key.version) ≡ key.version → version_in (version_text d.key.version) ≡ d.key.version
    → hits 5 (is 1 0 ∷ is 2 1 ∷ is 3 2 ∷ is 4 3 ∷ []) (col 1 5 ∷ col 1 6 ∷ []) [] db refl (Int number ∷ Int (kind_number key.kind) ∷ Text key.id ∷ Text (version_text key.version) ∷ []) (document_row d)
    ≡ is_document number key d
document_hit number key db d p q =
    then_term (at_ints false Eq d.number number)
    (then_term (at_ints false Eq (kind_number d.key.kind) (kind_number key.kind))
    (then_term (at_texts false Eq d.key.id key.id) (last_term (at_texts false Eq (version_text d.key.version) (version_text key.version)))))
    ∙ ap (λ b. int_eq d.number number && b) (keys_alike key d p q)

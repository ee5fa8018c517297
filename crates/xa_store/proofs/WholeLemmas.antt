-- The columns of all rows hold what they should, also after rows have come, gone and changed.
use Rattle.std.proofs.Common.{◌≡◌, ℕ, ◌+◌, ◌<◌, ◌^◌, ℤ, pos, negsuc, true, List, map, nat_lt, int_eq, int_le, int_lt, int_cmp, ap, subst, ◌∙◌, arith}
use Rattle.xa_store.proofs.Common.{AllByRecursion, nat_tests, ints, insert_by, sort_by, all-insert_by, all_weaker, filter-map, map-map, first_of_both, second_of_both, is_domain_name, SourcePlace, is_assigned, is_count, is_digest, places_of, DomainRow, TokenRow, DocumentRow, RootRow, PlacedRow, nat_of, AreRootTexts, AreSourceTexts, HaveSoundColumns, place_of, Rows, sources_at}
use Rattle.xa_store.specs.keeping.Steps.{is_named, with_epoch}
use Rattle.xa_store.proofs.ChangeLemmas.{IsOnly}
use Rattle.xa_store.proofs.RiseLemmas.{both_true, lt_trans}
use Rattle.xa_store.proofs.TextsKept.{all_filter, all_update}

-- ---- one row

abbrev pub IsWholeDomain : ℤ → DomainRow → Type 0
IsWholeDomain next d = (is_assigned next d.number ≡ true) × (is_domain_name d.name ≡ true) × (is_count d.epoch ≡ true)

abbrev pub IsWholeToken : ℤ → TokenRow → Type 0
IsWholeToken next t = (is_assigned next t.number ≡ true) × (is_digest t.digest ≡ true)

abbrev pub IsWholeDocument : ℤ → DocumentRow → Type 0
IsWholeDocument next d = is_assigned next d.number ≡ true

abbrev pub IsWholeRoot : ℤ → RootRow → Type 0
IsWholeRoot next r = (is_assigned next r.number ≡ true) × AreRootTexts r

abbrev pub IsWholePlacedRow : ℤ → PlacedRow → Type 0
IsWholePlacedRow next a = (is_assigned next a.number ≡ true) × AreSourceTexts a.row

-- ---- numbers

pub count_is : (n : ℕ) → n < 2 ^ 63 → is_count (pos n) ≡ true
count_is n low =
    let up : int_le (pos 0) (pos n) ≡ true = grind (arith, ints) in
    let held : nat_lt n (2 ^ 63) ≡ true = grind (arith, nat_tests) in
    both_true (int_le (pos 0) (pos n)) (nat_lt n (2 ^ 63)) up held

-- one more than a number that isn't negative
pub count_after : (n : ℤ) (k : ℕ) → nat_of n ≡ k + 1 → nat_of n < 2 ^ 63 → is_count n ≡ true
count_after (pos n) k up low = count_is n low
count_after (negsuc n) k up low = absurd (omega (arith, up))

pub one_above : (k : ℕ) → int_lt (pos k) (pos (k + 1)) ≡ true
one_above k = grind (arith, ints)

-- what was given before a number is given before a greater one
pub assigned_later : (next later n : ℤ) → int_lt next later ≡ true → is_assigned next n ≡ true → is_assigned later n ≡ true
assigned_later next later n up h =
    both_true (is_count n) (int_lt n later) (first_of_both (is_count n) (int_lt n next) h) (lt_trans n next later (second_of_both (is_count n) (int_lt n next) h) up)

-- ---- the places of one domain

pub places_at : (xs : List PlacedRow) (n : ℤ) → places_of (map place_of xs) n ≡ sort_by int_cmp (map (λ (a : PlacedRow). a.place) (sources_at xs n))
places_at xs n =
    ap (sort_by int_cmp)
    (ap (map (λ (p : SourcePlace). p.index)) (filter-map (λ (p : SourcePlace). int_eq p.domain n) place_of xs) ∙ map-map (λ (p : SourcePlace). p.index) place_of (sources_at xs n))

-- ---- all rows

module _ (rows : Rows) (whole : HaveSoundColumns rows) where
  -- the row of a domain that was found
  pub its_domain : (name : List ℕ) (d : DomainRow) → IsOnly name d rows → IsWholeDomain rows.next d
  its_domain name d one = (subst (AllByRecursion (IsWholeDomain rows.next)) one (all_filter (IsWholeDomain rows.next) (is_named name) rows.domains whole.domains)).0

  pub epoch_whole : (n e : ℤ) → is_count e ≡ true → AllByRecursion (IsWholeDomain rows.next) (with_epoch n e rows.domains)
  epoch_whole n e counts = all_update (IsWholeDomain rows.next) (λ d. int_eq d.number n) (λ d. record d { epoch = e }) (λ d h. (h.0, h.1, counts)) rows.domains whole.domains

  pub tokens_whole : (tokens : List TokenRow) → AllByRecursion (IsWholeToken rows.next) tokens → HaveSoundColumns (record rows { tokens = tokens })
  tokens_whole tokens all =
      record { next = whole.next; domains = whole.domains; tokens = all; documents = whole.documents; roots = whole.roots; sources = whole.sources; places = whole.places }

  pub documents_whole : (documents : List DocumentRow) (domains : List DomainRow) → AllByRecursion (IsWholeDocument rows.next) documents → AllByRecursion (IsWholeDomain rows.next) domains
      → HaveSoundColumns (record rows { documents = documents; domains = domains })
  documents_whole documents domains all named =
      record { next = whole.next; domains = named; tokens = whole.tokens; documents = all; roots = whole.roots; sources = whole.sources; places = whole.places }

  pub roots_whole : (roots : List RootRow) (domains : List DomainRow) → AllByRecursion (IsWholeRoot rows.next) roots → AllByRecursion (IsWholeDomain rows.next) domains
      → HaveSoundColumns (record rows { roots = roots; domains = domains })
  roots_whole roots domains all named =
      record { next = whole.next; domains = named; tokens = whole.tokens; documents = whole.documents; roots = all; sources = whole.sources; places = whole.places }

  -- a domain comes, and the next number is a greater one
  pub created_whole : (later : ℤ) (made : DomainRow) → is_count later ≡ true → int_lt rows.next later ≡ true → IsWholeDomain later made
      → HaveSoundColumns (record rows { next = later; domains = insert_by (λ d. d.number) rows.domains made })
  created_whole later made counts up own = record {
    next = counts;
    domains = all-insert_by (λ (d : DomainRow). d.number) (IsWholeDomain later) rows.domains made own
        (all_weaker (IsWholeDomain rows.next) (IsWholeDomain later) (λ d h. (assigned_later rows.next later d.number up h.0, h.1, h.2)) rows.domains whole.domains);
    tokens = all_weaker (IsWholeToken rows.next) (IsWholeToken later) (λ t h. (assigned_later rows.next later t.number up h.0, h.1)) rows.tokens whole.tokens;
    documents = all_weaker (IsWholeDocument rows.next) (IsWholeDocument later) (λ d h. assigned_later rows.next later d.number up h) rows.documents whole.documents;
    roots = all_weaker (IsWholeRoot rows.next) (IsWholeRoot later) (λ r h. (assigned_later rows.next later r.number up h.0, h.1)) rows.roots whole.roots;
    sources = all_weaker (IsWholePlacedRow rows.next) (IsWholePlacedRow later) (λ a h. (assigned_later rows.next later a.number up h.0, h.1)) rows.sources whole.sources;
    places = whole.places;
  }

-- The plan of a source that is set.
use Rattle.std.proofs.Common.{◌≡◌, ◌≢◌, inr, ◌+◌, ◌<◌, ◌≤◌, ◌^◌, ◌<ℤ◌, ℕ, ℤ, pos, ◌+ℤ◌, not, List, [], ◌∷◌, ◌++◌, map, filter, length, Bool, true, false, cond, nat_le, bytes_eq, unwrap_or, Result, Ok, Err, is_gt, refl, sym, ap, subst, ◌∙◌, arith, int_eq, int_cmp, true≢false}
use Rattle.xa_store.proofs.Common.{AllByRecursion, on, is_utf8, ints, is_eq-slice_cmp, IsKeyedBy, next_key, delete_where, sort_by, insert_sorted, Less-from_lt, int_eq_apart, same_int, all-append, all_weaker, ascending-append, filter_none, first_of_both, second_of_both, sort_by-map, bytes_eq_refl, type_of, printed, read, SourceRow, Quota, source_set, within, DomainState, state_of, count_from, holds_value, is_assigned, is_count, is_printed, is_value, places_of, type_numbered, PlacedRow, DomainRow, result_ok, nat_of, type_number, AreNumbered, HaveSoundColumns, Rows, sources_at, kept_of, source_of, state_at}
use Rattle.xa_value.specs.declared.read_error.ReadError.{ReadError}
use Rattle.xa_value.specs.declared.value.Value.{Value}
use Rattle.xa_value.specs.declared.value.Value.TheVariants as value
use Rattle.xa_store.specs.declared.query.domain.FoundDomain.{FoundDomain}
use Rattle.xa_store.specs.declared.step.Step.TheVariants.{AddSourceRow}
use Rattle.xa_store.specs.keeping.Lookup.{IsDomain}
use Rattle.xa_store.specs.keeping.Plan.{HaveTexts, RaisesTo, RowsRead, row_steps, source_steps}
use Rattle.xa_store.specs.Rows.{value_in, value_text}
use Rattle.xa_store.specs.Sound.{place_of as placed}
use Rattle.xa_store.specs.keeping.Steps.{AllowsAll, ReadsBack, after, after_all, is_place, with_epoch}
use Rattle.xa_store.specs.keeping.Turns.{Plans}
use Rattle.xa_store.proofs.ChangeLemmas.{IsOnly, Rewrote, number_of}
use Rattle.xa_store.proofs.ColumnNumbers.{of_type}
use Rattle.xa_store.proofs.FilterLemmas.{filter_both, filter_delete_all, filter_delete_others, filter_push, filter_push_apart}
use Rattle.xa_store.proofs.KeyLemmas.{own_number}
use Rattle.xa_store.proofs.PlanLemmas.{planned, refused, unchanged}
use Rattle.xa_store.proofs.RiseLemmas.{both_true}
use Rattle.xa_store.proofs.TextsKept.{all_filter, all_push}
use Rattle.xa_store.proofs.WholeLemmas.{IsWholePlacedRow, count_after, epoch_whole, its_domain, places_at}

-- ---- a value that reads back

pub value_reads : (v x : Value) (text : List ℕ) → text ≡ printed v → read (type_of v) text ≡ Ok x → x ≡ v → ReadsBack v
unfolding value_in value_text
value_reads v x text prints reads same =
    ap (λ t. unwrap_or (result_ok (read t (printed v))) (value.String (printed v))) (of_type (type_of v)).back
    ∙ ap (λ (r : Result Value ReadError). unwrap_or (result_ok r) (value.String (printed v))) (ap (read (type_of v)) (sym prints) ∙ reads) ∙ same

-- it stands there in its printed form
pub value_held : (v x : Value) (text : List ℕ) → text ≡ printed v → is_utf8 text ≡ true → read (type_of v) text ≡ Ok x → x ≡ v → holds_value (type_number v) (value_text v) ≡ true
unfolding value_text
value_held v x text prints utf8 reads same =
    let printed_so : is_printed text (Ok x) ≡ true = ap (λ w. bytes_eq (printed w) text) same ∙ ap (bytes_eq (printed v)) prints ∙ sym (is_eq-slice_cmp (printed v) (printed v)) ∙ bytes_eq_refl (printed v) in
    let held : is_value text (type_numbered (type_number v)) ≡ true = ap (is_value text) (of_type (type_of v)).named ∙ ap (is_printed text) reads ∙ printed_so in
    ap (holds_value (type_number v)) (sym prints) ∙ both_true (is_utf8 text) (is_value text (type_numbered (type_number v))) utf8 held

-- ---- rows in the order of their places

abbrev place_in : PlacedRow → ℤ
place_in a = a.place

abbrev row_in : PlacedRow → SourceRow
row_in a = a.row

sorted_stays : (xs : List PlacedRow) → IsKeyedBy place_in xs → sort_by (on place_in int_cmp) xs ≡ xs
sorted_stays [] up = refl
sorted_stays (x ∷ xs) up = ap (insert_sorted (on place_in int_cmp) x) (sorted_stays xs up.1) ∙ first xs up.0
  where
    first : (ys : List PlacedRow) → AllByRecursion (λ y. x.place <ℤ y.place) ys → insert_sorted (on place_in int_cmp) x ys ≡ x ∷ ys
    first [] low = refl
    first (y ∷ ys) low = ap (λ o. cond (is_gt o) (y ∷ insert_sorted (on place_in int_cmp) x ys) (x ∷ y ∷ ys)) (Less-from_lt x.place y.place low.0)

map_push : (xs : List PlacedRow) (new : PlacedRow) (rest : List SourceRow) → map row_in (xs ++ new ∷ []) ++ rest ≡ map row_in xs ++ (new.row ∷ rest)
map_push [] new rest = refl
map_push (x ∷ xs) new rest = ap (λ l. x.row ∷ l) (map_push xs new rest)

map_one_more : (xs : List PlacedRow) (new : PlacedRow) → map place_in (xs ++ new ∷ []) ≡ map place_in xs ++ (new.place ∷ [])
map_one_more [] new = refl
map_one_more (x ∷ xs) new = ap (λ l. x.place ∷ l) (map_one_more xs new)

-- the number after as many
abbrev ends : ℤ → List ℤ → ℤ
ends n [] = n
ends n (m ∷ ms) = ends (n +ℤ pos 1) ms

push_ends : (n : ℤ) (ms : List ℤ) (m : ℤ) → ends n (ms ++ m ∷ []) ≡ ends n ms +ℤ pos 1
push_ends n [] m = refl
push_ends n (k ∷ ms) m = push_ends (n +ℤ pos 1) ms m

push_counts : (n : ℤ) (ms : List ℤ) (m : ℤ) → m ≡ ends n ms → count_from n ms ≡ true → count_from n (ms ++ m ∷ []) ≡ true
push_counts n [] m is h = both_true (int_eq m n) true (ap (λ k. int_eq k n) is ∙ own_number n) refl
push_counts n (k ∷ ms) m is h =
    both_true (int_eq k n) (count_from (n +ℤ pos 1) (ms ++ m ∷ [])) (first_of_both (int_eq k n) (count_from (n +ℤ pos 1) ms) h)
    (push_counts (n +ℤ pos 1) ms m is (second_of_both (int_eq k n) (count_from (n +ℤ pos 1) ms) h))

-- ---- the rows come one after another

module _ (n : ℤ) where
  own : int_eq n n ≡ true
  own = grind (arith, ints)

  abbrev of_number : PlacedRow → Bool
  of_number a = int_eq a.number n

  abbrev mine : Rows → List PlacedRow
  mine rows = sources_at rows.sources n

  abbrev Low : ℕ → List PlacedRow → Type 0
  Low p = AllByRecursion (λ a. a.place <ℤ pos p)

  abbrev added : ℕ → SourceRow → Rows → PlacedRow
  added p s rows = record { rowid = next_key (λ a. a.rowid) rows.sources; number = n; place = pos p; row = s; is_full = true }

  abbrev one_more : ℕ → SourceRow → Rows → Rows
  one_more p s rows = after (AddSourceRow n (pos p) s) rows

  mine_more : (p : ℕ) (s : SourceRow) (rows : Rows) → mine (one_more p s rows) ≡ mine rows ++ added p s rows ∷ []
  mine_more p s rows = filter_push of_number rows.sources (added p s rows) own

  low_more : (p : ℕ) (s : SourceRow) (rows : Rows) → Low p (mine rows) → Low (p + 1) (mine (one_more p s rows))
  low_more p s rows low =
      subst (Low (p + 1)) (sym (mine_more p s rows))
      (all-append (λ a. a.place <ℤ pos (p + 1)) (mine rows) (added p s rows ∷ []) (all_weaker (λ a. a.place <ℤ pos p) (λ a. a.place <ℤ pos (p + 1)) (λ a h. wider a.place h) (mine rows) low) (next, tt))
    where
      wider : (m : ℤ) → m <ℤ pos p → m <ℤ pos (p + 1)
      wider m h = grind (arith, ints)

      next : pos p <ℤ pos (p + 1)
      next = grind (arith, ints)

  keyed_more : (p : ℕ) (s : SourceRow) (rows : Rows) → Low p (mine rows) → IsKeyedBy place_in (mine rows) → IsKeyedBy place_in (mine (one_more p s rows))
  keyed_more p s rows low up =
      subst (IsKeyedBy place_in) (sym (mine_more p s rows))
      (ascending-append (λ a b. a.place <ℤ b.place) (mine rows) (added p s rows ∷ []) up (tt, tt) (all_weaker (λ a. a.place <ℤ pos p) (λ a. AllByRecursion (λ b. a.place <ℤ b.place) (added p s rows ∷ [])) (λ a h. (h, tt)) (mine rows) low))

  free : (p : ℕ) (rows : Rows) → Low p (mine rows) → filter (is_place n (pos p)) rows.sources ≡ []
  free p rows low =
      filter_both of_number (λ a. int_eq a.place (pos p)) rows.sources
      ∙ filter_none (λ a. int_eq a.place (pos p)) (mine rows) (all_weaker (λ a. a.place <ℤ pos p) (λ a. int_eq a.place (pos p) ≡ false) (λ a h. unlike a.place h) (mine rows) low)
    where
      unlike : (m : ℤ) → m <ℤ pos p → int_eq m (pos p) ≡ false
      unlike m h = grind (arith, ints)

  allows_rows : (ss : List SourceRow) (rows : Rows) (p : ℕ) → Low p (mine rows) → RowsRead ss → AllowsAll (row_steps n p ss) rows
  allows_rows [] rows p low reads = tt
  allows_rows (s ∷ ss) rows p low reads = ((free p rows low, reads.0), allows_rows ss (one_more p s rows) (p + 1) (low_more p s rows low) reads.1)

  rows_after : (ss : List SourceRow) (rows : Rows) (p : ℕ) → map row_in (mine (after_all (row_steps n p ss) rows)) ≡ map row_in (mine rows) ++ ss
  rows_after [] rows p = sym (Rattle.std.proofs.Common.append-nil (map row_in (mine rows)))
  rows_after (s ∷ ss) rows p = rows_after ss (one_more p s rows) (p + 1) ∙ ap (λ l. map row_in l ++ ss) (mine_more p s rows) ∙ map_push (mine rows) (added p s rows) ss

  keyed_after : (ss : List SourceRow) (rows : Rows) (p : ℕ) → Low p (mine rows) → IsKeyedBy place_in (mine rows) → IsKeyedBy place_in (mine (after_all (row_steps n p ss) rows))
  keyed_after [] rows p low up = up
  keyed_after (s ∷ ss) rows p low up = keyed_after ss (one_more p s rows) (p + 1) (low_more p s rows low) (keyed_more p s rows low up)

  others_after : (m : ℤ) → m ≢ n → (ss : List SourceRow) (rows : Rows) (p : ℕ) → sources_at (after_all (row_steps n p ss) rows).sources m ≡ sources_at rows.sources m
  others_after m apart [] rows p = refl
  others_after m apart (s ∷ ss) rows p =
      others_after m apart ss (one_more p s rows) (p + 1) ∙ filter_push_apart (λ a. int_eq a.number m) rows.sources (added p s rows) (int_eq_apart n m (λ same. apart (sym same)))

  -- the columns of the rows that come
  sources_whole : (next : ℤ) → is_assigned next n ≡ true → (ss : List SourceRow) (rows : Rows) (p : ℕ) → HaveTexts ss → AllByRecursion (IsWholePlacedRow next) rows.sources
      → AllByRecursion (IsWholePlacedRow next) (after_all (row_steps n p ss) rows).sources
  sources_whole next given [] rows p texts all = all
  sources_whole next given (s ∷ ss) rows p texts all =
      sources_whole next given ss (one_more p s rows) (p + 1) texts.1 (all_push (IsWholePlacedRow next) rows.sources (added p s rows) all (given, texts.0))

  -- their places count on
  ends_more : (p : ℕ) (s : SourceRow) (rows : Rows) → ends (pos 0) (map place_in (mine rows)) ≡ pos p → ends (pos 0) (map place_in (mine (one_more p s rows))) ≡ pos (p + 1)
  ends_more p s rows is =
      ap (λ l. ends (pos 0) (map place_in l)) (mine_more p s rows) ∙ ap (ends (pos 0)) (map_one_more (mine rows) (added p s rows)) ∙ push_ends (pos 0) (map place_in (mine rows)) (pos p)
      ∙ ap (λ k. k +ℤ pos 1) is

  counts_more : (p : ℕ) (s : SourceRow) (rows : Rows) → ends (pos 0) (map place_in (mine rows)) ≡ pos p → count_from (pos 0) (map place_in (mine rows)) ≡ true
      → count_from (pos 0) (map place_in (mine (one_more p s rows))) ≡ true
  counts_more p s rows is counts =
      ap (λ l. count_from (pos 0) (map place_in l)) (mine_more p s rows) ∙ ap (count_from (pos 0)) (map_one_more (mine rows) (added p s rows))
      ∙ push_counts (pos 0) (map place_in (mine rows)) (pos p) (sym is) counts

  counted_after : (ss : List SourceRow) (rows : Rows) (p : ℕ) → ends (pos 0) (map place_in (mine rows)) ≡ pos p → count_from (pos 0) (map place_in (mine rows)) ≡ true
      → count_from (pos 0) (map place_in (mine (after_all (row_steps n p ss) rows))) ≡ true
  counted_after [] rows p is counts = counts
  counted_after (s ∷ ss) rows p is counts = counted_after ss (one_more p s rows) (p + 1) (ends_more p s rows is) (counts_more p s rows is counts)

  -- nothing but the rows of sources
  abbrev only_sources : List PlacedRow → Rows → Rows
  only_sources sources rows = record {
    next = rows.next;
    domains = rows.domains;
    tokens = rows.tokens;
    documents = rows.documents;
    roots = rows.roots;
    sources = sources;
  }

  shape_after : (ss : List SourceRow) (rows : Rows) (p : ℕ) → after_all (row_steps n p ss) rows ≡ only_sources (after_all (row_steps n p ss) rows).sources rows
  shape_after [] rows p = refl
  shape_after (s ∷ ss) rows p = shape_after ss (one_more p s rows) (p + 1)

-- ---- the source is set

abbrev with_source : List SourceRow → DomainState → DomainState
with_source source state = record { tokens = state.tokens; documents = state.documents; root = state.root; source = source }

set_fits : (ss : List SourceRow) (state : DomainState) → nat_le (length ss) 4_096 ≡ true → source_set ss state ≡ Ok (with_source ss state)
set_fits ss state fits = rw fits refl

set_refused : (ss : List SourceRow) (state : DomainState) → nat_le (length ss) 4_096 ≡ false → source_set ss state ≡ Err Quota
set_refused ss state over = rw over refl

pub at_most : (ss : List SourceRow) → nat_le (length ss) 4_096 ≡ true → length ss ≤ 4_096
at_most ss fits = grind (arith, Rattle.std.proofs.lemmas.Bool.Decides.nat_tests)

module _ (rows : Rows) (name : List ℕ) (d : DomainRow) (one : IsOnly name d rows) (up : IsKeyedBy number_of rows.domains) (are : AreNumbered rows) (epoch : ℤ) (ss : List SourceRow)
    (fits : nat_le (length ss) 4_096 ≡ true) where
  abbrev target : DomainState
  target = with_source ss (state_at rows d.number)

  -- the old rows are gone, and the epoch is set
  abbrev begun : Rows
  begun = record rows { domains = with_epoch d.number epoch rows.domains; sources = delete_where (λ a. int_eq a.number d.number) rows.sources }

  abbrev final : Rows
  final = after_all (source_steps d.number epoch ss) rows

  none_yet : mine d.number begun ≡ []
  none_yet = filter_delete_all (λ (a : PlacedRow). int_eq a.number d.number) rows.sources

  low_yet : Low d.number 0 (mine d.number begun)
  low_yet = subst (Low d.number 0) (sym none_yet) tt

  keyed_yet : IsKeyedBy place_in (mine d.number begun)
  keyed_yet = subst (IsKeyedBy place_in) (sym none_yet) tt

  source_now : source_of (sources_at final.sources d.number) ≡ ss
  source_now =
      ap (map row_in) (sorted_stays (mine d.number final) (keyed_after d.number ss begun 0 low_yet keyed_yet)) ∙ rows_after d.number ss begun 0 ∙ ap (λ l. map row_in l ++ ss) none_yet

  source_there : (m : ℤ) → m ≢ d.number → sources_at final.sources m ≡ sources_at rows.sources m
  source_there m apart =
      others_after d.number m apart ss begun 0
      ∙ filter_delete_others (λ (a : PlacedRow). int_eq a.number d.number) (λ a. int_eq a.number m)
      (λ a here. int_eq_apart a.number m (λ same. apart (sym same ∙ same_int a.number d.number here))) rows.sources

  shape : final ≡ only_sources d.number final.sources begun
  shape = shape_after d.number ss begun 0

  rewrote : Rewrote rows final d epoch target
  rewrote = record {
    next = ap (λ (r : Rows). r.next) shape;
    domains = ap (λ (r : Rows). r.domains) shape;
    state = ap (λ (r : Rows). state_at r d.number) shape ∙ (λ i. with_source (source_now i) (state_at rows d.number));
    others = λ m apart. ap (λ (r : Rows). state_at r m) shape ∙ (λ i. with_source (source_of (source_there m apart i)) (state_at rows m));
  }

  -- the places of all domains count from 0
  places_now : HaveSoundColumns rows → (m : ℤ) → count_from (pos 0) (places_of (map placed final.sources) m) ≡ true
  places_now whole m = go (int_eq m d.number) refl
    where
      own_places : places_of (map placed final.sources) d.number ≡ map place_in (mine d.number final)
      own_places =
          places_at final.sources d.number ∙ sort_by-map int_cmp place_in (mine d.number final)
          ∙ ap (map place_in) (sorted_stays (mine d.number final) (keyed_after d.number ss begun 0 low_yet keyed_yet))

      own_count : count_from (pos 0) (map place_in (mine d.number final)) ≡ true
      own_count = counted_after d.number ss begun 0 (ap (λ l. ends (pos 0) (map place_in l)) none_yet) (ap (λ l. count_from (pos 0) (map place_in l)) none_yet)

      go : (b : Bool) → int_eq m d.number ≡ b → count_from (pos 0) (places_of (map placed final.sources) m) ≡ true
      go true is = ap (λ k. count_from (pos 0) (places_of (map placed final.sources) k)) (same_int m d.number is) ∙ ap (count_from (pos 0)) own_places ∙ own_count
      go false is =
          let apart : m ≢ d.number = λ same. true≢false (sym (ap (λ k. int_eq k d.number) same ∙ own d.number) ∙ is) in
          ap (count_from (pos 0)) (places_at final.sources m ∙ ap (λ l. sort_by int_cmp (map place_in l)) (source_there m apart) ∙ sym (places_at rows.sources m)) ∙ whole.places m

  whole_now : HaveSoundColumns rows → is_count epoch ≡ true → HaveTexts ss → HaveSoundColumns final
  whole_now whole counts texts = subst HaveSoundColumns (sym shape) (record {
    next = whole.next;
    domains = epoch_whole rows whole d.number epoch counts;
    tokens = whole.tokens;
    documents = whole.documents;
    roots = whole.roots;
    sources = sources_whole d.number rows.next (its_domain rows whole name d one).0 ss begun 0 texts
        (all_filter (IsWholePlacedRow rows.next) (λ a. not (int_eq a.number d.number)) rows.sources whole.sources);
    places = places_now whole;
  })

  -- other rows: the steps set them and raise the epoch
  source_planned : RowsRead ss → HaveTexts ss → (state_at rows d.number).source ≢ ss → nat_of epoch ≡ nat_of d.epoch + 1 → nat_of epoch < 2 ^ 63 → Plans (source_steps d.number epoch ss) (within (source_set ss)) name rows
  source_planned reads texts differs rises low =
      planned rows name d one (source_set ss) are target (set_fits ss (state_at rows d.number) fits) (source_steps d.number epoch ss) epoch up (tt, (tt, allows_rows d.number ss begun 0 low_yet reads)) rewrote
      (inr (λ alike. differs alike.source, (rises, low))) (λ whole. whole_now whole (count_after epoch (nat_of d.epoch) rises low) texts)

  -- the rows that are there: nothing is done
  source_kept : (state_at rows d.number).source ≡ ss → Plans [] (within (source_set ss)) name rows
  source_kept same = unchanged rows name d one (source_set ss) are target (set_fits ss (state_at rows d.number) fits) (λ i. with_source (same i) (state_at rows d.number))

-- of a domain that was found
module _ (rows : Rows) (name : List ℕ) (found : FoundDomain) (there ss : List SourceRow) (are : AreNumbered rows) (up : IsKeyedBy number_of rows.domains) (is : IsDomain name rows found)
    (at : there ≡ (state_at rows found.number).source) (fits : nat_le (length ss) 4_096 ≡ true) where
  its_source : there ≡ (state_at rows is.row.number).source
  its_source = at ∙ ap (λ n. (state_at rows n).source) is.number

  pub plan_same : there ≡ ss → Plans [] (within (source_set ss)) name rows
  plan_same same = source_kept rows name is.row is.only up are is.row.epoch ss fits (sym its_source ∙ same)

  pub plan_new : (there ≡ ss → ⊥) → RowsRead ss → HaveTexts ss → (next : ℤ) → RaisesTo found.epoch (Ok next) → Plans (source_steps found.number next ss) (within (source_set ss)) name rows
  plan_new differs reads texts next raises =
      let r = raises (nat_of is.row.epoch) (is.epoch ∙ is.has_epoch) in
      let rises : nat_of next ≡ nat_of is.row.epoch + 1 = ap nat_of r.0 in
      subst (λ n. Plans (source_steps n next ss) (within (source_set ss)) name rows) (sym is.number)
      (source_planned rows name is.row is.only up are next ss fits reads texts (λ same. differs (its_source ∙ same)) rises (subst (λ k. k < 2 ^ 63) (sym rises) r.1))

-- too many rows
pub too_many : (rows : Rows) (name : List ℕ) (found : FoundDomain) (ss : List SourceRow) → IsDomain name rows found → nat_le (length ss) 4_096 ≡ false → within (source_set ss) (state_of name (kept_of rows)) ≡ Err Quota
too_many rows name found ss is over = refused rows name is.row is.only (source_set ss) Quota (set_refused ss (state_at rows is.row.number) over)

-- Where documents lead by the places that references stand for is where they lead by the references.
use Rattle.std.proofs.Common.{◌≡◌, ℕ, zero, suc, ◌+◌, Bool, true, false, ◌-◌, ◌<◌, ◌≤◌, ◌==◌, List, [], ◌∷◌, length, get_or, map, take, Option, Some, None, Result, Ok, Err, refl, sym, ap, subst, ◌∙◌, arith}
use Rattle.std.specs.Prelude.{◌||◌, option_map}
use Rattle.std.specs.List.{list_any}
use Rattle.std.proofs.lemmas.Bool.{true≢false}
use Rattle.std.proofs.lemmas.List.Folds.{list_any_more}
use Rattle.xa_value.specs.declared.or_memory.OrMemory.{OrMemory}
use Rattle.xa_value.specs.declared.or_memory.OrMemory.TheVariants.{Memory, Error}
use Rattle.xa_policy.specs.declared.reference.Reference.{Reference}
use Rattle.xa_policy.specs.Policy.{PolicyParts, SetParts}
use Rattle.xa_notation.specs.declared.document.Document.{Document}
use Rattle.xa_notation.specs.declared.document.Document.TheFolds.{fold-roll-Document, map-Document, ind-Document}
use Rattle.xa_notation.specs.declared.document.Document.TheOpen.{Document-F}
use Rattle.xa_notation.specs.declared.document.Parsed.{Parsed}
use Rattle.xa_shelf.specs.Allowance.{Allowance, IsBeyond}
use Rattle.xa_link.specs.declared.active.Active.{Active}
use Rattle.xa_link.specs.declared.placed.Placed.{Placed}
use Rattle.xa_link.specs.declared.placed.Placed.TheFolds.{fold-roll-Placed}
use Rattle.xa_link.specs.declared.placed.Placed.TheOpen.{Placed-F}
use Rattle.xa_link.specs.declared.placed.Placed.TheVariants as part
use Rattle.xa_link.specs.Linking.{document_at, unless_circular}
use Rattle.xa_link.specs.placing.Placed.{placed, placed_at, placed_step}
use Rattle.xa_link.specs.placing.Progress.{Progress, Reads, Refuses, is_read, led_at, led_from, led_from_all, led_to_within, some_place, some_place_step}
use Rattle.xa_link.specs.Reading.{OnceAnswered, bytes_at, is_at_or_below, leads_to, leads_within, reading, some_reference, some_reference_in, some_step}
use Rattle.xa_link.specs.Resolution.{resolve}
use Rattle.xa_link.proofs.ReadingLemmas.{bytes_of_none, bytes_same, or_false}

-- ---- documents with places

any_map : {X : Type 0} (f : X → Bool) (xs : List X) → list_any (λ b. b) (map f xs) ≡ list_any f xs
any_map f [] = refl
any_map f (x ∷ xs) = ap (λ b. f x || b) (any_map f xs)

pub some_policy : (test : Option ℕ → Bool) (policy : PolicyParts) → some_place test (part.Policy policy) ≡ false
some_policy test policy = ap (some_place test) (sym (part.rolls-Policy policy)) ∙ fold-roll-Placed Bool (some_place_step test) (Placed-F.Policy policy)

pub some_set : (test : Option ℕ → Bool) (set : SetParts) (children : List Placed) → some_place test (part.PolicySet set children) ≡ list_any (some_place test) children
some_set test set children =
    ap (some_place test) (sym (part.rolls-PolicySet set children)) ∙ fold-roll-Placed Bool (some_place_step test) (Placed-F.PolicySet set children)
    ∙ any_map (some_place test) children

pub some_of_reference : (test : Option ℕ → Bool) (place : Option ℕ) → some_place test (part.Reference place) ≡ test place
some_of_reference test place = ap (some_place test) (sym (part.rolls-Reference place)) ∙ fold-roll-Placed Bool (some_place_step test) (Placed-F.Reference place)

module _ (below : Option ℕ → Bool) (place_of : Reference → Option ℕ) (test : Reference → Bool) (same : (r : Reference) → test r ≡ below (place_of r)) where
  abbrev IsAlike : Document → Type 0
  IsAlike d = some_place below (placed place_of d) ≡ some_reference test d

  children_alike : (ds : List ((d : Document) × IsAlike d))
      → list_any (some_place below) (map (placed place_of) (map (λ e. e.0) ds)) ≡ list_any (λ b. b) (map (some_reference test) (map (λ e. e.0) ds))
  children_alike [] = refl
  children_alike (d ∷ ds) =
      ap (λ b. b || list_any (some_place below) (map (placed place_of) (map (λ e. e.0) ds))) d.1
      ∙ ap (λ b. some_reference test d.0 || b) (children_alike ds)

  layer_alike : (y : Document-F ((d : Document) × IsAlike d))
      → some_place below (placed_step place_of (map-Document Document Placed (placed place_of) (map-Document ((d : Document) × IsAlike d) Document (λ e. e.0) y)))
      ≡ some_step test (map-Document Document Bool (some_reference test) (map-Document ((d : Document) × IsAlike d) Document (λ e. e.0) y))
  layer_alike (Document-F.Policy policy) = some_policy below policy
  layer_alike (Document-F.PolicySet set ds) = some_set below set (map (placed place_of) (map (λ e. e.0) ds)) ∙ children_alike ds
  layer_alike (Document-F.Reference reference) = some_of_reference below (place_of reference) ∙ sym (same reference)

  pub some_is : (d : Document) → some_place below (placed place_of d) ≡ some_reference test d
  some_is = ind-Document IsAlike (λ x y is.
      let here = subst (λ z. some_place below (placed_step place_of (map-Document Document Placed (placed place_of) z)) ≡ some_step test (map-Document Document Bool (some_reference test) z)) is (layer_alike y) in
      ap (some_place below) (fold-roll-Document Placed (placed_step place_of) x) ∙ here ∙ sym (fold-roll-Document Bool (some_step test) x))

-- ---- what references lead to

pub leads_is : (more : ℕ) (active : List Active) (path : List ℕ) (reference : Reference) (place : ℕ)
    → leads_within more active path reference place ≡ led_to_within more active path (resolve active reference) place
unfolding leads_within
leads_is zero active path reference place = refl
leads_is (suc more) active path reference place = refl

-- the document that was found leads where the text at its place does
pub led_document : (more : ℕ) (active : List Active) (next : ℕ) (path : List ℕ) (document : Placed) (place : ℕ) → placed_at active next ≡ Some document
    → ((place == next) || led_from more active (next ∷ path) document place) ≡ led_at more active path next place
led_document more active next path document place is = by_found (document_at active next) refl
  where
    by_found : (o : Option Parsed) → document_at active next ≡ o → ((place == next) || led_from more active (next ∷ path) document place) ≡ led_at more active path next place
    by_found None at = absurd (let f : None ≡ Some document = sym (ap (λ o. option_map (λ (p : Parsed). placed (resolve active) p.document) o) at) ∙ is in cc)
    by_found (Some parsed) at =
        let there : Some (placed (resolve active) parsed.document) ≡ Some document = sym (ap (λ o. option_map (λ (p : Parsed). placed (resolve active) p.document) o) at) ∙ is in
        let same : placed (resolve active) parsed.document ≡ document = cc in
        ap (λ d. (place == next) || led_from more active (next ∷ path) d place) (sym same)
        ∙ ap (λ b. (place == next) || b)
        (some_is (λ o. led_to_within more active (next ∷ path) o place) (resolve active) (λ inner. leads_within more active (next ∷ path) inner place)
        (λ inner. leads_is more active (next ∷ path) inner place) parsed.document)
        ∙ sym (ap (λ o. (place == next) || some_reference_in (λ inner. leads_within more active (next ∷ path) inner place) o) at)

pub led_here : (more : ℕ) (active : List Active) (next : ℕ) (path : List ℕ) (place : ℕ) → (place == next) ≡ true → led_at more active path next place ≡ true
led_here more active next path place is = ap (λ b. b || some_reference_in (λ inner. leads_within more active (next ∷ path) inner place) (document_at active next)) is

-- where nothing was found, nothing is led to but the place
pub led_nowhere : (more : ℕ) (active : List Active) (next : ℕ) (path : List ℕ) (place : ℕ) → placed_at active next ≡ None → (place == next) ≡ led_at more active path next place
led_nowhere more active next path place is = by_found (document_at active next) refl
  where
    by_found : (o : Option Parsed) → document_at active next ≡ o → (place == next) ≡ led_at more active path next place
    by_found None at =
        sym (or_false (place == next)) ∙ sym (ap (λ o. (place == next) || some_reference_in (λ inner. leads_within more active (next ∷ path) inner place) o) at)
    by_found (Some parsed) at = absurd (let f : Some (placed (resolve active) parsed.document) ≡ None = sym (ap (λ o. option_map (λ (p : Parsed). placed (resolve active) p.document) o) at) ∙ is in cc)

-- a reference leads where the document at its place does
pub led_further : (more : ℕ) (active : List Active) (path : List ℕ) (next : Option ℕ) (found place : ℕ) → 1 ≤ more → unless_circular path next ≡ Some found
    → led_at (more - 1) active path found place ≡ led_to_within more active path next place
led_further zero active path next found place more is = absurd (omega (arith, more))
led_further (suc more) active path next found place is_more is =
    let less : suc more - 1 ≡ more = omega arith in
    ap (λ m. led_at m active path found place) less
    ∙ sym (ap (λ o. is_at_or_below (λ n inner. leads_within more active (n ∷ path) inner place) active o place) is)

-- or nowhere
pub led_no_further : (more : ℕ) (active : List Active) (path : List ℕ) (next : Option ℕ) (place : ℕ) → more ≡ 0 → led_to_within more active path next place ≡ false
led_no_further more active path next place end = ap (λ m. led_to_within m active path next place) end

pub led_circular : (more : ℕ) (active : List Active) (path : List ℕ) (next : Option ℕ) (place : ℕ) → unless_circular path next ≡ None → led_to_within more active path next place ≡ false
led_circular zero active path next place none = refl
led_circular (suc more) active path next place none =
    ap (λ o. is_at_or_below (λ n inner. leads_within more active (n ∷ path) inner place) active o place) none

-- ---- the parts of a document

module _ (more : ℕ) (active : List Active) (path : List ℕ) (place : ℕ) where
  pub led_policy : (d : Placed) (policy : PolicyParts) → d ≡ part.Policy policy → led_from more active path d place ≡ false
  led_policy d policy is =
      ap (λ e. led_from more active path e place) is ∙ some_policy (λ next. led_to_within more active path next place) policy

  pub led_set : (d : Placed) (set : SetParts) (children : List Placed) → d ≡ part.PolicySet set children
      → led_from_all more active path children place ≡ led_from more active path d place
  led_set d set children is =
      sym (ap (λ e. led_from more active path e place) is ∙ some_set (λ next. led_to_within more active path next place) set children)

  pub led_reference : (d : Placed) (next : Option ℕ) → d ≡ part.Reference next → led_to_within more active path next place ≡ led_from more active path d place
  led_reference d next is =
      sym (ap (λ e. led_from more active path e place) is ∙ some_of_reference (λ n. led_to_within more active path n place) next)

pub unread_no_further : (more : ℕ) (active : List Active) (path : List ℕ) (next : Option ℕ) (d : Placed) (place : ℕ) → d ≡ part.Reference next → more ≡ 0
    → led_from more active path d place ≡ false
unread_no_further more active path next d place is end = sym (led_reference more active path place d next is) ∙ led_no_further more active path next place end

pub unread_nowhere : (more : ℕ) (active : List Active) (path : List ℕ) (next : Option ℕ) (d : Placed) (place : ℕ) → d ≡ part.Reference next
    → unless_circular path next ≡ None → led_from more active path d place ≡ false
unread_nowhere more active path next d place is none = sym (led_reference more active path place d next is) ∙ led_circular more active path next place none

-- ---- one child after another

module _ (more : ℕ) (active : List Active) (path : List ℕ) (children : List Placed) (i : ℕ) where
  pub led_one_more : (child : Placed) (place : ℕ) → i < length children → child ≡ get_or children i child
      → (led_from_all more active path (take i children) place || led_from more active path child place) ≡ led_from_all more active path (take (i + 1) children) place
  led_one_more child place there is =
      ap (λ d. led_from_all more active path (take i children) place || led_from more active path d place) is
      ∙ sym (list_any_more (λ d. led_from more active path d place) children i child there)

pub any_taken : {X : Type 0} (f : X → Bool) (n : ℕ) (xs : List X) → list_any f (take n xs) ≡ true → list_any f xs ≡ true
any_taken f zero xs e = absurd (true≢false (sym e))
any_taken f (suc n) [] e = e
any_taken f (suc n) (x ∷ xs) e = by_test (f x) refl (any_taken f n xs)
  where
    by_test : (b : Bool) → f x ≡ b → (list_any f (take n xs) ≡ true → list_any f xs ≡ true) → list_any f (x ∷ xs) ≡ true
    by_test true is rest = ap (λ b. b || list_any f xs) is
    by_test false is rest = ap (λ b. b || list_any f xs) is ∙ rest (sym (ap (λ b. b || list_any f (take n xs)) is) ∙ e)

pub led_taken : (more : ℕ) (active : List Active) (path : List ℕ) (children : List Placed) (n : ℕ) (place : ℕ)
    → led_from_all more active path (take n children) place ≡ true → led_from_all more active path children place ≡ true
led_taken more active path children n place = any_taken (λ d. led_from more active path d place) n children

-- ---- from the root

module _ (active : List Active) (root : Reference) (wanted : ℕ → Bool) (led : (place : ℕ) → wanted place ≡ led_to_within 17 active [] (resolve active root) place)
    (start : Progress) (before after : Allowance) (is : start ≡ record { active = active; read = [] }) where
  none_read : bytes_at (is_read start.read) start.active ≡ 0
  none_read = ap (λ (p : Progress). bytes_at (is_read p.read) p.active) is ∙ bytes_of_none (is_read []) active (λ place. refl)

  all_read : (place : ℕ) → (is_read start.read place || wanted place) ≡ leads_to active root place
  all_read place = ap (λ (p : Progress). is_read p.read place || wanted place) is ∙ led place ∙ sym (leads_is 17 active [] root place)

  -- an answer took as many bytes as are read for the tree
  pub reading_is : (new : Progress) → new.active ≡ start.active → Reads wanted start new before after → before.left ≡ after.left + reading active root
  unfolding reading
  reading_is new same reads =
      let whole : bytes_at (is_read new.read) new.active ≡ bytes_at (leads_to active root) active =
      ap (bytes_at (is_read new.read)) (same ∙ ap (λ (p : Progress). p.active) is)
      ∙ bytes_same (is_read new.read) (leads_to active root) active (λ place. reads.places place ∙ all_read place) in
      let bytes : after.left + bytes_at (is_read new.read) new.active ≡ before.left + bytes_at (is_read start.read) start.active = reads.bytes in
      omega (arith, whole, bytes, none_read)

  -- where more were asked for than were left, there are more
  pub reading_is_more : Refuses wanted start before after → before.is_spent ≡ false → after.is_spent ≡ true → IsBeyond before (reading active root)
  unfolding reading
  reading_is_more refuses not_before spent =
      let whole : bytes_at (λ place. is_read start.read place || wanted place) start.active ≡ bytes_at (leads_to active root) active =
      ap (λ (p : Progress). bytes_at (λ place. is_read start.read place || wanted place) p.active) is
      ∙ bytes_same (λ place. is_read start.read place || wanted place) (leads_to active root) active all_read in
      let less : before.left + bytes_at (is_read start.read) start.active < bytes_at (λ place. is_read start.read place || wanted place) start.active =
      refuses.short not_before spent in
      (refuses.by_limit not_before spent, omega (arith, whole, less, none_read))

  -- and there are no more than were left
  pub reading_within : (new : Progress) → new.active ≡ start.active → Reads wanted start new before after → reading active root ≤ before.left
  reading_within new same reads = let whole : before.left ≡ after.left + reading active root = reading_is new same reads in omega (arith, whole)

-- ---- an answer or none

module _ {X E : Type 0} (P : Type 0) where
  pub answered_so : (r : Result X (OrMemory E)) → P → OnceAnswered r P
  answered_so (Ok x) holds = holds
  answered_so (Err Memory) holds = tt
  answered_so (Err (Error e)) holds = holds

  pub unanswered_so : (r : Result X (OrMemory E)) → r ≡ Err Memory → OnceAnswered r P
  unanswered_so r is = subst (λ s. OnceAnswered s P) (sym is) tt

-- What is read round by round, and the documents of a round.
use Rattle.std.proofs.Common.{◌≡◌, ◌⊎◌, inl, inr, ℕ, suc, ◌+◌, ◌<◌, ◌≤◌, ◌-◌, Bool, true, false, ◌==◌, List, [], ◌∷◌, ◌++◌, length, get_or, take, Option, Some, None, refl, sym, ap, ◌∙◌, arith}
use Rattle.std.specs.Prelude.{◌||◌, option_map}
use Rattle.std.proofs.lemmas.Bool.{eq-eqb, eqb-true, or_cases, or_left, or_right, true≢false}
use Rattle.std.proofs.lemmas.List.Folds.{list_any-append, list_any_more}
use Rattle.xa_policy.specs.Policy.{SetParts}
use Rattle.xa_notation.specs.declared.document.Parsed.{Parsed}
use Rattle.xa_shelf.specs.Allowance.{Allowance}
use Rattle.xa_link.specs.declared.active.Active.{Active}
use Rattle.xa_link.specs.declared.placed.Placed.{Placed}
use Rattle.xa_link.specs.declared.placed.Placed.TheVariants as part
use Rattle.xa_link.specs.Linking.{document_at}
use Rattle.xa_link.specs.placing.Placed.{placed, placed_at}
use Rattle.xa_link.specs.placing.Progress.{Progress, Reads, Refuses, is_read}
use Rattle.xa_link.specs.placing.Reach.{Gathers, IsNamed, named_at, named_by, named_if, some_named_by, stands_at}
use Rattle.xa_link.specs.Reading.{some_reference_in}
use Rattle.xa_link.specs.Resolution.{resolve}
use Rattle.xa_link.proofs.LedLemmas.{any_taken, some_is, some_of_reference, some_set}
use Rattle.xa_link.proofs.ReachLemmas.{led, led_first, led_last, led_more, led_on, led_root, led_up}
use Rattle.xa_link.proofs.ReadingLemmas.{or_false, reads_same, reads_then, refuses_then, refuses_up}

bool_same : (a b : Bool) → (a ≡ true → b ≡ true) → (b ≡ true → a ≡ true) → a ≡ b
bool_same true b up down = sym (up refl)
bool_same false true up down = down refl
bool_same false false up down = refl

-- ---- documents that were gathered

pub gathers_none : (now : Progress) (documents : List Placed) → Gathers now now documents documents
gathers_none now documents = record { stays = λ place e. e; were_read = λ place e. inl e; all = λ from place is on. inl is }

pub gathers_then : (old mid new : Progress) (a b c : List Placed) → ((place : ℕ) → is_read mid.read place ≡ true → is_read new.read place ≡ true) → new.active ≡ mid.active
    → Gathers old mid a b → Gathers mid new b c → Gathers old new a c
gathers_then old mid new a b c kept same first second =
    record {
      stays = λ place e. second.stays place (first.stays place e);
      were_read = λ place e. by_second place (second.were_read place e);
      all = λ from place is on. by_new from place on (second.all from place is on);
    }
  where
    by_first : (place : ℕ) → (some_named_by a place ≡ true) ⊎ IsNamed mid place → (some_named_by a place ≡ true) ⊎ IsNamed new place
    by_first place (inl is) = inl is
    by_first place (inr named) = inr (named.0, kept named.0 named.1, ap (λ active. named_at active named.0 place) same ∙ named.2)

    by_second : (place : ℕ) → (some_named_by b place ≡ true) ⊎ IsNamed new place → (some_named_by a place ≡ true) ⊎ IsNamed new place
    by_second place (inl is) = by_first place (first.were_read place is)
    by_second place (inr named) = inr named

    by_mid : (from place : ℕ) → (is_read old.read from ≡ true) ⊎ (some_named_by b place ≡ true) → (is_read old.read from ≡ true) ⊎ (some_named_by c place ≡ true)
    by_mid from place (inl was) = inl was
    by_mid from place (inr is) = inr (second.stays place is)

    by_new : (from place : ℕ) → named_at new.active from place ≡ true → (is_read mid.read from ≡ true) ⊎ (some_named_by c place ≡ true)
        → (is_read old.read from ≡ true) ⊎ (some_named_by c place ≡ true)
    by_new from place on (inl was) = by_mid from place (first.all from place was (sym (ap (λ active. named_at active from place) same) ∙ on))
    by_new from place on (inr is) = inr is

-- one document more was read
module _ (old new : Progress) (place : ℕ) (read : (other : ℕ) → is_read new.read other ≡ (is_read old.read other || (other == place))) where
  by_place : (other : ℕ) → is_read new.read other ≡ true → (is_read old.read other ≡ true) ⊎ ((other == place) ≡ true)
  by_place other is = or_cases (is_read old.read other) (other == place) (sym (read other) ∙ is)

  -- none is there
  pub gathers_nothing : (documents : List Placed) → placed_at new.active place ≡ None → Gathers old new documents documents
  gathers_nothing documents nothing = record { stays = λ at e. e; were_read = λ at e. inl e; all = λ from at is on. by_from from at on (by_place from is) }
    where
      by_from : (from at : ℕ) → named_at new.active from at ≡ true → (is_read old.read from ≡ true) ⊎ ((from == place) ≡ true)
          → (is_read old.read from ≡ true) ⊎ (some_named_by documents at ≡ true)
      by_from from at on (inl was) = inl was
      by_from from at on (inr same) =
          absurd (true≢false (sym on ∙ ap (λ p. named_at new.active p at) (eqb-true from place same) ∙ ap (λ o. named_if o at) nothing))

  -- it came to the end
  pub gathers_one : (documents after : List Placed) (document : Placed) → placed_at new.active place ≡ Some document → after ≡ documents ++ document ∷ []
      → Gathers old new documents after
  gathers_one documents after document there is =
      record {
        stays = λ at e. named at ∙ or_left (some_named_by documents at) (some_named_by (document ∷ []) at) e;
        were_read = λ at e. by_list at (or_cases (some_named_by documents at) (some_named_by (document ∷ []) at) (sym (named at) ∙ e));
        all = λ from at is on. by_from from at on (by_place from is);
      }
    where
      named : (at : ℕ) → some_named_by after at ≡ (some_named_by documents at || some_named_by (document ∷ []) at)
      named at = ap (λ ds. some_named_by ds at) is ∙ list_any-append (λ d. named_by d at) documents (document ∷ [])

      by_list : (at : ℕ) → (some_named_by documents at ≡ true) ⊎ (some_named_by (document ∷ []) at ≡ true) → (some_named_by documents at ≡ true) ⊎ IsNamed new at
      by_list at (inl before) = inl before
      by_list at (inr here) =
          inr (
            place,
            read place ∙ or_right (is_read old.read place) (place == place) (eq-eqb place place refl),
            ap (λ o. named_if o at) there ∙ sym (or_false (named_by document at)) ∙ here,
          )

      by_from : (from at : ℕ) → named_at new.active from at ≡ true → (is_read old.read from ≡ true) ⊎ ((from == place) ≡ true)
          → (is_read old.read from ≡ true) ⊎ (some_named_by after at ≡ true)
      by_from from at on (inl was) = inl was
      by_from from at on (inr same) =
          inr (named at ∙ or_right (some_named_by documents at) (some_named_by (document ∷ []) at)
          (or_left (named_by document at) false
          (sym (ap (λ p. named_at new.active p at) (eqb-true from place same) ∙ ap (λ o. named_if o at) there) ∙ on)))

-- ---- one document after another

-- a policy set names what its children do
pub named_set : (d : Placed) (set : SetParts) (children : List Placed) → d ≡ part.PolicySet set children → (place : ℕ) → some_named_by children place ≡ named_by d place
named_set d set children is place = sym (ap (λ e. named_by e place) is ∙ some_set (λ next. stands_at next place) set children)

module _ (documents : List Placed) (i : ℕ) (document : Placed) (there : i < length documents) (is : document ≡ get_or documents i document)
    (start mid : Progress) (before between : Allowance) (first : Reads (some_named_by (take i documents)) start mid before between) where
  one_more : (place : ℕ) → (some_named_by (take i documents) place || named_by document place) ≡ some_named_by (take (i + 1) documents) place
  one_more place =
      ap (λ d. some_named_by (take i documents) place || named_by d place) is ∙ sym (list_any_more (λ d. named_by d place) documents i document there)

  pub reads_one_more : (new : Progress) (after : Allowance) → Reads (named_by document) mid new between after
      → Reads (some_named_by (take (i + 1) documents)) start new before after
  reads_one_more new after second =
      reads_then (some_named_by (take i documents)) (named_by document) (some_named_by (take (i + 1) documents)) start mid new before between after first second one_more

  pub refuses_one_more : (after : Allowance) → mid.active ≡ start.active → Refuses (named_by document) mid between after → Refuses (some_named_by documents) start before after
  refuses_one_more after same second =
      refuses_up (some_named_by (take (i + 1) documents)) (some_named_by documents) start before after
      (refuses_then (some_named_by (take i documents)) (named_by document) (some_named_by (take (i + 1) documents)) start mid before between after first second same one_more)
      (λ place. any_taken (λ d. named_by d place) (i + 1) documents)

pub kept_reads : (wanted : ℕ → Bool) (old new : Progress) (before after : Allowance) → Reads wanted old new before after
    → (place : ℕ) → is_read old.read place ≡ true → is_read new.read place ≡ true
kept_reads wanted old new before after reads place was = reads.places place ∙ or_left (is_read old.read place) (wanted place) was

-- ---- rounds

named_is : (active : List Active) (from place : ℕ)
    → named_at active from place ≡ some_reference_in (λ r. stands_at (resolve active r) place) (document_at active from)
named_is active from place = by_found (document_at active from) refl
  where
    by_found : (o : Option Parsed) → document_at active from ≡ o
        → named_at active from place ≡ some_reference_in (λ r. stands_at (resolve active r) place) (document_at active from)
    by_found None at =
        ap (λ o. named_if (option_map (λ (p : Parsed). placed (resolve active) p.document) o) place) at
        ∙ sym (ap (some_reference_in (λ r. stands_at (resolve active r) place)) at)
    by_found (Some parsed) at =
        ap (λ o. named_if (option_map (λ (p : Parsed). placed (resolve active) p.document) o) place) at
        ∙ some_is (λ next. stands_at next place) (resolve active) (λ r. stands_at (resolve active r) place) (λ r. refl) parsed.document
        ∙ sym (ap (some_reference_in (λ r. stands_at (resolve active r) place)) at)

-- what is read before a round, and behind it
module _ (active : List Active) (root n : ℕ) (old new : Progress) (documents found : List Placed) (same : new.active ≡ active)
    (were : (place : ℕ) → is_read old.read place ≡ led active root n place)
    (next : (place : ℕ) → (is_read old.read place || some_named_by documents place) ≡ led active root (suc n) place)
    (reads : (place : ℕ) → is_read new.read place ≡ (is_read old.read place || some_named_by documents place)) (gathers : Gathers old new [] found) where
  on_is : (from place : ℕ) → named_at new.active from place ≡ some_reference_in (λ r. stands_at (resolve active r) place) (document_at active from)
  on_is from place = ap (λ a. named_at a from place) same ∙ named_is active from place

  now_read : (place : ℕ) → is_read new.read place ≡ led active root (suc n) place
  now_read place = reads place ∙ next place

  pub next_round : (place : ℕ) → (is_read new.read place || some_named_by found place) ≡ led active root (suc (suc n)) place
  next_round place = bool_same (is_read new.read place || some_named_by found place) (led active root (suc (suc n)) place) up down
    where
      by_named : (some_named_by [] place ≡ true) ⊎ IsNamed new place → led active root (suc (suc n)) place ≡ true
      by_named (inl none) = absurd (true≢false (sym none))
      by_named (inr named) = led_on active root (suc n) named.0 place (sym (now_read named.0) ∙ named.1) (sym (on_is named.0 place) ∙ named.2)

      by_read : (is_read new.read place ≡ true) ⊎ (some_named_by found place ≡ true) → led active root (suc (suc n)) place ≡ true
      by_read (inl is) = led_more active root (suc n) place (sym (now_read place) ∙ is)
      by_read (inr is) = by_named (gathers.were_read place is)

      up : (is_read new.read place || some_named_by found place) ≡ true → led active root (suc (suc n)) place ≡ true
      up e = by_read (or_cases (is_read new.read place) (some_named_by found place) e)

      by_all : (from : ℕ) → some_reference_in (λ r. stands_at (resolve active r) place) (document_at active from) ≡ true
          → (is_read old.read from ≡ true) ⊎ (some_named_by found place ≡ true) → (is_read new.read place || some_named_by found place) ≡ true
      by_all from on (inl was) =
          or_left (is_read new.read place) (some_named_by found place) (now_read place ∙ led_on active root n from place (sym (were from) ∙ was) on)
      by_all from on (inr is) = or_right (is_read new.read place) (some_named_by found place) is

      by_last : ((place == root) ≡ true) ⊎ ((from : ℕ) × (led active root (suc n) from ≡ true)
          × (some_reference_in (λ r. stands_at (resolve active r) place) (document_at active from) ≡ true))
          → (is_read new.read place || some_named_by found place) ≡ true
      by_last (inl is) = or_left (is_read new.read place) (some_named_by found place) (now_read place ∙ led_root active root n place is)
      by_last (inr step) = by_all step.0 step.2 (gathers.all step.0 place (now_read step.0 ∙ step.1) (on_is step.0 place ∙ step.2))

      down : led active root (suc (suc n)) place ≡ true → (is_read new.read place || some_named_by found place) ≡ true
      down e = by_last (led_last active root (suc n) place e)

-- the first document
module _ (active : List Active) (root : ℕ) (start new : Progress) (before after : Allowance) (none : start.read ≡ []) where
  by_root : (place : ℕ) → some_named_by (part.Reference (Some root) ∷ []) place ≡ (place == root)
  by_root place = or_false (named_by (part.Reference (Some root)) place) ∙ some_of_reference (λ next. stands_at next place) (Some root)

  pub first_reads : Reads (λ other. other == root) start new before after → Reads (led active root 1) start new before after
  first_reads reads = reads_same (λ other. other == root) (led active root 1) start new before after reads (λ place. sym (led_first active root place))

  pub first_refuses : Refuses (λ other. other == root) start before after → Refuses (led active root 17) start before after
  first_refuses refuses = refuses_up (λ other. other == root) (led active root 17) start before after refuses (led_root active root 16)

  pub first_round : (found : List Placed) → new.active ≡ active → Reads (λ other. other == root) start new before after → Gathers start new [] found
      → (place : ℕ) → (is_read new.read place || some_named_by found place) ≡ led active root 2 place
  first_round found same reads gathers =
      next_round active root 0 start new (part.Reference (Some root) ∷ []) found same
      (λ place. ap (λ r. is_read r place) none)
      (λ place. ap (λ r. is_read r place || some_named_by (part.Reference (Some root) ∷ []) place) none ∙ by_root place ∙ sym (led_first active root place))
      (λ place. reads.places place ∙ ap (λ b. is_read start.read place || b) (sym (by_root place))) gathers

-- ---- so many rounds

module _ (active : List Active) (root n : ℕ) (start old new : Progress) (before between after : Allowance) (documents : List Placed)
    (none : start.read ≡ []) (whole : Reads (led active root n) start old before between)
    (next : (place : ℕ) → (is_read old.read place || some_named_by documents place) ≡ led active root (suc n) place) where
  pub were_led : (place : ℕ) → is_read old.read place ≡ led active root n place
  were_led place = whole.places place ∙ ap (λ r. is_read r place || led active root n place) none

  both : (place : ℕ) → (led active root n place || some_named_by documents place) ≡ led active root (suc n) place
  both place = ap (λ b. b || some_named_by documents place) (sym (were_led place)) ∙ next place

  pub reads_round : Reads (some_named_by documents) old new between after → Reads (led active root (suc n)) start new before after
  reads_round reads = reads_then (led active root n) (some_named_by documents) (led active root (suc n)) start old new before between after whole reads both

  pub refuses_round : old.active ≡ start.active → suc n ≤ 17 → Refuses (some_named_by documents) old between after → Refuses (led active root 17) start before after
  refuses_round same within refuses =
      refuses_up (led active root (suc n)) (led active root 17) start before after
      (refuses_then (led active root n) (some_named_by documents) (led active root (suc n)) start old before between after whole refuses same both)
      (λ place is. led_up active root (17 - suc n) (suc n) 17 place (let steps : 17 ≡ (17 - suc n) + suc n = omega (arith, within) in steps) is)

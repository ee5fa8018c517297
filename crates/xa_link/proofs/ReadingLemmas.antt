-- How many bytes are at places, and what is read one document after another.
use Rattle.std.proofs.Common.{◌≡◌, ℕ, zero, suc, ◌+◌, ◌-◌, ◌<◌, ◌≤◌, Bool, true, false, ◌==◌, List, [], ◌∷◌, length, Option, Ok, Err, refl, sym, ap, subst, ◌∙◌, arith}
use Rattle.std.specs.Prelude.{◌||◌, if◌then◌else◌, nat_le, Result}
use Rattle.std.proofs.Math.Dec.{eqb-suc-suc, eqb-suc-zero, eqb-zero-suc}
use Rattle.std.proofs.lemmas.Bool.{eqb-true, le-leb, leb-false, leb-true, true≢false}
use Rattle.xa_shelf.specs.Allowance.{Allowance, asked}
use Rattle.xa_link.specs.declared.active.Active.{Active}
use Rattle.xa_link.specs.declared.placed.Placed.{Placed}
use Rattle.xa_link.specs.declared.resolved.Finding.{Finding}
use Rattle.xa_link.specs.declared.resolved.Finding.TheVariants.{NotLooked, Looked}
use Rattle.xa_link.specs.placing.Placed.{HasPlaced, held}
use Rattle.xa_link.specs.placing.Progress.{Counted, Progress, Reads, Refuses, allowed, is_looked, is_read, length_at, marks}
use Rattle.xa_link.specs.Reading.{bytes_at}

-- ---- tests

pub or_false : (a : Bool) → (a || false) ≡ a
or_false true = refl
or_false false = refl

or_assoc : (a b c : Bool) → ((a || b) || c) ≡ (a || (b || c))
or_assoc true b c = refl
or_assoc false b c = refl

or_up : (a b c : Bool) → (b ≡ true → c ≡ true) → (a || b) ≡ true → (a || c) ≡ true
or_up true b c up e = refl
or_up false b c up e = up e

-- ---- bytes

pub bytes_same : (f g : ℕ → Bool) (active : List Active) → ((place : ℕ) → f place ≡ g place) → bytes_at f active ≡ bytes_at g active
bytes_same f g [] same = refl
bytes_same f g (a ∷ rest) same =
    ap (λ b. (if b then length a.text else 0) + bytes_at (λ place. f (suc place)) rest) (same 0)
    ∙ ap (λ n. (if g 0 then length a.text else 0) + n) (bytes_same (λ place. f (suc place)) (λ place. g (suc place)) rest (λ place. same (suc place)))

one_up : (b c : Bool) (n : ℕ) → (b ≡ true → c ≡ true) → (if b then n else 0) ≤ (if c then n else 0)
one_up false c n up = omega arith
one_up true true n up = omega arith
one_up true false n up = absurd (true≢false (sym (up refl)))

pub bytes_up : (f g : ℕ → Bool) (active : List Active) → ((place : ℕ) → f place ≡ true → g place ≡ true) → bytes_at f active ≤ bytes_at g active
bytes_up f g [] up = omega arith
bytes_up f g (a ∷ rest) up =
    let first : (if f 0 then length a.text else 0) ≤ (if g 0 then length a.text else 0) = one_up (f 0) (g 0) (length a.text) (up 0) in
    let others : bytes_at (λ place. f (suc place)) rest ≤ bytes_at (λ place. g (suc place)) rest =
    bytes_up (λ place. f (suc place)) (λ place. g (suc place)) rest (λ place. up (suc place)) in
    omega (arith, first, others)

pub bytes_of_none : (f : ℕ → Bool) (active : List Active) → ((place : ℕ) → f place ≡ false) → bytes_at f active ≡ 0
bytes_of_none f [] none = refl
bytes_of_none f (a ∷ rest) none =
    let first : (if f 0 then length a.text else 0) ≡ 0 = ap (λ b. if b then length a.text else 0) (none 0) in
    let others : bytes_at (λ place. f (suc place)) rest ≡ 0 = bytes_of_none (λ place. f (suc place)) rest (λ place. none (suc place)) in
    omega (arith, first, others)

-- one place more
pub bytes_put : (f : ℕ → Bool) (active : List Active) (place : ℕ) → f place ≡ false
    → bytes_at (λ other. f other || (other == place)) active ≡ bytes_at f active + length_at active place
bytes_put f [] place is = refl
bytes_put f (a ∷ rest) zero is =
    let first : (if f 0 || (0 == 0) then length a.text else 0) ≡ length a.text = ap (λ b. if b || (0 == 0) then length a.text else 0) is in
    let before : (if f 0 then length a.text else 0) ≡ 0 = ap (λ b. if b then length a.text else 0) is in
    let others : bytes_at (λ other. f (suc other) || (suc other == 0)) rest ≡ bytes_at (λ other. f (suc other)) rest =
    bytes_same (λ other. f (suc other) || (suc other == 0)) (λ other. f (suc other)) rest (λ other. ap (λ b. f (suc other) || b) (eqb-suc-zero other) ∙ or_false (f (suc other))) in
    omega (arith, first, before, others)
bytes_put f (a ∷ rest) (suc place) is =
    let first : (if f 0 || (0 == suc place) then length a.text else 0) ≡ (if f 0 then length a.text else 0) =
    ap (λ b. if f 0 || b then length a.text else 0) (eqb-zero-suc place) ∙ ap (λ b. if b then length a.text else 0) (or_false (f 0)) in
    let others : bytes_at (λ other. f (suc other) || (suc other == suc place)) rest ≡ bytes_at (λ other. f (suc other)) rest + length_at rest place =
    bytes_same (λ other. f (suc other) || (suc other == suc place)) (λ other. f (suc other) || (other == place)) rest (λ other. ap (λ b. f (suc other) || b) (eqb-suc-suc other place))
    ∙ bytes_put (λ other. f (suc other)) rest place is in
    omega (arith, first, others)

-- ---- one after another

-- where nothing is wanted, nothing is read
pub reads_none : (wanted : ℕ → Bool) (now : Progress) (reader : Allowance) → ((place : ℕ) → wanted place ≡ false) → Reads wanted now now reader reader
reads_none wanted now reader none =
    record { places = λ place. sym (ap (λ b. is_read now.read place || b) (none place) ∙ or_false (is_read now.read place)); bytes = refl; spent = refl; limited = refl }

pub reads_same : (f g : ℕ → Bool) (old new : Progress) (before after : Allowance) → Reads f old new before after → ((place : ℕ) → f place ≡ g place) → Reads g old new before after
reads_same f g old new before after reads same =
    record { places = λ place. reads.places place ∙ ap (λ b. is_read old.read place || b) (same place); bytes = reads.bytes; spent = reads.spent; limited = reads.limited }

pub reads_then : (f g h : ℕ → Bool) (old mid new : Progress) (before between after : Allowance) → Reads f old mid before between → Reads g mid new between after
    → ((place : ℕ) → (f place || g place) ≡ h place) → Reads h old new before after
reads_then f g h old mid new before between after first second both =
    record {
      places = λ place.
          second.places place ∙ ap (λ b. b || g place) (first.places place) ∙ or_assoc (is_read old.read place) (f place) (g place)
          ∙ ap (λ b. is_read old.read place || b) (both place);
      bytes = second.bytes ∙ first.bytes;
      spent = second.spent ∙ first.spent;
      limited = second.limited ∙ first.limited;
    }

-- where no more was asked for than was left
pub unspent_refuses : (wanted : ℕ → Bool) (old : Progress) (before after : Allowance) → after.is_spent ≡ before.is_spent → Refuses wanted old before after
unspent_refuses wanted old before after same =
    record {
      short = λ not_before spent. absurd (true≢false (sym spent ∙ same ∙ not_before));
      by_limit = λ not_before spent. absurd (true≢false (sym spent ∙ same ∙ not_before));
    }

pub refuses_up : (f g : ℕ → Bool) (old : Progress) (before after : Allowance) → Refuses f old before after → ((place : ℕ) → f place ≡ true → g place ≡ true)
    → Refuses g old before after
refuses_up f g old before after refuses up =
    record {
      short = λ not_before spent.
          let less : allowed old before < bytes_at (λ place. is_read old.read place || f place) old.active = refuses.short not_before spent in
          let more : bytes_at (λ place. is_read old.read place || f place) old.active ≤ bytes_at (λ place. is_read old.read place || g place) old.active =
          bytes_up (λ place. is_read old.read place || f place) (λ place. is_read old.read place || g place) old.active (λ place. or_up (is_read old.read place) (f place) (g place) (up place)) in
          omega (arith, less, more);
      by_limit = refuses.by_limit;
    }

pub refuses_then : (f g h : ℕ → Bool) (old mid : Progress) (before between after : Allowance) → Reads f old mid before between → Refuses g mid between after
    → mid.active ≡ old.active → ((place : ℕ) → (f place || g place) ≡ h place) → Refuses h old before after
refuses_then f g h old mid before between after first second same both =
    record {
      short = λ not_before spent.
          let less : allowed mid between < bytes_at (λ place. is_read mid.read place || g place) mid.active = second.short (first.spent ∙ not_before) spent in
          let whole : bytes_at (λ place. is_read mid.read place || g place) mid.active ≡ bytes_at (λ place. is_read old.read place || h place) old.active =
          ap (bytes_at (λ place. is_read mid.read place || g place)) same
          ∙ bytes_same (λ place. is_read mid.read place || g place) (λ place. is_read old.read place || h place) old.active (λ place.
          ap (λ b. b || g place) (first.places place) ∙ or_assoc (is_read old.read place) (f place) (g place) ∙ ap (λ b. is_read old.read place || b) (both place)) in
          let start : allowed mid between ≡ allowed old before = first.bytes in
          omega (arith, less, whole, start);
      by_limit = λ not_before spent. sym first.limited ∙ second.by_limit (first.spent ∙ not_before) spent;
    }

pub refuses_after : (f g : ℕ → Bool) (old new : Progress) (before after : Allowance) → Reads f old new before after → Refuses g old before after
refuses_after f g old new before after reads = unspent_refuses g old before after reads.spent

-- ---- with an answer or without

module _ {X E : Type 0} where
  pub counted_err : (wanted : ℕ → Bool) (old new : Progress) (before after : Allowance) (r : Result X E) (e : E) → r ≡ Err e → Refuses wanted old before after
      → Counted r wanted old new before after
  counted_err wanted old new before after r e is refuses = subst (λ s. Counted s wanted old new before after) (sym is) refuses

  pub counted_none : (wanted : ℕ → Bool) (now : Progress) (reader : Allowance) (r : Result X E) → ((place : ℕ) → wanted place ≡ false) → Counted r wanted now now reader reader
  counted_none wanted now reader (Ok x) none = reads_none wanted now reader none
  counted_none wanted now reader (Err e) none = unspent_refuses wanted now reader reader refl

  pub counted_same : (f g : ℕ → Bool) (old new : Progress) (before after : Allowance) (r : Result X E) → Counted r f old new before after
      → ((place : ℕ) → f place ≡ g place) → Counted r g old new before after
  counted_same f g old new before after (Ok x) counted same = reads_same f g old new before after counted same
  counted_same f g old new before after (Err e) counted same = refuses_up f g old before after counted (λ place is. sym (same place) ∙ is)

  pub counted_then : (f g h : ℕ → Bool) (old mid new : Progress) (before between after : Allowance) (r : Result X E) → Reads f old mid before between
      → mid.active ≡ old.active → Counted r g mid new between after → ((place : ℕ) → (f place || g place) ≡ h place) → Counted r h old new before after
  counted_then f g h old mid new before between after (Ok x) first same counted both = reads_then f g h old mid new before between after first counted both
  counted_then f g h old mid new before between after (Err e) first same counted both = refuses_then f g h old mid before between after first counted same both

-- ---- one document

asked_within : (bytes : ℕ) (before : Allowance) → bytes ≤ before.left → asked bytes before ≡ record before { left = before.left - bytes }
asked_within bytes before within =
    ap (λ b. if b then record before { left = before.left - bytes } else record before { left = 0; is_spent = before.is_limited || before.is_spent }) (le-leb bytes before.left within)

-- more were asked for than were left, which is told of a limit alone
asked_beyond : (bytes : ℕ) (before : Allowance) → nat_le bytes before.left ≡ false → before.is_spent ≡ false → (asked bytes before).is_spent ≡ before.is_limited
asked_beyond bytes before beyond not_before =
    ap (λ b. (if b then record before { left = before.left - bytes } else record before { left = 0; is_spent = before.is_limited || before.is_spent }).is_spent) beyond
    ∙ ap (λ b. before.is_limited || b) not_before ∙ or_false before.is_limited

-- it is wanted, and hasn't been read
module _ (old : Progress) (before after : Allowance) (place : ℕ) (unread : is_read old.read place ≡ false) (spends : after ≡ asked (length_at old.active place) before) where
  pub one_refused : Refuses (λ other. other == place) old before after
  one_refused = by_test (nat_le (length_at old.active place) before.left) refl
    where
      by_test : (b : Bool) → nat_le (length_at old.active place) before.left ≡ b → Refuses (λ other. other == place) old before after
      by_test true within =
          unspent_refuses (λ other. other == place) old before after (ap (λ (a : Allowance). a.is_spent) (spends ∙ asked_within (length_at old.active place) before (leb-true (length_at old.active place) before.left within)))
      by_test false beyond =
          record {
            short = λ not_before spent.
                let more : before.left < length_at old.active place = leb-false (length_at old.active place) before.left beyond in
                let whole : bytes_at (λ other. is_read old.read other || (other == place)) old.active ≡ bytes_at (is_read old.read) old.active + length_at old.active place =
                bytes_put (is_read old.read) old.active place unread in
                omega (arith, more, whole);
            by_limit = λ not_before spent.
                sym (asked_beyond (length_at old.active place) before beyond not_before) ∙ sym (ap (λ (a : Allowance). a.is_spent) spends) ∙ spent;
          }

  pub one_read : (new : Progress) → new.active ≡ old.active → ((other : ℕ) → is_read new.read other ≡ (is_read old.read other || (other == place)))
      → length_at old.active place ≤ before.left → Reads (λ other. other == place) old new before after
  one_read new same places within =
      record {
        places = places;
        bytes = left_and_read;
        spent = ap (λ (a : Allowance). a.is_spent) there;
        limited = ap (λ (a : Allowance). a.is_limited) there;
      }
    where
      there : after ≡ record before { left = before.left - length_at old.active place }
      there = spends ∙ asked_within (length_at old.active place) before within

      left_and_read : allowed new after ≡ allowed old before
      left_and_read =
          let left : after.left ≡ before.left - length_at old.active place = ap (λ (a : Allowance). a.left) there in
          let whole : bytes_at (is_read new.read) new.active ≡ bytes_at (is_read old.read) old.active + length_at old.active place =
          ap (bytes_at (is_read new.read)) same ∙ bytes_same (is_read new.read) (λ other. is_read old.read other || (other == place)) old.active places
          ∙ bytes_put (is_read old.read) old.active place unread in
          omega (arith, left, whole, within)

-- it has been read
pub read_before : (old : Progress) (reader : Allowance) (place : ℕ) → is_read old.read place ≡ true → Reads (λ other. other == place) old old reader reader
read_before old reader place is = record { places = λ other. sym (by_test other (other == place) refl); bytes = refl; spent = refl; limited = refl }
  where
    by_test : (other : ℕ) (b : Bool) → (other == place) ≡ b → (is_read old.read other || (other == place)) ≡ is_read old.read other
    by_test other false differ = ap (λ b. is_read old.read other || b) differ ∙ or_false (is_read old.read other)
    by_test other true same =
        let there : is_read old.read other ≡ true = ap (is_read old.read) (eqb-true other place same) ∙ is in
        ap (λ b. b || (other == place)) there ∙ sym there

-- ---- marks

pub marks_is : (documents : List Finding) (place : ℕ) → is_read (marks documents) place ≡ is_looked (held documents place)
marks_is [] place = refl
marks_is (NotLooked ∷ rest) zero = refl
marks_is (Looked found ∷ rest) zero = refl
marks_is (first ∷ rest) (suc place) = marks_is rest place

pub marks_put : (a b : List Finding) (place : ℕ) (found : Option Placed) → HasPlaced a place found b
    → (other : ℕ) → is_read (marks b) other ≡ (is_read (marks a) other || (other == place))
marks_put a b place found has other = marks_is b other ∙ ap is_looked (has other) ∙ by_test (other == place) refl
  where
    or_true : (c : Bool) → true ≡ (c || true)
    or_true true = refl
    or_true false = refl

    by_test : (c : Bool) → (other == place) ≡ c → is_looked (if other == place then Looked found else held a other) ≡ (is_read (marks a) other || (other == place))
    by_test true same =
        ap (λ c. is_looked (if c then Looked found else held a other)) same ∙ or_true (is_read (marks a) other) ∙ sym (ap (λ c. is_read (marks a) other || c) same)
    by_test false differ =
        ap (λ c. is_looked (if c then Looked found else held a other)) differ ∙ sym (marks_is a other) ∙ sym (or_false (is_read (marks a) other))
        ∙ sym (ap (λ c. is_read (marks a) other || c) differ)

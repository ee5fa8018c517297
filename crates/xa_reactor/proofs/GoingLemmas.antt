-- What is done for one connection in its share, call after call.
use Rattle.std.proofs.Common.{◌≡◌, ◌≢◌, ◌<◌, ◌≤◌, ◌+◌, ◌⊎◌, inl, inr, ℕ, Bool, true, IsTrue, List, [], ◌∷◌, ◌++◌, length, Option, Some, None, Result, Ok, Err, refl, sym, ap, subst, ◌∙◌, arith, length-append}
use Rattle.std.specs.Duration.{as_nanos}
use Rattle.std.specs.declared.io.Error.{Error}
use Rattle.std.specs.declared.io.ErrorKind.{ErrorKind}
use Rattle.std.specs.declared.io.ErrorKind.TheVariants.{Interrupted, WouldBlock}
use Rattle.std.specs.List.{Contains}
use Rattle.std.specs.Prelude.{not, false}
use Rattle.std.proofs.lemmas.List.{append-nil, append_assoc}
use Rattle.std.proofs.lemmas.List.Elements.{Contains-append_left, Contains-append_right}
use Rattle.xa_records.specs.Keeper.{Custody}
use Rattle.xa_server.specs.declared.connection.Answer.{Answer}
use Rattle.xa_server.specs.declared.front.Front.{Front}
use Rattle.xa_server.specs.declared.lines.Conn.{Conn}
use Rattle.xa_server.specs.Transfers.{Grows}
use Rattle.xa_server.proofs.TransferLemmas.{grows_none, grows_trans}
use Rattle.xa_reactor.specs.declared.halt.Halt.{Halt}
use Rattle.xa_reactor.specs.declared.lane.Lane.{Lane}
use Rattle.xa_reactor.specs.declared.lane.Share.{Share}
use Rattle.xa_reactor.specs.declared.limits.Stage.{Stage}
use Rattle.xa_reactor.specs.declared.limits.Stage.TheVariants as stage
use Rattle.xa_reactor.specs.declared.limits.Terms.{Terms}
use Rattle.xa_reactor.specs.declared.outgoing.Sending.{Sending}
use Rattle.xa_reactor.specs.declared.outgoing.Sending.TheVariants.{Went, Blocked, Broke}
use Rattle.xa_reactor.specs.declared.progress.Progress.{Progress}
use Rattle.xa_reactor.specs.declared.progress.Progress.TheVariants.{Ends, Goes, Waits}
use Rattle.xa_reactor.specs.declared.progress.Reason.TheVariants as reason
use Rattle.xa_reactor.specs.Sending.{AreSent, IsHeldOn, IsSentOf, UnderWay, answer_bytes, count_of, is_last, none_under_way, then_under_way, under_way_of}
use Rattle.xa_reactor.specs.Step.{AreHandledBy, DropsAs, DropsBy, EndsAs, IsEnd, IsStep, Lasts, PartsBehind, PartsFor, Step, joined, no_calls}
use Rattle.xa_reactor.specs.Timing.{IsLate, KeepsMark, KeepsTime, MarksAt}
use Rattle.xa_reactor.specs.Traffic.{AreAt, HasFailedIn, Traffic, failed, finished, received, received_at, received_by, sent_at}
use Rattle.xa_reactor.specs.Turn.{EndsBy}
use Rattle.xa_reactor.specs.handling.Going.{AnswersAndSends, AnswersInTime, Asks, EndsAlike, EndsReply, Feeds, HoldsAnswer, IsGoing, Makes, Reads, ReadsInTime, Sends, SendsAndReads, SendsInTime, StaysInStage, StaysMarked, Takes, TakesAnswer, Writes, finish_by}
use Rattle.xa_reactor.proofs.StepLemmas.{asked_none, at_on, failed_before, failed_behind, fed_none, lasts_same, received_here, received_on, sent_on}
use Rattle.xa_reactor.proofs.WorksLemmas.{makes_more, makes_none, makes_same, works_of}

-- ---- why it ends

-- what shows why it ends shows it also with more of which that is a part
ends_in : (progress : Progress) (place : ℕ) (part all : List Traffic) (lane : Lane) → ((one : Traffic) → Contains part one → Contains all one) → (HasFailedIn part → HasFailedIn all)
    → IsEnd place part lane progress → IsEnd place all lane progress
ends_in (Ends reason.Ended) place part all lane has broken (inl (ended, whole)) = inl (has (received place []) ended, whole)
ends_in (Ends reason.Ended) place part all lane has broken (inr parts) = inr parts
ends_in (Ends reason.Failed) place part all lane has broken is = broken is
ends_in (Ends reason.WantOfMemory) place part all lane has broken is = tt
ends_in (Ends reason.Idle) place part all lane has broken none = none
ends_in (Ends reason.Late) place part all lane has broken none = none
ends_in (Ends reason.DrivenOut) place part all lane has broken none = none
ends_in Goes place part all lane has broken is = tt
ends_in Waits place part all lane has broken is = tt

pub ends_before : (progress : Progress) (place : ℕ) (xs ys : List Traffic) (lane : Lane) → IsEnd place xs lane progress → IsEnd place (xs ++ ys) lane progress
ends_before progress place xs ys lane is = ends_in progress place xs (xs ++ ys) lane (λ one there. Contains-append_left xs ys one there) (failed_before xs ys) is

pub ends_behind : (progress : Progress) (place : ℕ) (xs ys : List Traffic) (lane : Lane) → IsEnd place ys lane progress → IsEnd place (xs ++ ys) lane progress
ends_behind progress place xs ys lane is = ends_in progress place ys (xs ++ ys) lane (λ one there. Contains-append_right xs ys one there) (failed_behind xs ys) is

-- nothing went over the network
pub ends_with : (progress : Progress) (place : ℕ) (xs : List Traffic) (lane : Lane) → IsEnd place [] lane progress → IsEnd place xs lane progress
ends_with progress place xs lane is = ends_before progress place [] xs lane is

pub ends_alike : (last progress : Progress) (place : ℕ) (xs : List Traffic) (lane : Lane) → EndsAlike last progress → IsEnd place xs lane last → IsEnd place xs lane progress
ends_alike (Ends why) progress place xs lane same is = subst (λ (p : Progress). IsEnd place xs lane p) (sym same) is
ends_alike Goes (Ends why) place xs lane none is = absurd none
ends_alike Goes Goes place xs lane alike is = tt
ends_alike Goes Waits place xs lane alike is = tt
ends_alike Waits (Ends why) place xs lane none is = absurd none
ends_alike Waits Goes place xs lane alike is = tt
ends_alike Waits Waits place xs lane alike is = tt

-- ---- what is dropped

-- nothing was, or the connection was parted with
pub drops_any : (progress : Progress) (dropped : List ℕ) (s : Stage) → (dropped ≡ []) ⊎ (s ≡ stage.Parting) → DropsBy dropped s progress
drops_any (Ends reason.WantOfMemory) dropped s is = tt
drops_any (Ends reason.Ended) dropped s is = is
drops_any (Ends reason.Failed) dropped s is = is
drops_any (Ends reason.Idle) dropped s is = is
drops_any (Ends reason.Late) dropped s is = is
drops_any (Ends reason.DrivenOut) dropped s is = is
drops_any Goes dropped s is = is
drops_any Waits dropped s is = is

-- what is dropped by what a share comes to, if that is the same or it goes on
pub drops_alike : (last progress : Progress) (dropped : List ℕ) (s : Stage) → EndsAlike last progress → DropsBy dropped s last → DropsBy dropped s progress
drops_alike (Ends why) progress dropped s same is = subst (λ (p : Progress). DropsBy dropped s p) (sym same) is
drops_alike Goes progress dropped s alike is = drops_any progress dropped s is
drops_alike Waits progress dropped s alike is = drops_any progress dropped s is

-- nothing is, if it goes on and wasn't parted with
none_dropped : (last : Progress) (dropped : List ℕ) (s : Stage) → IsGoing last → s ≢ stage.Parting → DropsBy dropped s last → dropped ≡ []
none_dropped (Ends why) dropped s none other is = absurd none
none_dropped Goes dropped s going other (inl none) = none
none_dropped Goes dropped s going other (inr parts) = absurd (other parts)
none_dropped Waits dropped s going other (inl none) = none
none_dropped Waits dropped s going other (inr parts) = absurd (other parts)

drops_none : (result : Result Progress Halt) (dropped : List ℕ) (s : Stage) → dropped ≡ [] → DropsAs dropped s result
drops_none (Ok progress) dropped s none = drops_any progress dropped s (inl none)
drops_none (Err halt) dropped s none = inl none

-- ---- what goes over the network where a reply has ended

finished_at : (place : ℕ) (s : Stage) → AreAt place (finish_by place s)
finished_at place stage.Quiet = tt
finished_at place stage.Incoming = tt
finished_at place stage.Outgoing = tt
finished_at place stage.Parting = (refl, tt)

none_received : (place : ℕ) (s : Stage) → received_at place (finish_by place s) ≡ []
none_received place stage.Quiet = refl
none_received place stage.Incoming = refl
none_received place stage.Outgoing = refl
none_received place stage.Parting = refl

none_sent : (place : ℕ) (s : Stage) → sent_at place (finish_by place s) ≡ []
none_sent place stage.Quiet = refl
none_sent place stage.Incoming = refl
none_sent place stage.Outgoing = refl
none_sent place stage.Parting = refl

-- nothing, if it isn't parted with
pub finish_quiet : (a : Option (List Traffic)) (place : ℕ) (s : Stage) → s ≡ stage.Quiet → Grows a a (finish_by place s)
finish_quiet a place s is = subst (λ (x : Stage). Grows a a (finish_by place x)) (sym is) (grows_none a)

pub finish_incoming : (a : Option (List Traffic)) (place : ℕ) (s : Stage) → s ≡ stage.Incoming → Grows a a (finish_by place s)
finish_incoming a place s is = subst (λ (x : Stage). Grows a a (finish_by place x)) (sym is) (grows_none a)

pub finish_outgoing : (a : Option (List Traffic)) (place : ℕ) (s : Stage) → s ≡ stage.Outgoing → Grows a a (finish_by place s)
finish_outgoing a place s is = subst (λ (x : Stage). Grows a a (finish_by place x)) (sym is) (grows_none a)

-- nothing, if it isn't parted with
pub finish_other : (a : Option (List Traffic)) (place : ℕ) (s : Stage) → s ≢ stage.Parting → Grows a a (finish_by place s)
finish_other a place stage.Quiet other = grows_none a
finish_other a place stage.Incoming other = grows_none a
finish_other a place stage.Outgoing other = grows_none a
finish_other a place stage.Parting other = absurd (other refl)

pub finish_parting : (a b : Option (List Traffic)) (place : ℕ) (s : Stage) → s ≡ stage.Parting → Grows a b (finished place ∷ []) → Grows a b (finish_by place s)
finish_parting a b place s is grows = subst (λ (x : Stage). Grows a b (finish_by place x)) (sym is) grows

-- ---- since when it is waited for

pub stays_on : (old mid new : Lane) → StaysInStage old mid → StaysInStage mid new → StaysInStage old new
stays_on old mid new first later = (later.0 ∙ first.0, later.1 ∙ first.1)

pub stays_same : (lane : Lane) → StaysInStage lane lane
stays_same lane = (refl, refl)

pub marked_same : (lane : Lane) → StaysMarked lane lane
marked_same lane = (refl, refl)

-- a reply that was under way was sent whole
sent_in_time : (now : ℕ) (old mid new : Lane) → 0 < length old.outgoing.left → old.stage ≡ stage.Outgoing → new.outgoing.left ≡ [] → StaysInStage old mid → EndsReply now mid new → SendsInTime now old new
sent_in_time now old mid new under_way is whole first (inl later) = inl (stays_on old mid new first later.0)
sent_in_time now old mid new under_way is whole first (inr (other, since)) = inr (under_way, whole, is, other, since)

-- a write, and a read behind it
kept_time : (now : ℕ) (old mid new : Lane) → new.outgoing ≡ mid.outgoing → SendsInTime now old mid → ReadsInTime now mid new → KeepsTime now None old new
kept_time now old mid new kept (inl first) (inl later) = inl (stays_on old mid new first later.0)
kept_time now old mid new kept (inl first) (inr (quiet, incoming, since)) = inr (since, inr (inr (sym first.0 ∙ quiet, incoming)))
kept_time now old mid new kept (inr (under_way, whole, outgoing, other, since)) (inl later) =
    inr (ap as_nanos later.0.1 ∙ since, inr (inl (outgoing, (λ is. other (sym later.0.0 ∙ is)), ap (λ (u : UnderWay). u.left) kept ∙ whole)))
kept_time now old mid new kept (inr (under_way, whole, outgoing, other, was)) (inr (quiet, incoming, since)) = inr (since, inr (inl (outgoing, apart, ap (λ (u : UnderWay). u.left) kept ∙ whole))) where
  apart : new.stage ≡ stage.Outgoing → ⊥
  apart is = let e : stage.Incoming ≡ stage.Outgoing = sym incoming ∙ is in cc

-- a write alone
sends_keep_time : (now : ℕ) (old new : Lane) → SendsInTime now old new → KeepsTime now None old new
sends_keep_time now old new sends = kept_time now old new new refl sends (inl (stays_same new, inr (marked_same new)))

-- one that was parted with stays so
still_parted : (now : ℕ) (old mid : Lane) → old.stage ≡ stage.Parting → SendsInTime now old mid → mid.stage ≡ stage.Parting
still_parted now old mid parts (inl stays) = stays.0 ∙ parts
still_parted now old mid parts (inr (under_way, whole, outgoing, other, since)) = let e : stage.Parting ≡ stage.Outgoing = sym parts ∙ outgoing in absurd cc

-- ---- when 65,536 bytes are counted anew

-- none were taken
pub marks_none : (now : ℕ) (old new : Lane) → StaysMarked old new → MarksAt now 0 old new
marks_none now old new (mark, moved) = inl (mark, omega (arith, moved))

-- what was taken is another's word
marks_same : (now count other : ℕ) (old new : Lane) → count ≡ other → MarksAt now count old new → MarksAt now other old new
marks_same now count other old new is marks = subst (λ (n : ℕ). MarksAt now n old new) is marks

-- nothing is counted behind it
marks_still : (now sent : ℕ) (old mid new : Lane) → MarksAt now sent old mid → StaysMarked mid new → MarksAt now sent old new
marks_still now sent old mid new (inl (mark, moved)) (same, as_many) = inl (same ∙ mark, omega (arith, moved, as_many))
marks_still now sent old mid new (inr (mark, enough, none)) (same, as_many) = inr (ap as_nanos same ∙ mark, enough, as_many ∙ none)

-- a read behind a write counts none, where a reply is under way behind it
read_unmarked : (now : ℕ) (old new : Lane) → ReadsInTime now old new → new.stage ≡ stage.Outgoing → (old.stage ≡ stage.Outgoing) × StaysMarked old new
read_unmarked now old new (inl (stays, inl parts)) is = let e : stage.Parting ≡ stage.Outgoing = sym parts ∙ sym stays.0 ∙ is in absurd cc
read_unmarked now old new (inl (stays, inr marked)) is = (sym stays.0 ∙ is, marked)
read_unmarked now old new (inr (quiet, incoming, since)) is = let e : stage.Incoming ≡ stage.Outgoing = sym incoming ∙ is in absurd cc

-- ---- when it is parted with

some_left : (xs : List ℕ) → 0 < length xs → xs ≢ []
some_left xs under_way none = let e : length xs ≡ 0 = ap length none in absurd (omega arith)

-- by a write, behind a reply that was sent whole
sends_part_with : (now : ℕ) (why : Type 0) (old new : Lane) → SendsInTime now old new → (new.stage ≡ stage.Parting → (old.stage ≡ stage.Parting) ⊎ why) → new.stage ≡ stage.Parting
    → (old.stage ≡ stage.Parting) ⊎ ((new.outgoing.left ≡ []) × (old.outgoing.left ≢ []) × why)
sends_part_with now why old new (inl stays) because parts = inl (sym stays.0 ∙ parts)
sends_part_with now why old new (inr (under_way, whole, outgoing, other, since)) because parts = over (because parts) where
  over : (old.stage ≡ stage.Parting) ⊎ why → (old.stage ≡ stage.Parting) ⊎ ((new.outgoing.left ≡ []) × (old.outgoing.left ≢ []) × why)
  over (inl was) = inl was
  over (inr is) = inr (whole, some_left old.outgoing.left under_way, is)

-- by no read
reads_part_with : (now : ℕ) (old new : Lane) → ReadsInTime now old new → new.stage ≡ stage.Parting → old.stage ≡ stage.Parting
reads_part_with now old new (inl stays) parts = sym stays.0.0 ∙ parts
reads_part_with now old new (inr (quiet, incoming, since)) parts = let e : stage.Incoming ≡ stage.Parting = sym incoming ∙ parts in absurd cc

-- by a write, and a read behind it
parts_behind : {R N : Type 0} {custody : R → Custody} {done : N → Option (List Traffic)} {share : Share} (old mid new : Lane) {first last : Progress} {front_old front_new : Front R}
    {network_old network_mid network_new : N} → Sends done share first old mid network_old network_mid → Reads custody done share last mid new front_old front_new network_mid network_new → new.stage ≡ stage.Parting
    → (old.stage ≡ stage.Parting) ⊎ ((new.outgoing.left ≡ []) × (old.outgoing.left ≢ []) × PartsFor old.outgoing.last share.parts)
parts_behind {share = share} old mid new sends reads parts = over (sends_part_with (as_nanos share.now) (PartsFor old.outgoing.last share.parts) old mid sends.time sends.parts was) where
  was : mid.stage ≡ stage.Parting
  was = reads_part_with (as_nanos share.now) mid new reads.time parts

  over : (old.stage ≡ stage.Parting) ⊎ ((mid.outgoing.left ≡ []) × (old.outgoing.left ≢ []) × PartsFor old.outgoing.last share.parts)
      → (old.stage ≡ stage.Parting) ⊎ ((new.outgoing.left ≡ []) × (old.outgoing.left ≢ []) × PartsFor old.outgoing.last share.parts)
  over (inl is) = inl is
  over (inr (whole, some, why)) = inr (ap (λ (u : UnderWay). u.left) reads.kept ∙ whole, some, why)

-- by an answer, and a write behind it
answered_parts : (now : ℕ) (answer : Answer) (why : Type 0) (old mid new : Lane) → mid.stage ≡ stage.Outgoing → SendsInTime now mid new
    → (new.stage ≡ stage.Parting → (mid.stage ≡ stage.Parting) ⊎ why) → new.stage ≡ stage.Parting
    → (old.stage ≡ stage.Parting) ⊎ ((new.outgoing.left ≡ []) × (Some answer ≢ None) × why)
answered_parts now answer why old mid new begins sends because parts = over (sends_part_with now why mid new sends because parts) where
  over : (mid.stage ≡ stage.Parting) ⊎ ((new.outgoing.left ≡ []) × (mid.outgoing.left ≢ []) × why) → (old.stage ≡ stage.Parting) ⊎ ((new.outgoing.left ≡ []) × (Some answer ≢ None) × why)
  over (inl was) = let e : stage.Outgoing ≡ stage.Parting = sym begins ∙ was in absurd cc
  over (inr (whole, some, is)) = inr (whole, λ none. absurd cc, is)

-- by a share, in which no message was answered
read_parts : (step : Step) (old new : Lane) → step.answer ≡ None → (old.stage ≡ stage.Parting) ⊎ ((new.outgoing.left ≡ []) × (old.outgoing.left ≢ []) × PartsFor old.outgoing.last step.parts)
    → (old.stage ≡ stage.Parting) ⊎ PartsBehind step old.outgoing new
read_parts step old new none (inl was) = inl was
read_parts step old new none (inr (whole, some, why)) =
    inr (record {
      whole = whole;
      reply = inl some;
      why = subst (λ (answer : Option Answer). PartsFor (then_under_way old.outgoing answer).last step.parts) (sym none) why;
    })

-- by one in which one was
last_of : (was : UnderWay) (answer : Option Answer) → answer ≢ None → is_last answer ≡ (then_under_way was answer).last
last_of was None some = absurd (some refl)
last_of was (Some answer) some = refl

all_parts : (step : Step) (old mid new : Lane) → mid.stage ≢ stage.Parting → (mid.stage ≡ stage.Parting) ⊎ ((new.outgoing.left ≡ []) × (step.answer ≢ None) × PartsFor (is_last step.answer) step.parts)
    → (old.stage ≡ stage.Parting) ⊎ PartsBehind step old.outgoing new
all_parts step old mid new other (inl was) = absurd (other was)
all_parts step old mid new other (inr (whole, some, why)) =
    inr (record { whole = whole; reply = inr some; why = subst (λ (last : Bool). PartsFor last step.parts) (last_of old.outgoing step.answer some) why })

-- ---- what is held

-- by a share, in which a message was answered or not
step_held : (answer : Option Answer) (old mid new : Lane) → IsHeldOn old.outgoing mid.outgoing → HoldsAnswer answer mid new → IsHeldOn (then_under_way old.outgoing answer) new.outgoing
step_held None old mid new first same = subst (λ (u : UnderWay). IsHeldOn old.outgoing u) (sym same) first
step_held (Some answer) old mid new first later = later

-- ---- all of it

-- the time of a share: behind an answer it is later
at_of : Option Answer → ℕ → ℕ → ℕ
at_of None first later = first
at_of (Some answer) first later = later

at_later : (answer : Option Answer) (now first later : ℕ) → now ≤ first → first ≤ later → now ≤ at_of answer first later
unfolding at_of
at_later None now first later one other = one
at_later (Some answer) now first later one other = omega (arith, one, other)

step_keeps_time : (first later part : ℕ) (answer : Option Answer) (old mid new : Lane) → KeepsTime first None old mid → AnswersInTime later part answer mid new → KeepsTime (at_of answer first later) answer old new
unfolding at_of
step_keeps_time first later part None old mid new kept same = subst (λ (l : Lane). KeepsTime first None old l) (sym same) (alike kept) where
  alike : KeepsTime first None old mid → KeepsTime first None old (record mid { holding = new.holding })
  alike is = is
step_keeps_time first later part (Some answer) old mid new kept (since, mark) = inr (since, inl (λ none. absurd cc))

step_keeps_mark : (first later before part sent : ℕ) (answer : Option Answer) (old mid new : Lane) → (mid.stage ≡ stage.Outgoing → MarksAt first before old mid) → AnswersInTime later part answer mid new
    → part ≤ sent → (answer ≡ None → before ≡ sent) → new.stage ≡ stage.Outgoing → KeepsMark (at_of answer first later) sent answer old new
unfolding at_of
step_keeps_mark first later before part sent None old mid new marks same within alike is =
    marks_same first before sent old new (alike refl)
    (marks_still first before old mid new (marks (sym (ap (λ (l : Lane). l.stage) same) ∙ is)) (ap (λ (l : Lane). l.mark) same, ap (λ (l : Lane). l.moved) same))
step_keeps_mark first later before part sent (Some answer) old mid new marks (since, mark) within alike is =
    let moved : new.moved ≤ part = (mark is).1 in ((mark is).0, omega (arith, moved, within))

-- ---- a write

module _ {N : Type 0} (done : N → Option (List Traffic)) (share : Share) where
  -- nothing is under way, or nothing is taken now
  pub sends_none : (progress : Progress) (lane : Lane) (network : N) → IsEnd share.conn.number [] lane progress → Sends done share progress lane lane network network
  sends_none progress lane network ends = record {
    traffic = [];
    there = tt;
    nothing_read = refl;
    balance = refl;
    held = inl (refl, refl);
    parts = λ is. inl is;
    time = inl (stays_same lane);
    marks = λ is. marks_none (as_nanos share.now) lane lane (marked_same lane);
    ends = ends;
    grows = grows_none (done network);
  }

  -- a part of it was sent
  pub sends_part : (progress : Progress) (old new : Lane) (network_old network_new : N) → Writes done share progress old new network_old network_new
      → Sends done share progress old new network_old network_new
  sends_part progress old new network_old network_new writes = record {
    traffic = writes.sent.traffic;
    there = writes.sent.there;
    nothing_read = writes.sent.nothing_read;
    balance = writes.sent.balance;
    held = inl (writes.sent.held, writes.sent.last);
    parts = λ is. inl (sym writes.stays.0 ∙ is);
    time = inl writes.stays;
    marks = λ is. marks_same (as_nanos share.now) (count_of writes.how) _ old new writes.sent.counted writes.marks;
    ends = writes.ends;
    grows = writes.sent.grows;
  }

  -- what is counted where it was sent whole, and something else may be waited for
  ended_marks : (sent : ℕ) (old mid new : Lane) → MarksAt (as_nanos share.now) sent old mid → EndsReply (as_nanos share.now) mid new → new.stage ≡ stage.Outgoing → MarksAt (as_nanos share.now) sent old new
  ended_marks sent old mid new marks (inl (stays, marked)) is = marks_still (as_nanos share.now) sent old mid new marks marked
  ended_marks sent old mid new marks (inr (other, since)) is = absurd (other is)

  -- it was sent whole
  pub sends_end : (first last : Progress) (old mid new : Lane) (network_old network_mid network_new : N) → Writes done share first old mid network_old network_mid
      → 0 < length old.outgoing.left → old.stage ≡ stage.Outgoing → mid.outgoing.left ≡ [] → new.outgoing ≡ none_under_way
      → Grows (done network_mid) (done network_new) (finish_by share.conn.number new.stage) → EndsReply (as_nanos share.now) mid new
      → (new.stage ≡ stage.Parting → PartsFor mid.outgoing.last share.parts) → IsEnd share.conn.number [] new last → Sends done share last old new network_old network_new
  sends_end first last old mid new network_old network_mid network_new writes under_way outgoing whole none finishes time parts ends =
      let place = share.conn.number in
      let sent = writes.sent.traffic in
      let behind = finish_by place new.stage in
      let nothing : new.outgoing.left ≡ [] = ap (λ (u : UnderWay). u.left) none in
      let all : sent_at place (sent ++ behind) ≡ sent_at place sent =
      sent_on place sent behind ∙ ap (λ (l : List ℕ). sent_at place sent ++ l) (none_sent place new.stage) ∙ append-nil (sent_at place sent) in
      record {
        traffic = sent ++ behind;
        there = at_on place sent behind writes.sent.there (finished_at place new.stage);
        nothing_read =
            received_on place sent behind ∙ ap (λ (l : List ℕ). l ++ received_at place behind) writes.sent.nothing_read
            ∙ none_received place new.stage;
        balance =
            writes.sent.balance ∙ ap (λ (l : List ℕ). sent_at place sent ++ l) (whole ∙ sym nothing)
            ∙ ap (λ (l : List ℕ). l ++ new.outgoing.left) (sym all);
        held = inr none;
        parts = λ is. inr (subst (λ (last : Bool). PartsFor last share.parts) writes.sent.last (parts is));
        time = sent_in_time (as_nanos share.now) old mid new under_way outgoing nothing writes.stays time;
        marks = λ is.
            marks_same (as_nanos share.now) (count_of writes.how) _ old new (writes.sent.counted ∙ ap length (sym all))
            (ended_marks (count_of writes.how) old mid new writes.marks time is);
        ends = ends_with last place (sent ++ behind) new ends;
        grows = grows_trans (done network_old) (done network_mid) (done network_new) sent behind writes.sent.grows finishes;
      }

-- ---- a read

module _ {R : Type 0} (custody : R → Custody) where
  -- it was handed to the front
  pub takes_fed : (share : Share) (progress : Progress) (piece : List ℕ) (old new : Lane) (front_old front_mid front_new : Front R)
      → (feeds : Feeds custody share.conn piece front_old front_mid) → front_new ≡ front_mid → old.stage ≢ stage.Parting → new.outgoing ≡ old.outgoing → ReadsInTime (as_nanos share.now) old new
      → IsEnd share.conn.number [] new progress → DropsBy feeds.dropped new.stage progress
      → Takes custody share progress piece old new front_old front_new
  takes_fed share progress piece old new front_old front_mid front_new feeds same other kept time ends drops = record {
    feeds = record {
      read = feeds.read;
      dropped = feeds.dropped;
      calls = feeds.calls;
      all = feeds.all;
      fed = feeds.fed;
      served = feeds.served;
      makes = subst (λ (f : Front R). Makes custody feeds.calls front_old f) (sym same) feeds.makes;
      lasts = subst (λ (f : Front R). Lasts share.conn front_old.lines f.lines) (sym same) feeds.lasts;
    };
    parted = λ parts. absurd (other parts);
    kept = kept;
    time = time;
    ends = ends;
    drops = drops;
  }

  module _ (is_open : (s : R) → (custody s).sound → IsTrue (custody s).is_open) where
    ends_parting : (progress : Progress) (place : ℕ) (lane : Lane) → lane.stage ≡ stage.Parting → (progress ≡ Goes) ⊎ (progress ≡ Ends reason.Ended) → IsEnd place [] lane progress
    ends_parting progress place lane parts (inl goes) = subst (λ (p : Progress). IsEnd place [] lane p) (sym goes) tt
    ends_parting progress place lane parts (inr ended) = subst (λ (p : Progress). IsEnd place [] lane p) (sym ended) (inr parts)

    -- it was dropped
    pub takes_dropped : (share : Share) (progress : Progress) (piece : List ℕ) (old new : Lane) (front : Front R) → old.stage ≡ stage.Parting → new.outgoing ≡ old.outgoing
        → StaysInStage old new → (progress ≡ Goes) ⊎ (progress ≡ Ends reason.Ended) → Takes custody share progress piece old new front front
    takes_dropped share progress piece old new front parts kept stays ends = record {
      feeds = fed_none custody is_open share.conn piece front;
      parted = λ _. refl;
      kept = kept;
      time = inl (stays, inl parts);
      ends = ends_parting progress share.conn.number new (stays.0 ∙ parts) ends;
      drops = drops_any progress piece new.stage (inr (stays.0 ∙ parts));
    }

    module _ {N : Type 0} (done : N → Option (List Traffic)) (share : Share) where
      -- none was made
      pub reads_none : (progress : Progress) (lane : Lane) (front : Front R) (network : N) → IsEnd share.conn.number [] lane progress
          → Reads custody done share progress lane lane front front network network
      reads_none progress lane front network ends = record {
        piece = [];
        traffic = [];
        there = tt;
        nothing_sent = refl;
        received = refl;
        feeds = fed_none custody is_open share.conn [] front;
        parted = λ _. refl;
        kept = refl;
        time = inl (stays_same lane, inr (marked_same lane));
        ends = λ _. ends;
        drops = drops_any progress [] lane.stage (inl refl);
        grows = grows_none (done network);
      }

      -- it failed
      pub reads_failed : (progress : Progress) (kind : ErrorKind) (lane : Lane) (front : Front R) (network_old network_new : N)
          → Grows (done network_old) (done network_new) (failed share.conn.number kind ∷ []) → IsEnd share.conn.number (failed share.conn.number kind ∷ []) lane progress
          → Reads custody done share progress lane lane front front network_old network_new
      reads_failed progress kind lane front network_old network_new grows ends = record {
        piece = [];
        traffic = failed share.conn.number kind ∷ [];
        there = (refl, tt);
        nothing_sent = refl;
        received = refl;
        feeds = fed_none custody is_open share.conn [] front;
        parted = λ _. refl;
        kept = refl;
        time = inl (stays_same lane, inr (marked_same lane));
        ends = λ _. ends;
        drops = drops_any progress [] lane.stage (inl refl);
        grows = grows;
      }

      -- the stream has ended
      pub reads_end : (result : Result ℕ Error) (room : List ℕ) (lane : Lane) (front : Front R) (network_old network_new : N) → result ≡ Ok 0
          → Grows (done network_old) (done network_new) (received_by share.conn.number result room) → Reads custody done share (Ends reason.Ended) lane lane front front network_old network_new
      reads_end result room lane front network_old network_new none grows = record {
        piece = [];
        traffic = received share.conn.number [] ∷ [];
        there = (refl, tt);
        nothing_sent = refl;
        received = received_here share.conn.number [];
        feeds = fed_none custody is_open share.conn [] front;
        parted = λ _. refl;
        kept = refl;
        time = inl (stays_same lane, inr (marked_same lane));
        ends = λ whole. inl ((0, omega arith, refl), whole);
        drops = inl refl;
        grows = subst (λ (r : Result ℕ Error). Grows (done network_old) (done network_new) (received_by share.conn.number r room)) none grows;
      }

  -- it gave something
  pub reads_taken : {N : Type 0} (done : N → Option (List Traffic)) (share : Share) (progress : Progress) (piece given : List ℕ) (old new : Lane) (front_old front_new : Front R) (network_old network_new : N)
      → Takes custody share progress piece old new front_old front_new → Grows (done network_old) (done network_new) (received share.conn.number given ∷ []) → given ≡ piece
      → Reads custody done share progress old new front_old front_new network_old network_new
  reads_taken done share progress piece given old new front_old front_new network_old network_new takes grows same = record {
    piece = piece;
    traffic = received share.conn.number given ∷ [];
    there = (refl, tt);
    nothing_sent = refl;
    received = received_here share.conn.number given ∙ same;
    feeds = takes.feeds;
    parted = takes.parted;
    kept = takes.kept;
    time = takes.time;
    ends = λ _. ends_with progress share.conn.number (received share.conn.number given ∷ []) new takes.ends;
    drops = takes.drops;
    grows = grows;
  }

-- one that was made in time, and wasn't interrupted
pub failed_by : (place : ℕ) (kind : ErrorKind) (lane : Lane) → kind ≢ WouldBlock → kind ≢ Interrupted → IsEnd place (failed place kind ∷ []) lane (Ends reason.Failed)
failed_by place kind lane other uncut = inl (other, uncut)

-- ---- a write, and a read behind it

-- a front that is as it was before has taken the same
still_fed : {R : Type 0} {custody : R → Custody} (conn : Conn) (piece : List ℕ) (old mid new : Front R) → mid ≡ old → (was : Feeds custody conn piece mid new)
    → (is : Feeds custody conn piece old new) × (is.read ≡ was.read) × (is.dropped ≡ was.dropped)
still_fed {R} {custody} conn piece old mid new same was = (
  record {
    read = was.read;
    dropped = was.dropped;
    calls = was.calls;
    all = was.all;
    fed = was.fed;
    served = was.served;
    makes = subst (λ (f : Front R). Makes custody was.calls f new) same was.makes;
    lasts = subst (λ (f : Front R). Lasts conn f.lines new.lines) same was.lasts;
  },
  refl,
  refl,
)

none_fed : {R : Type 0} (custody : R → Custody) (is_open : (s : R) → (custody s).sound → IsTrue (custody s).is_open) (conn : Conn) (old new : Front R) → new ≡ old
    → (is : Feeds custody conn [] old new) × (is.read ≡ []) × (is.dropped ≡ [])
none_fed {R} custody is_open conn old new same = (
  record {
    read = [];
    dropped = [];
    calls = no_calls;
    all = refl;
    fed = refl;
    served = tt;
    makes = makes_same custody is_open old new same;
    lasts = lasts_same conn old.lines new.lines (ap (λ (f : Front R). f.lines) same);
  },
  refl,
  refl,
)

module _ {R N : Type 0} (custody : R → Custody) (done : N → Option (List Traffic)) (share : Share) where
  pub sent_and_read : (first last : Progress) (old mid new : Lane) (front_old front_mid front_new : Front R) (network_old network_mid network_new : N)
      → Sends done share first old mid network_old network_mid → mid.outgoing.left ≡ [] → front_mid ≡ front_old → Reads custody done share last mid new front_mid front_new network_mid network_new
      → SendsAndReads custody done share last old new front_old front_new network_old network_new
  sent_and_read first last old mid new front_old front_mid front_new network_old network_mid network_new sends whole same reads =
      let place = share.conn.number in
      let none : new.outgoing.left ≡ [] = ap (λ (u : UnderWay). u.left) reads.kept ∙ whole in
      let all : sent_at place (sends.traffic ++ reads.traffic) ≡ sent_at place sends.traffic =
      sent_on place sends.traffic reads.traffic ∙ ap (λ (l : List ℕ). sent_at place sends.traffic ++ l) reads.nothing_sent ∙ append-nil (sent_at place sends.traffic) in
      record {
        piece = reads.piece;
        traffic = sends.traffic ++ reads.traffic;
        there = at_on place sends.traffic reads.traffic sends.there reads.there;
        received =
            received_on place sends.traffic reads.traffic ∙ ap (λ (l : List ℕ). l ++ received_at place reads.traffic) sends.nothing_read
            ∙ reads.received;
        feeds = (still_fed share.conn reads.piece front_old front_mid front_new same reads.feeds).0;
        unread = inr none;
        parted = λ parts. (still_fed share.conn reads.piece front_old front_mid front_new same reads.feeds).1 ∙ reads.parted (still_parted (as_nanos share.now) old mid parts sends.time);
        balance =
            sends.balance ∙ ap (λ (l : List ℕ). sent_at place sends.traffic ++ l) (ap (λ (u : UnderWay). u.left) (sym reads.kept))
            ∙ ap (λ (l : List ℕ). l ++ new.outgoing.left) (sym all);
        held = subst (λ (u : UnderWay). IsHeldOn old.outgoing u) (sym reads.kept) sends.held;
        parts = λ parts. parts_behind old mid new sends reads parts;
        time = kept_time (as_nanos share.now) old mid new reads.kept sends.time reads.time;
        marks = λ is.
            let unmarked = read_unmarked (as_nanos share.now) mid new reads.time is in
            marks_same (as_nanos share.now) (length (sent_at place sends.traffic)) _ old new (ap length (sym all))
            (marks_still (as_nanos share.now) _ old mid new (sends.marks unmarked.0) unmarked.1);
        ends = ends_behind last place sends.traffic reads.traffic new (reads.ends none);
        drops = subst (λ (dropped : List ℕ). DropsBy dropped new.stage last) (sym (still_fed share.conn reads.piece front_old front_mid front_new same reads.feeds).2) reads.drops;
        grows = grows_trans (done network_old) (done network_mid) (done network_new) sends.traffic reads.traffic sends.grows reads.grows;
      }

  -- a write alone
  pub sent_alone : (is_open : (s : R) → (custody s).sound → IsTrue (custody s).is_open) (progress : Progress) (old new : Lane) (front_old front_new : Front R) (network_old network_new : N)
      → Sends done share progress old new network_old network_new → front_new ≡ front_old → SendsAndReads custody done share progress old new front_old front_new network_old network_new
  sent_alone is_open progress old new front_old front_new network_old network_new sends same = record {
    piece = [];
    traffic = sends.traffic;
    there = sends.there;
    received = sends.nothing_read;
    feeds = (none_fed custody is_open share.conn front_old front_new same).0;
    unread = inl sends.nothing_read;
    parted = λ _. (none_fed custody is_open share.conn front_old front_new same).1;
    balance = sends.balance;
    held = sends.held;
    parts = λ parts. sends_part_with (as_nanos share.now) (PartsFor old.outgoing.last share.parts) old new sends.time sends.parts parts;
    time = sends_keep_time (as_nanos share.now) old new sends.time;
    marks = sends.marks;
    ends = sends.ends;
    drops = drops_any progress _ new.stage (inl (none_fed custody is_open share.conn front_old front_new same).2);
    grows = sends.grows;
  }

  -- ---- an answer, and a write behind it

  -- there was none, and nothing was sent
  pub answered_none : (result : Result Progress Halt) (taken : Progress) (at : ℕ) (answer : Option Answer) (old new : Lane) (front_old front_new : Front R) (network : N) → as_nanos share.now ≤ at
      → Asks custody share.conn (AreHandledBy share.access) answer front_old front_new → old.outgoing.left ≡ [] → TakesAnswer answer at taken old new → taken ≢ Goes
      → ((xs : List Traffic) → IsEnd share.conn.number xs new taken → EndsAs share.conn.number xs new result)
      → AnswersAndSends custody done share result old new front_old front_new network network
  answered_none result taken at None old new front_old front_new network later asks whole (other, same, ended) not_so ends = record {
    at = at;
    later = later;
    answer = None;
    asks = asks;
    traffic = [];
    there = tt;
    nothing_read = refl;
    balance = sym (ap (λ (l : Lane). l.outgoing.left) same ∙ whole);
    held = ap (λ (l : Lane). l.outgoing) same;
    parts = λ parts. inl (sym (ap (λ (l : Lane). l.stage) same) ∙ parts);
    time = same;
    ends = ends [] (ended share.conn.number);
    grows = grows_none (done network);
  }
  answered_none result taken at (Some answer) old new front_old front_new network later asks whole (goes, reply, begins, since, mark, fresh) not_so ends = absurd (not_so goes)

  -- nothing was asked for
  pub answered_broken : (halt : Halt) (lane : Lane) (front_old front_new : Front R) (network : N) → Asks custody share.conn (AreHandledBy share.access) None front_old front_new → lane.outgoing.left ≡ []
      → AnswersAndSends custody done share (Err halt) lane lane front_old front_new network network
  answered_broken halt lane front_old front_new network asks whole = record {
    at = as_nanos share.now;
    later = omega arith;
    answer = None;
    asks = asks;
    traffic = [];
    there = tt;
    nothing_read = refl;
    balance = sym whole;
    held = refl;
    parts = λ parts. inl parts;
    time = refl;
    ends = tt;
    grows = grows_none (done network);
  }

  -- there was one, and a part of its reply was sent, at a later time
  marked_later : (now sent : ℕ) (mid new : Lane) → as_nanos mid.mark ≡ now → MarksAt now sent mid new → as_nanos new.mark ≡ now
  marked_later now sent mid new mark (inl (same, moved)) = ap as_nanos same ∙ mark
  marked_later now sent mid new mark (inr (anew, enough, none)) = anew

  -- no more of it is counted than was sent
  moved_later : (now sent : ℕ) (mid new : Lane) → mid.moved ≡ 0 → MarksAt now sent mid new → new.moved ≤ sent
  moved_later now sent mid new fresh (inl (same, moved)) = omega (arith, fresh, moved)
  moved_later now sent mid new fresh (inr (anew, enough, none)) = omega (arith, none)

  since_later : (now : ℕ) (mid new : Lane) → as_nanos mid.since ≡ now → SendsInTime now mid new → as_nanos new.since ≡ now
  since_later now mid new since (inl stays) = ap as_nanos stays.1 ∙ since
  since_later now mid new since (inr (under_way, whole, outgoing, other, anew)) = anew

  pub answered_and_sent : (result : Result Progress Halt) (taken sent : Progress) (after : Share) (answer : Option Answer) (old mid new : Lane) (front_old front_mid front_new : Front R) (network_old network_new : N)
      → after ≡ record share { now = after.now } → as_nanos share.now ≤ as_nanos after.now → Asks custody share.conn (AreHandledBy share.access) answer front_old front_mid → TakesAnswer answer (as_nanos after.now) taken old mid → taken ≡ Goes
      → Sends done after sent mid new network_old network_new → front_new ≡ front_mid
      → ((xs : List Traffic) → IsEnd share.conn.number xs new sent → EndsAs share.conn.number xs new result)
      → AnswersAndSends custody done share result old new front_old front_new network_old network_new
  answered_and_sent result taken sent after None old mid new front_old front_mid front_new network_old network_new is later asks (other, same, ended) goes sends front ends = absurd (other goes)
  answered_and_sent result taken sent after (Some answer) old mid new front_old front_mid front_new network_old network_new is later asks (goes, reply, begins, since, mark, fresh) so sends front ends =
      let here : Sends done (record share { now = after.now }) sent mid new network_old network_new = subst (λ (s : Share). Sends done s sent mid new network_old network_new) is sends in
      record {
        at = as_nanos after.now;
        later = later;
        answer = Some answer;
        asks = subst (λ (f : Front R). Asks custody share.conn (AreHandledBy share.access) (Some answer) front_old f) (sym front) asks;
        traffic = here.traffic;
        there = here.there;
        nothing_read = here.nothing_read;
        balance = sym (ap (λ (u : UnderWay). u.left) reply) ∙ here.balance;
        held = subst (λ (u : UnderWay). IsHeldOn u new.outgoing) reply here.held;
        parts = λ parts.
            subst (λ (u : UnderWay). (old.stage ≡ stage.Parting) ⊎ ((new.outgoing.left ≡ []) × (Some answer ≢ None) × PartsFor u.last share.parts)) reply
            (answered_parts (as_nanos after.now) answer (PartsFor mid.outgoing.last share.parts) old mid new begins here.time here.parts parts);
        time = (since_later (as_nanos after.now) mid new since here.time, λ outgoing. (marked_later (as_nanos after.now) _ mid new mark (here.marks outgoing), moved_later (as_nanos after.now) _ mid new fresh (here.marks outgoing)));
        ends = ends here.traffic here.ends;
        grows = here.grows;
      }

  -- ---- the whole share

  module _ (is_open : (s : R) → (custody s).sound → IsTrue (custody s).is_open) where
    -- what was read if all was sent that was under way
    unread_alone : (rest part left read : List ℕ) → rest ≡ part ++ left → (read ≡ []) ⊎ (left ≡ []) → (read ≡ []) ⊎ ((more : List ℕ) × (part ≡ rest ++ more))
    unread_alone rest part left read balance (inl none) = inl none
    unread_alone rest part left read balance (inr whole) =
        inr ([], sym (append-nil rest ∙ balance ∙ ap (λ (l : List ℕ). part ++ l) whole ∙ append-nil part))

    -- nothing was answered
    pub shared_read : (last progress : Progress) (old new : Lane) (front_old front_new : Front R) (network_old network_new : N)
        → SendsAndReads custody done share last old new front_old front_new network_old network_new → EndsAlike last progress
        → IsStep {E = Halt} custody done share (Ok progress) old new front_old front_new network_old network_new
    shared_read last progress old new front_old front_new network_old network_new reads alike = record {
      step = record {
        conn = share.conn;
        at = as_nanos share.now;
        parts = share.parts;
        traffic = reads.traffic;
        read = reads.feeds.read;
        dropped = reads.feeds.dropped;
        answer = None;
        fed = reads.feeds.calls;
        asked = no_calls;
      };
      its = refl;
      later = omega arith;
      parts = refl;
      is_step = record {
        fed = reads.feeds.fed;
        asked = refl;
        received = reads.received ∙ reads.feeds.all;
        sent = reads.balance;
        held = reads.held;
        unread = unread_alone old.outgoing.left (sent_at share.conn.number reads.traffic) new.outgoing.left (received_at share.conn.number reads.traffic) reads.balance reads.unread;
        parted = reads.parted;
        parts = λ is. read_parts _ old new refl (reads.parts is);
        time = reads.time;
        marks = reads.marks;
        there = reads.there;
      };
      room = inl refl;
      fed = reads.feeds.served;
      handled = tt;
      ends = ends_alike last progress share.conn.number reads.traffic new alike reads.ends;
      drops = drops_alike last progress reads.feeds.dropped new.stage alike reads.drops;
      works =
          works_of custody is_open done (joined reads.feeds.calls no_calls) reads.traffic front_old front_new network_old network_new
          (makes_more custody is_open front_old front_new front_new reads.feeds.calls no_calls reads.feeds.makes (makes_none custody is_open front_new)) reads.grows;
    }

    -- nothing was done
    pub shared_none : (lane : Lane) (front : Front R) (network : N) → IsStep {E = Halt} custody done share (Ok Waits) lane lane front front network network
    shared_none lane front network =
        shared_read Waits Waits lane lane front front network network (sent_alone is_open Waits lane lane front front network network (sends_none done share Waits lane network tt) refl) tt

    -- what was sent, in all: nothing was under way before the answer
    are_sent : (answer : Option Answer) (rest first part left : List ℕ) → rest ≡ first ++ [] → answer_bytes answer ≡ part ++ left → AreSent rest answer (first ++ part) left
    are_sent None rest first part left before after = before ∙ ap (λ (l : List ℕ). first ++ l) after ∙ sym (append_assoc first part left)
    are_sent (Some answer) rest first part left before after = (part, ap (λ (l : List ℕ). l ++ part) (sym (before ∙ append-nil first)), after)

    ends_last : (result : Result Progress Halt) (xs ys : List Traffic) (lane : Lane) → EndsAs share.conn.number ys lane result → EndsAs share.conn.number (xs ++ ys) lane result
    ends_last (Ok progress) xs ys lane is = ends_behind progress share.conn.number xs ys lane is
    ends_last (Err halt) xs ys lane is = tt

    -- nothing was sent of no reply
    none_more : (answer : Option Answer) (first part left : List ℕ) → answer_bytes answer ≡ part ++ left → answer ≡ None → length first ≡ length (first ++ part)
    none_more None first [] left balance is = ap length (sym (append-nil first))
    none_more None first (byte ∷ part) left balance is = let e : [] ≡ byte ∷ (part ++ left) = balance in absurd cc
    none_more (Some answer) first part left balance is = absurd cc

    -- a part is no longer than the whole
    no_more : (first part whole : List ℕ) → whole ≡ first ++ part → length part ≤ length whole
    no_more first part whole is = let sum : length whole ≡ length first + length part = ap length is ∙ length-append first part in omega (arith, sum)

    -- its next message was answered, if it was
    pub shared_all : (last : Progress) (result : Result Progress Halt) (old mid new : Lane) (front_old front_mid front_new : Front R) (network_old network_mid network_new : N)
        → SendsAndReads custody done share last old mid front_old front_mid network_old network_mid → IsGoing last → (mid.outgoing.left ≡ []) × (mid.stage ≢ stage.Parting)
        → AnswersAndSends custody done share result mid new front_mid front_new network_mid network_new → share.has_room ≡ true
        → IsStep custody done share result old new front_old front_new network_old network_new
    shared_all last result old mid new front_old front_mid front_new network_old network_mid network_new reads going (whole, other) answers room =
        let place = share.conn.number in
        let before : old.outgoing.left ≡ sent_at place reads.traffic ++ [] = reads.balance ∙ ap (λ (l : List ℕ). sent_at place reads.traffic ++ l) whole in
        let all = sent_on place reads.traffic answers.traffic in
        record {
          step = record {
            conn = share.conn;
            at = at_of answers.answer (as_nanos share.now) answers.at;
            parts = share.parts;
            traffic = reads.traffic ++ answers.traffic;
            read = reads.feeds.read;
            dropped = reads.feeds.dropped;
            answer = answers.answer;
            fed = reads.feeds.calls;
            asked = answers.asks.calls;
          };
          its = refl;
          later = at_later answers.answer (as_nanos share.now) (as_nanos share.now) answers.at (omega arith) answers.later;
          parts = refl;
          is_step = record {
            fed = reads.feeds.fed;
            asked = answers.asks.asked;
            received =
                received_on place reads.traffic answers.traffic ∙ ap (λ (l : List ℕ). received_at place reads.traffic ++ l) answers.nothing_read
                ∙ append-nil (received_at place reads.traffic) ∙ reads.received ∙ reads.feeds.all;
            sent =
                subst (λ (l : List ℕ). AreSent old.outgoing.left answers.answer l new.outgoing.left) (sym all)
                (are_sent answers.answer old.outgoing.left (sent_at place reads.traffic) (sent_at place answers.traffic) new.outgoing.left before answers.balance);
            held = step_held answers.answer old mid new reads.held answers.held;
            unread =
                inr (
                  sent_at place answers.traffic,
                  all ∙ ap (λ (l : List ℕ). l ++ sent_at place answers.traffic) (sym (before ∙ append-nil (sent_at place reads.traffic))),
                );
            parted = reads.parted;
            parts = λ is. all_parts _ old mid new other (answers.parts is);
            time = step_keeps_time (as_nanos share.now) answers.at (length (sent_at place answers.traffic)) answers.answer old mid new reads.time answers.time;
            marks =
                step_keeps_mark (as_nanos share.now) answers.at (length (sent_at place reads.traffic)) (length (sent_at place answers.traffic)) (length (sent_at place (reads.traffic ++ answers.traffic))) answers.answer
                old mid new reads.marks answers.time
                (no_more (sent_at place reads.traffic) (sent_at place answers.traffic) (sent_at place (reads.traffic ++ answers.traffic)) all)
                (λ none. none_more answers.answer (sent_at place reads.traffic) (sent_at place answers.traffic) new.outgoing.left answers.balance none ∙ ap length (sym all));
            there = at_on place reads.traffic answers.traffic reads.there answers.there;
          };
          room = inr room;
          fed = reads.feeds.served;
          handled = answers.asks.handled;
          ends = ends_last result reads.traffic answers.traffic new answers.ends;
          drops = drops_none result reads.feeds.dropped new.stage (none_dropped last reads.feeds.dropped mid.stage going other reads.drops);
          works =
              works_of custody is_open done (joined reads.feeds.calls answers.asks.calls) (reads.traffic ++ answers.traffic) front_old front_new network_old network_new
              (makes_more custody is_open front_old front_mid front_new reads.feeds.calls answers.asks.calls reads.feeds.makes answers.asks.makes)
              (grows_trans (done network_old) (done network_mid) (done network_new) reads.traffic answers.traffic reads.grows answers.grows);
        }

  -- a share of which the time was looked at again
  pub shared_later : {E : Type 0} (after : Share) (result : Result Progress E) (old new : Lane) (front_old front_new : Front R) (network_old network_new : N) → after ≡ record share { now = after.now }
      → as_nanos share.now ≤ as_nanos after.now → IsStep custody done after result old new front_old front_new network_old network_new
      → IsStep custody done share result old new front_old front_new network_old network_new
  shared_later {E} after result old new front_old front_new network_old network_new is later stepped =
      let here : IsStep {E = E} custody done (record share { now = after.now }) result old new front_old front_new network_old network_new =
      subst (λ (s : Share). IsStep {E = E} custody done s result old new front_old front_new network_old network_new) is stepped in
      record {
        step = here.step;
        its = here.its;
        later = omega (arith, later, here.later);
        parts = here.parts;
        is_step = here.is_step;
        room = here.room;
        fed = here.fed;
        handled = here.handled;
        ends = here.ends;
        drops = here.drops;
        works = here.works;
      }

-- what it means that there is no room otherwise
pub room_told : (has_room : Bool) → not has_room ≡ false → has_room ≡ true
room_told true told = refl
room_told false told = let e : true ≡ false = told in absurd cc

-- ---- late

-- why one is closed that is late, by what was waited for
pub late_quiet : (terms : Terms) (step : Step) (lane : Lane) → lane.stage ≡ stage.Quiet → IsLate terms lane → EndsBy terms step lane reason.Idle
late_quiet terms step lane quiet late = (quiet, late)

pub late_else : (terms : Terms) (step : Step) (lane : Lane) → lane.stage ≢ stage.Quiet → IsLate terms lane → EndsBy terms step lane reason.Late
late_else terms step lane other late = (other, late)

pub late_parted : (terms : Terms) (step : Step) (lane : Lane) → lane.stage ≡ stage.Parting → IsLate terms lane → EndsBy terms step lane reason.Ended
late_parted terms step lane parts late = inr parts

-- The share of a place: a step of the connection that is open there, behind which it may be closed.
use Rattle.std.proofs.Common.{◌≡◌, ◌≢◌, ◌≤◌, ◌⊎◌, inl, inr, ℕ, Bool, true, List, [], ◌∷◌, ◌++◌, length, Option, Some, None, option_map, Result, Ok, Err, IsTrue, refl, sym, ap, subst, ◌∙◌}
use Rattle.std.proofs.lemmas.List.{append-nil, get_or-set_same, set-set}
use Rattle.std.specs.Prelude.{slice_set}
use Rattle.std.specs.Duration.{as_nanos}
use Rattle.std.specs.declared.time.Duration.{Duration}
use Rattle.xa_records.specs.Keeper.{Custody}
use Rattle.xa_server.specs.declared.connection.Answer.{Answer}
use Rattle.xa_server.specs.declared.event.Event.{Event}
use Rattle.xa_server.specs.declared.event.Outcome.{Outcome}
use Rattle.xa_server.specs.declared.front.Front.{Front}
use Rattle.xa_server.specs.declared.lines.Conn.{Conn}
use Rattle.xa_server.specs.TurningAway.{Handling}
use Rattle.xa_reactor.specs.declared.access.Access.{Access}
use Rattle.xa_reactor.specs.declared.lane.Lane.{Lane}
use Rattle.xa_reactor.specs.declared.lane.Share.{Share}
use Rattle.xa_reactor.specs.declared.limits.Stage.{Stage}
use Rattle.xa_reactor.specs.declared.limits.Stage.TheVariants.{Parting}
use Rattle.xa_reactor.specs.declared.limits.Terms.{Terms}
use Rattle.xa_reactor.specs.declared.progress.Progress.{Progress}
use Rattle.xa_reactor.specs.declared.progress.Progress.TheVariants.{Ends, Goes, Waits}
use Rattle.xa_reactor.specs.declared.progress.Reason.{Reason}
use Rattle.xa_reactor.specs.declared.progress.Reason.TheVariants.{Ended, Failed, Idle, Late, DrivenOut, WantOfMemory}
use Rattle.xa_reactor.specs.Step.{AreHandledBy, Calls, DropsAs, DropsBy, EndsAs, IsStep, IsStepOn, PartsBehind, Step, Works, joined, no_calls}
use Rattle.xa_reactor.specs.Timing.{IsParted, KeepsMark}
use Rattle.xa_reactor.specs.Traffic.{Traffic, sent_at}
use Rattle.xa_reactor.specs.Turn.{AreDone, Deed, IsDone, IsShareOf, IsStepIn, Lanes, calls_in, calls_of, closes, lane_at, steps, traffic_in, traffic_of, under_way}
use Rattle.xa_reactor.specs.handling.Turning.{Closes, Does, EndsIf, IsShareAt, OpensNone, StepsAt}
use Rattle.xa_reactor.proofs.AlikeLemmas.{within}
use Rattle.xa_reactor.proofs.DeedLemmas.{does_more, does_none, done_one}

nothing : {X : Type 0} {x : X} → None ≡ Some x → ⊥
nothing e = cc

-- a connection put at a place at which one was
there_now : (place : ℕ) (lanes : Lanes) (lane : Lane) (put : Option Lane) → lane_at place lanes ≡ Some lane → lane_at place (slice_set lanes place put) ≡ put
there_now place lanes lane put there = get_or-set_same lanes place put None (within lanes place lane there)

-- one deed's calls are those of a list of it alone
one_call : (calls : Calls) → calls ≡ joined calls no_calls
one_call calls =
    ap (λ (hs : List Handling). record { hows = hs; events = calls.events; outcomes = calls.outcomes }) (sym (append-nil calls.hows))
    ∙ ap (λ (es : List Event). record { hows = calls.hows ++ []; events = es; outcomes = calls.outcomes }) (sym (append-nil calls.events))
    ∙ ap (λ (os : List Outcome). record { hows = calls.hows ++ []; events = calls.events ++ []; outcomes = os }) (sym (append-nil calls.outcomes))

module _ {R N : Type 0} (custody : R → Custody) (done : N → Option (List Traffic)) where
  pub works_one : (deed : Deed) (front_old front_new : Front R) (network_old network_new : N)
      → Works custody done (calls_in deed) (traffic_in deed) front_old front_new network_old network_new
      → Works custody done (calls_of (deed ∷ [])) (traffic_of (deed ∷ [])) front_old front_new network_old network_new
  works_one deed front_old front_new network_old network_new works =
      subst (λ (calls : Calls). Works custody done calls (traffic_of (deed ∷ [])) front_old front_new network_old network_new) (one_call (calls_in deed))
      (subst (λ (traffic : List Traffic). Works custody done (calls_in deed) traffic front_old front_new network_old network_new) (sym (append-nil (traffic_in deed))) works)

  -- ---- a step

  room_of : (has_room : Bool) (lanes : Lanes) (none : Type 0) → (has_room ≡ true → under_way lanes ≤ 33_554_432) → none ⊎ (has_room ≡ true) → none ⊎ (under_way lanes ≤ 33_554_432)
  room_of has_room lanes none room (inl nothing) = inl nothing
  room_of has_room lanes none room (inr has) = inr (room has)

  -- at which address it came makes no difference to what a step does to it, nor to why it ends
  marks_so : (at sent : ℕ) (answer : Option Answer) (was is : Lane) (access : Access) → KeepsMark at sent answer was is → KeepsMark at sent answer was (record is { access = access })
  marks_so at sent None was is access it = it
  marks_so at sent (Some answer) was is access it = it

  step_on_so : (step : Step) (was is : Lane) (access : Access) → IsStepOn step was is → IsStepOn step was (record is { access = access })
  step_on_so step was is access it = record {
    fed = it.fed;
    asked = it.asked;
    received = it.received;
    sent = it.sent;
    held = it.held;
    unread = it.unread;
    parted = it.parted;
    parts = λ parts. parts_so (it.parts parts);
    time = it.time;
    marks = λ replies. marks_so step.at (length (sent_at step.conn.number step.traffic)) step.answer was is access (it.marks replies);
    there = it.there;
  }
    where
      parts_so : (was.stage ≡ Parting) ⊎ PartsBehind step was.outgoing is → (was.stage ≡ Parting) ⊎ PartsBehind step was.outgoing (record is { access = access })
      parts_so (inl parted) = inl parted
      parts_so (inr parts) = inr (record { whole = parts.whole; reply = parts.reply; why = parts.why })

  ends_so : {E : Type 0} (result : Result Progress E) (terms : Terms) (step : Step) (is : Lane) (access : Access) → EndsIf terms step is result → EndsIf terms step (record is { access = access }) result
  ends_so (Ok Waits) terms step is access it = it
  ends_so (Ok Goes) terms step is access it = it
  ends_so (Ok (Ends Ended)) terms step is access it = it
  ends_so (Ok (Ends Failed)) terms step is access it = it
  ends_so (Ok (Ends Idle)) terms step is access it = it
  ends_so (Ok (Ends Late)) terms step is access it = it
  ends_so (Ok (Ends DrivenOut)) terms step is access it = it
  ends_so (Ok (Ends WantOfMemory)) terms step is access it = it
  ends_so (Err error) terms step is access it = it

  -- the access of a share is that of its connection
  access_of : (place : ℕ) (old : Lanes) (was : Lane) (access : Access) → Some was ≡ lane_at place old → option_map (λ lane. lane.access) (lane_at place old) ≡ Some access → was.access ≡ access
  access_of place old was access there came =
      let same : Some was.access ≡ Some access = ap (λ (l : Option Lane). option_map (λ lane. lane.access) l) there ∙ came in cc

  -- the connection is taken out, has its step, and is put back
  pub steps_at : {E : Type 0} (share : Share) (went result : Result Progress E) (terms : Terms) (was is : Lane) (old : Lanes) (front_old front_new : Front R)
      (network_old network_new : N) → Some was ≡ lane_at share.conn.number old → IsStep custody done share went was is front_old front_new network_old network_new
      → IsShareAt share terms share.conn.number old → ((step : Step) → EndsAs step.conn.number step.traffic is went → EndsIf terms step is result)
      → ((dropped : List ℕ) → DropsAs dropped is.stage went → DropsAs dropped is.stage result)
      → StepsAt custody done result terms share.conn.number old (slice_set (slice_set old share.conn.number None) share.conn.number (Some (record is { access = share.access }))) front_old front_new network_old network_new
  steps_at share went result terms was is old front_old front_new network_old network_new there stepped known ends drops = record {
    step = stepped.step;
    was = was;
    is = record is { access = share.access };
    there = sym there;
    its = stepped.its;
    within = (subst (λ (time : Duration). as_nanos time ≤ stepped.step.at) known.at stepped.later, stepped.parts ∙ known.parts);
    is_step = step_on_so stepped.step was is share.access stepped.is_step;
    answers =
        let same = access_of share.conn.number old was share.access there known.came in
        record {
          room = room_of share.has_room old (stepped.step.answer ≡ None) known.room stepped.room;
          fed = stepped.fed;
          handled = subst (λ (access : Access). AreHandledBy access stepped.step.asked.hows) (sym same) stepped.handled;
          came = sym same;
        };
    ends = ends_so result terms stepped.step is share.access (ends stepped.step stepped.ends);
    drops = drops stepped.step.dropped stepped.drops;
    put = set-set old share.conn.number None (Some (record is { access = share.access }));
    works = stepped.works;
  }

  -- that of a share which is known to be the place's
  pub share_for : (share : Share) (terms : Terms) (place : ℕ) (old : Lanes) → IsShareAt share terms place old → IsShareAt share terms share.conn.number old
  share_for share terms place old known = subst (λ (n : ℕ). IsShareAt share terms n old) (sym (ap (λ (conn : Conn). conn.number) known.conn)) known

  pub steps_for : {E : Type 0} (share : Share) (place : ℕ) (result : Result Progress E) (terms : Terms) (old new : Lanes) (front_old front_new : Front R)
      (network_old network_new : N) → IsShareAt share terms place old
      → StepsAt custody done result terms share.conn.number old new front_old front_new network_old network_new
      → StepsAt custody done result terms place old new front_old front_new network_old network_new
  steps_for share place result terms old new front_old front_new network_old network_new known stepped =
      subst (λ (n : ℕ). StepsAt custody done result terms n old new front_old front_new network_old network_new) (ap (λ (conn : Conn). conn.number) known.conn) stepped

  -- ---- what comes of a step

  module _ {E : Type 0} (result : Result Progress E) (terms : Terms) (place : ℕ) (old mid : Lanes) (front_old front_mid : Front R) (network_old network_mid : N)
      (steps_of : StepsAt custody done result terms place old mid front_old front_mid network_old network_mid) where
    number : steps_of.step.conn.number ≡ place
    number = ap (λ (conn : Conn). conn.number) steps_of.its

    it_is_done : IsDone (steps steps_of.step) old mid
    it_is_done = (
      steps_of.was,
      steps_of.is,
      ap (λ (n : ℕ). lane_at n old) number ∙ steps_of.there,
      steps_of.is_step,
      steps_of.answers,
      steps_of.put ∙ ap (λ (n : ℕ). slice_set old n (Some steps_of.is)) (sym number),
    )

    -- it was stepped, and nothing else was done
    one_step : Does custody done (λ deeds. deeds ≡ steps steps_of.step ∷ []) old mid front_old front_mid network_old network_mid
    one_step = record {
      deeds = steps steps_of.step ∷ [];
      are_so = refl;
      are_done = done_one (steps steps_of.step) old mid it_is_done;
      works = works_one (steps steps_of.step) front_old front_mid network_old network_mid steps_of.works;
    }

    -- it goes on
    pub shared_on : IsParted terms steps_of.is → (steps_of.step.dropped ≡ []) ⊎ (steps_of.is.stage ≡ Parting)
        → Does custody done (λ deeds. IsShareOf terms place (lane_at place old) deeds (lane_at place mid)) old mid front_old front_mid network_old network_mid
    unfolding one_step
    shared_on parted drops = record {
      deeds = steps steps_of.step ∷ [];
      are_so =
          subst (λ (l : Option Lane). IsShareOf terms place l (steps steps_of.step ∷ []) (lane_at place mid)) (sym steps_of.there)
          (subst (λ (l : Option Lane). IsShareOf terms place (Some steps_of.was) (steps steps_of.step ∷ []) l)
          (sym (ap (lane_at place) steps_of.put ∙ there_now place old steps_of.was (Some steps_of.is) steps_of.there)) (number, steps_of.within, parted, drops));
      are_done = one_step.are_done;
      works = one_step.works;
    }

    -- the program halts
    pub shared_broken : Does custody done OpensNone old mid front_old front_mid network_old network_mid
    unfolding one_step
    shared_broken = record { deeds = steps steps_of.step ∷ []; are_so = tt; are_done = one_step.are_done; works = one_step.works }

    -- a connection is there still
    pub still_there : lane_at place mid ≡ Some steps_of.is
    still_there = ap (lane_at place) steps_of.put ∙ there_now place old steps_of.was (Some steps_of.is) steps_of.there

    pub not_gone : lane_at place mid ≢ None
    not_gone none = nothing (sym none ∙ still_there)

  -- what was dropped of one that is closed
  closed_drops : (reason : Reason) (dropped : List ℕ) (stage : Stage) → DropsBy dropped stage (Ends reason) → (dropped ≡ []) ⊎ ((stage ≡ Parting) ⊎ (reason ≡ WantOfMemory))
  closed_drops WantOfMemory dropped stage is = inr (inr refl)
  closed_drops Ended dropped stage (inl none) = inl none
  closed_drops Ended dropped stage (inr parts) = inr (inl parts)
  closed_drops Failed dropped stage (inl none) = inl none
  closed_drops Failed dropped stage (inr parts) = inr (inl parts)
  closed_drops Idle dropped stage (inl none) = inl none
  closed_drops Idle dropped stage (inr parts) = inr (inl parts)
  closed_drops Late dropped stage (inl none) = inl none
  closed_drops Late dropped stage (inr parts) = inr (inl parts)
  closed_drops DrivenOut dropped stage (inl none) = inl none
  closed_drops DrivenOut dropped stage (inr parts) = inr (inl parts)

  -- it is closed behind it
  gone : (conn : Conn) (reason : Reason) (mid new : Lanes) → AreDone (closes conn reason ∷ []) mid new → lane_at conn.number new ≡ None
  gone conn reason mid new (after, (lane, there, put), same) = ap (lane_at conn.number) (same ∙ put) ∙ there_now conn.number mid lane None there

  module _ (is_open : (s : R) → (custody s).sound → IsTrue (custody s).is_open) where
    pub shared_closed : {E : Type 0} (reason : Reason) (terms : Terms) (place : ℕ) (old mid new : Lanes) (front_old front_mid front_new : Front R)
        (network_old network_mid network_new : N) (steps_of : StepsAt custody done {E = E} (Ok (Ends reason)) terms place old mid front_old front_mid network_old network_mid)
        → Closes custody done place reason mid new front_mid front_new network_mid network_new
        → Does custody done (λ deeds. IsShareOf terms place (lane_at place old) deeds (lane_at place new)) old new front_old front_new network_old network_new
    shared_closed {E} reason terms place old mid new front_old front_mid front_new network_old network_mid network_new steps_of closed =
        let conn : Conn = record { number = place } in
        let first = one_step (Ok (Ends reason)) terms place old mid front_old front_mid network_old network_mid steps_of in
        let none : lane_at place new ≡ None = gone conn reason mid new (subst (λ (ds : List Deed). AreDone ds mid new) closed.are_so closed.are_done) in
        let share : IsShareOf terms place (lane_at place old) (steps steps_of.step ∷ closes conn reason ∷ []) (lane_at place new) =
        subst (λ (l : Option Lane). IsShareOf terms place l (steps steps_of.step ∷ closes conn reason ∷ []) (lane_at place new)) (sym steps_of.there)
        (subst (λ (l : Option Lane). IsShareOf terms place (Some steps_of.was) (steps steps_of.step ∷ closes conn reason ∷ []) l) (sym none)
        (ap (λ (c : Conn). c.number) steps_of.its, sym steps_of.its, steps_of.within, (steps_of.is, steps_of.is_step, steps_of.ends, closed_drops reason steps_of.step.dropped steps_of.is.stage steps_of.drops))) in
        does_more custody done is_open (λ deeds. deeds ≡ steps steps_of.step ∷ []) (λ deeds. deeds ≡ closes conn reason ∷ [])
        (λ deeds. IsShareOf terms place (lane_at place old) deeds (lane_at place new)) old mid new front_old front_mid front_new network_old network_mid network_new
        (λ deeds others is are.
        subst (λ (ds : List Deed). IsShareOf terms place (lane_at place old) (ds ++ others) (lane_at place new)) (sym is)
        (subst (λ (ds : List Deed). IsShareOf terms place (lane_at place old) (steps steps_of.step ∷ [] ++ ds) (lane_at place new)) (sym are) share))
        first closed

    -- nobody is there
    pub shared_none : (terms : Terms) (place : ℕ) (lanes : Lanes) (front : Front R) (network : N) → lane_at place lanes ≡ None
        → Does custody done (λ deeds. IsShareOf terms place (lane_at place lanes) deeds (lane_at place lanes)) lanes lanes front front network network
    shared_none terms place lanes front network none =
        does_none custody done is_open (λ deeds. IsShareOf terms place (lane_at place lanes) deeds (lane_at place lanes)) lanes lanes front front network network
        (subst (λ (l : Option Lane). IsShareOf terms place l [] l) (sym none) tt) refl refl refl

-- Deeds can be parted anywhere, and those of turns are done one after another.
use Rattle.std.proofs.Common.{◌≡◌, ℕ, ◌+◌, suc, List, [], ◌∷◌, ◌++◌, length, Option, refl, sym, ap, subst, ◌∙◌, arith, length-append}
use Rattle.std.proofs.lemmas.List.{append_assoc}
use Rattle.xa_http.specs.declared.session.Next.{Next}
use Rattle.xa_server.specs.declared.event.Event.{Event}
use Rattle.xa_server.specs.declared.event.Outcome.{Outcome}
use Rattle.xa_server.specs.Front.{Plays}
use Rattle.xa_server.specs.Lines.{Lines}
use Rattle.xa_reactor.specs.declared.lane.Lane.{Lane}
use Rattle.xa_reactor.specs.declared.limits.Terms.{Terms}
use Rattle.xa_reactor.specs.Run.{AreParts, AreTurns, deeds_of}
use Rattle.xa_reactor.specs.Step.{Calls, IsStepOn, Step, joined}
use Rattle.xa_reactor.specs.Turn.{AreDone, AreShared, Deed, IsTurn, Lanes, Turn, calls_of, closes, deeds_in, opens, steps}
use Rattle.xa_reactor.proofs.DeedLemmas.{calls_on, done_on}
use Rattle.xa_reactor.proofs.SittingLemmas.{asked_rest, fed_rest}

-- ---- turns

shared_done : (terms : Terms) (places : List ℕ) (deeds : List Deed) (old new : Lanes) → AreShared terms places deeds old new → AreDone deeds old new
shared_done terms [] deeds old new (none, same) = subst (λ (ds : List Deed). AreDone ds old new) (sym none) same
shared_done terms (place ∷ places) deeds old new (first, rest, mid, are, share, done, shared) =
    subst (λ (ds : List Deed). AreDone ds old new) (sym are) (done_on first rest old mid new done (shared_done terms places rest mid new shared))

turn_done : (turn : Turn) (old new : Lanes) → IsTurn turn old new → AreDone (deeds_in turn) old new
turn_done turn old new is = done_on turn.taken turn.shared old is.mid new is.opened (shared_done turn.terms _ turn.shared is.mid new is.shares)

pub turns_done : (turns : List Turn) (old new : Lanes) → AreTurns turns old new → AreDone (deeds_of turns) old new
turns_done [] old new same = same
turns_done (turn ∷ turns) old new (mid, is, rest) = done_on (deeds_in turn) (deeds_of turns) old mid new (turn_done turn old mid is) (turns_done turns mid new rest)

-- ---- parts

done_parts : (deeds more : List Deed) (old new : Lanes) → AreDone (deeds ++ more) old new → (mid : Lanes) × AreDone deeds old mid × AreDone more mid new
done_parts [] more old new done = (old, refl, done)
done_parts (deed ∷ deeds) more old new (first, is, done) = let rest = done_parts deeds more first new done in (rest.0, (first, is, rest.1), rest.2)

-- as many outcomes as events
plays_lengths : (events : List Event) (outcomes : List Outcome) (nexts : List (Option Next)) (old new : Lines) → Plays events outcomes nexts old new → length events ≡ length outcomes
plays_lengths [] [] [] old new same = refl
plays_lengths (e ∷ events) (o ∷ outcomes) (given ∷ nexts) old new (mid, does, plays) = ap suc (plays_lengths events outcomes nexts mid new plays)
plays_lengths [] [] (given ∷ nexts) old new none = absurd none
plays_lengths [] (o ∷ outcomes) nexts old new none = absurd none
plays_lengths (e ∷ events) [] nexts old new none = absurd none
plays_lengths (e ∷ events) (o ∷ outcomes) [] old new none = absurd none

-- events are parted where outcomes are
plays_parts : (events more : List Event) (outcomes rest : List Outcome) (nexts : List (Option Next)) (old new : Lines) → length events ≡ length outcomes
    → Plays (events ++ more) (outcomes ++ rest) nexts old new
    → (first later : List (Option Next)) × (mid : Lines) × (nexts ≡ first ++ later) × Plays events outcomes first old mid × Plays more rest later mid new
plays_parts [] more [] rest nexts old new long plays = ([], nexts, old, refl, refl, plays)
plays_parts (e ∷ events) more (o ∷ outcomes) rest (given ∷ nexts) old new long (mid, does, plays) =
    let (first, later, at, all, here, behind) = plays_parts events more outcomes rest nexts mid new (omega (arith, long)) plays in
    (given ∷ first, later, at, ap (λ (gs : List (Option Next)). given ∷ gs) all, (mid, does, here), behind)
plays_parts [] more (o ∷ outcomes) rest nexts old new long plays = absurd (omega (arith, long))
plays_parts (e ∷ events) more [] rest nexts old new long plays = absurd (omega (arith, long))
plays_parts (e ∷ events) more (o ∷ outcomes) rest [] old new long none = absurd none

-- the events behind those of deeds
abbrev HasMore : List Deed → Lines → Type 0
HasMore more new = (others : List (Option Next)) × (mid : Lines) × Plays (calls_of more).events (calls_of more).outcomes others mid new

step_behind : (step : Step) (calls : Calls) (nexts : List (Option Next)) (was is : Lane) (old new : Lines) → IsStepOn step was is
    → Plays (joined (joined step.fed step.asked) calls).events (joined (joined step.fed step.asked) calls).outcomes nexts old new
    → (others : List (Option Next)) × (mid : Lines) × Plays calls.events calls.outcomes others mid new
step_behind step calls nexts was is old new its plays =
    let of_events = append_assoc step.fed.events step.asked.events calls.events in
    let of_outcomes = append_assoc step.fed.outcomes step.asked.outcomes calls.outcomes in
    let regrouped : Plays (step.fed.events ++ (step.asked.events ++ calls.events)) (step.fed.outcomes ++ (step.asked.outcomes ++ calls.outcomes)) nexts old new =
    subst (λ (es : List Event). Plays es (step.fed.outcomes ++ (step.asked.outcomes ++ calls.outcomes)) nexts old new) of_events
    (subst (λ (os : List Outcome). Plays (step.fed.events ++ step.asked.events ++ calls.events) os nexts old new) of_outcomes plays) in
    let first = fed_rest step.conn step.conn step.read step.dropped step.fed.events (step.asked.events ++ calls.events) step.fed.outcomes (step.asked.outcomes ++ calls.outcomes) nexts old new its.fed regrouped in
    let later = asked_rest step.conn step.conn step.answer step.asked.events calls.events step.asked.outcomes calls.outcomes first.0 first.1 new its.asked first.2 in
    (later.0, later.1, later.2)

behind : (deeds more : List Deed) (nexts : List (Option Next)) (lanes_old lanes_new : Lanes) (old new : Lines) → AreDone deeds lanes_old lanes_new
    → Plays (calls_of (deeds ++ more)).events (calls_of (deeds ++ more)).outcomes nexts old new → HasMore more new
behind [] more nexts lanes_old lanes_new old new done plays = (nexts, old, plays)
behind (opens other access ∷ deeds) more (given ∷ nexts) lanes_old lanes_new old new (lanes, is, done) (mid, does, plays) = behind deeds more nexts lanes lanes_new mid new done plays
behind (closes other reason ∷ deeds) more (given ∷ nexts) lanes_old lanes_new old new (lanes, is, done) (mid, does, plays) = behind deeds more nexts lanes lanes_new mid new done plays
behind (steps step ∷ deeds) more nexts lanes_old lanes_new old new (lanes, (was, is, had, its, room, put), done) plays =
    let rest = step_behind step (calls_of (deeds ++ more)) nexts was is old new its plays in
    behind deeds more rest.0 lanes lanes_new rest.1 new done rest.2
behind (opens other access ∷ deeds) more [] lanes_old lanes_new old new done none = absurd none
behind (closes other reason ∷ deeds) more [] lanes_old lanes_new old new done none = absurd none

same_rest : (a b c d : ℕ) → a + b ≡ c + d → b ≡ d → a ≡ c
same_rest a b c d sum rest = omega (arith, sum, rest)

pub are_parts : (deeds more : List Deed) (nexts : List (Option Next)) (lanes_old lanes_new : Lanes) (lines_old lines_new : Lines) → AreDone (deeds ++ more) lanes_old lanes_new
    → Plays (calls_of (deeds ++ more)).events (calls_of (deeds ++ more)).outcomes nexts lines_old lines_new → AreParts deeds more nexts lanes_old lanes_new lines_old lines_new
are_parts deeds more nexts lanes_old lanes_new lines_old lines_new done plays =
    let (lanes, first, later) = done_parts deeds more lanes_old lanes_new done in
    let rest = behind deeds more nexts lanes_old lanes lines_old lines_new first plays in
    let E = (calls_of deeds).events in
    let F = (calls_of more).events in
    let O = (calls_of deeds).outcomes in
    let P = (calls_of more).outcomes in
    let both : Plays (E ++ F) (O ++ P) nexts lines_old lines_new =
    subst (λ (calls : Calls). Plays calls.events calls.outcomes nexts lines_old lines_new) (calls_on deeds more) plays in
    let sum : length E + length F ≡ length O + length P = sym (length-append E F) ∙ plays_lengths (E ++ F) (O ++ P) nexts lines_old lines_new both ∙ length-append O P in
    let long : length E ≡ length O = same_rest (length E) (length F) (length O) (length P) sum (plays_lengths F P rest.0 rest.1 lines_new rest.2) in
    let (given, others, lines, all, here, there) = plays_parts E F O P nexts lines_old lines_new long both in
    record {
      first = given;
      later = others;
      lanes = lanes;
      lines = lines;
      all = all;
      first_done = first;
      later_done = later;
      first_plays = here;
      later_plays = there;
    }

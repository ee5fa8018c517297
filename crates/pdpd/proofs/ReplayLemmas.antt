-- The entries of a transcript, read and answered one after another.
use Rattle.std.proofs.Common.{◌≡◌, ℕ, ◌+◌, Bool, true, false, List, [], ◌∷◌, ◌++◌, length, Option, Some, None, Err, IsTrue, refl, sym, ap, subst, ◌∙◌, append_assoc, append-nil, length-append, arith, ◌⊎◌, inl, inr}
use Rattle.std.proofs.KnownBytes.{Appends-nil, Appends-trans, Consumes-nil, Consumes-trans}
use Rattle.std.specs.Prelude.{⊤, IsFalse, MatchOption}
use Rattle.std.specs.Io.KnownBytes.{Appends, Consumes, Keeps, append_known}
use Rattle.std.proofs.lemmas.Bool.{false≢true}
use Rattle.sqlite.specs.Held.{Held, state}
use Rattle.sqlite.specs.State.{HasCleanDisk}
use Rattle.sqlite.specs.Store.{Ghosts}
use Rattle.xa_http.specs.Stream.{Stream}
use Rattle.xa_server.specs.declared.replies.Reply.{Reply}
use Rattle.xa_server.specs.Alone.{Event}
use Rattle.xa_records.specs.Keeper.{Custody}
use Rattle.xa_records.specs.Kept.{nothing_kept}
use Rattle.xa_server.specs.Decisions.{nothing_cached}
use Rattle.xa_server.specs.declared.front.Front.{Front}
use Rattle.xa_server.specs.Lines.{all_open}
use Rattle.xa_server.specs.Serving.{AreServed}
use Rattle.xa_server.specs.World.{ServerModel}
use Rattle.xa_store.specs.Keeper.{IsSound, Keeper}
use Rattle.xa_store.specs.KeeperReading.{custody_by, kept_by}
use Rattle.pdpd.specs.declared.exit.Exit.{Exit}
use Rattle.pdpd.specs.declared.exit.Exit.TheVariants as exit
use Rattle.pdpd.specs.declared.replay.heading.Heading.{Heading}
use Rattle.pdpd.specs.declared.replay.transcript.EntryFault.{EntryFault}
use Rattle.pdpd.specs.declared.replay.transcript.EntryFault.TheVariants as read
use Rattle.pdpd.specs.Exit.{breaks_off, exit_of_read, tells_of_entries}
use Rattle.pdpd.specs.Replay.{AreEntries, AreReplied, ConnectionTakes, Entry, Exchange, Gave, IsEntryReplied, IsReplayed, IsReplayedFromNothing, IsSomeRun, IsTranscriptRead, OpenTakes, Replays, StreamTakes, followed, no_exchange}
use Rattle.pdpd.specs.running.Replaying.{Writes}
use Rattle.pdpd.specs.Transcript.{IsEntry, IsNoEntry, Rejects, TakesEntry, TakesOrRejects}
use Rattle.pdpd.proofs.RunLemmas.{none_run, run_on}

-- ---- what an entry takes is a run

module _ {R : Type 0} (custody : R → Custody) (is_open : (s : R) → (custody s).sound → IsTrue (custody s).is_open) where
  -- an exchange is a run
  abbrev IsRun : ServerModel R → ServerModel R → Exchange → Type 0
  IsRun old new exchange = AreServed custody old new exchange.events exchange.replies

  stream_run : (heading : Heading) (bytes : List ℕ) (was is : Stream) (old new : ServerModel R) (exchange : Exchange)
      → StreamTakes custody heading bytes was is old new exchange → IsRun old new exchange
  stream_run heading bytes was is old new exchange (after, replies, answered, kept, same) =
      subst (λ (e : Exchange). IsRun old new e) (sym same) answered.are_one

  idle_run : (old new : ServerModel R) (exchange : Exchange) → new ≡ old → exchange ≡ no_exchange → IsRun old new exchange
  idle_run old new exchange same none = subst (λ (e : Exchange). IsRun old new e) (sym none) (none_run custody is_open old new same)

  open_run : (ended : Bool) (heading : Heading) (bytes : List ℕ) (was is : Stream) (old new : ServerModel R) (exchange : Exchange)
      → OpenTakes custody ended heading bytes was is old new exchange → IsRun old new exchange
  open_run true heading bytes was is old new exchange takes = idle_run old new exchange takes.1 takes.2
  open_run false heading bytes was is old new exchange takes = stream_run heading bytes was is old new exchange takes

  takes_run : (heading : Heading) (bytes : List ℕ) (was is : Stream) (old new : ServerModel R) (exchange : Exchange)
      → ConnectionTakes custody heading bytes was is old new exchange → IsRun old new exchange
  takes_run heading [] was is old new exchange takes = idle_run old new exchange takes.1 takes.2
  takes_run heading (byte ∷ bytes) was is old new exchange takes = open_run was.ended heading (byte ∷ bytes) was is old new exchange takes

-- ---- entries that are answered

abbrev exchange_of : List Event → List Reply → List ℕ → Exchange
exchange_of events replies written = record { events = events; replies = replies; written = written }

same_exchange : (es fs : List Event) (rs qs : List Reply) (ws vs : List ℕ) → es ≡ fs → rs ≡ qs → ws ≡ vs → exchange_of es rs ws ≡ exchange_of fs qs vs
same_exchange es fs rs qs ws vs events replies written =
    ap (λ (l : List Event). exchange_of l rs ws) events ∙ ap (λ (l : List Reply). exchange_of fs l ws) replies ∙ ap (λ (l : List ℕ). exchange_of fs qs l) written

followed_none : (exchange : Exchange) → followed exchange no_exchange ≡ exchange
followed_none exchange =
    same_exchange (exchange.events ++ []) exchange.events (exchange.replies ++ []) exchange.replies (exchange.written ++ []) exchange.written
    (append-nil exchange.events) (append-nil exchange.replies) (append-nil exchange.written)

followed_assoc : (a b c : Exchange) → followed (followed a b) c ≡ followed a (followed b c)
followed_assoc a b c =
    same_exchange ((a.events ++ b.events) ++ c.events) (a.events ++ (b.events ++ c.events)) ((a.replies ++ b.replies) ++ c.replies)
    (a.replies ++ (b.replies ++ c.replies)) ((a.written ++ b.written) ++ c.written) (a.written ++ (b.written ++ c.written))
    (append_assoc a.events b.events c.events) (append_assoc a.replies b.replies c.replies) (append_assoc a.written b.written c.written)

module _ {R : Type 0} (custody : R → Custody) (is_open : (s : R) → (custody s).sound → IsTrue (custody s).is_open) where
  replied_more : (entries : List Entry) (heading : Heading) (bytes : List ℕ) (old mid new : Front R) (exchange more : Exchange) → AreReplied custody entries old mid exchange
      → IsEntryReplied custody heading bytes mid new more → AreReplied custody (entries ++ record { heading = heading; bytes = bytes } ∷ []) old new (followed exchange more)
  replied_more [] heading bytes old mid new exchange more (same, none) is = (
    new,
    more,
    no_exchange,
    subst (λ (f : Front R). IsEntryReplied custody heading bytes f new more) same is,
    (refl, refl),
    ap (λ (e : Exchange). followed e more) none ∙ sym (followed_none more),
  )
  replied_more (entry ∷ entries) heading bytes old mid new exchange more (between, first, others, is_first, are_others, same) is = (
    between,
    first,
    followed others more,
    is_first,
    replied_more entries heading bytes between mid new others more are_others is,
    ap (λ (e : Exchange). followed e more) same ∙ followed_assoc first others more,
  )

  replays_none : (front : Front R) (before : Option (List ℕ)) → Replays custody front front before before []
  replays_none front before = record {
    exchange = no_exchange;
    are_replied = (refl, refl);
    are_one = none_run custody is_open front.server front.server refl;
    wrote = Appends-nil before;
  }

  replays_more : (entries : List Entry) (heading : Heading) (bytes : List ℕ) (old mid new : Front R) (before written now : Option (List ℕ))
      → Replays custody old mid before written entries → Writes written now (IsEntryReplied custody heading bytes mid new)
      → Replays custody old new before now (entries ++ record { heading = heading; bytes = bytes } ∷ [])
  replays_more entries heading bytes old mid new before written now r (reply, wrote, replied) = record {
    exchange = followed r.exchange reply;
    are_replied = replied_more entries heading bytes old mid new r.exchange reply r.are_replied replied;
    are_one =
        run_on custody is_open old.server mid.server new.server r.exchange.events reply.events r.exchange.replies reply.replies r.are_one
        (takes_run custody is_open heading bytes replied.0 replied.1 mid.server new.server reply replied.3);
    wrote = Appends-trans before written now r.exchange.written reply.written r.wrote wrote;
  }

-- ---- entries that are read

entries_more : (entries : List Entry) (heading : Heading) (bytes text more : List ℕ) → AreEntries entries text → IsEntry heading bytes more
    → AreEntries (entries ++ record { heading = heading; bytes = bytes } ∷ []) (text ++ more)
entries_more [] heading bytes text more none is =
    (more, [], is, refl, ap (λ (t : List ℕ). t ++ more) none ∙ sym (append-nil more))
entries_more (entry ∷ entries) heading bytes text more (first, others, is_first, are_others, same) is =
    (first, others ++ more, is_first, entries_more entries heading bytes others more are_others is, ap (λ (t : List ℕ). t ++ more) same ∙ append_assoc first others more)

-- that many entries are read, and the next one has that number
pub record SoFar (done : List Entry → Type 0) (left rest : Option (List ℕ)) (number : ℕ) : Type 0 where
  pub entries : List Entry
  pub gave : Gave left rest entries []
  pub counted : number ≡ length entries + 1
  pub holds : done entries

read_none : (done : List Entry → Type 0) (left : Option (List ℕ)) → done [] → SoFar done left left 1
read_none done left is = record { entries = []; gave = ([], Consumes-nil left, refl); counted = refl; holds = is }

read_more : (done after : List Entry → Type 0) (left mid rest : Option (List ℕ)) (number : ℕ) (heading : Heading) (bytes : List ℕ) → SoFar done left mid number
    → TakesEntry mid rest bytes (Some heading) → ((entries : List Entry) → done entries → after (entries ++ record { heading = heading; bytes = bytes } ∷ []))
    → SoFar after left rest (number + 1)
read_more done after left mid rest number heading bytes so_far (more, taken, is) on =
    let gave = so_far.gave in
    let front : Consumes left mid gave.0 = subst (λ (t : List ℕ). Consumes left mid t) (append-nil gave.0) gave.1 in
    record {
      entries = so_far.entries ++ record { heading = heading; bytes = bytes } ∷ [];
      gave = (
        gave.0 ++ more,
        subst (λ (t : List ℕ). Consumes left rest t) (sym (append-nil (gave.0 ++ more))) (Consumes-trans left mid rest gave.0 more front taken),
        entries_more so_far.entries heading bytes gave.0 more gave.2 is,
      );
      counted = omega (arith, so_far.counted, length-append so_far.entries (record { heading = heading; bytes = bytes } ∷ []));
      holds = on so_far.entries so_far.holds;
    }

-- nothing is left
read_all : (done : List Entry → Type 0) (left mid rest : Option (List ℕ)) (number : ℕ) (bytes : List ℕ) → SoFar done left mid number → TakesEntry mid rest bytes None
    → IsTranscriptRead done left rest exit.Done
read_all done left mid rest number bytes so_far (none, end) =
    let gave = so_far.gave in
    let all : Consumes left rest ((gave.0 ++ []) ++ []) = Consumes-trans left mid rest (gave.0 ++ []) [] gave.1 none in
    (so_far.entries, (gave.0, subst (λ (t : List ℕ). Consumes left rest t) (append-nil (gave.0 ++ [])) all, gave.2), end, so_far.holds)

-- the next entry can't be read
read_badly : (done : List Entry → Type 0) (left mid rest : Option (List ℕ)) (number : ℕ) (is : Option Heading → Type 0) (f : EntryFault) → SoFar done left mid number
    → TakesOrRejects is (Rejects IsNoEntry mid rest) (Err f) → IsTranscriptRead done left rest (exit_of_read number f)
read_badly done left mid rest number is (read.Malformed wrong) so_far (behind, taken, is_no) =
    let gave = so_far.gave in
    let front : Consumes left mid gave.0 = subst (λ (t : List ℕ). Consumes left mid t) (append-nil gave.0) gave.1 in
    (so_far.entries, behind, (gave.0, Consumes-trans left mid rest gave.0 behind front taken, gave.2), is_no, so_far.counted, so_far.holds)
read_badly done left mid rest number is read.Failed so_far reads = tt
read_badly done left mid rest number is read.Memory so_far reads = tt

-- if something else failed, nothing is said
pub broken_off : (done : List Entry → Type 0) (left rest : Option (List ℕ)) (exit : Exit) → IsTrue (breaks_off exit) → IsTranscriptRead done left rest exit
broken_off done left rest exit.Done breaks = absurd (false≢true breaks)
broken_off done left rest exit.Failed breaks = tt
broken_off done left rest exit.Usage breaks = tt
broken_off done left rest (exit.Malformed number wrong) breaks = absurd (false≢true breaks)
broken_off done left rest exit.Store breaks = tt
broken_off done left rest exit.Socket breaks = tt
broken_off done left rest exit.Memory breaks = tt

-- nor is anything of entries, if the store or memory failed before anything was read
pub untold : (end : Exit) → (end ≡ exit.Memory) ⊎ (end ≡ exit.Store) → IsFalse (tells_of_entries end)
untold end (inl memory) = ap tells_of_entries memory
untold end (inr store) = ap tells_of_entries store

-- nor of what was read
pub unopened : (done : List Entry → Type 0) (left : Option (List ℕ)) (end : Exit) → (end ≡ exit.Memory) ⊎ (end ≡ exit.Store)
    → (rest : Option (List ℕ)) × IsTranscriptRead done left rest end
unopened done left end (inl memory) = (left, subst (λ (e : Exit). IsTranscriptRead done left left e) (sym memory) tt)
unopened done left end (inr store) = (left, subst (λ (e : Exit). IsTranscriptRead done left left e) (sym store) tt)

read_as_well : (done after : List Entry → Type 0) (left rest : Option (List ℕ)) (exit : Exit) → ((entries : List Entry) → done entries → after entries)
    → IsTranscriptRead done left rest exit → IsTranscriptRead after left rest exit
read_as_well done after left rest exit.Done on is = (is.0, is.1, is.2, on is.0 is.3)
read_as_well done after left rest (exit.Malformed number wrong) on is = (is.0, is.1, is.2, is.3, is.4, on is.0 is.5)
read_as_well done after left rest exit.Failed on is = tt
read_as_well done after left rest exit.Usage on is = tt
read_as_well done after left rest exit.Store on is = tt
read_as_well done after left rest exit.Socket on is = tt
read_as_well done after left rest exit.Memory on is = tt

-- ---- all of them

-- the entries before the one of that number are read
unfoldable pub ReadTo : Option (List ℕ) → Option (List ℕ) → ℕ → Type 0
ReadTo left rest number = SoFar (λ _. ⊤) left rest number

pub given_none : (left : Option (List ℕ)) → ReadTo left left 1
unfolding ReadTo
given_none left = read_none (λ _. ⊤) left tt

pub given_more : (left mid rest : Option (List ℕ)) (number : ℕ) (heading : Heading) (bytes : List ℕ) → ReadTo left mid number → TakesEntry mid rest bytes (Some heading)
    → ReadTo left rest (number + 1)
unfolding ReadTo
given_more left mid rest number heading bytes so_far takes = read_more (λ _. ⊤) (λ _. ⊤) left mid rest number heading bytes so_far takes (λ _ _. tt)

pub given_all : (left mid rest : Option (List ℕ)) (number : ℕ) (bytes : List ℕ) → ReadTo left mid number → TakesEntry mid rest bytes None
    → IsTranscriptRead (λ _. ⊤) left rest exit.Done
unfolding ReadTo
given_all left mid rest number bytes so_far none = read_all (λ _. ⊤) left mid rest number bytes so_far none

pub given_badly : (left mid rest : Option (List ℕ)) (number : ℕ) (is : Option Heading → Type 0) (f : EntryFault) → ReadTo left mid number
    → TakesOrRejects is (Rejects IsNoEntry mid rest) (Err f) → IsTranscriptRead (λ _. ⊤) left rest (exit_of_read number f)
unfolding ReadTo
given_badly left mid rest number is f so_far rejects = read_badly (λ _. ⊤) left mid rest number is f so_far rejects

module _ {R : Type 0} (custody : R → Custody) where
  -- the entries before the one of that number are read, and answered
  unfoldable pub AnsweredTo : Front R → Front R → Option (List ℕ) → Option (List ℕ) → Option (List ℕ) → Option (List ℕ) → ℕ → Type 0
  AnsweredTo old new left rest before now number = SoFar (Replays custody old new before now) left rest number

  pub answered_all : (old new : Front R) (left mid rest before now : Option (List ℕ)) (number : ℕ) (bytes : List ℕ) → AnsweredTo old new left mid before now number
      → TakesEntry mid rest bytes None → IsTranscriptRead (Replays custody old new before now) left rest exit.Done
  unfolding AnsweredTo
  answered_all old new left mid rest before now number bytes so_far none = read_all (Replays custody old new before now) left mid rest number bytes so_far none

  pub answered_badly : (old new : Front R) (left mid rest before now : Option (List ℕ)) (number : ℕ) (is : Option Heading → Type 0) (f : EntryFault)
      → AnsweredTo old new left mid before now number → TakesOrRejects is (Rejects IsNoEntry mid rest) (Err f)
      → IsTranscriptRead (Replays custody old new before now) left rest (exit_of_read number f)
  unfolding AnsweredTo
  answered_badly old new left mid rest before now number is f so_far rejects = read_badly (Replays custody old new before now) left mid rest number is f so_far rejects

module _ {R : Type 0} (custody : R → Custody) (is_open : (s : R) → (custody s).sound → IsTrue (custody s).is_open) where
  pub answered_none : (front : Front R) (left before : Option (List ℕ)) → AnsweredTo custody front front left left before before 1
  unfolding AnsweredTo
  answered_none front left before = read_none (Replays custody front front before before) left (replays_none custody is_open front before)

  pub answered_more : (old mid new : Front R) (left between rest before written now : Option (List ℕ)) (number : ℕ) (heading : Heading) (bytes : List ℕ)
      → AnsweredTo custody old mid left between before written number → TakesEntry between rest bytes (Some heading) → Writes written now (IsEntryReplied custody heading bytes mid new)
      → AnsweredTo custody old new left rest before now (number + 1)
  unfolding AnsweredTo
  answered_more old mid new left between rest before written now number heading bytes so_far takes here =
      read_more (Replays custody old mid before written) (Replays custody old new before now) left between rest number heading bytes so_far takes
      (λ entries r. replays_more custody is_open entries heading bytes old mid new before written now r here)

-- what was held is written at the end
flushed : (before written now : Option (List ℕ)) (bytes : List ℕ) → Appends before written bytes → Keeps written (append_known now []) → Appends before now bytes
flushed None written now bytes appends keeps = tt
flushed (Some xs) None now bytes appends keeps = absurd appends
flushed (Some xs) (Some ys) None bytes appends keeps = absurd keeps
flushed (Some xs) (Some ys) (Some zs) bytes appends keeps = sym (append-nil zs) ∙ keeps ∙ appends

replays_flushed : {R : Type 0} (custody : R → Custody) (old new : Front R) (before written now : Option (List ℕ)) (entries : List Entry) → Keeps written (append_known now [])
    → Replays custody old new before written entries → Replays custody old new before now entries
replays_flushed custody old new before written now entries keeps r = record {
  exchange = r.exchange;
  are_replied = r.are_replied;
  are_one = r.are_one;
  wrote = flushed before written now r.exchange.written r.wrote keeps;
}

pub replayed_all : {R : Type 0} (custody : R → Custody) (old new : Front R) (left rest before written now : Option (List ℕ)) (exit : Exit)
    → IsTranscriptRead (Replays custody old new before written) left rest exit → Keeps written (append_known now [])
    → IsTranscriptRead (Replays custody old new before now) left rest exit
replayed_all custody old new left rest before written now exit answered keeps =
    read_as_well (Replays custody old new before written) (Replays custody old new before now) left rest exit
    (λ entries r. replays_flushed custody old new before written now entries keeps r) answered

-- nothing is held for a writer yet
unbuffered : (known : Option (List ℕ)) (bytes : List ℕ) → bytes ≡ [] → append_known known bytes ≡ known
unbuffered None bytes none = refl
unbuffered (Some xs) bytes none = ap (λ (bs : List ℕ). Some (xs ++ bs)) none ∙ ap Some (append-nil xs)

-- from where a replay begins
pub replayed_from : {R : Type 0} (custody : R → Custody) (front new : Front R) (records : R) (operator : List ℕ)
    (left given rest before inner now : Option (List ℕ)) (buffer : List ℕ) (exit : Exit) → front.server.operator ≡ operator → front.server.records ≡ records
    → front.server.decisions ≡ nothing_cached → front.lines ≡ all_open → given ≡ left → inner ≡ before → buffer ≡ [] → IsSomeRun custody front.server new.server
    → IsTranscriptRead (Replays custody front new (append_known inner buffer) now) given rest exit
    → IsReplayed custody operator records left before now exit new
replayed_from {R} custody front new records operator left given rest before inner now buffer exit operates keeps holds opened gives writes none served is =
    let server : front.server ≡ record { operator = operator; records = records; decisions = nothing_cached }
    = λ i. record { operator = operates i; records = keeps i; decisions = holds i } in
    let written : append_known inner buffer ≡ before = unbuffered inner buffer none ∙ writes in
    record {
      old = front;
      server = server;
      lines = opened;
      served = served;
      rest = rest;
      replayed =
          subst (λ (b : Option (List ℕ)). IsTranscriptRead (Replays custody front new b now) left rest exit) written
          (subst (λ (l : Option (List ℕ)). IsTranscriptRead (Replays custody front new (append_known inner buffer) now) l rest exit) gives is);
    }

-- over a store's repository, which keeps nothing yet
pub replayed_from_nothing : {S X : Type 0} (g : Ghosts S) (clean : (c : Held S) → HasCleanDisk (state g c)) (records : Keeper S) (operator : List ℕ)
    (left before : Option (List ℕ)) (exit : Exit) (held : Option X) (front : X → Front (Keeper S)) (now : X → Option (List ℕ)) → kept_by g records ≡ nothing_kept → IsSound g records
    → MatchOption held (IsFalse (tells_of_entries exit)) (λ x. IsReplayed (custody_by g) operator records left before (now x) exit (front x))
    → MatchOption held (IsFalse (tells_of_entries exit)) (λ x. IsReplayedFromNothing g operator left before (now x) exit (front x))
replayed_from_nothing g clean records operator left before exit (Some x) front now nothing sound is =
    record { records = records; nothing = nothing; sound = sound; clean = clean (front x).server.records.conn; replayed = is }
replayed_from_nothing g clean records operator left before exit None front now nothing sound is = is

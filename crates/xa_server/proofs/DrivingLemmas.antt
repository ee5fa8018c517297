-- A connection that is driven: what was answered, and what comes then.
use Rattle.std.proofs.Common.{◌≡◌, ℕ, ◌+◌, arith, List, [], ◌∷◌, ◌++◌, map, refl, sym, IsTrue, Option}
use Rattle.std.proofs.Common.{Some, length, length-append}
use Rattle.std.specs.Io.KnownBytes.{Consumes}
use Rattle.std.specs.List.{All}
use Rattle.std.proofs.KnownBytes.{Appends-nil, Consumes-nil}
use Rattle.std.proofs.lemmas.List.{append_assoc, map-append}
use Rattle.std.proofs.lemmas.List.Concat.{flat_map-append}
use Rattle.std.proofs.lemmas.List.Elements.{All-nil, All-append}
use Rattle.xa_http.specs.Messages.{Cuts}
use Rattle.xa_http.specs.Stream.{Stream, fed}
use Rattle.xa_http.proofs.LawLemmas.{feeds_on}
use Rattle.xa_records.specs.Keeper.{Custody}
use Rattle.xa_server.specs.Alone.{Event, message_of, moment_of}
use Rattle.xa_server.specs.Connection.{messages_of}
use Rattle.xa_server.specs.declared.drive_end.DriveEnd.{DriveEnd}
use Rattle.xa_server.specs.declared.replies.Reply.{Reply}
use Rattle.xa_server.specs.Driven.{Ends, HasAnswered, IsDrivenWithin, Situation, WentOn}
use Rattle.xa_server.specs.handling.Driving.{HasEnded}
use Rattle.xa_server.specs.Replies.{bytes_of}
use Rattle.xa_server.specs.Transfers.{Grows, IsReadOn, ReadEnd, bytes_given, bytes_read}
use Rattle.xa_server.specs.World.{ServerModel}
use Rattle.xa_server.proofs.ConnectionLemmas.{cuts_trans, fed_nothing}
use Rattle.xa_server.proofs.ServingLemmas.{are_served, none_served, served_on}
use Rattle.xa_server.proofs.TransferLemmas.{both, grows_none, made_trans, sent_trans}

-- what is cut off after more was read
cuts_on : (s t u : Stream) (ps qs : List ReadEnd) (es fs : List Event)
    → Cuts (fed s (bytes_read ps)) (messages_of es) t → Cuts (fed t (bytes_read qs)) (messages_of fs) u
    → Cuts (fed s (bytes_read (ps ++ qs))) (messages_of (es ++ fs)) u
cuts_on s t u ps qs es fs first later =
    let more : List ℕ = bytes_read qs in
    let before : Stream = fed s (bytes_read ps) in
    rw (flat_map-append bytes_given ps qs, map-append message_of es fs, ← append_assoc s.held (bytes_read ps) more)
    (cuts_trans (fed before more) (fed t more) u (messages_of es) (messages_of fs)
    (feeds_on before (messages_of es) t more first) later)

-- what a connection is after a read
abbrev pub after_read : {R : Type 0} → Situation R → Stream → Option (List ℕ) → Option (List ReadEnd) → Situation R
after_read a t m q = record { server = a.server; stream = t; known = record a.known { left = m; reads = q } }

module _ {R : Type 0} (custody : R → Custody) where
  went_trans : (rs qs : List Reply) (xs ys : List (ServerModel R)) → WentOn custody rs xs → WentOn custody qs ys
      → WentOn custody (rs ++ qs) (xs ++ ys)
  went_trans [] qs [] ys none later = later
  went_trans (r ∷ rs) qs (x ∷ xs) ys (on, first) later = (on, went_trans rs qs xs ys first later)
  went_trans _ qs _ ys none later = absurd none

  -- ---- what goes on

  -- these reads came, and no message was answered
  pub read_on : (reads : List ReadEnd) (a : Situation R) (t : Stream) (m : Option (List ℕ)) (q : Option (List ReadEnd))
      → Consumes a.known.left m (bytes_read reads) → Grows a.known.reads q reads → t ≡ fed a.stream (bytes_read reads)
      → All IsReadOn reads → HasAnswered custody (length reads) a (after_read a t m q)
  read_on reads a t m q left grows same on = record {
    calls = record { reads = reads; writes = []; told = [] };
    events = [];
    run = [];
    made = record {
      left = left;
      reads = grows;
      contents = Appends-nil a.known.contents;
      writes = grows_none a.known.writes;
      told = grows_none a.known.told;
    };
    messages = sym same;
    served = none_served custody a.server;
    read = on;
    counted = refl;
    told = refl;
    written = refl;
    went_on = tt;
  }

  abbrev pub none_gone : (a : Situation R) → HasAnswered custody 0 a a
  none_gone a =
      read_on [] a a.stream a.known.left a.known.reads (Consumes-nil a.known.left) (grows_none a.known.reads)
      (sym (fed_nothing a.stream)) (All-nil IsReadOn)

  pub goes_trans : (n m k : ℕ) (a b c : Situation R) → k ≡ n + m → HasAnswered custody n a b → HasAnswered custody m b c
      → HasAnswered custody k a c
  goes_trans n m k a b c sum first later =
      let ones = first.calls in
      let twos = later.calls in
      let es = first.events in
      let fs = later.events in
      let rs = first.run in
      let qs = later.run in
      record {
        calls = both ones twos;
        events = es ++ fs;
        run = rs ++ qs;
        made = made_trans ones twos a.known b.known c.known first.made later.made;
        messages = cuts_on a.stream b.stream c.stream ones.reads twos.reads es fs first.messages later.messages;
        served = served_on custody a.server b.server c.server es fs rs qs first.served later.served;
        read = All-append IsReadOn ones.reads twos.reads first.read later.read;
        counted = omega (arith, sum, length-append ones.reads twos.reads, first.counted, later.counted);
        told = rw (first.told, later.told) (sym (map-append (λ (e : Event). Some (moment_of e)) es fs));
        written = rw (map-append bytes_of rs qs)
            (sent_trans (map bytes_of rs) (map bytes_of qs) ones.writes twos.writes first.written later.written);
        went_on = went_trans rs qs first.served.0 later.served.0 first.went_on later.went_on;
      }

  -- ---- an end

  -- no message came last
  pub idle : (spare : ℕ) (end : DriveEnd) (a b : Situation R) → b.server ≡ a.server → Ends custody end spare a b [] []
      → HasEnded custody end spare a b
  idle spare end a b same ends = record { events = []; replies = []; ends = ends; served = ([], same) }

  -- what was answered, and how it ended then
  pub driven : ((s : R) → (custody s).sound → IsTrue (custody s).is_open) → (n m most : ℕ) (end : DriveEnd)
      (a b c : Situation R) → n + m ≡ most → HasAnswered custody n a b → HasEnded custody end m b c
      → IsDrivenWithin custody most end a c
  driven is_open n m most end a b c all goes last =
      let events = goes.events ++ last.events in
      let replies = goes.run ++ last.replies in
      let each =
      served_on custody a.server b.server c.server goes.events last.events goes.run last.replies goes.served
      last.served in
      record {
        count = n;
        spare = m;
        left = b;
        last_events = last.events;
        last_replies = last.replies;
        all = all;
        goes = goes;
        ends = last.ends;
        served = are_served custody is_open a.server c.server events replies each.0 each.1;
      }

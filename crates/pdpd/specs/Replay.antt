-- The entries of a transcript, answered one after another.
use Rattle.std.specs.Prelude.{◌≡◌, ◌⊎◌, ℕ, ◌+◌, ⊤, Bool, true, false, List}
use Rattle.std.specs.Prelude.{[], ◌∷◌, ◌++◌, length, Option, Some}
use Rattle.std.specs.Io.KnownBytes.{Appends, Consumes, IsAtEnd}
use Rattle.sqlite.specs.Held.{state}
use Rattle.sqlite.specs.State.{HasCleanDisk}
use Rattle.sqlite.specs.Store.{Ghosts}
use Rattle.xa_http.specs.Stream.{Stream, fed}
use Rattle.xa_records.specs.Keeper.{Custody}
use Rattle.xa_records.specs.Kept.{nothing_kept}
use Rattle.xa_server.specs.declared.front.Front.{Front}
use Rattle.xa_server.specs.declared.replies.Reply.{Reply}
use Rattle.xa_server.specs.Alone.{Event}
use Rattle.xa_server.specs.Connection.{empty_stream}
use Rattle.xa_server.specs.Decisions.{nothing_cached}
use Rattle.xa_server.specs.Lines.{IsOpen, all_open, with_line}
use Rattle.xa_server.specs.Serving.{AreServed}
use Rattle.xa_server.specs.World.{ServerModel}
use Rattle.xa_store.specs.Keeper.{IsSound, Keeper}
use Rattle.xa_store.specs.KeeperReading.{custody_by, kept_by}
use Rattle.pdpd.specs.declared.exit.Exit.{Exit}
use Rattle.pdpd.specs.declared.exit.Exit.TheVariants.{Done, Malformed}
use Rattle.pdpd.specs.declared.replay.heading.Heading.{Heading}
use Rattle.pdpd.specs.Entry.{IsStreamAnswered, events_at, reply_entries}
use Rattle.pdpd.specs.Transcript.{IsEntry, IsNoEntry}

-- an entry of a transcript
pub record Entry : Type 0 where
  pub heading : Heading
  pub bytes : List ℕ

-- the messages that the server answered, each with its moment, its replies, and what was written of them
pub record Exchange : Type 0 where
  pub events : List Event
  pub replies : List Reply
  pub written : List ℕ

-- the exchange in which nothing was answered
abbrev pub no_exchange : Exchange
no_exchange = record { events = []; replies = []; written = [] }

-- an exchange, and others after it
abbrev pub followed : Exchange → Exchange → Exchange
followed first others = record {
  events = first.events ++ others.events;
  replies = first.replies ++ others.replies;
  written = first.written ++ others.written;
}

-- what is kept of a stream that took bytes: all of it, or, if it has ended, not the bytes that nobody will read
abbrev pub IsKept : Stream → Stream → Type 0
IsKept after is = (is ≡ after) ⊎ ((after.ended ≡ true) × (is.ended ≡ true))

-- the text of entries, one after another
abbrev pub AreEntries : List Entry → List ℕ → Type 0
AreEntries [] text = text ≡ []
AreEntries (entry ∷ entries) text =
    (first : List ℕ) × (others : List ℕ) × IsEntry entry.heading entry.bytes first × AreEntries entries others
    × (text ≡ first ++ others)

-- a reader gave the text of the entries, and `behind` after it; `left` is what is known of it before, and
-- `rest` afterwards
abbrev pub Gave : Option (List ℕ) → Option (List ℕ) → List Entry → List ℕ → Type 0
Gave left rest entries behind = (text : List ℕ) × Consumes left rest (text ++ behind) × AreEntries entries text

-- how a transcript was read: all of it, or up to an entry that is malformed. All entries that were read have what
-- `done` says; nothing is said if a reader, a writer or memory failed
abbrev pub IsTranscriptRead : (List Entry → Type 0) → Option (List ℕ) → Option (List ℕ) → Exit → Type 0
IsTranscriptRead done left rest Done = (entries : List Entry) × Gave left rest entries [] × IsAtEnd rest × done entries
IsTranscriptRead done left rest (Malformed number wrong) =
    (entries : List Entry) × (behind : List ℕ) × Gave left rest entries behind × IsNoEntry wrong behind rest
    × (number ≡ length entries + 1) × done entries
IsTranscriptRead done left rest _ = ⊤

-- some messages were served one after another, with all that they come to
unfoldable pub IsSomeRun : {R : Type 0} → (R → Custody) → ServerModel R → ServerModel R → Type 0
IsSomeRun custody old new = (events : List Event) × (replies : List Reply) × AreServed custody old new events replies

module _ {R : Type 0} (custody : R → Custody) where
  -- ---- one entry

  -- a stream takes the bytes of an entry, and what it then holds is answered at the entry's moment; the replies are
  -- written to the entry's connection
  abbrev pub StreamTakes : Heading → List ℕ → Stream → Stream → ServerModel R → ServerModel R → Exchange → Type 0
  StreamTakes heading bytes was is old new exchange =
      (after : Stream) × (replies : List (List ℕ))
      × (answered : IsStreamAnswered custody heading.moment old new (fed was bytes) after replies) × IsKept after is
      × (exchange ≡ record {
        events = events_at heading.moment answered.messages;
        replies = answered.run;
        written = reply_entries heading.connection replies;
      })

  -- `StreamTakes`, unless the stream has ended: then the bytes are passed over
  abbrev pub OpenTakes : Bool → Heading → List ℕ → Stream → Stream → ServerModel R → ServerModel R → Exchange → Type 0
  OpenTakes true heading bytes was is old new exchange = (is ≡ was) × (new ≡ old) × (exchange ≡ no_exchange)
  OpenTakes false heading bytes was is old new exchange = StreamTakes heading bytes was is old new exchange

  -- a connection takes the bytes of an entry: no bytes close it, and its next begins a new stream
  abbrev pub ConnectionTakes : Heading → List ℕ → Stream → Stream → ServerModel R → ServerModel R → Exchange → Type 0
  ConnectionTakes heading [] was is old new exchange = (is ≡ empty_stream) × (new ≡ old) × (exchange ≡ no_exchange)
  ConnectionTakes heading (byte ∷ bytes) was is old new exchange =
      OpenTakes was.ended heading (byte ∷ bytes) was is old new exchange

  -- an entry is answered: its connection takes its bytes, and no other connection changes
  abbrev pub IsEntryReplied : Heading → List ℕ → Front R → Front R → Exchange → Type 0
  IsEntryReplied heading bytes old new exchange =
      (was : Stream) × (is : Stream) × IsOpen (record { number = heading.connection }) old.lines was
      × ConnectionTakes heading bytes was is old.server new.server exchange
      × (new.lines ≡ with_line (record { number = heading.connection }) (Some is) old.lines)

  -- ---- one entry after another

  -- entries are answered, one after another; the exchange is that of the first, and after it that of the others
  abbrev pub AreReplied : List Entry → Front R → Front R → Exchange → Type 0
  AreReplied [] old new exchange = (new ≡ old) × (exchange ≡ no_exchange)
  AreReplied (entry ∷ entries) old new exchange =
      (mid : Front R) × (first : Exchange) × (others : Exchange)
      × IsEntryReplied entry.heading entry.bytes old mid first × AreReplied entries mid new others
      × (exchange ≡ followed first others)

  -- Entries were answered, and a writer took the replies; `before` is what is known of it before, and `now`
  -- afterwards. The headline over all entries: their events are one run of the server, and each domain's replies in
  -- it, whatever the connections on which its messages came, are those of its own machine, used by it alone
  pub record Replays (old new : Front R) (before now : Option (List ℕ)) (entries : List Entry) : Type 0 where
    pub exchange : Exchange
    pub are_replied : AreReplied entries old new exchange
    pub are_one : AreServed custody old.server new.server exchange.events exchange.replies
    pub wrote : Appends before now exchange.written

  -- ---- a whole transcript

  -- A transcript was replayed for the operator of that digest, over a repository: as `IsTranscriptRead` says, and all
  -- entries that were read were answered, one after another. At the beginning nothing was held of decisions, and all
  -- connections were open; nothing had come on them. However it ended, one run of messages has led from there to here
  pub record IsReplayed (operator : List ℕ) (records : R) (left before now : Option (List ℕ)) (exit : Exit)
      (new : Front R) : Type 0 where
    pub old : Front R
    pub server : old.server ≡ record { operator = operator; records = records; decisions = nothing_cached }
    pub lines : old.lines ≡ all_open
    pub served : IsSomeRun custody old.server new.server
    pub rest : Option (List ℕ)
    pub replayed : IsTranscriptRead (Replays old new before now) left rest exit

-- A transcript was replayed over a store's repository, which began without domains and sound, and the store has given
-- back what was written. So all that `AreServed` says of such a beginning is said of its messages
pub record IsReplayedFromNothing {S : Type 0} (g : Ghosts S) (operator : List ℕ) (left before now : Option (List ℕ))
    (exit : Exit) (new : Front (Keeper S)) : Type 0 where
  pub records : Keeper S
  pub nothing : kept_by g records ≡ nothing_kept
  pub sound : IsSound g records
  pub clean : HasCleanDisk (state g new.server.records.conn)
  pub replayed : IsReplayed (custody_by g) operator records left before now exit new

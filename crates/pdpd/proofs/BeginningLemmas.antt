-- What is kept as serving begins, and what the files hold as it ends.
use Rattle.std.proofs.Common.{◌≡◌, ℕ, ℤ, List, Bool, false, Option, Result, Ok, Err, IsTrue, inl, inr, sym, ap, subst, ◌∙◌, ◌⊎◌}
use Rattle.std.specs.Prelude.{IfErr, IfOk, MatchResult}
use Rattle.sqlite.proofs.StateLemmas.{clean_if_open}
use Rattle.sqlite.specs.Closing.{IsCopied}
use Rattle.sqlite.specs.Effect.{Database}
use Rattle.sqlite.specs.Files.{IsBlankAs, IsClosed, IsOpened, file_state, over_files}
use Rattle.sqlite.specs.FileStore.{view}
use Rattle.sqlite.specs.Held.{Held, state}
use Rattle.sqlite.specs.Recovery.{Image}
use Rattle.sqlite.specs.Schema.{Schema}
use Rattle.sqlite.specs.Start.{FindsIn}
use Rattle.sqlite.specs.State.{State, HasCleanDisk, IsLive, Opens as IsJustOpened}
use Rattle.sqlite.specs.Store.{Ghosts}
use Rattle.sqlite.specs.Tree.{Trees}
use Rattle.sqlite.specs.WalReads.{AreClean}
use Rattle.sqlite_catalog.proofs.ReadLemmas.{lists_once}
use Rattle.sqlite_catalog.specs.Listing.{IsSound as ObeysRules}
use Rattle.sqlite_disk.specs.declared.Disk as disk
use Rattle.sqlite_disk.specs.declared.Files.{Files}
use Rattle.sqlite_store.specs.declared.store.FileStore.{FileStore}
use Rattle.sqlite_store.specs.Laws.{shut_if_dirty_at}
use Rattle.xa_server.specs.Decisions.{nothing_cached}
use Rattle.xa_server.specs.declared.front.Front.{Front}
use Rattle.xa_server.specs.Front.{front_is_clean, front_state}
use Rattle.xa_server.specs.Lines.{none_open}
use Rattle.xa_store.specs.Keeper.{Keeper, IsSound}
use Rattle.xa_store.specs.KeeperReading.{custody_by, kept_by}
use Rattle.xa_store.specs.Meaning.{kept_in}
use Rattle.xa_store.specs.Opening.{IsBlank, IsKnown, IsKnownSchema, no_tables}
use Rattle.xa_store.specs.Sound.{IsOurDatabase, OpensSoundly, RestsIn}
use Rattle.xa_store.specs.Tables.{schema_1, schema_2}
use Rattle.xa_store.specs.keeping.Migration.{IsSoundSchema1}
use Rattle.xa_store.proofs.ReopenLemmas.{are_ours}
use Rattle.pdpd.specs.declared.fault.Fault.{Fault}
use Rattle.pdpd.specs.declared.fault.Fault.TheVariants.{Store}
use Rattle.pdpd.specs.declared.fault.StoreFault.TheVariants.{MadeOtherwise}
use Rattle.pdpd.specs.declared.store.closed.ClosedStore.{ClosedStore}
use Rattle.pdpd.specs.Beginning.{Begins, HasCleanFiles, IsKeptIn, IsKeptOver, IsLeftIn, IsLeftUnclosed}
use Rattle.pdpd.specs.Connections.{Clocked, ServesFiles, ServesFrom, at_clock}
use Rattle.pdpd.specs.running.Opening.{IsKeeperFrom, IsKeeperOver}
use Rattle.pdpd.specs.running.Serving.{Serves}
use Rattle.pdpd.specs.Token.{IsOperatorIn}

-- ---- a connection that was just opened

module _ (s : State) (fresh : IsJustOpened s) (live : IsLive s) where
  abbrev found : Trees
  found = s.committed.trees

  -- its schema is the one whose tables the trees list
  schema_is : (schema : Schema) → ObeysRules schema found → s.now.schema ≡ schema
  schema_is schema are =
      ap (λ (d : Database). d.schema) fresh.clean
      ∙ lists_once _ s.committed.schema schema (live fresh.is_open).1.lists are.lists

  rests_in : (schema : Schema) → ObeysRules schema found → RestsIn schema s
  rests_in schema are = record { schema = schema_is schema are; settled = fresh.clean; idle = fresh.autocommit }

  -- and the trees list the tables of its schema
  lists : (schema : Schema) → s.now.schema ≡ schema → ObeysRules schema found
  lists schema same =
      subst (λ (of : Schema). ObeysRules of found) (sym (ap (λ (d : Database). d.schema) fresh.clean) ∙ same) (live fresh.is_open).1

  is_one_of : IsKnownSchema s.now.schema → IsOurDatabase found ⊎ (ObeysRules schema_1 found ⊎ ObeysRules no_tables found)
  is_one_of (inl same) = inl (lists schema_2 same)
  is_one_of (inr (inl same)) = inr (inl (lists schema_1 same))
  is_one_of (inr (inr same)) = inr (inr (lists no_tables same))

  is_blank : ObeysRules no_tables found → IsBlank s
  is_blank are = record { schema = schema_is no_tables are; settled = fresh.clean; idle = fresh.autocommit }

  -- what opening it gives is what the trees mean
  kept_over : {S : Type 0} (g : Ghosts S) (k : Keeper S) → HasCleanDisk (state g k.conn) → IsKeeperOver g s k → IsKeptOver (IsSound g k) found (kept_by g k)
  kept_over g k clean is =
      let sound_if : IsKnown s → IsSound g k = λ known. is.sound (is.stays clean known) in
      record {
        ours = λ are.
            let given = is.opens (rests_in schema_2 are) clean in
            let sound : OpensSoundly s.now.trees = record {
              database = subst (λ (d : Database). IsOurDatabase d.trees) (sym fresh.clean) are;
              opens = given.0;
            } in
            (subst (λ (d : Database). OpensSoundly d.trees) fresh.clean sound, given.3, sound_if (inl (rests_in schema_2 are)));
        ours_of_schema_1 = λ are.
            let given = is.migrates (rests_in schema_1 are) clean in
            let sound : IsSoundSchema1 s.now.trees = record {
              database = subst (λ (d : Database). ObeysRules schema_1 d.trees) (sym fresh.clean) are;
              opens = given.0;
            } in
            (subst (λ (d : Database). IsSoundSchema1 d.trees) fresh.clean sound, given.2.kept, sound_if (inr (inl (rests_in schema_1 are))));
        none = λ are. ((is.makes (is_blank are) clean).2, sound_if (inr (inr (is_blank are))));
        is_one = is_one_of is.known;
      }

-- ---- a keeper that is opened

-- of the program's tables alone
pub only_ours : {S : Type 0} (P : Keeper S → Type 0) (r : Result (Keeper S) Fault) (records : Keeper S)
    → MatchResult r (λ k. (k ≡ records) × IsTrue k.had_only_our_tables) (λ e. (e ≡ Store MadeOtherwise) × (records.had_only_our_tables ≡ false))
    → (IsTrue records.had_only_our_tables → P records) → IfOk r P
only_ours P (Ok k) records is holds = subst P (sym is.0) (holds (subst (λ (k : Keeper _). IsTrue k.had_only_our_tables) is.0 is.1))
only_ours P (Err e) records is holds = tt

module _ {D : Type 0} {g : disk.Ghosts D} (image : Image) (sums : Bool) (conn : Held (FileStore D g)) (opened : HasCleanDisk (file_state conn) → IsOpened conn)
    (found : HasCleanDisk (file_state conn) → FindsIn image (file_state conn)) (summed : HasCleanDisk (file_state conn) → IsBlankAs sums image → (view conn.store).has_sums ≡ sums) where
  -- from the files
  pub keeper_from : (r : Result (Keeper (FileStore D g)) Fault) → IfOk r (IsKeeperOver over_files (file_state conn))
      → IfOk r (λ k. HasCleanDisk (file_state k.conn) → HasCleanDisk (file_state conn)) → IfOk r (λ k. HasCleanDisk (file_state k.conn) → IsKeeperFrom image sums k)
  keeper_from (Ok k) keeper clean = λ now.
      let before = clean now in
      record { conn = conn; is_opened = opened before; found = found before; sums = summed before; keeper = keeper; clean = now }
  keeper_from (Err e) keeper clean = tt

pub kept_from : {D : Type 0} {g : disk.Ghosts D} (image : Image) (sums : Bool) (k : Keeper (FileStore D g)) → IsKeeperFrom image sums k → IsKeptIn (IsSound over_files k) image (kept_by over_files k)
kept_from image sums k is = record {
  db = (file_state is.conn).committed.trees;
  holds = is.found.holds;
  found = is.found.reads;
  is_kept = kept_over (file_state is.conn) is.is_opened.0 is.is_opened.1 over_files k is.clean is.keeper;
}

-- ---- a store that was closed

pub closed_as : {D : Type 0} {g : disk.Ghosts D} (conn : Held (FileStore D g)) (closed : ClosedStore D g) (files : Files D) → closed.files ≡ files
    → (AreClean g files.log files.db → IsCopied conn files) → HasCleanFiles closed → IsCopied conn closed.files
closed_as {D} {g} conn closed files same copies clean =
    subst (IsCopied conn) (sym same) (copies (subst (λ (f : Files D). AreClean g f.log f.db) same clean))

left_in : {D : Type 0} {g : disk.Ghosts D} (closed : ClosedStore D g) (k : Keeper (FileStore D g)) → IsSound over_files k → IsCopied k.conn closed.files → IsLeftIn closed (kept_by over_files k)
left_in closed k sound copied =
    let ours = sound.1.ours in
    record {
      db = (file_state k.conn).committed.trees;
      sound = subst (λ (d : Database). OpensSoundly d.trees) ours.rests.settled (are_ours (file_state k.conn) ours);
      is_kept = ap (λ (d : Database). kept_in d.trees) ours.rests.settled;
      holds = copied.seen;
      left = copied.left;
    }

pub all_left_in : {D : Type 0} {g : disk.Ghosts D} (k : Keeper (FileStore D g)) (conn : Held (FileStore D g)) (r : Result (ClosedStore D g) (FileStore D g)) → conn ≡ k.conn → IsTrue k.had_only_our_tables → IsTrue k.is_open
    → (IsTrue k.had_only_our_tables → IsTrue (file_state k.conn).is_open → IsTrue k.is_open → IsSound over_files k)
    → IfOk r (λ closed. HasCleanFiles closed → IsCopied conn closed.files)
    → IfOk r (λ closed. HasCleanFiles closed → IsSound over_files k × IsLeftIn closed (kept_by over_files k))
all_left_in {D} {g} k conn (Ok closed) same own on stays copies = λ clean.
    let copied = subst (λ (c : Held (FileStore D g)). IsCopied c closed.files) same (copies clean) in
    let sound = stays own copied.was_open on in
    (sound, left_in closed k sound copied)
all_left_in k conn (Err e) same own on stays copies = tt

-- ---- a store that wasn't closed

pub left_unclosed : {D : Type 0} {g : disk.Ghosts D} (k : Keeper (FileStore D g)) (conn : Held (FileStore D g)) (left : FileStore D g) → conn ≡ k.conn → IsClosed conn left → IsLeftUnclosed k left
left_unclosed {D} {g} k conn left same is =
    let closed = subst (λ (c : Held (FileStore D g)). IsClosed c left) same is in
    record {
      trees = closed.quiet.outcomes;
      is_kept = λ sound db may. let settled = sound.1.settled db (closed.quiet.outcomes db may) in (settled.0, sym settled.1);
    }

pub all_left_unclosed : {D : Type 0} {g : disk.Ghosts D} (k : Keeper (FileStore D g)) (conn : Held (FileStore D g)) (r : Result (ClosedStore D g) (FileStore D g)) → conn ≡ k.conn
    → IfErr r (IsClosed conn) → IfErr r (IsLeftUnclosed k)
all_left_unclosed k conn (Ok closed) same is = tt
all_left_unclosed k conn (Err left) same is = left_unclosed k conn left same is

pub unclosed_as : {D : Type 0} {g : disk.Ghosts D} (a b : Keeper (FileStore D g)) (left : FileStore D g) → a ≡ b → IsLeftUnclosed a left → IsLeftUnclosed b left
unclosed_as {D} {g} a b left same = subst (λ (k : Keeper (FileStore D g)). IsLeftUnclosed k left) same

-- ---- the front of the files

module _ {D : Type 0} {g : disk.Ghosts D} (image : Image) (sums : Bool) (token : Option (List ℕ)) (operator : List ℕ) (records : Keeper (FileStore D g)) (is_operator : IsOperatorIn token operator)
    (keeper : HasCleanDisk (file_state records.conn) → IsKeeperFrom image sums records) where
  pub begins_from : (r : Result (Front (Keeper (FileStore D g))) Fault) → IfOk r (λ front. front.server.operator ≡ operator) → IfOk r (λ front. front.server.records ≡ records)
      → IfOk r (λ front. front.server.decisions ≡ nothing_cached) → IfOk r (λ front. front.lines ≡ none_open)
      → IfOk r (λ front. front_is_clean (custody_by over_files) front → Begins (IsSound over_files front.server.records) image token (front_state (custody_by over_files) front))
  begins_from (Ok front) of over cached closed = λ clean.
      let clean_over : HasCleanDisk (file_state records.conn) = subst (λ (k : Keeper (FileStore D g)). HasCleanDisk (file_state k.conn)) over clean in
      record {
        operator = subst (IsOperatorIn token) (sym of) is_operator;
        is_kept = subst (λ (k : Keeper (FileStore D g)). IsKeptIn (IsSound over_files k) image (kept_by over_files k)) (sym over) (kept_from image sums records (keeper clean_over));
        decisions = cached;
        closed = closed;
      }
  begins_from (Err e) of over cached closed = tt

-- ---- from the files to the files

pub serves_from : {D : Type 0} {g : disk.Ghosts D} (image : Image) (token : Option (List ℕ)) (told : Option (List (Option ℤ))) (count : ℕ) (result : Result (Unit {0}) Fault)
    (old : Front (Keeper (FileStore D g))) (new : Clocked (Keeper (FileStore D g)))
    → (front_is_clean (custody_by over_files) old → Begins (IsSound over_files old.server.records) image token (front_state (custody_by over_files) old))
    → Serves (custody_by over_files) count result (at_clock old told) new → ServesFrom image token told count result new
unfolding Serves
serves_from image token told count result old new begins is = record { old = old; begins = begins; isolated = is }

-- a sound keeper's disk has returned what was written
pub sound_clean : {D : Type 0} {g : disk.Ghosts D} (k : Keeper (FileStore D g)) → IsSound over_files k → HasCleanDisk (file_state k.conn)
sound_clean k sound = clean_if_open (view k.conn.store) (shut_if_dirty_at k.conn.store) sound.1.is_open

pub serves_files : {D : Type 0} {g : disk.Ghosts D} (image : Image) (token : Option (List ℕ)) (told_old told_new : Option (List (Option ℤ))) (count : ℕ) (front : Front (Keeper (FileStore D g)))
    (records : Keeper (FileStore D g)) (r : Result (ClosedStore D g) (FileStore D g)) → records ≡ front.server.records → ServesFrom image token told_old count (Ok tt) (at_clock front told_new)
    → IfOk r (λ closed. HasCleanFiles closed → IsSound over_files records × IsLeftIn closed (kept_by over_files records))
    → IfOk r (λ closed. HasCleanFiles closed → ServesFiles image token told_old told_new count closed)
serves_files {D} {g} image token told_old told_new count front records (Ok closed) same served left = λ clean.
    let is = subst (λ (k : Keeper (FileStore D g)). IsSound over_files k × IsLeftIn closed (kept_by over_files k)) same (left clean) in
    let began : IsSound over_files served.old.server.records = served.isolated.are_one.keeper.sound is.0 in
    record {
      old = served.old;
      new = front;
      begins = served.begins (sound_clean served.old.server.records began);
      isolated = served.isolated;
      sound = is.0;
      left = is.1;
    }
serves_files image token told_old told_new count front records (Err e) same served left = tt

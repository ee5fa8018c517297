-- Connections that are served at once.
use Rattle.std.proofs.Common.{◌≡◌, ◌≢◌, Bool, List, [], Option, Some, None, Result, Ok, Err, IsTrue, false, inl, inr, ap, refl, subst, sym, ◌∙◌}
use Rattle.std.proofs.lemmas.Result.{IfErr-at_err}
use Rattle.std.specs.Prelude.{◌↔◌, IfErr, IfOk, OnOk, is_some, option_map, ℕ}
use Rattle.sqlite.specs.Files.{over_files}
use Rattle.sqlite.specs.Recovery.{Image}
use Rattle.sqlite_disk.specs.declared.Disk as disk
use Rattle.sqlite_store.specs.declared.store.FileStore.{FileStore}
use Rattle.xa_server.proofs.TransferLemmas.{grows_none}
use Rattle.xa_reactor.specs.Run.{IsServedAtOnce}
use Rattle.xa_reactor.specs.Traffic.{Traffic}
use Rattle.xa_reactor.specs.Turn.{no_lanes}
use Rattle.xa_records.specs.Keeper.{Custody}
use Rattle.xa_server.proofs.PlayLemmas.{none_played}
use Rattle.xa_server.proofs.TurningAwayLemmas.{beside_none}
use Rattle.xa_server.specs.declared.front.Front.{Front}
use Rattle.xa_server.specs.Front.{front_is_clean, front_is_open, front_is_sound, front_state}
use Rattle.xa_server.specs.Lines.{none_open}
use Rattle.xa_store.specs.Keeper.{IsSound, Keeper}
use Rattle.xa_store.specs.KeeperReading.{custody_by, kept_by}
use Rattle.pdpd.proofs.BeginningLemmas.{sound_clean}
use Rattle.pdpd.proofs.ServingLemmas.{setting_before, settings_before}
use Rattle.pdpd.specs.Beginning.{Begins, HasCleanFiles, IsLeftIn}
use Rattle.pdpd.specs.declared.fault.DoorFault.TheVariants as door
use Rattle.pdpd.specs.declared.fault.Fault.{Fault}
use Rattle.pdpd.specs.declared.fault.Fault.TheVariants as variant
use Rattle.pdpd.specs.declared.fault.Fault.TheVariants.{Place}
use Rattle.pdpd.specs.declared.listen.place.Place.TheVariants.{Ip, Unix}
use Rattle.pdpd.specs.declared.listen.place.Place as place
use Rattle.pdpd.specs.declared.serve.setting.Setting.{Setting}
use Rattle.pdpd.specs.declared.serve.setting.Setting.TheVariants as set
use Rattle.pdpd.specs.declared.store.closed.ClosedStore.{ClosedStore}
use Rattle.pdpd.specs.Fault.{IsOfFiles, IsOfSetting, IsOfStore, IsOfToken, comes_of_serving}
use Rattle.pdpd.specs.Listening.{IsNoPlace, NamesPlace, ServesAtOnce, ServesAtOnceOver, ServesAtOnceFrom, ServesFilesAtOnce}
use Rattle.pdpd.specs.running.Listening.{IsOfEnd, IsOfListenSettings}
use Rattle.pdpd.specs.running.Serving.{IsOfSettings}

-- ---- connections

-- what a network did isn't told of it
pub served_at_once : {R N : Type 0} (custody : R → Custody) (done : N → Option (List Traffic)) (split : Bool) (result : Result (Unit {0}) Fault) (old new : Front R) (before now : N)
    → ServesAtOnceOver custody done split result old new before now → ServesAtOnce custody split result old new
served_at_once custody done split result old new before now over = record {
  served = record {
    turns = over.served.turns;
    begun = over.served.begun;
    mid = over.served.mid;
    left = over.served.left;
    are_turns = over.served.are_turns;
    are_done = over.served.are_done;
    fit = over.served.fit;
    works = record { played = over.served.works.played; keeps = over.served.works.keeps; grows = tt };
    one = over.served.one;
  };
  sound = over.sound;
  clean = over.clean;
  ended = over.ended;
  goes_on = over.goes_on;
}

-- a reactor has served them
pub served_over : {R N : Type 0} (custody : R → Custody) (done : N → Option (List Traffic)) (split : Bool) (result : Result (Unit {0}) Fault) (old new : Front R) (before now : N)
    → IsServedAtOnce custody done split old new before now → (front_is_sound custody new → front_is_sound custody old)
    → (front_is_clean custody new → front_is_clean custody old) → OnOk result (new.lines ≡ none_open)
    → OnOk result (front_is_open custody old → front_is_open custody new) → ServesAtOnceOver custody done split result old new before now
served_over custody done split result old new before now is sound clean ended goes_on =
    record { served = is; sound = sound; clean = clean; ended = ended; goes_on = goes_on }

-- nobody was served
pub unserved_at_once : {R : Type 0} (custody : R → Custody) (split : Bool) (is_open : (s : R) → (custody s).sound → IsTrue (custody s).is_open) (fault : Fault) (front : Front R)
    → ServesAtOnce custody split (Err fault) front front
unserved_at_once custody split is_open fault front = record {
  served = record {
    turns = [];
    begun = [];
    mid = no_lanes;
    left = no_lanes;
    are_turns = refl;
    are_done = refl;
    fit = tt;
    works = record {
      played = beside_none custody is_open front;
      keeps = record { sound = λ is. is; clean = λ is. is; was_open = λ is. is; stays = λ clean sound opens. sound };
      grows = tt;
    };
    one = λ is. none_played custody is_open front;
  };
  sound = λ sound. sound;
  clean = λ clean. clean;
  ended = tt;
  goes_on = tt;
}

pub unserved_over : {R N : Type 0} (custody : R → Custody) (done : N → Option (List Traffic)) (split : Bool) (is_open : (s : R) → (custody s).sound → IsTrue (custody s).is_open) (fault : Fault)
    (front : Front R) (network : N) → ServesAtOnceOver custody done split (Err fault) front front network network
unserved_over custody done split is_open fault front network = record {
  served = record {
    turns = [];
    begun = [];
    mid = no_lanes;
    left = no_lanes;
    are_turns = refl;
    are_done = refl;
    fit = tt;
    works = record {
      played = beside_none custody is_open front;
      keeps = record { sound = λ is. is; clean = λ is. is; was_open = λ is. is; stays = λ clean sound opens. sound };
      grows = grows_none (done network);
    };
    one = λ is. none_played custody is_open front;
  };
  sound = λ sound. sound;
  clean = λ clean. clean;
  ended = tt;
  goes_on = tt;
}

-- ---- from the files to the files

pub serves_at_once_from : {D : Type 0} {g : disk.Ghosts D} (image : Image) (token : Option (List ℕ)) (split : Bool) (result : Result (Unit {0}) Fault) (old new : Front (Keeper (FileStore D g)))
    → (front_is_clean (custody_by over_files) old → Begins (IsSound over_files old.server.records) image token (front_state (custody_by over_files) old))
    → ServesAtOnce (custody_by over_files) split result old new → ServesAtOnceFrom image token split result new
serves_at_once_from image token split result old new begins is = record { old = old; begins = begins; served = is }

pub serves_files_at_once : {D : Type 0} {g : disk.Ghosts D} (image : Image) (token : Option (List ℕ)) (split : Bool) (front : Front (Keeper (FileStore D g)))
    (records : Keeper (FileStore D g)) (r : Result (ClosedStore D g) (FileStore D g)) → records ≡ front.server.records → ServesAtOnceFrom image token split (Ok tt) front
    → IfOk r (λ closed. HasCleanFiles closed → IsSound over_files records × IsLeftIn closed (kept_by over_files records))
    → IfOk r (λ closed. HasCleanFiles closed → ServesFilesAtOnce image token split closed)
serves_files_at_once {D} {g} image token split front records (Ok closed) same is left = λ clean.
    let sound = subst (λ (k : Keeper (FileStore D g)). IsSound over_files k × IsLeftIn closed (kept_by over_files k)) same (left clean) in
    record {
      old = is.old;
      new = front;
      begins = is.begins (sound_clean is.old.server.records (is.served.sound sound.0));
      served = is.served;
      sound = sound.0;
      left = sound.1;
    }
serves_files_at_once image token split front records (Err e) same is left = tt

-- what is said of connections is said by how serving ended
pub serves_at_once_as : {D : Type 0} {g : disk.Ghosts D} (image : Image) (token : Option (List ℕ)) (split : Bool) (a b : Result (Unit {0}) Fault) (new : Front (Keeper (FileStore D g))) → a ≡ b
    → ServesAtOnceFrom image token split a new → ServesAtOnceFrom image token split b new
serves_at_once_as image token split a b new same serves = subst (λ (r : Result (Unit {0}) Fault). ServesAtOnceFrom image token split r new) same serves

-- ---- faults that are no fault of the place

setting_not_place : (setting : Setting) (fault : Fault) → IsOfSetting setting fault → fault ≢ Place
setting_not_place setting fault (inl is) = λ same. cc
setting_not_place setting fault (inr is) = λ same. cc

settings_not_place : (fault : Fault) → IsOfSettings fault → fault ≢ Place
settings_not_place fault (inl is) = setting_not_place set.Work fault is
settings_not_place fault (inr (inl is)) = setting_not_place set.Reply fault is
settings_not_place fault (inr (inr (inl is))) = setting_not_place set.Reading fault is
settings_not_place fault (inr (inr (inr (inl is)))) = setting_not_place set.Views fault is
settings_not_place fault (inr (inr (inr (inr (inl is))))) = setting_not_place set.Idle fault is
settings_not_place fault (inr (inr (inr (inr (inr is))))) = setting_not_place set.Sums fault is

end_not_place : (fault : Fault) → IsOfEnd fault → fault ≢ Place
end_not_place fault (inl is) = λ same. cc
end_not_place fault (inr is) = λ same. cc

pub listen_settings_not_place : (fault : Fault) → IsOfListenSettings fault → fault ≢ Place
listen_settings_not_place fault (inl is) = settings_not_place fault is
listen_settings_not_place fault (inr (inl is)) = setting_not_place set.Message fault is
listen_settings_not_place fault (inr (inr is)) = end_not_place fault is

pub files_not_place : (fault : Fault) → IsOfFiles fault → fault ≢ Place
files_not_place fault (inl is) = λ same. subst IsOfToken same is
files_not_place fault (inr is) = λ same. subst IsOfStore same is

-- ---- faults that come before serving

end_before : (fault : Fault) → IsOfEnd fault → comes_of_serving fault ≡ false
end_before fault (inl same) = ap comes_of_serving same
end_before fault (inr same) = ap comes_of_serving same

pub listen_settings_before : (fault : Fault) → IsOfListenSettings fault → comes_of_serving fault ≡ false
listen_settings_before fault (inl is) = settings_before fault is
listen_settings_before fault (inr (inl is)) = setting_before set.Message fault is
listen_settings_before fault (inr (inr is)) = end_before fault is

pub place_before : (fault : Fault) → fault ≡ Place → comes_of_serving fault ≡ false
place_before fault same = ap comes_of_serving same

-- the address for changes is looked at before anything is served, and isn't the place

pub changes_not_place : (fault : Fault) → fault ≡ variant.Changes door.Place → fault ≢ Place
changes_not_place fault is = λ same. let e : variant.Changes door.Place ≡ Place = sym is ∙ same in absurd cc

pub changes_before : (fault : Fault) → fault ≡ variant.Changes door.Place → comes_of_serving fault ≡ false
changes_before fault same = ap comes_of_serving same

-- a text is named exactly if it is read
pub some_read : {X Y : Type 0} (read : X → Y) (named : Option X) (text : Option Y) → option_map read named ≡ text → is_some named ≡ is_some text
some_read read None text same = ap is_some same
some_read read (Some x) text same = ap is_some same

-- ---- the place

pub place_named : (text : List ℕ) (named : place.Place) → NamesPlace text named → ¬ (IsNoPlace text)
place_named text (Ip address) is = λ none. none.0 address is
place_named text (Unix path) is = λ none. none.1 path.now is

-- if a place was found, another fault is told, or none
pub place_found : {X : Type 0} (text : List ℕ) (named : place.Place) (result : Result X Fault) → NamesPlace text named → IfErr result (λ fault. fault ≢ Place)
    → (result ≡ Err Place) ↔ IsNoPlace text
place_found text named result is other =
    (λ same. absurd (IfErr-at_err (λ fault. fault ≢ Place) same other refl), λ none. absurd (place_named text named is none))

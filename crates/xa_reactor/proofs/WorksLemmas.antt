-- What a front makes and what goes over a network, one after another.
use Rattle.std.proofs.Common.{◌≡◌, List, [], ◌∷◌, ◌++◌, Option, IsTrue, sym, subst}
use Rattle.xa_records.specs.Keeper.{Custody}
use Rattle.xa_server.specs.declared.event.Event.{Event}
use Rattle.xa_server.specs.declared.event.Outcome.{Outcome}
use Rattle.xa_server.specs.declared.front.Front.{Front}
use Rattle.xa_server.specs.Front.{IsPlayed, front_is_sound}
use Rattle.xa_server.specs.Transfers.{Grows}
use Rattle.xa_server.specs.TurningAway.{IsPlayedBeside, serves}
use Rattle.xa_server.proofs.TurningAwayLemmas.{beside_none, beside_on, beside_one}
use Rattle.xa_server.proofs.TransferLemmas.{grows_none, grows_trans}
use Rattle.xa_reactor.specs.Step.{Calls, Keeps, Works, joined, no_calls}
use Rattle.xa_reactor.specs.Traffic.{Traffic}
use Rattle.xa_reactor.specs.handling.Going.{Makes}
use Rattle.xa_reactor.proofs.KeepsLemmas.{keeps_more, keeps_none}

-- ---- what is known of a network

-- nothing was done
pub grows_same : {A : Type 0} (a b : Option (List A)) → b ≡ a → Grows a b []
grows_same {A} a b same = subst (λ (x : Option (List A)). Grows a x []) (sym same) (grows_none a)

-- this was done before nothing was, or after it
pub grows_then_same : {A : Type 0} (a b c : Option (List A)) (xs : List A) → Grows a b xs → c ≡ b → Grows a c xs
grows_then_same {A} a b c xs grows same = subst (λ (x : Option (List A)). Grows a x xs) (sym same) grows

pub same_then_grows : {A : Type 0} (a b c : Option (List A)) (xs : List A) → b ≡ a → Grows b c xs → Grows a c xs
same_then_grows {A} a b c xs same grows = subst (λ (x : Option (List A)). Grows x c xs) same grows

-- ---- calls after others

module _ {R : Type 0} (custody : R → Custody) (is_open : (s : R) → (custody s).sound → IsTrue (custody s).is_open) where
  -- ---- a front

  -- it made no call
  pub makes_none : (front : Front R) → Makes custody no_calls front front
  makes_none front = record {
    played = beside_none custody is_open front;
    keeps = keeps_none custody front;
  }

  -- it made none, and is as it was
  pub makes_same : (old new : Front R) → new ≡ old → Makes custody no_calls old new
  makes_same old new same = subst (λ (f : Front R). Makes custody no_calls old f) (sym same) (makes_none old)

  -- it made these calls, and others after them
  pub makes_more : (old mid new : Front R) (calls more : Calls) → Makes custody calls old mid → Makes custody more mid new → Makes custody (joined calls more) old new
  makes_more old mid new calls more first later = record {
    played =
        beside_on custody is_open old mid new calls.hows more.hows calls.events more.events calls.outcomes more.outcomes first.played later.played;
    keeps = keeps_more custody old mid new first.keeps later.keeps;
  }

  -- ---- a front and a network

  module _ {N : Type 0} (done : N → Option (List Traffic)) where
    -- they did nothing
    pub works_none : (front : Front R) (network : N) → Works custody done no_calls [] front front network network
    works_none front network = record {
      played = beside_none custody is_open front;
      keeps = keeps_none custody front;
      grows = grows_none (done network);
    }

    -- they did nothing that is known of, and are as they were
    pub works_same : (front_old front_new : Front R) (network_old network_new : N) → front_new ≡ front_old → done network_new ≡ done network_old
        → Works custody done no_calls [] front_old front_new network_old network_new
    works_same front_old front_new network_old network_new same unchanged =
        subst (λ (f : Front R). Works custody done no_calls [] front_old f network_old network_new) (sym same)
        (record {
          played = beside_none custody is_open front_old;
          keeps = keeps_none custody front_old;
          grows = grows_same (done network_old) (done network_new) unchanged;
        })

    -- the front made these calls, and the network did this
    pub works_of : (calls : Calls) (traffic : List Traffic) (front_old front_new : Front R) (network_old network_new : N) → Makes custody calls front_old front_new
        → Grows (done network_old) (done network_new) traffic → Works custody done calls traffic front_old front_new network_old network_new
    works_of calls traffic front_old front_new network_old network_new makes grows =
        record { played = makes.played; keeps = makes.keeps; grows = grows }

    -- they did this, and more after it
    pub works_more : (calls more : Calls) (traffic later : List Traffic) (front_old front_mid front_new : Front R) (network_old network_mid network_new : N)
        → (front_is_sound custody front_new → front_is_sound custody front_mid)
        → Works custody done calls traffic front_old front_mid network_old network_mid → Works custody done more later front_mid front_new network_mid network_new
        → Works custody done (joined calls more) (traffic ++ later) front_old front_new network_old network_new
    works_more calls more traffic later front_old front_mid front_new network_old network_mid network_new sound first after = record {
      played =
          beside_on custody is_open front_old front_mid front_new calls.hows more.hows calls.events more.events calls.outcomes more.outcomes first.played
          after.played;
      keeps = keeps_more custody front_old front_mid front_new first.keeps after.keeps;
      grows = grows_trans (done network_old) (done network_mid) (done network_new) traffic later first.grows after.grows;
    }

    -- and after it nothing that is known of by the network alone, as a place was seated or left
    pub works_then_same : (calls : Calls) (traffic : List Traffic) (front_old front_new : Front R) (network_old network_mid network_new : N)
        → Works custody done calls traffic front_old front_new network_old network_mid → done network_new ≡ done network_mid
        → Works custody done calls traffic front_old front_new network_old network_new
    works_then_same calls traffic front_old front_new network_old network_mid network_new works same = record {
      played = works.played;
      keeps = works.keeps;
      grows = grows_then_same (done network_old) (done network_mid) (done network_new) traffic works.grows same;
    }

    pub same_then_works : (calls : Calls) (traffic : List Traffic) (front_old front_new : Front R) (network_old network_mid network_new : N)
        → done network_mid ≡ done network_old → Works custody done calls traffic front_old front_new network_mid network_new
        → Works custody done calls traffic front_old front_new network_old network_new
    same_then_works calls traffic front_old front_new network_old network_mid network_new same works = record {
      played = works.played;
      keeps = works.keeps;
      grows = same_then_grows (done network_old) (done network_mid) (done network_new) traffic same works.grows;
    }

-- a front made these calls
pub makes_beside : {R : Type 0} (custody : R → Custody) (calls : Calls) (old new : Front R) → IsPlayedBeside custody old new calls.hows calls.events calls.outcomes → Makes custody calls old new
makes_beside custody calls old new beside =
    let keeper = beside.served.keeper in
    let keeps : Keeps custody old new =
    record { sound = keeper.sound; clean = keeper.clean; was_open = keeper.was_open; stays = keeper.stays } in
    record { played = beside; keeps = keeps }

-- a front made one call, by `Front::step`
pub makes_one : {R : Type 0} (custody : R → Custody) (e : Event) (o : Outcome) (old new : Front R)
    → IsPlayed custody old new (e ∷ []) (o ∷ []) → Makes custody (record { hows = serves ∷ []; events = e ∷ []; outcomes = o ∷ [] }) old new
makes_one custody e o old new played = makes_beside custody (record { hows = serves ∷ []; events = e ∷ []; outcomes = o ∷ [] }) old new (beside_one custody old new e o played)

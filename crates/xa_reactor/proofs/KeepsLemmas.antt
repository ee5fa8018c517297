-- What the keeper of a front has come to, over calls after others.
use Rattle.std.proofs.Common.{◌≡◌, sym, subst}
use Rattle.xa_records.specs.Keeper.{Custody}
use Rattle.xa_server.specs.declared.front.Front.{Front}
use Rattle.xa_reactor.specs.Step.{Keeps}

module _ {R : Type 0} (custody : R → Custody) where
  pub keeps_none : (front : Front R) → Keeps custody front front
  keeps_none front = record {
    sound = λ sound. sound;
    clean = λ clean. clean;
    was_open = λ open_now. open_now;
    stays = λ clean sound open_now. sound;
  }

  pub keeps_same : (old new : Front R) → new ≡ old → Keeps custody old new
  keeps_same old new same = subst (λ (front : Front R). Keeps custody old front) (sym same) (keeps_none old)

  pub keeps_more : (old mid new : Front R) → Keeps custody old mid → Keeps custody mid new → Keeps custody old new
  keeps_more old mid new first later = record {
    sound = λ sound. first.sound (later.sound sound);
    clean = λ clean. first.clean (later.clean clean);
    was_open = λ open_now. first.was_open (later.was_open open_now);
    stays = λ clean sound open_now. later.stays clean (first.stays (later.clean clean) sound (later.was_open open_now)) open_now;
  }

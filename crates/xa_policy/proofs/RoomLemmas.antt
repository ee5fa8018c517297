-- A room of eight places, as it is filled.
use Rattle.std.proofs.Common.{◌≡◌, ℕ, ◌+◌, ◌-◌, ◌<◌, List, drop, set, sym, ap, ◌∙◌, arith}
use Rattle.std.specs.Prelude.{replicate}
use Rattle.std.proofs.lemmas.List.{length-set, drop-set-lt, drop-drop, drop-replicate}
use Rattle.xa_policy.specs.Room.{IsRoom}

-- one more item in its place
pub room_more : {X : Type 0} (filler item : X) (places : List X) (count : ℕ) → count < 8 → IsRoom filler places count → IsRoom filler (set places count item) (count + 1)
room_more filler item places count there room =
    let less : 8 - count - 1 ≡ 8 - (count + 1) = omega arith in
    record {
      size = length-set places count item ∙ room.size;
      within = omega (arith, there);
      rest = drop-set-lt (count + 1) places count item (omega arith) ∙ sym (drop-drop 1 count places) ∙ ap (drop 1) room.rest
          ∙ drop-replicate 1 (8 - count) filler ∙ ap (λ n. replicate n filler) less;
    }

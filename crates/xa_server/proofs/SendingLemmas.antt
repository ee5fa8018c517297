-- The sending of one reply, one write after another.
use Rattle.std.proofs.Common.{◌≡◌, ◌≢◌, ℕ, ◌+◌, ◌-◌, ◌≤◌, ◌^◌, arith, Bool, true, false, List, [], ◌∷◌, ◌++◌}
use Rattle.std.proofs.Common.{length, take, drop, refl, sym, ap, subst, ◌∙◌, Option, Some, None, Result, Ok, Err}
use Rattle.std.proofs.Common.{inl, inr, is_ok, length-append}
use Rattle.std.specs.Io.KnownBytes.{Appends, Keeps}
use Rattle.std.specs.IoError.{error_kind}
use Rattle.std.specs.declared.io.Error.{Error}
use Rattle.std.proofs.KnownBytes.{Appends-kept, Appends-nil, Appends-trans}
use Rattle.std.proofs.lemmas.List.{append-nil, append_assoc, length-take-le, nil_from_length, take-append-drop}
use Rattle.std.proofs.lemmas.List.Concat.{flat_map-append}
use Rattle.std.proofs.lemmas.List.Elements.{All-nil, All-cons, All-append}
use Rattle.xa_server.specs.handling.Sending.{HasWritten, LeavesOf, SendsOnce, SendsPart}
use Rattle.xa_server.specs.Transfers.{Grows, IsBrokenOff, IsGivenUp, IsTaken, IsWritten, IsWrittenOn, WriteEnd}
use Rattle.xa_server.specs.Transfers.{bytes_sent, bytes_taken, flush_end, flushed, took, unflushed, unwritten}
use Rattle.xa_server.proofs.TransferLemmas.{grows_none, grows_trans}

written_on : (ws vs : List WriteEnd) (a b c : Option (List ℕ)) (k l m : Option (List WriteEnd)) → HasWritten ws a b k l
    → HasWritten vs b c l m → HasWritten (ws ++ vs) a c k m
written_on ws vs a b c k l m first later = record {
  grows = grows_trans k l m ws vs first.grows later.grows;
  appends =
      rw (flat_map-append bytes_sent ws vs)
      (Appends-trans a b c (bytes_taken ws) (bytes_taken vs) first.appends later.appends);
}

module _ (bytes : List ℕ) (a b : Option (List ℕ)) (k l : Option (List WriteEnd)) where
  -- ---- one write

  pub took_none : Appends a b (take 0 bytes) → Grows k l (took (take 0 bytes) ∷ []) → SendsOnce bytes None a b k l
  took_none appends grows =
      record { write = took []; leaves = (refl, refl); written = record { grows = grows; appends = appends } }

  pub took_some : (count : ℕ) (left : List ℕ) → count ≢ 0 → count ≤ length bytes → left ≡ drop count bytes
      → Appends a b (take count bytes) → Grows k l (took (take count bytes) ∷ []) → SendsOnce bytes (Some left) a b k l
  took_some count left some within rest appends grows =
      let none : take count bytes ++ [] ≡ take count bytes = append-nil (take count bytes) in
      record {
        write = took (take count bytes);
        leaves = (
          omega (arith, some, length-take-le count bytes within),
          sym (take-append-drop count bytes) ∙ ap (λ (bs : List ℕ). take count bytes ++ bs) (sym rest)
              ∙ ap (λ (bs : List ℕ). bs ++ left) (sym none),
        );
        written = record { grows = grows; appends = subst (Appends a b) (sym none) appends };
      }

  -- a write that took nothing
  no_bytes : (write : WriteEnd) → bytes_taken (write ∷ []) ≡ [] → Keeps a b → Grows k l (write ∷ [])
      → HasWritten (write ∷ []) a b k l
  no_bytes write none kept grows =
      record { grows = grows; appends = subst (Appends a b) (sym none) (Appends-kept a a b [] (Appends-nil a) kept) }

  pub unsent : (left : Option (List ℕ)) (error : Error) → LeavesOf bytes left (unwritten (error_kind error)) → Keeps a b
      → Grows k l (unwritten (error_kind error) ∷ []) → SendsOnce bytes left a b k l
  unsent left error leaves kept grows = record {
    write = unwritten (error_kind error);
    leaves = leaves;
    written = no_bytes (unwritten (error_kind error)) refl kept grows;
  }

pub nothing_sent : (bytes : List ℕ) (a : Option (List ℕ)) (k : Option (List WriteEnd)) → SendsPart bytes bytes 0 a a k k
nothing_sent bytes a k = record {
  tries = [];
  on = All-nil IsWrittenOn;
  counted = refl;
  part = refl;
  written = record { grows = grows_none k; appends = Appends-nil a };
}

module _ (bytes left : List ℕ) (tried : ℕ) (a b : Option (List ℕ)) (k l : Option (List WriteEnd))
    (before : SendsPart bytes left tried a b k l) where
  broken_off : (writes : List WriteEnd) → IsGivenUp before.tries writes → IsBrokenOff bytes writes
  broken_off writes given_up =
      record { tries = before.tries; rest = left; on = before.on; part = before.part; given_up = given_up }

  -- so many were made that no more are
  pub stopped_sending : tried ≡ 2 ^ 64 - 1 → IsWritten false bytes a b k l
  stopped_sending often = record {
    writes = before.tries;
    taken = broken_off before.tries (inr (before.counted ∙ often, refl));
    grows = before.written.grows;
    appends = before.written.appends;
  }

  -- ---- one after another

  module _ (c : Option (List ℕ)) (m : Option (List WriteEnd)) where
    pub sent_more : (rest : List ℕ) → SendsOnce left (Some rest) b c l m → SendsPart bytes rest (tried + 1) a c k m
    sent_more rest here = record {
      tries = before.tries ++ here.write ∷ [];
      on = All-append IsWrittenOn before.tries (here.write ∷ []) before.on
          (All-cons IsWrittenOn here.write [] here.leaves.0 (All-nil IsWrittenOn));
      counted = length-append before.tries (here.write ∷ []) ∙ ap (λ (n : ℕ). n + 1) before.counted;
      part =
          before.part ∙ ap (λ (bs : List ℕ). bytes_taken before.tries ++ bs) here.leaves.1
          ∙ sym (append_assoc (bytes_taken before.tries) (bytes_taken (here.write ∷ [])) rest)
          ∙ ap (λ (bs : List ℕ). bs ++ rest) (sym (flat_map-append bytes_sent before.tries (here.write ∷ [])));
      written = written_on before.tries (here.write ∷ []) a b c k l m before.written here.written;
    }

    -- ---- the end of it

    ends_with : (ok : Bool) (last : WriteEnd) → IsTaken ok bytes (before.tries ++ last ∷ [])
        → HasWritten (last ∷ []) b c l m → IsWritten ok bytes a c k m
    ends_with ok last taken here =
        let all = written_on before.tries (last ∷ []) a b c k l m before.written here in
        record { writes = before.tries ++ last ∷ []; taken = taken; grows = all.grows; appends = all.appends }

    pub failed_sending : SendsOnce left None b c l m → IsWritten false bytes a c k m
    failed_sending here =
        ends_with false here.write
        (broken_off (before.tries ++ here.write ∷ []) (inl (here.write, here.leaves.0, refl))) here.written

    -- all was taken, and flushed
    pub all_sent : (result : Result (Unit {0}) Error) → length left ≡ 0 → Keeps b c → Grows l m (flush_end result ∷ [])
        → IsWritten (is_ok result) bytes a c k m
    all_sent (Ok done) none kept grows =
        let whole : bytes ≡ bytes_taken before.tries
        = before.part ∙ ap (λ (bs : List ℕ). bytes_taken before.tries ++ bs) (nil_from_length left none)
        ∙ append-nil (bytes_taken before.tries) in
        ends_with true flushed (record { tries = before.tries; on = before.on; whole = sym whole; all = refl })
        (no_bytes bytes b c l m flushed refl kept grows)
    all_sent (Err error) none kept grows =
        let last = unflushed (error_kind error) in
        ends_with false last (broken_off (before.tries ++ last ∷ []) (inl (last, tt, refl)))
        (no_bytes bytes b c l m last refl kept grows)

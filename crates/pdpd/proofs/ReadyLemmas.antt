-- The connections of a transcript between its entries: all are open, each by its own number.
use Rattle.std.proofs.Common.{◌≡◌, ◌≢◌, ◌⊎◌, inl, inr, ℕ, zero, suc, ◌<◌, arith, Bool, true, false, List, [], ◌∷◌, length, get_or, set, nat_eq, slice_index_or, slice_set, replicate, Option, Some, None, refl, sym, ap, subst, ◌∙◌}
use Rattle.std.specs.Prelude.{eqb}
use Rattle.std.proofs.lemmas.Bool.Decides.{eqb_tells}
use Rattle.std.proofs.lemmas.List.{get_or-set_same, get_or-set_other}
use Rattle.xa_http.specs.Stream.{Stream}
use Rattle.xa_records.specs.Keeper.{Custody}
use Rattle.xa_server.specs.declared.front.Front.{Front}
use Rattle.xa_server.specs.declared.lines.Conn.{Conn}
use Rattle.xa_server.specs.Connection.{empty_stream}
use Rattle.xa_server.specs.Lines.{IsOpen, Lines, all_open, line_at, with_line}
use Rattle.pdpd.specs.declared.replay.heading.Heading.{Heading}
use Rattle.pdpd.specs.Replay.{ConnectionTakes, IsEntryReplied}
use Rattle.pdpd.specs.running.Replaying.{AreReady, Writes}
use Rattle.pdpd.specs.running.Telling.{HasRoom}

pub none_some : (X : Type 0) (x : X) → None ≡ Some x → ⊥
none_some X x same = cc

pub some_number : (m n : ℕ) → Some m ≡ Some n → m ≡ n
some_number m n same = cc

some_stream : (s t : Stream) → Some s ≡ Some t → s ≡ t
some_stream s t same = cc

-- ---- at the beginning

replicated : (count number : ℕ) → number < count → slice_index_or (replicate count (Some empty_stream)) number None ≡ Some empty_stream
replicated zero number within = absurd (omega (arith, within))
replicated (suc count) zero within = refl
replicated (suc count) (suc number) within = replicated count number (omega (arith, within))

empty_room : HasRoom empty_stream
unfolding HasRoom
empty_room = λ on. omega arith

pub room_of_new : (s : Stream) → s ≡ empty_stream → HasRoom s
room_of_new s new = subst (λ (t : Stream). HasRoom t) (sym new) empty_room

pub all_ready : (lines : Lines) → lines ≡ all_open → AreReady lines
unfolding AreReady
all_ready lines opened = λ number within.
    (empty_stream, ap (λ (ls : Lines). slice_index_or ls number None) opened ∙ replicated 64 number within, empty_room)

-- ---- one of them

-- it is open
pub ready_some : (number : ℕ) (lines : Lines) → AreReady lines → number < 64 → line_at (record { number = number }) lines ≢ None
unfolding AreReady
ready_some number lines ready within = λ none. let is = ready number within in none_some Stream is.0 (sym none ∙ is.1)

-- and has room
pub ready_room : (number : ℕ) (lines : Lines) (s : Stream) → AreReady lines → number < 64 → line_at (record { number = number }) lines ≡ Some s → HasRoom s
unfolding AreReady
ready_room number lines s ready within there =
    let is = ready number within in subst (λ (t : Stream). HasRoom t) (some_stream is.0 s (sym is.1 ∙ there)) is.2

within_lines : (n : ℕ) (lines : Lines) (stream : Stream) → get_or lines n None ≡ Some stream → n < length lines
within_lines n [] stream there = absurd (none_some Stream stream there)
within_lines zero (line ∷ lines) stream there = omega arith
within_lines (suc n) (line ∷ lines) stream there = omega (arith, within_lines n lines stream there)

-- all stay so if it has taken bytes
pub ready_put : (number : ℕ) (old new : Lines) (t : Stream) → AreReady old → new ≡ with_line (record { number = number }) (Some t) old → HasRoom t → AreReady new
unfolding AreReady
ready_put number old new t ready put room = λ other within.
    let was = ready other within in
    by_number other was (eqb_tells number other)
  where
    by_number : (other : ℕ) → ((stream : Stream) × IsOpen (record { number = other }) old stream × HasRoom stream)
        → ((eqb number other ≡ true) × (number ≡ other)) ⊎ ((eqb number other ≡ false) × (number ≢ other))
        → (stream : Stream) × IsOpen (record { number = other }) new stream × HasRoom stream
    by_number other was (inl (test, same)) = (
      t,
      ap (λ (ls : Lines). get_or ls other None) put
          ∙ ap (λ (n : ℕ). get_or (set old n (Some t)) other None) same
          ∙ get_or-set_same old other (Some t) None (within_lines other old was.0 was.1),
      room,
    )
    by_number other was (inr (test, apart)) = (
      was.0,
      ap (λ (ls : Lines). get_or ls other None) put ∙ get_or-set_other old number other (Some t) None (λ same. apart (sym same)) ∙ was.1,
      was.2,
    )

-- ---- an entry

pub entry_replied : {R : Type 0} (custody : R → Custody) (heading : Heading) (bytes : List ℕ) (old new : Front R) (s t : Stream) (before now : Option (List ℕ))
    → line_at (record { number = heading.connection }) old.lines ≡ Some s → new.lines ≡ with_line (record { number = heading.connection }) (Some t) old.lines
    → Writes before now (ConnectionTakes custody heading bytes s t old.server new.server) → Writes before now (IsEntryReplied custody heading bytes old new)
entry_replied custody heading bytes old new s t before now opens put takes = (takes.0, takes.1, (s, t, opens, takes.2, put))

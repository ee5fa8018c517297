-- A connection from its first byte to its end: what it holds is answered, and then what is read, a piece after another.
use Rattle.std.proofs.Common.{◌≡◌, ◌≢◌, ℕ, ◌+◌, ◌-◌, IsTrue, ◌<◌, ◌≤◌, arith, Bool, true, false, List, [], ◌∷◌, length}
use Rattle.std.proofs.Common.{length-append, refl, sym, ap, subst, ◌∙◌, Option, Some, None, Result, Ok, Err, inr}
use Rattle.std.specs.Io.KnownBytes.{Consumes, Keeps, ReadConsumes}
use Rattle.std.specs.IoError.{error_kind}
use Rattle.std.specs.declared.io.Error.{Error}
use Rattle.std.specs.declared.io.ErrorKind.TheVariants.{Interrupted}
use Rattle.std.proofs.KnownBytes.{Consumes-kept, Consumes-nil}
use Rattle.std.proofs.lemmas.List.{append-nil}
use Rattle.std.proofs.lemmas.List.Elements.{All-nil, All-cons}
use Rattle.xa_http.specs.Stream.{Stream, fed}
use Rattle.xa_http.proofs.SizeLemmas.{waiting_short}
use Rattle.xa_records.specs.Keeper.{Custody}
use Rattle.xa_server.specs.declared.drive_end.DriveEnd.{DriveEnd}
use Rattle.xa_server.specs.declared.drive_end.DriveEnd.TheVariants.{Ended, ReadFault, TooManyReads, Memory}
use Rattle.xa_server.specs.declared.front.Front.{Front}
use Rattle.xa_server.specs.declared.lines.Conn.{Conn}
use Rattle.xa_server.specs.Driven.{Ends, HasAnswered, IsConnection, IsConnectionOf, IsDrivenWithin, IsWaiting, Known}
use Rattle.xa_server.specs.Driven.{ReadsLast, Situation}
use Rattle.xa_server.specs.handling.Driving.{HasEnded, IsNextAnswered, IsReadAs, ReadsOnce}
use Rattle.xa_server.specs.Lines.{IsOpen, line_at, with_line}
use Rattle.xa_server.specs.Transfers.{Grows, IsReadOn, ReadEnd, bytes_read, gave, read_end, unread}
use Rattle.xa_server.proofs.ConnectionLemmas.{fed_nothing}
use Rattle.xa_server.proofs.DrivingLemmas.{after_read, driven, goes_trans, idle, read_on}

-- ---- one read

-- one that waits holds so little that there is room for a piece
pub has_room : (s : Stream) (piece : List ℕ) → length piece ≤ 65_536 → IsWaiting s
    → length s.held + length piece ≤ 1_048_576
has_room s piece few waits = omega (arith, few, waiting_short s.held waits.1)

module _ (s t : Stream) (l m : Option (List ℕ)) (r q : Option (List ReadEnd)) where
  pub interrupted : (error : Error) → error_kind error ≡ Interrupted → t ≡ s → Keeps l m
      → Grows r q (unread (error_kind error) ∷ []) → ReadsOnce (Ok tt) s t l m r q
  interrupted error kind same kept grows = record {
    read = unread (error_kind error);
    left = Consumes-kept l l m [] (Consumes-nil l) kept;
    reads = grows;
    is_read = (kind, same ∙ sym (fed_nothing s));
  }

  pub failed_read : (error : Error) → error_kind error ≢ Interrupted → t ≡ s → Keeps l m
      → Grows r q (unread (error_kind error) ∷ []) → ReadsOnce (Err ReadFault) s t l m r q
  failed_read error kind same kept grows = record {
    read = unread (error_kind error);
    left = Consumes-kept l l m [] (Consumes-nil l) kept;
    reads = grows;
    is_read = (error_kind error, kind, refl, same);
  }

  -- a read that gave nothing where there was room
  pub ended_read : (result : Result ℕ Error) (count : ℕ) (room : List ℕ) → result ≡ Ok count → count ≡ 0
      → length room ≡ 65_536 → t ≡ s → ReadConsumes l m result room → Grows r q (read_end result room ∷ [])
      → ReadsOnce (Err Ended) s t l m r q
  ended_read result count room is none space kept bytes grows =
      let came = rw (is, none) at bytes in
      record {
        read = gave 65_536 [];
        left = came.0;
        reads = rw (is, none, space) at grows;
        is_read = (refl, came.1 refl (omega (arith, space)), kept);
      }

  -- a piece came, and was taken
  pub read_taken : (room : ℕ) (piece : List ℕ) → room ≡ 65_536 → 0 < length piece → length piece ≤ room
      → Consumes l m piece → Grows r q (gave room piece ∷ []) → t ≡ fed s piece → ReadsOnce (Ok tt) s t l m r q
  read_taken room piece full some few consumes grows takes = record {
    read = gave room piece;
    left = subst (λ (bs : List ℕ). Consumes l m bs) (sym (append-nil piece)) consumes;
    reads = grows;
    is_read = ((full, some, few), takes ∙ ap (λ (bs : List ℕ). fed s bs) (sym (append-nil piece)));
  }

  -- or there was no memory for it
  pub read_refused : (room : ℕ) (piece : List ℕ) → room ≡ 65_536 → 0 < length piece → length piece ≤ room
      → length piece ≤ 65_536 → Consumes l m piece → Grows r q (gave room piece ∷ []) → IsWaiting s → t ≡ s
      → ReadsOnce (Err Memory) s t l m r q
  read_refused room piece full some few most consumes grows waits same = record {
    read = gave room piece;
    left = subst (λ (bs : List ℕ). Consumes l m bs) (sym (append-nil piece)) consumes;
    reads = grows;
    is_read = (piece, ap (λ (n : ℕ). gave n piece) full, (full, some, few), (has_room s piece most waits, same));
  }

  -- what is held has at most 65,536 bytes more
  pub read_grows : ReadsOnce (Ok tt) s t l m r q → length t.held ≤ length s.held + 65_536
  read_grows is =
      let all : length t.held ≡ length s.held + length (bytes_read (is.read ∷ []))
      = ap (λ (u : Stream). length u.held) is.is_read.1 ∙ length-append s.held (bytes_read (is.read ∷ [])) in
      omega (arith, all, few is.read is.is_read.0)
    where
      few : (read : ReadEnd) → IsReadOn read → length (bytes_read (read ∷ [])) ≤ 65_536
      few (gave room piece) (full, some, most) = omega (arith, full, most, length-append piece [])
      few (unread kind) on = omega arith

-- ---- a read, and what is held then

module _ {R : Type 0} (custody : R → Custody) (a : Situation R) (t : Stream) (m : Option (List ℕ))
    (q : Option (List ReadEnd)) where
  -- the connection goes on after it
  goes_read : ReadsOnce (Ok tt) a.stream t a.known.left m a.known.reads q → HasAnswered custody 1 a (after_read a t m q)
  goes_read is =
      read_on custody (is.read ∷ []) a t m q is.left is.reads is.is_read.1
      (All-cons IsReadOn is.read [] is.is_read.0 (All-nil IsReadOn))

  -- or it has ended by it
  ends_read : (spare : ℕ) (end : DriveEnd) → 0 < spare → IsWaiting a.stream
      → ReadsOnce (Err end) a.stream t a.known.left m a.known.reads q
      → HasEnded custody end spare a (after_read a t m q)
  ends_read spare end some waits is = idle custody spare end a (after_read a t m q) refl (by_end end is.is_read)
    where
      last : (read : ReadEnd) → is.read ≡ read → t ≡ a.stream → ReadsLast read a (after_read a t m q)
      last read by same = record {
        left = subst (λ (r : ReadEnd). Consumes a.known.left m (bytes_read (r ∷ []))) by is.left;
        reads = subst (λ (r : ReadEnd). Grows a.known.reads q (r ∷ [])) by is.reads;
        same = ap (λ (u : Stream). after_read a u m q) same;
      }

      by_end : (e : DriveEnd) → IsReadAs (Err e) is.read m a.stream t
          → Ends custody e spare a (after_read a t m q) [] []
      by_end Ended (by, end_of, same) = inr (inr (last (gave 65_536 []) by same, waits, end_of, some))
      by_end ReadFault (kind, other, by, same) = (kind, other, last (unread kind) by same, waits, some)
      by_end Memory (piece, by, on, takes) =
          inr (inr (piece, subst IsReadOn by on, last (gave 65_536 piece) by takes.1, waits, takes, some))
      by_end _ none = absurd none

-- ---- one turn: a message is answered, or more is read

module _ {R : Type 0} (custody : R → Custody) (n : ℕ) (a b : Situation R) (first : HasAnswered custody n a b) where
  pub next_goes : (goes : Bool) (c : Situation R) → goes ≡ true → IsNextAnswered custody (Ok goes) b c
      → HasAnswered custody n a c
  next_goes goes c on later =
      goes_trans custody n 0 n a b c (omega arith) first
      (subst (λ (x : Bool). IsNextAnswered custody (Ok x) b c) on later)

  pub read_more : (c : Situation R) (t : Stream) (m : Option (List ℕ)) (q : Option (List ReadEnd))
      → (c ≡ b) × IsWaiting c.stream → ReadsOnce (Ok tt) c.stream t c.known.left m c.known.reads q
      → HasAnswered custody (n + 1) a (after_read c t m q)
  read_more c t m q (same, waits) is =
      goes_trans custody n 1 (n + 1) a b (after_read c t m q) refl first
      (subst (λ (x : Situation R). HasAnswered custody 1 x (after_read c t m q)) same (goes_read custody c t m q is))

  -- ---- the ends of a turn

  module _ (is_open : (s : R) → (custody s).sound → IsTrue (custody s).is_open) where
    pub next_ends : (end : DriveEnd) (c : Situation R) → n ≤ 1_000_000 → IsNextAnswered custody (Err end) b c
        → IsDrivenWithin custody 1_000_000 end a c
    next_ends end c few (mid, goes, ends) =
        let spare : ℕ = 1_000_000 - n in
        driven custody is_open n spare 1_000_000 end a mid c (omega (arith, few))
        (goes_trans custody n 0 n a b mid (omega arith) first goes) (ends spare)

    pub reads_out : (c : Situation R) → n ≡ 1_000_000 → (c ≡ b) × IsWaiting c.stream
        → IsDrivenWithin custody 1_000_000 TooManyReads a c
    reads_out c all (same, waits) =
        let held : IsWaiting b.stream = subst (λ (x : Situation R). IsWaiting x.stream) same waits in
        driven custody is_open n 0 1_000_000 TooManyReads a b c (omega (arith, all)) first
        (idle custody 0 TooManyReads b c (ap (λ (x : Situation R). x.server) same) (same, held, refl))

    pub read_last : (end : DriveEnd) (c : Situation R) (t : Stream) (m : Option (List ℕ)) (q : Option (List ReadEnd))
        → n < 1_000_000 → (c ≡ b) × IsWaiting c.stream → ReadsOnce (Err end) c.stream t c.known.left m c.known.reads q
        → IsDrivenWithin custody 1_000_000 end a (after_read c t m q)
    read_last end c t m q few (same, waits) is =
        let spare : ℕ = 1_000_000 - n in
        driven custody is_open n spare 1_000_000 end a b (after_read c t m q) (omega (arith, few)) first
        (subst (λ (x : Situation R). HasEnded custody end spare x (after_read c t m q)) same
        (ends_read custody c t m q spare end (omega (arith, few)) waits is))

pub waits_at : {R : Type 0} (custody : R → Custody) (goes : Bool) (a b : Situation R) → goes ≡ false
    → IsNextAnswered custody (Ok goes) a b → (b ≡ a) × IsWaiting b.stream
waits_at custody goes a b over is = subst (λ (x : Bool). IsNextAnswered custody (Ok x) a b) over is

-- ---- on a front

module _ {R : Type 0} (custody : R → Custody) (conn : Conn) (a b : Front R) (x y : Known) where
  pub open_driven : (end : DriveEnd) (s t : Stream) → IsOpen conn a.lines s → b.lines ≡ with_line conn (Some t) a.lines
      → IsDrivenWithin custody 1_000_000 end (record { server = a.server; stream = s; known = x })
      (record { server = b.server; stream = t; known = y }) → IsConnection custody end conn a b x y
  open_driven end s t opens put is =
      subst (λ (line : Option Stream). IsConnectionOf custody line end conn a b x y) (sym opens) (t, put, is)

  pub shut_driven : line_at conn a.lines ≡ None → b ≡ a → y ≡ x → IsConnection custody Ended conn a b x y
  shut_driven none same known =
      subst (λ (line : Option Stream). IsConnectionOf custody line Ended conn a b x y) (sym none) (refl, same, known)

-- What is known of calls, one after another.
use Rattle.std.proofs.Common.{ℕ, List, [], ◌∷◌, ◌++◌, refl, sym, ap, subst, ◌∙◌, Option, Some, None}
use Rattle.std.proofs.lemmas.List.{append-nil, append_assoc}
use Rattle.std.proofs.lemmas.List.Concat.{flat_map-append}
use Rattle.std.proofs.KnownBytes.{Appends-trans, Consumes-trans}
use Rattle.xa_server.specs.Driven.{AreMade, AreSent, Calls, Known}
use Rattle.xa_server.specs.Transfers.{Grows, IsWrittenWhole, WriteEnd, bytes_given, bytes_read, bytes_sent, bytes_taken}

pub grows_none : {A : Type 0} (a : Option (List A)) → Grows a a []
grows_none None = tt
grows_none (Some x) = sym (append-nil x)

pub grows_trans : {A : Type 0} (a b c : Option (List A)) (xs ys : List A) → Grows a b xs → Grows b c ys
    → Grows a c (xs ++ ys)
grows_trans None b c xs ys p q = tt
grows_trans {A} (Some x) (Some y) (Some z) xs ys p q = q ∙ ap (λ (l : List A). l ++ ys) p ∙ append_assoc x xs ys
grows_trans (Some x) None c xs ys p q = absurd p
grows_trans (Some x) (Some y) None xs ys p q = absurd q

-- these, and then those
abbrev pub both : Calls → Calls → Calls
both first later = record {
  reads = first.reads ++ later.reads;
  writes = first.writes ++ later.writes;
  told = first.told ++ later.told;
}

pub made_trans : (first later : Calls) (x y z : Known) → AreMade first x y → AreMade later y z
    → AreMade (both first later) x z
made_trans first later x y z a b = record {
  left = rw (flat_map-append bytes_given first.reads later.reads)
      (Consumes-trans x.left y.left z.left (bytes_read first.reads) (bytes_read later.reads) a.left b.left);
  reads = grows_trans x.reads y.reads z.reads first.reads later.reads a.reads b.reads;
  contents = rw (flat_map-append bytes_sent first.writes later.writes)
      (Appends-trans x.contents y.contents z.contents (bytes_taken first.writes) (bytes_taken later.writes) a.contents
      b.contents);
  writes = grows_trans x.writes y.writes z.writes first.writes later.writes a.writes b.writes;
  told = grows_trans x.told y.told z.told first.told later.told a.told b.told;
}

-- ---- replies

pub sent_trans : (rs qs : List (List ℕ)) (ws vs : List WriteEnd) → AreSent rs ws → AreSent qs vs
    → AreSent (rs ++ qs) (ws ++ vs)
sent_trans [] qs ws vs none later = subst (λ (xs : List WriteEnd). AreSent qs (xs ++ vs)) (sym none) later
sent_trans (r ∷ rs) qs ws vs (first, rest, is, sent, all) later = (
  first,
  rest ++ vs,
  is,
  sent_trans rs qs rest vs sent later,
  ap (λ (xs : List WriteEnd). xs ++ vs) all ∙ append_assoc first rest vs,
)

pub one_sent : (reply : List ℕ) (ws : List WriteEnd) → IsWrittenWhole reply ws → AreSent (reply ∷ []) ws
one_sent reply ws is = (ws, [], is, refl, sym (append-nil ws))

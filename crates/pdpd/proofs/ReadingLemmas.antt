-- The known bytes of a transcript, as it is read a piece at a time.
use Rattle.std.proofs.Common.{◌≡◌, ◌≢◌, ℕ, ◌+◌, ◌-◌, ◌<◌, ◌≤◌, min, not, Bool, true, false, List, [], ◌∷◌, ◌++◌, length, take, drop, slice_range, Option, Some, None, Ok, Err, inl, inr, codes, refl, sym, ap, subst, ◌∙◌, append_assoc, append-nil, length-take, drop-drop, arith}
use Rattle.std.proofs.KnownBytes.{Consumes-trans}
use Rattle.std.proofs.lemmas.List.{drop-take, drop_min, take-append-drop}
use Rattle.std.proofs.lemmas.Bool.Decides.{nat_tests}
use Rattle.std.proofs.Math.Seq.{drop-nil}
use Rattle.std.specs.Prelude.{◌==◌}
use Rattle.std.specs.Io.KnownBytes.{Consumes, IsAtEnd, Keeps, prepend_known}
use Rattle.pdpd.specs.declared.replay.heading.Heading.{Heading}
use Rattle.pdpd.specs.declared.replay.transcript.EntryFault.{EntryFault}
use Rattle.pdpd.specs.declared.replay.transcript.EntryFault.TheVariants.{Malformed, Failed, Memory}
use Rattle.pdpd.specs.declared.replay.transcript_fault.TranscriptFault.{TranscriptFault}
use Rattle.pdpd.specs.declared.replay.transcript_fault.TranscriptFault.TheVariants.{NoLineFeed}
use Rattle.pdpd.specs.running.Reading.{Adds, TakesBody, TakesByte, TakesBytes, TakesHeading}
use Rattle.pdpd.specs.Transcript.{IsNoBody, IsNoEntry, Rejects, TakesEntry, TakesOrRejects}

-- ---- a piece of a list

drop_least : (k n : ℕ) (xs : List ℕ) → drop (min n k) (take k xs) ≡ drop n (take k xs)
drop_least k n xs =
    let front = take k xs in
    let same : min (min n k) (length front) ≡ min n (length front) = omega (arith, length-take k xs) in
    sym (drop_min (min n k) front) ∙ ap (λ (m : ℕ). drop m front) same ∙ drop_min n front

-- the first n bytes of a piece are taken, or all if it has fewer
pub advanced : (xs : List ℕ) (a e n : ℕ) → slice_range xs (a + min n (e - a)) e ≡ drop n (slice_range xs a e)
advanced xs a e n =
    let m = min n (e - a) in
    let whole : m + (e - (a + m)) ≡ e - a = omega arith in
    ap (take (e - (a + m))) (sym (drop-drop m a xs))
    ∙ sym (drop-take m (e - (a + m)) (drop a xs))
    ∙ ap (λ (k : ℕ). drop m (take k (drop a xs))) whole
    ∙ drop_least (e - a) n (drop a xs)

-- ---- what is left of the transcript

-- a front of the buffer is taken
pub taken : (left a : Option (List ℕ)) (buffer front rest : List ℕ) → Keeps left (prepend_known buffer a) → buffer ≡ front ++ rest → Consumes left (prepend_known rest a) front
taken None a buffer front rest p e = tt
taken (Some xs) None buffer front rest p e = absurd p
taken (Some xs) (Some ys) buffer front rest p e = sym p ∙ ap (λ (zs : List ℕ). zs ++ ys) e ∙ append_assoc front rest ys

-- all is taken, and no more is left
none_taken : (left a : Option (List ℕ)) (buffer rest : List ℕ) → Keeps left (prepend_known buffer a) → (buffer ≡ [] → IsAtEnd (prepend_known buffer a)) → buffer ≡ [] → rest ≡ []
    → Consumes left (prepend_known rest a) [] × IsAtEnd (prepend_known rest a)
none_taken left a buffer rest keeps end none same =
    let is : buffer ≡ rest = none ∙ sym same in (
      taken left a buffer [] rest keeps is,
      subst (λ (p : List ℕ). IsAtEnd (prepend_known p a)) is (end none),
    )

-- as many bytes as are wanted and held are moved
pub adds : (most : ℕ) (left a : Option (List ℕ)) (buffer rest old new : List ℕ) → Keeps left (prepend_known buffer a) → (buffer ≡ [] → IsAtEnd (prepend_known buffer a))
    → new ≡ old ++ take most buffer → rest ≡ drop most buffer → Adds most left (prepend_known rest a) old new (not (length buffer == 0))
adds most left a [] rest old new keeps end moved same =
    let empty : List ℕ = [] in
    let none = none_taken left a [] rest keeps end refl (same ∙ drop-nil most) in
    (none.0, none.1, moved ∙ ap (λ (bs : List ℕ). old ++ bs) (length_none (take most []) (omega (arith, length-take most empty))) ∙ append-nil old)
  where
    length_none : (xs : List ℕ) → length xs ≡ 0 → xs ≡ []
    length_none [] e = refl
    length_none (x ∷ xs) e = absurd (omega (arith, e))
adds most left a (byte ∷ bytes) rest old new keeps end moved same =
    let buffer : List ℕ = byte ∷ bytes in
    let front = take most buffer in
    let some : (length buffer == 0) ≡ false = grind (arith, nat_tests) in
    let all : Adds most left (prepend_known rest a) old new true = (
      front,
      taken left a buffer front rest keeps (sym (take-append-drop most buffer) ∙ ap (λ (bs : List ℕ). front ++ bs) (sym same)),
      moved,
      omega (arith, length-take most buffer),
      λ (wanted : 0 < most). omega (arith, length-take most buffer),
    ) in
    subst (λ (none : Bool). Adds most left (prepend_known rest a) old new (not none)) (sym some) all

-- ---- an entry

-- another byte stands after the bytes
pub body_wrong : (left mid rest : Option (List ℕ)) (count byte : ℕ) (bytes : List ℕ) → TakesBytes left mid count bytes → TakesByte mid rest (Some byte) → byte ≢ 10
    → Rejects (IsNoBody count) left rest NoLineFeed
body_wrong left mid rest count byte bytes taken here other =
    (bytes ++ byte ∷ [], Consumes-trans left mid rest bytes (byte ∷ []) taken.0 here, (bytes, taken.1, inr (byte, other, refl)))

-- a fault is passed on
passed : {X Y : Type 0} (is : X → Type 0) (as_is : Y → Type 0) (wrongs others : TranscriptFault → Type 0) (f : EntryFault) → TakesOrRejects is wrongs (Err f)
    → ((wrong : TranscriptFault) → wrongs wrong → others wrong) → TakesOrRejects as_is others (Err f)
passed is as_is wrongs others (Malformed wrong) at on = on wrong at
passed is as_is wrongs others Failed at on = tt
passed is as_is wrongs others Memory at on = tt

pub entry_done : (left mid rest : Option (List ℕ)) (heading : Heading) (bytes : List ℕ) → TakesHeading left mid (Some heading) → TakesBody mid rest heading.count bytes
    → TakesEntry left rest bytes (Some heading)
entry_done left mid rest heading bytes (first, taken_first, is_heading) (second, taken_second, is_body) =
    (first ++ second, Consumes-trans left mid rest first second taken_first taken_second, (first, second, is_heading, is_body, refl))

pub entry_wrong : (left mid rest : Option (List ℕ)) (heading : Heading) (bytes others : List ℕ) (f : EntryFault) → TakesHeading left mid (Some heading)
    → TakesOrRejects {X = Unit {0}} (λ _. TakesBody mid rest heading.count bytes) (Rejects (IsNoBody heading.count) mid rest) (Err f)
    → TakesOrRejects (TakesEntry left rest others) (Rejects IsNoEntry left rest) (Err f)
entry_wrong left mid rest heading bytes others f (first, taken_first, is_heading) wrong =
    passed {X = Unit {0}} (λ _. TakesBody mid rest heading.count bytes) (TakesEntry left rest others) (Rejects (IsNoBody heading.count) mid rest) (Rejects IsNoEntry left rest) f wrong
    (λ (w : TranscriptFault) (is : Rejects (IsNoBody heading.count) mid rest w).
    (first ++ is.0, Consumes-trans left mid rest first is.0 taken_first is.1, inr (heading, first, is.0, is_heading, is.2, refl)))

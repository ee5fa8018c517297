-- How many bytes a stream holds, by what stands at its front.
use Rattle.std.proofs.Common.{◌≡◌, ℕ, ◌+◌, ◌<◌, ◌≤◌, arith, Bool, true, false, if◌then◌else◌, List, [], ◌∷◌, ◌++◌, length, refl, ap, Result, Ok, Err, inl, inr, length-append}
use Rattle.std.specs.Prelude.{codes, nat_le}
use Rattle.std.specs.Str.Parse.{digits_value}
use Rattle.std.proofs.lemmas.Bool.{leb-true}
use Rattle.httparse.specs.Grammar.{RequestHead, print_request}
use Rattle.xa_http.specs.declared.fault.SessionFault.{SessionFault}
use Rattle.xa_http.specs.declared.fault.SessionFault.TheVariants.{BadHead, BodyTooLarge, HeadTooLarge, TransferCoding}
use Rattle.xa_http.specs.declared.message.Field.{Field}
use Rattle.xa_http.specs.declared.message.Message.{Message}
use Rattle.xa_http.specs.Fields.{values_of}
use Rattle.xa_http.specs.Length.{agreed_length, body_length}
use Rattle.xa_http.specs.Messages.{BeginsWithMessage, IsFirst, IsUnfinished, fields_of}
use Rattle.xa_http.specs.Stream.{Stream}

-- ---- a message

-- a head has more than one byte
printed : (h : RequestHead) → 0 < length h.method → 1 < length (print_request h)
unfolding print_request
printed h method = grind (arith, length-append)

-- a message has more than one byte
pub first_shrinks : (s : Stream) (message : Message) (after : Stream) → IsFirst s message after → length after.held + 1 < length s.held
unfolding BeginsWithMessage
first_shrinks s message after first =
    let h : RequestHead = first.1.0 in
    omega (
      arith,
      printed h first.1.1.0.0.method.0,
      ap length first.1.1.0.1,
      length-append (print_request h) (message.body ++ after.held),
      length-append message.body after.held,
    )

-- ---- no message

by_test : (b : Bool) (x y : Result ℕ SessionFault) (n most : ℕ) → (x ≡ Ok n → n ≤ most) → (y ≡ Ok n → n ≤ most) → (if b then x else y) ≡ Ok n → n ≤ most
by_test true x y n most first other same = first same
by_test false x y n most first other same = other same

err_is_not : (fault : SessionFault) (n most : ℕ) → Err fault ≡ Ok n → n ≤ most
err_is_not fault n most same = absurd cc

limit_within : (m n : ℕ) (b : Bool) → nat_le m 524_288 ≡ b → (if b then Ok m else Err BodyTooLarge) ≡ Ok n → n ≤ 524_288
limit_within m n true test same = let e : m ≡ n = cc in omega (arith, e, leb-true m 524_288 test)
limit_within m n false test same = err_is_not BodyTooLarge n 524_288 same

agreed_within : (values : List (List ℕ)) (n : ℕ) → agreed_length values ≡ Ok n → n ≤ 524_288
unfolding agreed_length
agreed_within [] n same = let e : 0 ≡ n = cc in omega (arith, e)
agreed_within (first ∷ others) n same =
    by_test _ _ _ n 524_288 (limit_within (digits_value 10 first) n (nat_le (digits_value 10 first) 524_288) refl) (err_is_not BadHead n 524_288) same

body_within : (fields : List Field) (n : ℕ) → body_length fields ≡ Ok n → n ≤ 524_288
unfolding body_length
body_within fields n same =
    by_test _ _ _ n 524_288 (err_is_not HeadTooLarge n 524_288)
    (by_test _ _ _ n 524_288 (err_is_not TransferCoding n 524_288) (agreed_within (values_of (codes "Content-Length") fields) n)) same

-- what is no whole message yet is short
pub waiting_short : (held : List ℕ) → IsUnfinished held → length held < 540_672
unfolding IsUnfinished
waiting_short held (inl opened) = omega (arith, opened.1)
waiting_short held (inr (h, after, n, begins, agreed, less)) =
    omega (arith, ap length begins.0.1, length-append (print_request h) after, begins.1, body_within (fields_of h) n agreed, less)

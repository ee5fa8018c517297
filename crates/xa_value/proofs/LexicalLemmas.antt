-- Facts on white space, digits and shapes.
use Rattle.std.proofs.Common.{◌≡◌, ℕ, zero, suc, ◌+◌, ◌-◌, ◌*◌, ◌<◌, ◌≤◌, Bool, true, false, List, [], ◌∷◌, ◌++◌, length, take, drop, get_or, reverse, refl, sym, ap, ◌∙◌, inl, inr, subst, arith}
use Rattle.std.proofs.Math.Seq.{take-suc}
use Rattle.std.proofs.lemmas.List.{reverse-append, reverse-reverse, take_all, take-take, length-take-le, get_or-take}
use Rattle.std.proofs.lemmas.List.Sums.{prefix_len-le-length, prefix_len_passes}
use Rattle.std.proofs.lemmas.Str.{IsCharBoundary-start, IsCharBoundary-after_ascii}
use Rattle.std.proofs.lemmas.Bool.{cases_lt}
use Rattle.std.proofs.lemmas.Bool.Decides.{nat_tests}
use Rattle.std.specs.List.{prefix_len}
use Rattle.std.specs.Str.{IsUtf8, IsCharBoundary}
use Rattle.xa_value.specs.Lexical.{is_blank, trimmed_start, trimmed_end, number, number_after}

-- a text that ends with white space, without it
pub trimmed_end_blank : (xs : List ℕ) (b : ℕ) → is_blank b ≡ true → trimmed_end (xs ++ b ∷ []) ≡ trimmed_end xs
unfolding trimmed_end trimmed_start
trimmed_end_blank xs b blank = rw (reverse-append xs (b ∷ []), blank) refl

-- a text that ends with another character ends there
pub trimmed_end_other : (xs : List ℕ) (b : ℕ) → is_blank b ≡ false → trimmed_end (xs ++ b ∷ []) ≡ xs ++ b ∷ []
unfolding trimmed_end trimmed_start
trimmed_end_other xs b other = rw (reverse-append xs (b ∷ []), other) (ap reverse (sym (reverse-append xs (b ∷ []))) ∙ reverse-reverse (xs ++ b ∷ []))

-- a text is its front and its last character
pub front_and_last : (xs : List ℕ) → 1 ≤ length xs → xs ≡ take (length xs - 1) xs ++ get_or xs (length xs - 1) 0 ∷ []
front_and_last xs some = sym (take_all (suc (length xs - 1)) xs (omega arith)) ∙ take-suc xs (length xs - 1) 0 (omega arith)

pub last_blank : (xs : List ℕ) → 1 ≤ length xs → is_blank (get_or xs (length xs - 1) 0) ≡ true → trimmed_end (take (length xs - 1) xs) ≡ trimmed_end xs
last_blank xs some blank = sym (ap trimmed_end (front_and_last xs some) ∙ trimmed_end_blank (take (length xs - 1) xs) (get_or xs (length xs - 1) 0) blank)

pub last_other : (xs : List ℕ) → 1 ≤ length xs → is_blank (get_or xs (length xs - 1) 0) ≡ false → trimmed_end xs ≡ xs
last_other xs some other = ap trimmed_end (front_and_last xs some) ∙ trimmed_end_other (take (length xs - 1) xs) (get_or xs (length xs - 1) 0) other ∙ sym (front_and_last xs some)

pub trimmed_end_none : (xs : List ℕ) → length xs < 1 → trimmed_end xs ≡ xs
unfolding trimmed_end trimmed_start
trimmed_end_none [] none = refl
trimmed_end_none (x ∷ xs) none = absurd (omega arith)

pub number_after_append : (n : ℕ) (xs ys : List ℕ) → number_after n (xs ++ ys) ≡ number_after (number_after n xs) ys
unfolding number_after
number_after_append n [] ys = refl
number_after_append n (x ∷ xs) ys = number_after_append (n * 10 + (x - 48)) xs ys

-- one more digit
pub number_push : (xs : List ℕ) (d : ℕ) → number (xs ++ d ∷ []) ≡ number xs * 10 + (d - 48)
unfolding number_after
number_push xs d = number_after_append 0 xs (d ∷ [])

pub number_more : (xs : List ℕ) (i : ℕ) → i < length xs → number (take (i + 1) xs) ≡ number (take i xs) * 10 + (get_or xs i 0 - 48)
number_more xs i l =
    let s : i + 1 ≡ suc i = omega arith in
    ap (λ k. number (take k xs)) s ∙ ap number (take-suc xs i 0 l) ∙ number_push (take i xs) (get_or xs i 0)

-- the text without leading white space, as a part of the text
pub trimmed_start_is_drop : (xs : List ℕ) → trimmed_start xs ≡ drop (prefix_len is_blank xs) xs
unfolding trimmed_start
trimmed_start_is_drop [] = refl
trimmed_start_is_drop (x ∷ xs) = by_first (is_blank x) refl (trimmed_start_is_drop xs)
  where
    by_first : (b : Bool) → is_blank x ≡ b → trimmed_start xs ≡ drop (prefix_len is_blank xs) xs → trimmed_start (x ∷ xs) ≡ drop (prefix_len is_blank (x ∷ xs)) (x ∷ xs)
    by_first true e ih = let s : 1 + prefix_len is_blank xs ≡ suc (prefix_len is_blank xs) = omega arith in rw e (rw s ih)
    by_first false e ih = rw e refl

-- white space is ASCII
blank_ascii : (c : ℕ) → is_blank c ≡ true → c < 128
blank_ascii c h = grind (arith, nat_tests)

-- a text may be cut after white space
pub boundary_after_blanks : (xs : List ℕ) → IsUtf8 xs → IsCharBoundary xs (prefix_len is_blank xs)
boundary_after_blanks xs u = by_count (prefix_len is_blank xs) refl
  where
    by_count : (n : ℕ) → prefix_len is_blank xs ≡ n → IsCharBoundary xs n
    by_count zero e = IsCharBoundary-start xs u
    by_count (suc n) e =
        let within = prefix_len-le-length is_blank xs in
        let blank = prefix_len_passes is_blank xs n 0 (omega arith) in
        let next : n + 1 ≡ suc n = omega arith in
        subst (IsCharBoundary xs) next (IsCharBoundary-after_ascii xs n u (omega arith) (blank_ascii (get_or xs n 0) blank))

-- the text without white space at its end is a part of the text, which white space or nothing follows
record EndsAt (xs : List ℕ) (end : ℕ) : Type 0 where
  part : trimmed_end xs ≡ take end xs
  within : end ≤ length xs
  stops : end < length xs → is_blank (get_or xs end 0) ≡ true

ends_within_front : (xs : List ℕ) (front : ℕ) (end : ℕ) → suc front ≡ length xs → is_blank (get_or xs front 0) ≡ true → trimmed_end (take front xs) ≡ trimmed_end xs → EndsAt (take front xs) end → EndsAt xs end
ends_within_front xs front end e blank same h =
    let size : length (take front xs) ≡ front = length-take-le front xs (omega arith) in
    let inside : end ≤ front = let k = h.within in omega arith in
    record {
      part = sym same ∙ h.part ∙ take-take end front xs inside;
      within = omega arith;
      stops = λ l. elim (cases_lt end front) [
        | inl below ↦ sym (ap is_blank (get_or-take front xs end 0 below)) ∙ h.stops (omega arith)
        | inr top ↦ let at : end ≡ front = omega arith in rw at blank
      ];
    }

ends_at : (n : ℕ) (xs : List ℕ) → length xs ≡ n → (end : ℕ) × EndsAt xs end
ends_at zero xs e = (0, record { part = trimmed_end_none xs (omega arith) ∙ nothing xs e; within = omega arith; stops = λ l. absurd (omega arith) })
  where
    nothing : (ys : List ℕ) → length ys ≡ 0 → ys ≡ take 0 ys
    nothing [] h = refl
    nothing (y ∷ ys) h = absurd (omega arith)
ends_at (suc n) xs e =
    by_last (is_blank (get_or xs (length xs - 1) 0)) refl (ends_at n (take (length xs - 1) xs) (length-take-le (length xs - 1) xs (omega arith) ∙ omega arith))
  where
    by_last : (b : Bool) → is_blank (get_or xs (length xs - 1) 0) ≡ b → (end : ℕ) × EndsAt (take (length xs - 1) xs) end → (end : ℕ) × EndsAt xs end
    by_last true blank ih = (ih.0, ends_within_front xs (length xs - 1) ih.0 (omega arith) blank (last_blank xs (omega arith) blank) ih.1)
    by_last false other ih = (length xs, record { part = last_other xs (omega arith) other ∙ sym (take_all (length xs) xs (omega arith)); within = omega arith; stops = λ l. absurd (omega arith) })

-- where it ends is its length
ends_at_length : (xs : List ℕ) → EndsAt xs (length (trimmed_end xs))
ends_at_length xs =
    let h = ends_at (length xs) xs refl in
    let size : h.0 ≡ length (trimmed_end xs) = sym (ap length h.1.part ∙ length-take-le h.0 xs h.1.within) in
    subst (EndsAt xs) size h.1

pub trimmed_end_is_take : (xs : List ℕ) → trimmed_end xs ≡ take (length (trimmed_end xs)) xs
trimmed_end_is_take xs = (ends_at_length xs).part

-- and before white space
pub boundary_before_blanks : (xs : List ℕ) → IsCharBoundary xs (length (trimmed_end xs))
boundary_before_blanks xs =
    let h = ends_at_length xs in
    (h.within, λ l high. absurd (let k = blank_ascii (get_or xs (length (trimmed_end xs)) 0) (h.stops l) in omega arith))

-- The first line of a text.
use Rattle.std.proofs.Common.{◌≡◌, ◌≢◌, ℕ, ◌+◌, ◌<◌, ◌≤◌, List, [], ◌∷◌, length, get_or, take, true, false, refl, sym, ap, subst, ◌∙◌, zero, suc, if◌then◌else◌, Bool, Option, None, Some, Ok, Err, IsTrue, arith}
use Rattle.std.specs.Prelude.{◌==◌, ◌&&◌, nat_le, IfOk, IfSome, IsFalse, MatchResult, Result}
use Rattle.std.specs.List.{All, list_all}
use Rattle.std.proofs.lemmas.Bool.Decides.{nat_tests}
use Rattle.std.proofs.lemmas.List.{take_all}
use Rattle.std.proofs.lemmas.List.Elements.{All-more}
use Rattle.sha2.specs.Sha256.{sha256}
use Rattle.xa_notation.specs.Tokens.{is_token, is_visible}
use Rattle.pdpd.specs.declared.fault.Fault.{Fault}
use Rattle.pdpd.specs.declared.fault.Fault.TheVariants.{TokenBad}
use Rattle.pdpd.specs.Token.{IsOperatorIn, first_line}

-- none of them is a line feed
abbrev pub NoFeed : List ℕ → Type 0
NoFeed text = All (λ c. (c == 10) ≡ false) text

pub no_feed_more : (text : List ℕ) (i : ℕ) → i < length text → NoFeed (take i text) → get_or text i 0 ≢ 10 → NoFeed (take (i + 1) text)
no_feed_more text i within none other =
    let here : (get_or text i 0 == 10) ≡ false = grind (arith, nat_tests) in
    All-more (λ c. (c == 10) ≡ false) text i 0 within none here

none_first : (byte : ℕ) (bytes : List ℕ) → NoFeed (byte ∷ bytes) → (byte == 10) ≡ false
none_first byte bytes none = none 0 0 (omega arith)

none_after : (byte : ℕ) (bytes : List ℕ) → NoFeed (byte ∷ bytes) → NoFeed bytes
none_after byte bytes none = λ k d within. none (suc k) d (omega (arith, within))

pub line_at : (text : List ℕ) (i : ℕ) → i < length text → NoFeed (take i text) → get_or text i 0 ≡ 10 → take i text ≡ first_line text
line_at [] i within none feed = absurd (omega (arith, within))
line_at (byte ∷ bytes) zero within none feed = subst (λ (c : ℕ). [] ≡ first_line (c ∷ bytes)) (sym feed) refl
line_at (byte ∷ bytes) (suc i) within none feed =
    subst (λ (test : Bool). byte ∷ take i bytes ≡ (if test then [] else byte ∷ first_line bytes)) (sym (none_first byte (take i bytes) none))
    (ap (λ (line : List ℕ). byte ∷ line) (line_at bytes i (omega (arith, within)) (none_after byte (take i bytes) none) feed))

line_whole : (text : List ℕ) → NoFeed text → text ≡ first_line text
line_whole [] none = refl
line_whole (byte ∷ bytes) none =
    subst (λ (test : Bool). byte ∷ bytes ≡ (if test then [] else byte ∷ first_line bytes)) (sym (none_first byte bytes none))
    (ap (λ (line : List ℕ). byte ∷ line) (line_whole bytes (none_after byte bytes none)))

pub line_none : (text : List ℕ) (i : ℕ) → length text ≤ i → NoFeed (take i text) → text ≡ first_line text
line_none text i end none = line_whole text (rw (take_all i text end) at none)

-- a first line that ends before the end of a front is that of the whole text: of one byte more
first_of_more : (n byte : ℕ) (bytes : List ℕ) (test : Bool) → (byte == 10) ≡ test → length (first_line (byte ∷ take n bytes)) < suc n
    → (length (first_line (take n bytes)) < n → first_line (take n bytes) ≡ first_line bytes) → first_line (byte ∷ take n bytes) ≡ first_line (byte ∷ bytes)
first_of_more n byte bytes true feed within rest =
    subst (λ (t : Bool). (if t then [] else byte ∷ first_line (take n bytes)) ≡ (if t then [] else byte ∷ first_line bytes)) (sym feed) refl
first_of_more n byte bytes false other within rest =
    let shorter : length (byte ∷ first_line (take n bytes)) < suc n
    = subst (λ (t : Bool). length (if t then [] else byte ∷ first_line (take n bytes)) < suc n) other within in
    subst (λ (t : Bool). (if t then [] else byte ∷ first_line (take n bytes)) ≡ (if t then [] else byte ∷ first_line bytes)) (sym other)
    (ap (λ (line : List ℕ). byte ∷ line) (rest (omega (arith, shorter))))

first_of_front : (n : ℕ) (text : List ℕ) → length (first_line (take n text)) < n → first_line (take n text) ≡ first_line text
first_of_front zero text within = absurd (omega (arith, within))
first_of_front (suc n) [] within = refl
first_of_front (suc n) (byte ∷ bytes) within = first_of_more n byte bytes (byte == 10) refl within (first_of_front n bytes)

middle : (a b c : Bool) → IsTrue (a && b && c) → b ≡ true
middle a true c is = refl
middle true false c is = cc
middle false false c is = cc

token_length : (line : List ℕ) → IsTrue (is_token line) → length line ≤ 64
unfolding is_token
token_length line is =
    let fits : nat_le (length line) 64 ≡ true = middle (nat_le 8 (length line)) (nat_le (length line) 64) (list_all is_visible line) is in
    grind (arith, nat_tests)

-- the token of a front of a text is that of the text; if the text isn't known, of the front
pub known_operator : (known : Option (List ℕ)) (bytes : List ℕ) (result : Result (List ℕ) Fault) → IfSome known (λ text. bytes ≡ take 128 text)
    → MatchResult result (λ operator. (operator ≡ sha256 (first_line bytes)) × IsTrue (is_token (first_line bytes)))
    (λ fault. (fault ≡ TokenBad) × IsFalse (is_token (first_line bytes)))
    → IfOk result (IsOperatorIn known)
known_operator None bytes (Ok operator) front is = (bytes, is, tt)
known_operator (Some text) bytes (Ok operator) front is =
    let line : List ℕ = first_line (take 128 text) in
    let token : IsTrue (is_token line) = subst (λ (bs : List ℕ). IsTrue (is_token (first_line bs))) front is.1 in
    let same : first_line bytes ≡ first_line text =
    ap first_line front ∙ first_of_front 128 text (omega (arith, token_length line token)) in
    (text, (is.0 ∙ ap sha256 same, subst (λ (l : List ℕ). IsTrue (is_token l)) same is.1), refl)
known_operator known bytes (Err fault) front is = tt

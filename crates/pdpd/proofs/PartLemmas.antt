-- The parts of a line, cut off at the first space.
use Rattle.std.proofs.Common.{◌≡◌, ◌≢◌, ℕ, ◌+◌, ◌<◌, ◌≤◌, List, [], ◌∷◌, length, get_or, take, drop, false, refl, ap, ◌∙◌, suc, add-one, arith}
use Rattle.std.specs.Prelude.{◌==◌, Err}
use Rattle.std.specs.List.{All}
use Rattle.std.proofs.Math.Seq.{split_at}
use Rattle.std.proofs.lemmas.Bool.Decides.{Decides-eqb, nat_tests}
use Rattle.std.proofs.lemmas.List.{take_all}
use Rattle.std.proofs.lemmas.List.Elements.{All-more}
use Rattle.std.proofs.lemmas.List.Splits.{length-slice_split, slice_split_at, slice_split_none}
use Rattle.pdpd.specs.declared.replay.heading.HeadingFault.TheVariants.{Parts}
use Rattle.pdpd.specs.Heading.{heading_of, parts_of, heading_of_parts}

-- none of them is a space
abbrev pub NoSpace : List ℕ → Type 0
NoSpace text = All (λ c. (c == 32) ≡ false) text

pub no_space_more : (text : List ℕ) (i : ℕ) → i < length text → NoSpace (take i text) → get_or text i 0 ≢ 32 → NoSpace (take (i + 1) text)
no_space_more text i within none other =
    let here : (get_or text i 0 == 32) ≡ false = grind (arith, nat_tests) in
    All-more (λ c. (c == 32) ≡ false) text i 0 within none here

pub first_part : (text : List ℕ) (i : ℕ) → i < length text → NoSpace (take i text) → get_or text i 0 ≡ 32
    → parts_of text ≡ take i text ∷ parts_of (drop (i + 1) text)
first_part text i within none space = rw add-one (
    ap parts_of (split_at text i 0 within)
    ∙ slice_split_at (λ c. c == 32) (take i text) (get_or text i 0) (drop (suc i) text) none ((Decides-eqb _ _).1 space))

pub one_part : (text : List ℕ) (i : ℕ) → length text ≤ i → NoSpace (take i text) → parts_of text ≡ text ∷ []
one_part text i end none = slice_split_none (λ c. c == 32) text (rw (take_all i text end) at none)

-- three parts and more are not three
pub more_parts : (line first second third after beyond rest : List ℕ) → parts_of line ≡ first ∷ parts_of after
    → parts_of after ≡ second ∷ parts_of beyond → parts_of beyond ≡ third ∷ parts_of rest → heading_of line ≡ Err Parts
more_parts line first second third after beyond rest a b c =
    ap heading_of_parts (a ∙ ap (λ parts. first ∷ parts) (b ∙ ap (λ parts. second ∷ parts) c))
    ∙ too_many (parts_of rest) (omega (arith, length-slice_split (λ c. c == 32) rest))
  where
    too_many : (parts : List (List ℕ)) → 0 < length parts → heading_of_parts (first ∷ second ∷ third ∷ parts) ≡ Err Parts
    too_many [] some = absurd (omega (arith, some))
    too_many (part ∷ parts) some = refl

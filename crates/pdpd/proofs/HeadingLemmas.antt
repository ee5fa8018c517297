-- The connection of an entry has a number below 64.
use Rattle.std.proofs.Common.{◌≡◌, ℕ, ◌<◌, ◌≤◌, arith, Bool, true, false, if◌then◌else◌, List, [], ◌∷◌, refl, ap, subst, sym, ◌∙◌, Option, Some, None, Result, Ok, Err}
use Rattle.std.specs.Prelude.{ℤ, ◌&&◌, nat_le}
use Rattle.std.specs.Option.{ok_or}
use Rattle.std.specs.Str.Parse.{digits_value}
use Rattle.std.proofs.lemmas.Bool.{leb-true}
use Rattle.xa_value.specs.Digits.{is_number, number_up_to}
use Rattle.xa_value.specs.Gives.{◌>>=◌}
use Rattle.pdpd.specs.declared.replay.heading.Heading.{Heading}
use Rattle.pdpd.specs.declared.replay.heading.HeadingFault.{HeadingFault}
use Rattle.pdpd.specs.declared.replay.heading.HeadingFault.TheVariants.{Parts, BadConnection, BadMoment, BadCount}
use Rattle.pdpd.specs.Heading.{heading_of, heading_of_parts, heading_of_three, moment_of, parts_of}
use Rattle.pdpd.specs.Transcript.{TakesEntry}

some_number : (m n : ℕ) → Some m ≡ Some n → m ≡ n
some_number m n same = cc

no_number : (n : ℕ) → None ≡ Some n → ⊥
no_number n same = cc

by_tests : (digits within : Bool) (value n most : ℕ) → nat_le value most ≡ within → (if digits && within then Some value else None) ≡ Some n → n ≤ most
by_tests true true value n most test same = omega (arith, some_number value n same, leb-true value most test)
by_tests true false value n most test same = absurd (no_number n same)
by_tests false true value n most test same = absurd (no_number n same)
by_tests false false value n most test same = absurd (no_number n same)

number_within : (most : ℕ) (text : List ℕ) (n : ℕ) → number_up_to most text ≡ Some n → n ≤ most
number_within most text n same = by_tests (is_number text) (nat_le (digits_value 10 text) most) (digits_value 10 text) n most refl same

no_heading : (fault : HeadingFault) (h : Heading) → Err fault ≡ Ok h → ⊥
no_heading fault h same = cc

abbrev read_as : Heading → Result Heading HeadingFault
read_as h = Ok h

some_heading : (h i : Heading) → read_as h ≡ read_as i → h ≡ i
some_heading h i same = cc

by_parts : (x : Option ℕ) (y : Option ℤ) (z : Option ℕ) (h : Heading) → ((n : ℕ) → x ≡ Some n → n ≤ 63)
    → (ok_or x BadConnection >>= λ c. ok_or y BadMoment >>= λ m. ok_or z BadCount >>= λ n. Ok (record { connection = c; moment = m; count = n })) ≡ Ok h
    → h.connection < 64
by_parts (Some n) (Some m) (Some k) h within same =
    omega (arith, within n refl, ap (λ (i : Heading). i.connection) (some_heading (record { connection = n; moment = m; count = k }) h same))
by_parts None y z h within same = absurd (no_heading BadConnection h same)
by_parts (Some n) None z h within same = absurd (no_heading BadMoment h same)
by_parts (Some n) (Some m) None h within same = absurd (no_heading BadCount h same)

three_within : (connection moment count : List ℕ) (h : Heading) → heading_of_three connection moment count ≡ Ok h → h.connection < 64
unfolding heading_of_three
three_within connection moment count h same =
    by_parts (number_up_to 63 connection) (moment_of moment) (number_up_to 1_048_576 count) h (λ n. number_within 63 connection n) same

parts_within : (parts : List (List ℕ)) (h : Heading) → heading_of_parts parts ≡ Ok h → h.connection < 64
parts_within (connection ∷ moment ∷ count ∷ []) h same = three_within connection moment count h same
parts_within [] h same = absurd (no_heading Parts h same)
parts_within (one ∷ []) h same = absurd (no_heading Parts h same)
parts_within (one ∷ two ∷ []) h same = absurd (no_heading Parts h same)
parts_within (one ∷ two ∷ three ∷ four ∷ others) h same = absurd (no_heading Parts h same)

pub entry_within : (left rest : Option (List ℕ)) (bytes : List ℕ) (heading : Heading) → TakesEntry left rest bytes (Some heading) → heading.connection < 64
entry_within left rest bytes heading (text, taken, (first, second, (line, short, is, writes), body, all)) = parts_within (parts_of line) heading is

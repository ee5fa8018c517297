-- The line before an entry of a transcript: a connection, a moment and a count, with one space between.
use Rattle.std.specs.Prelude.{ℕ, ℤ, pos, neg_ℤ, ◌==◌, if◌then◌else◌, List, []}
use Rattle.std.specs.Prelude.{◌∷◌, Option, None, option_map, Result, Ok, Err}
use Rattle.std.specs.List.{slice_split}
use Rattle.std.specs.Option.{ok_or}
use Rattle.xa_value.specs.Digits.{number_up_to}
use Rattle.xa_value.specs.Gives.{◌>>=◌}
use Rattle.pdpd.specs.declared.replay.heading.Heading.{Heading}
use Rattle.pdpd.specs.declared.replay.heading.HeadingFault.{HeadingFault}
use Rattle.pdpd.specs.declared.replay.heading.HeadingFault.TheVariants.{Parts, BadConnection, BadMoment, BadCount}

-- the moment that plain digits write in seconds since 1970, after a `-` in seconds before: in the years 0001 to 9999
unfoldable pub moment_of : List ℕ → Option ℤ
moment_of [] = None
moment_of (c ∷ cs) =
    if c == 45 then option_map (λ n. neg_ℤ (pos n)) (number_up_to 62_135_596_800 cs)
    else option_map pos (number_up_to 253_402_300_799 (c ∷ cs))

-- the heading of three parts: a connection from 0 to 63, a moment, and a count of at most 1,048,576 bytes
unfoldable pub heading_of_three : List ℕ → List ℕ → List ℕ → Result Heading HeadingFault
heading_of_three connection moment count = do
  c ← ok_or (number_up_to 63 connection) BadConnection
  m ← ok_or (moment_of moment) BadMoment
  n ← ok_or (number_up_to 1_048_576 count) BadCount
  Ok (record { connection = c; moment = m; count = n })

-- the heading of the parts of a line: there are three
abbrev pub heading_of_parts : List (List ℕ) → Result Heading HeadingFault
heading_of_parts (connection ∷ moment ∷ count ∷ []) = heading_of_three connection moment count
heading_of_parts _ = Err Parts

-- the parts of a line, a space between two
abbrev pub parts_of : List ℕ → List (List ℕ)
parts_of line = slice_split (λ c. c == 32) line

-- the heading that a line writes, or what is wrong with it
abbrev pub heading_of : List ℕ → Result Heading HeadingFault
heading_of line = heading_of_parts (parts_of line)

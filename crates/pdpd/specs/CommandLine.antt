-- The command line.
use Rattle.std.specs.Prelude.{ℕ, ◌==◌, List, [], ◌∷◌, Option, Some}
use Rattle.std.specs.Prelude.{None, if◌then◌else◌, bytes_eq, codes, option_map}
use Rattle.std.specs.Option.{option_and_then}
use Rattle.xa_value.specs.Digits.{number_up_to}
use Rattle.pdpd.specs.declared.command_line.Command.{Command}
use Rattle.pdpd.specs.declared.command_line.Command.TheVariants.{Help, Version, Replay, Serve, Listen}

-- the number of connections that plain digits write, from 1 to 1,000,000
unfoldable pub connections_of : List ℕ → Option ℕ
connections_of text = option_and_then (λ n. if n == 0 then None else Some n) (number_up_to 1_000_000 text)

-- what the one word after the program's name asks for
unfoldable pub option_of : List ℕ → Option Command
option_of word =
    if bytes_eq word (codes "--help") then Some Help
    else (if bytes_eq word (codes "--version") then Some Version else None)

-- what the four words after `serve` ask for
unfoldable pub serving_of : List ℕ → List ℕ → List ℕ → List ℕ → Option Command
serving_of database address token_file connections =
    option_map
    (λ n. Serve (record { database = database; address = address; token_file = token_file; connections = n }))
    (connections_of connections)

-- what the two words after the program's name ask for
unfoldable pub of_two_words : List ℕ → List ℕ → Option Command
of_two_words word token = if bytes_eq word (codes "replay") then Some (Replay token) else None

-- what the four words after it ask for
unfoldable pub of_four_words : List ℕ → List ℕ → List ℕ → List ℕ → Option Command
of_four_words word database address token_file =
    if bytes_eq word (codes "listen")
    then Some (Listen (record { database = database; address = address; token_file = token_file; changes = None }))
    else None

-- what the five words after it ask for
unfoldable pub of_five_words : List ℕ → List ℕ → List ℕ → List ℕ → List ℕ → Option Command
of_five_words word database address token_file last =
    if bytes_eq word (codes "listen")
    then Some (Listen (record { database = database; address = address; token_file = token_file; changes = Some last }))
    else (if bytes_eq word (codes "serve") then serving_of database address token_file last else None)

-- what the words ask for, of which the first is the program's name
abbrev pub command_of : List (List ℕ) → Option Command
command_of (program ∷ word ∷ []) = option_of word
command_of (program ∷ word ∷ token ∷ []) = of_two_words word token
command_of (program ∷ word ∷ database ∷ address ∷ token_file ∷ []) = of_four_words word database address token_file
command_of (program ∷ word ∷ database ∷ address ∷ token_file ∷ last ∷ []) =
    of_five_words word database address token_file last
command_of _ = None

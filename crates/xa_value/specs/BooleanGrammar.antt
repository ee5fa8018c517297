-- The shape of booleans (XML Schema, part 2, section 3.2.2): four words.
use Rattle.std.specs.Prelude.{ℕ, Bool, true, false, List, codes}

pub data Word : Type 0 where
  word_true word_false digit_one digit_zero : Word

abbrev pub print_word : Word → List ℕ
print_word word_true = codes "true"
print_word word_false = codes "false"
print_word digit_one = codes "1"
print_word digit_zero = codes "0"

abbrev pub word_value : Word → Bool
word_value word_true = true
word_value word_false = false
word_value digit_one = true
word_value digit_zero = false

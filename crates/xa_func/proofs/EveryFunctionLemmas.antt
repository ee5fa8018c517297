-- Every function stands in the list of all, so that the first of them that a text names is the one that it names.
use Rattle.std.proofs.Common.{◌≡◌, List, [], ◌∷◌, ◌++◌, ℕ, Bool, false, map, refl, sym, ◌∙◌}
use Rattle.std.specs.Prelude.{Option, Some, None, find, flat_map, ◌↔◌, IsTrue}
use Rattle.std.proofs.lemmas.List.Folds.{find-append}
use Rattle.xa_value.specs.Types.{all_types}
use Rattle.xa_func.specs.declared.func_id.FuncId.{FuncId}
use Rattle.xa_func.specs.declared.func_id.FuncId.TheVariants as function
use Rattle.xa_func.specs.declared.func_id.Arithmetic.TheVariants as arithmetic
use Rattle.xa_func.specs.declared.func_id.Comparison.TheVariants as comparison
use Rattle.xa_func.specs.declared.func_id.Logic.TheVariants as logic
use Rattle.xa_func.specs.declared.func_id.TextFunction.TheVariants as text_function
use Rattle.xa_func.specs.declared.func_id.TextPart.TheVariants as part
use Rattle.xa_func.specs.declared.func_id.TextType.TheVariants as text_type
use Rattle.xa_func.specs.declared.func_id.Moved.TheVariants as moved
use Rattle.xa_func.specs.declared.func_id.Direction.TheVariants as direction
use Rattle.xa_func.specs.declared.func_id.BagFunction.TheVariants as bag
use Rattle.xa_func.specs.declared.func_id.HigherOrder.TheVariants as higher
use Rattle.xa_func.specs.Table.{names}
use Rattle.xa_func.specs.Names.{ordered_types, printed_types, all_functions, function_named}
use Rattle.xa_func.proofs.TableLemmas.{find_passes, no_other, both_none, of_no_type, of_no_ordered, of_no_printed, in_no_comparison, in_no_bag_function}

-- the families, as the list of all functions has them
abbrev equalities : List FuncId
equalities = map function.Equal all_types

abbrev comparisons : List FuncId
comparisons = flat_map (λ c. map (function.Compare c) ordered_types) (comparison.GreaterThan ∷ comparison.GreaterThanOrEqual ∷ comparison.LessThan ∷ comparison.LessThanOrEqual ∷ [])

abbrev arithmetics : List FuncId
arithmetics = map function.Arithmetic (arithmetic.Add ∷ arithmetic.Subtract ∷ arithmetic.Multiply ∷ arithmetic.Divide ∷ arithmetic.Mod ∷ [])

abbrev absolute : List FuncId
absolute = function.IntegerAbs ∷ []

abbrev logics : List FuncId
logics = map function.Logic (logic.Or ∷ logic.And ∷ logic.NOf ∷ logic.Not ∷ [])

abbrev texts : List FuncId
texts = map function.Text (text_function.NormalizeSpace ∷ text_function.Concatenate ∷ text_function.Substring ∷ [])

abbrev parts : List FuncId
parts = flat_map (λ p. map (function.Part p) (text_type.String ∷ text_type.AnyUri ∷ [])) (part.StartsWith ∷ part.EndsWith ∷ part.Contains ∷ [])

abbrev strings_from : List FuncId
strings_from = map function.StringFrom printed_types

abbrev from_strings : List FuncId
from_strings = map function.FromString printed_types

abbrev moves : List FuncId
moves = flat_map (λ m. map (function.Move m) (direction.Add ∷ direction.Subtract ∷ [])) (moved.DateTimeByDayTime ∷ moved.DateTimeByYearMonth ∷ moved.DateByYearMonth ∷ [])

abbrev in_range : List FuncId
in_range = function.TimeInRange ∷ []

abbrev of_bags : List FuncId
of_bags = flat_map (λ f. map (function.Bag f) all_types) (bag.OneAndOnly ∷ bag.BagSize ∷ bag.IsIn ∷ bag.Bag ∷ bag.Intersection ∷ bag.Union ∷ bag.AtLeastOneMemberOf ∷ bag.Subset ∷ bag.SetEquals ∷ [])

abbrev of_functions : List FuncId
of_functions = map function.HigherOrder (higher.AnyOf ∷ higher.AllOf ∷ higher.AnyOfAny ∷ higher.Map ∷ higher.AllOfAny ∷ higher.AllOfAll ∷ [])

-- no function of any family passes
record IsNone (p : FuncId → Bool) : Type 0 where
  pub equalities : find p equalities ≡ None
  pub comparisons : find p comparisons ≡ None
  pub arithmetics : find p arithmetics ≡ None
  pub absolute : find p absolute ≡ None
  pub logics : find p logics ≡ None
  pub texts : find p texts ≡ None
  pub parts : find p parts ≡ None
  pub strings_from : find p strings_from ≡ None
  pub from_strings : find p from_strings ≡ None
  pub moves : find p moves ≡ None
  pub in_range : find p in_range ≡ None
  pub of_bags : find p of_bags ≡ None
  pub of_functions : find p of_functions ≡ None

-- what no list has, none of two together has
split : (p : FuncId → Bool) (xs ys : List FuncId) → find p (xs ++ ys) ≡ None → (find p xs ≡ None) × (find p ys ≡ None)
split p xs ys e = both_none (find p xs) (find p ys) (sym (find-append p xs ys) ∙ e)

-- the families from one on
abbrev from_of_functions : List FuncId
from_of_functions = of_functions

abbrev from_of_bags : List FuncId
from_of_bags = of_bags ++ from_of_functions

abbrev from_in_range : List FuncId
from_in_range = in_range ++ from_of_bags

abbrev from_moves : List FuncId
from_moves = moves ++ from_in_range

abbrev from_from_strings : List FuncId
from_from_strings = from_strings ++ from_moves

abbrev from_strings_from : List FuncId
from_strings_from = strings_from ++ from_from_strings

abbrev from_parts : List FuncId
from_parts = parts ++ from_strings_from

abbrev from_texts : List FuncId
from_texts = texts ++ from_parts

abbrev from_logics : List FuncId
from_logics = logics ++ from_texts

abbrev from_absolute : List FuncId
from_absolute = absolute ++ from_logics

abbrev from_arithmetics : List FuncId
from_arithmetics = arithmetics ++ from_absolute

abbrev from_comparisons : List FuncId
from_comparisons = comparisons ++ from_arithmetics

none_of_all : (p : FuncId → Bool) → find p all_functions ≡ None → IsNone p
none_of_all p e =
    let s0 = split p equalities from_comparisons e in
    let s1 = split p comparisons from_arithmetics s0.1 in
    let s2 = split p arithmetics from_absolute s1.1 in
    let s3 = split p absolute from_logics s2.1 in
    let s4 = split p logics from_texts s3.1 in
    let s5 = split p texts from_parts s4.1 in
    let s6 = split p parts from_strings_from s5.1 in
    let s7 = split p strings_from from_from_strings s6.1 in
    let s8 = split p from_strings from_moves s7.1 in
    let s9 = split p moves from_in_range s8.1 in
    let s10 = split p in_range from_of_bags s9.1 in
    let s11 = split p of_bags from_of_functions s10.1 in
    record {
      equalities = s0.0;
      comparisons = s1.0;
      arithmetics = s2.0;
      absolute = s3.0;
      logics = s4.0;
      texts = s5.0;
      parts = s6.0;
      strings_from = s7.0;
      from_strings = s8.0;
      moves = s9.0;
      in_range = s10.0;
      of_bags = s11.0;
      of_functions = s11.1;
    }

fails : (p : FuncId → Bool) → IsNone p → (f : FuncId) → p f ≡ false
fails p none (function.Equal t) = of_no_type p function.Equal none.equalities t
fails p none (function.Compare c t) = of_no_ordered p (function.Compare c) (in_no_comparison p (λ c. map (function.Compare c) ordered_types) none.comparisons c) t
fails p none (function.Arithmetic arithmetic.Add) = (no_other p arithmetics none.arithmetics).0
fails p none (function.Arithmetic arithmetic.Subtract) = (no_other p arithmetics none.arithmetics).1.0
fails p none (function.Arithmetic arithmetic.Multiply) = (no_other p arithmetics none.arithmetics).1.1.0
fails p none (function.Arithmetic arithmetic.Divide) = (no_other p arithmetics none.arithmetics).1.1.1.0
fails p none (function.Arithmetic arithmetic.Mod) = (no_other p arithmetics none.arithmetics).1.1.1.1.0
fails p none function.IntegerAbs = (no_other p absolute none.absolute).0
fails p none (function.Logic logic.Or) = (no_other p logics none.logics).0
fails p none (function.Logic logic.And) = (no_other p logics none.logics).1.0
fails p none (function.Logic logic.NOf) = (no_other p logics none.logics).1.1.0
fails p none (function.Logic logic.Not) = (no_other p logics none.logics).1.1.1.0
fails p none (function.Text text_function.NormalizeSpace) = (no_other p texts none.texts).0
fails p none (function.Text text_function.Concatenate) = (no_other p texts none.texts).1.0
fails p none (function.Text text_function.Substring) = (no_other p texts none.texts).1.1.0
fails p none (function.Part part.StartsWith text_type.String) = (no_other p parts none.parts).0
fails p none (function.Part part.StartsWith text_type.AnyUri) = (no_other p parts none.parts).1.0
fails p none (function.Part part.EndsWith text_type.String) = (no_other p parts none.parts).1.1.0
fails p none (function.Part part.EndsWith text_type.AnyUri) = (no_other p parts none.parts).1.1.1.0
fails p none (function.Part part.Contains text_type.String) = (no_other p parts none.parts).1.1.1.1.0
fails p none (function.Part part.Contains text_type.AnyUri) = (no_other p parts none.parts).1.1.1.1.1.0
fails p none (function.StringFrom t) = of_no_printed p function.StringFrom none.strings_from t
fails p none (function.FromString t) = of_no_printed p function.FromString none.from_strings t
fails p none (function.Move moved.DateTimeByDayTime direction.Add) = (no_other p moves none.moves).0
fails p none (function.Move moved.DateTimeByDayTime direction.Subtract) = (no_other p moves none.moves).1.0
fails p none (function.Move moved.DateTimeByYearMonth direction.Add) = (no_other p moves none.moves).1.1.0
fails p none (function.Move moved.DateTimeByYearMonth direction.Subtract) = (no_other p moves none.moves).1.1.1.0
fails p none (function.Move moved.DateByYearMonth direction.Add) = (no_other p moves none.moves).1.1.1.1.0
fails p none (function.Move moved.DateByYearMonth direction.Subtract) = (no_other p moves none.moves).1.1.1.1.1.0
fails p none function.TimeInRange = (no_other p in_range none.in_range).0
fails p none (function.Bag f t) = of_no_type p (function.Bag f) (in_no_bag_function p (λ f. map (function.Bag f) all_types) none.of_bags f) t
fails p none (function.HigherOrder higher.AnyOf) = (no_other p of_functions none.of_functions).0
fails p none (function.HigherOrder higher.AllOf) = (no_other p of_functions none.of_functions).1.0
fails p none (function.HigherOrder higher.AnyOfAny) = (no_other p of_functions none.of_functions).1.1.0
fails p none (function.HigherOrder higher.Map) = (no_other p of_functions none.of_functions).1.1.1.0
fails p none (function.HigherOrder higher.AllOfAny) = (no_other p of_functions none.of_functions).1.1.1.1.0
fails p none (function.HigherOrder higher.AllOfAll) = (no_other p of_functions none.of_functions).1.1.1.1.1.0

-- where the first of all that passes is none, none passes
named_at : (p : FuncId → Bool) (result found : Option FuncId) → find p all_functions ≡ found → ((f : FuncId) → (result ≡ Some f) ↔ IsTrue (p f)) → result ≡ found
named_at p (Some g) (Some f) e each = (each f).1 (find_passes p all_functions f e)
named_at p None (Some f) e each = (each f).1 (find_passes p all_functions f e)
named_at p (Some g) None e each = absurd (cc ((each g).0 refl, fails p (none_of_all p e) g))
named_at p None None e each = refl

-- the one function that a text names is the first of all that it names
pub named_of : (text : List ℕ) (result : Option FuncId) → ((f : FuncId) → (result ≡ Some f) ↔ IsTrue (names text f)) → result ≡ function_named text
unfolding function_named
named_of text result each = named_at (names text) result (find (names text) all_functions) refl each

-- Any or all: of how many items a question must be True.
use Rattle.std.specs.Prelude.{Bool, true, false}
use Rattle.xa_bag.specs.declared.quantifier.Quantifier.{Quantifier}
use Rattle.xa_bag.specs.declared.quantifier.Quantifier.TheVariants as quantifier

-- the answer that settles a quantifier, whatever the others are
abbrev pub settling : Quantifier → Bool
settling quantifier.Any = true
settling quantifier.All = false

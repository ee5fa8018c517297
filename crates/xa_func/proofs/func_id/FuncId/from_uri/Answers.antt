use Rattle.std.specs.Prelude.{Some}
use Rattle.xa_func.specs.declared.names.TheConstants.{SINGLE}
use Rattle.xa_func.proofs.TableLemmas.{found_is, last_is, none_of, equalities, strings_from, from_strings, comparisons, of_bags}
use Rattle.xa_func.proofs.EveryFunctionLemmas.{named_of}
use Rattle.xa_func.proofs.func_id.FuncId.from_uri.Goals as goal

pub returns-in-Some : goal.returns-in-Some
returns-in-Some c = let each = found_is c.args.uri.now SINGLE c.in-Some.function c.in-Some.ensures in record { each = each; named = named_of c.args.uri.now (Some c.in-Some.function) each }

pub returns-in-Some-equality_named : goal.returns-in-Some-equality_named
returns-in-Some-equality_named c = let each = found_is c.args.uri.now equalities c.in-Some-equality_named.function c.in-Some-equality_named.ensures in record { each = each; named = named_of c.args.uri.now (Some c.in-Some-equality_named.function) each }

pub returns-in-Some-string_from_named : goal.returns-in-Some-string_from_named
returns-in-Some-string_from_named c = let each = found_is c.args.uri.now strings_from c.in-Some-string_from_named.function c.in-Some-string_from_named.ensures in record { each = each; named = named_of c.args.uri.now (Some c.in-Some-string_from_named.function) each }

pub returns-in-Some-from_string_named : goal.returns-in-Some-from_string_named
returns-in-Some-from_string_named c = let each = found_is c.args.uri.now from_strings c.in-Some-from_string_named.function c.in-Some-from_string_named.ensures in record { each = each; named = named_of c.args.uri.now (Some c.in-Some-from_string_named.function) each }

pub returns-in-Some-comparison_of_sorts : goal.returns-in-Some-comparison_of_sorts
returns-in-Some-comparison_of_sorts c = let each = found_is c.args.uri.now comparisons c.in-Some-comparison_of_sorts.function c.in-Some-comparison_of_sorts.ensures in record { each = each; named = named_of c.args.uri.now (Some c.in-Some-comparison_of_sorts.function) each }

pub returns : goal.returns
returns c =
    let each = last_is c.args.uri.now of_bags c.bag_function_of_sorts.result c.bag_function_of_sorts.ensures (λ last. record {
      single = none_of _ _ c.first_named.ensures c.in_default.not-Some;
      equality = none_of _ _ c.equality_named.ensures c.in_default-equality_named.not-Some;
      string_from = none_of _ _ c.string_from_named.ensures c.in_default-string_from_named.not-Some;
      from_string = none_of _ _ c.from_string_named.ensures c.in_default-from_string_named.not-Some;
      compare = none_of _ _ c.comparison_of_sorts.ensures c.in_default-comparison_of_sorts.not-Some;
      bag = last;
    }) in
    record { each = each; named = named_of c.args.uri.now c.bag_function_of_sorts.result each }

-- A name is that of one function, and each function is among those that are searched.
use Rattle.std.proofs.Common.{◌≡◌, List, [], ◌∷◌, ℕ, ◌+◌, ◌*◌, ◌%◌, ◌==◌, Bool, true, false, if◌then◌else◌, map, refl, sym, ap, ◌∙◌, cond}
use Rattle.std.specs.Prelude.{Option, Some, None, bytes_eq, find, flat_map, ◌||◌, ◌&&◌, ◌↔◌, IsTrue}
use Rattle.std.specs.Option.{option_or}
use Rattle.std.proofs.lemmas.List.Folds.{find-append}
use Rattle.std.proofs.lemmas.Bool.{and_parts}
use Rattle.std.proofs.lemmas.Slice.Eq.{bytes_eq-Decides}
use Rattle.xa_value.specs.declared.data_type.DataType.{DataType}
use Rattle.xa_value.specs.declared.data_type.DataType.TheVariants as type
use Rattle.xa_func.specs.declared.func_id.FuncId.{FuncId}
use Rattle.xa_func.specs.declared.func_id.FuncId.TheVariants as function
use Rattle.xa_func.specs.declared.func_id.Arithmetic.{Arithmetic}
use Rattle.xa_func.specs.declared.func_id.Arithmetic.TheVariants as arithmetic
use Rattle.xa_func.specs.declared.func_id.Comparison.{Comparison}
use Rattle.xa_func.specs.declared.func_id.Comparison.TheVariants as comparison
use Rattle.xa_func.specs.declared.func_id.Logic.{Logic}
use Rattle.xa_func.specs.declared.func_id.Logic.TheVariants as logic
use Rattle.xa_func.specs.declared.func_id.TextFunction.{TextFunction}
use Rattle.xa_func.specs.declared.func_id.TextFunction.TheVariants as text_function
use Rattle.xa_func.specs.declared.func_id.TextPart.{TextPart}
use Rattle.xa_func.specs.declared.func_id.TextPart.TheVariants as part
use Rattle.xa_func.specs.declared.func_id.TextType.{TextType}
use Rattle.xa_func.specs.declared.func_id.TextType.TheVariants as text_type
use Rattle.xa_func.specs.declared.func_id.OrderedType.{OrderedType}
use Rattle.xa_func.specs.declared.func_id.OrderedType.TheVariants as ordered
use Rattle.xa_func.specs.declared.func_id.PrintedType.{PrintedType}
use Rattle.xa_func.specs.declared.func_id.PrintedType.TheVariants as printed
use Rattle.xa_func.specs.declared.func_id.Moved.{Moved}
use Rattle.xa_func.specs.declared.func_id.Moved.TheVariants as moved
use Rattle.xa_func.specs.declared.func_id.Direction.{Direction}
use Rattle.xa_func.specs.declared.func_id.Direction.TheVariants as direction
use Rattle.xa_func.specs.declared.func_id.BagFunction.{BagFunction}
use Rattle.xa_func.specs.declared.func_id.BagFunction.TheVariants as bag
use Rattle.xa_func.specs.declared.func_id.HigherOrder.{HigherOrder}
use Rattle.xa_func.specs.declared.func_id.HigherOrder.TheVariants as higher
use Rattle.xa_value.specs.declared.data_type.TheConstants.DataType as data_type
use Rattle.xa_func.specs.declared.func_id.TheConstants.Comparison as comparison_constant
use Rattle.xa_func.specs.declared.func_id.TheConstants.OrderedType as ordered_constant
use Rattle.xa_func.specs.declared.func_id.TheConstants.PrintedType as printed_constant
use Rattle.xa_func.specs.declared.func_id.TheConstants.BagFunction as bag_constant
use Rattle.xa_func.specs.declared.names.TheConstants.{SINGLE}
use Rattle.xa_func.specs.Table.{row_of, uri_in, third_version, has_later_name, is_duration, names}

-- a name, and the later one
abbrev uri : FuncId → List ℕ
uri f = uri_in (row_of f).version (row_of f)

abbrev later_uri : FuncId → List ℕ
later_uri f = uri_in third_version (row_of f)

-- a number of a text, which differs from name to name
abbrev number : ℕ → List ℕ → ℕ
number n [] = n
number n (c ∷ cs) = number ((n * 7 + c) % 2960) cs

abbrev numbered : ℕ → List (ℕ × FuncId) → Option FuncId
numbered n [] = None
numbered n (p ∷ ps) = if n == p.0 then Some p.1 else numbered n ps

-- the functions by the numbers of their names
abbrev by_number : List (ℕ × FuncId)
by_number =
    (1577, function.Equal type.String) ∷ (734, function.Equal type.Boolean) ∷ (1684, function.Equal type.Integer) ∷ (446, function.Equal type.Date) ∷
    (2165, function.Equal type.Time) ∷ (1795, function.Equal type.DateTime) ∷ (1417, function.Equal type.DayTimeDuration) ∷
    (1187, function.Equal type.YearMonthDuration) ∷ (384, function.Equal type.AnyUri) ∷ (298, function.Equal type.HexBinary) ∷
    (360, function.Equal type.Base64Binary) ∷ (1164, function.Compare comparison.GreaterThan ordered.Integer) ∷
    (1263, function.Compare comparison.GreaterThan ordered.String) ∷ (387, function.Compare comparison.GreaterThan ordered.Time) ∷
    (290, function.Compare comparison.GreaterThan ordered.Date) ∷ (757, function.Compare comparison.GreaterThan ordered.DateTime) ∷
    (1547, function.Compare comparison.GreaterThanOrEqual ordered.Integer) ∷ (240, function.Compare comparison.GreaterThanOrEqual ordered.String) ∷
    (2028, function.Compare comparison.GreaterThanOrEqual ordered.Time) ∷ (229, function.Compare comparison.GreaterThanOrEqual ordered.Date) ∷
    (1658, function.Compare comparison.GreaterThanOrEqual ordered.DateTime) ∷ (893, function.Compare comparison.LessThan ordered.Integer) ∷
    (1506, function.Compare comparison.LessThan ordered.String) ∷ (1374, function.Compare comparison.LessThan ordered.Time) ∷
    (295, function.Compare comparison.LessThan ordered.Date) ∷ (1004, function.Compare comparison.LessThan ordered.DateTime) ∷
    (610, function.Compare comparison.LessThanOrEqual ordered.Integer) ∷ (261, function.Compare comparison.LessThanOrEqual ordered.String) ∷
    (1017, function.Compare comparison.LessThanOrEqual ordered.Time) ∷ (2824, function.Compare comparison.LessThanOrEqual ordered.Date) ∷
    (1387, function.Compare comparison.LessThanOrEqual ordered.DateTime) ∷ (1889, function.Arithmetic arithmetic.Add) ∷
    (84, function.Arithmetic arithmetic.Multiply) ∷ (1076, function.Arithmetic arithmetic.Subtract) ∷ (233, function.Arithmetic arithmetic.Divide) ∷
    (2554, function.Arithmetic arithmetic.Mod) ∷ (1890, function.IntegerAbs) ∷ (2348, function.Logic logic.Or) ∷ (1022, function.Logic logic.And) ∷
    (2687, function.Logic logic.NOf) ∷ (1682, function.Logic logic.Not) ∷ (2363, function.Text text_function.NormalizeSpace) ∷
    (379, function.Text text_function.Concatenate) ∷ (2488, function.Text text_function.Substring) ∷
    (2409, function.Part part.StartsWith text_type.String) ∷ (1472, function.Part part.StartsWith text_type.AnyUri) ∷
    (2418, function.Part part.EndsWith text_type.String) ∷ (345, function.Part part.EndsWith text_type.AnyUri) ∷
    (1120, function.Part part.Contains text_type.String) ∷ (401, function.Part part.Contains text_type.AnyUri) ∷ (1062, function.StringFrom printed.Boolean) ∷
    (572, function.StringFrom printed.Integer) ∷ (256, function.StringFrom printed.Date) ∷ (167, function.StringFrom printed.Time) ∷
    (1237, function.StringFrom printed.DateTime) ∷ (834, function.StringFrom printed.AnyUri) ∷ (1283, function.StringFrom printed.DayTimeDuration) ∷
    (1053, function.StringFrom printed.YearMonthDuration) ∷ (2732, function.FromString printed.Boolean) ∷
    (2642, function.FromString printed.Integer) ∷ (816, function.FromString printed.Date) ∷ (407, function.FromString printed.Time) ∷
    (1077, function.FromString printed.DateTime) ∷ (1874, function.FromString printed.AnyUri) ∷ (2553, function.FromString printed.DayTimeDuration) ∷
    (643, function.FromString printed.YearMonthDuration) ∷ (2658, function.Move moved.DateTimeByDayTime direction.Add) ∷
    (1851, function.Move moved.DateTimeByDayTime direction.Subtract) ∷ (348, function.Move moved.DateTimeByYearMonth direction.Add) ∷
    (2245, function.Move moved.DateTimeByYearMonth direction.Subtract) ∷ (519, function.Move moved.DateByYearMonth direction.Add) ∷
    (2082, function.Move moved.DateByYearMonth direction.Subtract) ∷ (2819, function.TimeInRange) ∷ (1292, function.Bag bag.OneAndOnly type.String) ∷
    (1823, function.Bag bag.OneAndOnly type.Boolean) ∷ (1193, function.Bag bag.OneAndOnly type.Integer) ∷
    (319, function.Bag bag.OneAndOnly type.Date) ∷ (416, function.Bag bag.OneAndOnly type.Time) ∷ (786, function.Bag bag.OneAndOnly type.DateTime) ∷
    (2890, function.Bag bag.OneAndOnly type.DayTimeDuration) ∷ (1744, function.Bag bag.OneAndOnly type.YearMonthDuration) ∷
    (653, function.Bag bag.OneAndOnly type.AnyUri) ∷ (2835, function.Bag bag.OneAndOnly type.HexBinary) ∷
    (2501, function.Bag bag.OneAndOnly type.Base64Binary) ∷ (969, function.Bag bag.BagSize type.String) ∷
    (1900, function.Bag bag.BagSize type.Boolean) ∷ (2150, function.Bag bag.BagSize type.Integer) ∷ (796, function.Bag bag.BagSize type.Date) ∷
    (1373, function.Bag bag.BagSize type.Time) ∷ (1743, function.Bag bag.BagSize type.DateTime) ∷
    (2327, function.Bag bag.BagSize type.DayTimeDuration) ∷ (301, function.Bag bag.BagSize type.YearMonthDuration) ∷
    (250, function.Bag bag.BagSize type.AnyUri) ∷ (352, function.Bag bag.BagSize type.HexBinary) ∷ (898, function.Bag bag.BagSize type.Base64Binary) ∷
    (2477, function.Bag bag.IsIn type.String) ∷ (1634, function.Bag bag.IsIn type.Boolean) ∷ (2584, function.Bag bag.IsIn type.Integer) ∷
    (1346, function.Bag bag.IsIn type.Date) ∷ (105, function.Bag bag.IsIn type.Time) ∷ (2695, function.Bag bag.IsIn type.DateTime) ∷
    (2783, function.Bag bag.IsIn type.DayTimeDuration) ∷ (1241, function.Bag bag.IsIn type.YearMonthDuration) ∷
    (1284, function.Bag bag.IsIn type.AnyUri) ∷ (1198, function.Bag bag.IsIn type.HexBinary) ∷ (1260, function.Bag bag.IsIn type.Base64Binary) ∷
    (1797, function.Bag bag.Bag type.String) ∷ (330, function.Bag bag.Bag type.Boolean) ∷ (1920, function.Bag bag.Bag type.Integer) ∷
    (2378, function.Bag bag.Bag type.Date) ∷ (1809, function.Bag bag.Bag type.Time) ∷ (1439, function.Bag bag.Bag type.DateTime) ∷
    (2951, function.Bag bag.Bag type.DayTimeDuration) ∷ (1953, function.Bag bag.Bag type.YearMonthDuration) ∷
    (2860, function.Bag bag.Bag type.AnyUri) ∷ (1046, function.Bag bag.Bag type.HexBinary) ∷ (564, function.Bag bag.Bag type.Base64Binary) ∷
    (1892, function.Bag bag.Intersection type.String) ∷ (2423, function.Bag bag.Intersection type.Boolean) ∷
    (1793, function.Bag bag.Intersection type.Integer) ∷ (919, function.Bag bag.Intersection type.Date) ∷
    (1016, function.Bag bag.Intersection type.Time) ∷ (1386, function.Bag bag.Intersection type.DateTime) ∷
    (530, function.Bag bag.Intersection type.DayTimeDuration) ∷ (2344, function.Bag bag.Intersection type.YearMonthDuration) ∷
    (1253, function.Bag bag.Intersection type.AnyUri) ∷ (475, function.Bag bag.Intersection type.HexBinary) ∷
    (141, function.Bag bag.Intersection type.Base64Binary) ∷ (2956, function.Bag bag.Union type.String) ∷
    (2113, function.Bag bag.Union type.Boolean) ∷ (103, function.Bag bag.Union type.Integer) ∷ (1825, function.Bag bag.Union type.Date) ∷
    (584, function.Bag bag.Union type.Time) ∷ (214, function.Bag bag.Union type.DateTime) ∷ (302, function.Bag bag.Union type.DayTimeDuration) ∷
    (1720, function.Bag bag.Union type.YearMonthDuration) ∷ (1763, function.Bag bag.Union type.AnyUri) ∷
    (1677, function.Bag bag.Union type.HexBinary) ∷ (1739, function.Bag bag.Union type.Base64Binary) ∷
    (200, function.Bag bag.AtLeastOneMemberOf type.String) ∷ (1179, function.Bag bag.AtLeastOneMemberOf type.Boolean) ∷
    (469, function.Bag bag.AtLeastOneMemberOf type.Integer) ∷ (123, function.Bag bag.AtLeastOneMemberOf type.Date) ∷
    (876, function.Bag bag.AtLeastOneMemberOf type.Time) ∷ (1246, function.Bag bag.AtLeastOneMemberOf type.DateTime) ∷
    (582, function.Bag bag.AtLeastOneMemberOf type.DayTimeDuration) ∷ (108, function.Bag bag.AtLeastOneMemberOf type.YearMonthDuration) ∷
    (1129, function.Bag bag.AtLeastOneMemberOf type.AnyUri) ∷ (2047, function.Bag bag.AtLeastOneMemberOf type.HexBinary) ∷
    (1041, function.Bag bag.AtLeastOneMemberOf type.Base64Binary) ∷ (1733, function.Bag bag.Subset type.String) ∷
    (1752, function.Bag bag.Subset type.Boolean) ∷ (2482, function.Bag bag.Subset type.Integer) ∷ (2696, function.Bag bag.Subset type.Date) ∷
    (2889, function.Bag bag.Subset type.Time) ∷ (299, function.Bag bag.Subset type.DateTime) ∷ (915, function.Bag bag.Subset type.DayTimeDuration) ∷
    (1961, function.Bag bag.Subset type.YearMonthDuration) ∷ (2262, function.Bag bag.Subset type.AnyUri) ∷
    (1660, function.Bag bag.Subset type.HexBinary) ∷ (2094, function.Bag bag.Subset type.Base64Binary) ∷
    (1333, function.Bag bag.SetEquals type.String) ∷ (2552, function.Bag bag.SetEquals type.Boolean) ∷ (2, function.Bag bag.SetEquals type.Integer) ∷
    (1736, function.Bag bag.SetEquals type.Date) ∷ (409, function.Bag bag.SetEquals type.Time) ∷ (779, function.Bag bag.SetEquals type.DateTime) ∷
    (2755, function.Bag bag.SetEquals type.DayTimeDuration) ∷ (1161, function.Bag bag.SetEquals type.YearMonthDuration) ∷
    (1622, function.Bag bag.SetEquals type.AnyUri) ∷ (700, function.Bag bag.SetEquals type.HexBinary) ∷
    (814, function.Bag bag.SetEquals type.Base64Binary) ∷ (1491, function.HigherOrder higher.AnyOf) ∷ (1110, function.HigherOrder higher.AllOf) ∷
    (1610, function.HigherOrder higher.AnyOfAny) ∷ (1657, function.HigherOrder higher.Map) ∷ (811, function.HigherOrder higher.AllOfAny) ∷
    (784, function.HigherOrder higher.AllOfAll) ∷ (1772, function.Bag bag.OneAndOnly type.DayTimeDuration) ∷
    (242, function.Bag bag.OneAndOnly type.YearMonthDuration) ∷ (2329, function.Bag bag.BagSize type.DayTimeDuration) ∷
    (399, function.Bag bag.BagSize type.YearMonthDuration) ∷ (2317, function.Bag bag.IsIn type.DayTimeDuration) ∷
    (2087, function.Bag bag.IsIn type.YearMonthDuration) ∷ (2277, function.Bag bag.Bag type.DayTimeDuration) ∷
    (1487, function.Bag bag.Bag type.YearMonthDuration) ∷ (2372, function.Bag bag.Intersection type.DayTimeDuration) ∷
    (842, function.Bag bag.Intersection type.YearMonthDuration) ∷ (2796, function.Bag bag.Union type.DayTimeDuration) ∷
    (2566, function.Bag bag.Union type.YearMonthDuration) ∷ (600, function.Bag bag.AtLeastOneMemberOf type.DayTimeDuration) ∷
    (990, function.Bag bag.AtLeastOneMemberOf type.YearMonthDuration) ∷ (613, function.Bag bag.Subset type.DayTimeDuration) ∷
    (1963, function.Bag bag.Subset type.YearMonthDuration) ∷ (2853, function.Bag bag.SetEquals type.DayTimeDuration) ∷
    (43, function.Bag bag.SetEquals type.YearMonthDuration) ∷ []

abbrev function_of : List ℕ → Option FuncId
function_of text = numbered (number 0 text) by_number

-- families over types
named_equal : (x : DataType) → function_of (uri (function.Equal x)) ≡ Some (function.Equal x)
named_equal type.String = refl
named_equal type.Boolean = refl
named_equal type.Integer = refl
named_equal type.Date = refl
named_equal type.Time = refl
named_equal type.DateTime = refl
named_equal type.DayTimeDuration = refl
named_equal type.YearMonthDuration = refl
named_equal type.AnyUri = refl
named_equal type.HexBinary = refl
named_equal type.Base64Binary = refl

named_compare : (x : Comparison) (y : OrderedType) → function_of (uri (function.Compare x y)) ≡ Some (function.Compare x y)
named_compare comparison.GreaterThan ordered.Integer = refl
named_compare comparison.GreaterThan ordered.String = refl
named_compare comparison.GreaterThan ordered.Time = refl
named_compare comparison.GreaterThan ordered.Date = refl
named_compare comparison.GreaterThan ordered.DateTime = refl
named_compare comparison.GreaterThanOrEqual ordered.Integer = refl
named_compare comparison.GreaterThanOrEqual ordered.String = refl
named_compare comparison.GreaterThanOrEqual ordered.Time = refl
named_compare comparison.GreaterThanOrEqual ordered.Date = refl
named_compare comparison.GreaterThanOrEqual ordered.DateTime = refl
named_compare comparison.LessThan ordered.Integer = refl
named_compare comparison.LessThan ordered.String = refl
named_compare comparison.LessThan ordered.Time = refl
named_compare comparison.LessThan ordered.Date = refl
named_compare comparison.LessThan ordered.DateTime = refl
named_compare comparison.LessThanOrEqual ordered.Integer = refl
named_compare comparison.LessThanOrEqual ordered.String = refl
named_compare comparison.LessThanOrEqual ordered.Time = refl
named_compare comparison.LessThanOrEqual ordered.Date = refl
named_compare comparison.LessThanOrEqual ordered.DateTime = refl

named_arithmetic : (x : Arithmetic) → function_of (uri (function.Arithmetic x)) ≡ Some (function.Arithmetic x)
named_arithmetic arithmetic.Add = refl
named_arithmetic arithmetic.Multiply = refl
named_arithmetic arithmetic.Subtract = refl
named_arithmetic arithmetic.Divide = refl
named_arithmetic arithmetic.Mod = refl

named_logic : (x : Logic) → function_of (uri (function.Logic x)) ≡ Some (function.Logic x)
named_logic logic.Or = refl
named_logic logic.And = refl
named_logic logic.NOf = refl
named_logic logic.Not = refl

named_text : (x : TextFunction) → function_of (uri (function.Text x)) ≡ Some (function.Text x)
named_text text_function.NormalizeSpace = refl
named_text text_function.Concatenate = refl
named_text text_function.Substring = refl

named_part : (x : TextPart) (y : TextType) → function_of (uri (function.Part x y)) ≡ Some (function.Part x y)
named_part part.StartsWith text_type.String = refl
named_part part.StartsWith text_type.AnyUri = refl
named_part part.EndsWith text_type.String = refl
named_part part.EndsWith text_type.AnyUri = refl
named_part part.Contains text_type.String = refl
named_part part.Contains text_type.AnyUri = refl

named_string_from : (x : PrintedType) → function_of (uri (function.StringFrom x)) ≡ Some (function.StringFrom x)
named_string_from printed.Boolean = refl
named_string_from printed.Integer = refl
named_string_from printed.Date = refl
named_string_from printed.Time = refl
named_string_from printed.DateTime = refl
named_string_from printed.AnyUri = refl
named_string_from printed.DayTimeDuration = refl
named_string_from printed.YearMonthDuration = refl

named_from_string : (x : PrintedType) → function_of (uri (function.FromString x)) ≡ Some (function.FromString x)
named_from_string printed.Boolean = refl
named_from_string printed.Integer = refl
named_from_string printed.Date = refl
named_from_string printed.Time = refl
named_from_string printed.DateTime = refl
named_from_string printed.AnyUri = refl
named_from_string printed.DayTimeDuration = refl
named_from_string printed.YearMonthDuration = refl

named_move : (x : Moved) (y : Direction) → function_of (uri (function.Move x y)) ≡ Some (function.Move x y)
named_move moved.DateTimeByDayTime direction.Add = refl
named_move moved.DateTimeByDayTime direction.Subtract = refl
named_move moved.DateTimeByYearMonth direction.Add = refl
named_move moved.DateTimeByYearMonth direction.Subtract = refl
named_move moved.DateByYearMonth direction.Add = refl
named_move moved.DateByYearMonth direction.Subtract = refl

named_bag : (x : BagFunction) (y : DataType) → function_of (uri (function.Bag x y)) ≡ Some (function.Bag x y)
named_bag bag.OneAndOnly type.String = refl
named_bag bag.OneAndOnly type.Boolean = refl
named_bag bag.OneAndOnly type.Integer = refl
named_bag bag.OneAndOnly type.Date = refl
named_bag bag.OneAndOnly type.Time = refl
named_bag bag.OneAndOnly type.DateTime = refl
named_bag bag.OneAndOnly type.DayTimeDuration = refl
named_bag bag.OneAndOnly type.YearMonthDuration = refl
named_bag bag.OneAndOnly type.AnyUri = refl
named_bag bag.OneAndOnly type.HexBinary = refl
named_bag bag.OneAndOnly type.Base64Binary = refl
named_bag bag.BagSize type.String = refl
named_bag bag.BagSize type.Boolean = refl
named_bag bag.BagSize type.Integer = refl
named_bag bag.BagSize type.Date = refl
named_bag bag.BagSize type.Time = refl
named_bag bag.BagSize type.DateTime = refl
named_bag bag.BagSize type.DayTimeDuration = refl
named_bag bag.BagSize type.YearMonthDuration = refl
named_bag bag.BagSize type.AnyUri = refl
named_bag bag.BagSize type.HexBinary = refl
named_bag bag.BagSize type.Base64Binary = refl
named_bag bag.IsIn type.String = refl
named_bag bag.IsIn type.Boolean = refl
named_bag bag.IsIn type.Integer = refl
named_bag bag.IsIn type.Date = refl
named_bag bag.IsIn type.Time = refl
named_bag bag.IsIn type.DateTime = refl
named_bag bag.IsIn type.DayTimeDuration = refl
named_bag bag.IsIn type.YearMonthDuration = refl
named_bag bag.IsIn type.AnyUri = refl
named_bag bag.IsIn type.HexBinary = refl
named_bag bag.IsIn type.Base64Binary = refl
named_bag bag.Bag type.String = refl
named_bag bag.Bag type.Boolean = refl
named_bag bag.Bag type.Integer = refl
named_bag bag.Bag type.Date = refl
named_bag bag.Bag type.Time = refl
named_bag bag.Bag type.DateTime = refl
named_bag bag.Bag type.DayTimeDuration = refl
named_bag bag.Bag type.YearMonthDuration = refl
named_bag bag.Bag type.AnyUri = refl
named_bag bag.Bag type.HexBinary = refl
named_bag bag.Bag type.Base64Binary = refl
named_bag bag.Intersection type.String = refl
named_bag bag.Intersection type.Boolean = refl
named_bag bag.Intersection type.Integer = refl
named_bag bag.Intersection type.Date = refl
named_bag bag.Intersection type.Time = refl
named_bag bag.Intersection type.DateTime = refl
named_bag bag.Intersection type.DayTimeDuration = refl
named_bag bag.Intersection type.YearMonthDuration = refl
named_bag bag.Intersection type.AnyUri = refl
named_bag bag.Intersection type.HexBinary = refl
named_bag bag.Intersection type.Base64Binary = refl
named_bag bag.Union type.String = refl
named_bag bag.Union type.Boolean = refl
named_bag bag.Union type.Integer = refl
named_bag bag.Union type.Date = refl
named_bag bag.Union type.Time = refl
named_bag bag.Union type.DateTime = refl
named_bag bag.Union type.DayTimeDuration = refl
named_bag bag.Union type.YearMonthDuration = refl
named_bag bag.Union type.AnyUri = refl
named_bag bag.Union type.HexBinary = refl
named_bag bag.Union type.Base64Binary = refl
named_bag bag.AtLeastOneMemberOf type.String = refl
named_bag bag.AtLeastOneMemberOf type.Boolean = refl
named_bag bag.AtLeastOneMemberOf type.Integer = refl
named_bag bag.AtLeastOneMemberOf type.Date = refl
named_bag bag.AtLeastOneMemberOf type.Time = refl
named_bag bag.AtLeastOneMemberOf type.DateTime = refl
named_bag bag.AtLeastOneMemberOf type.DayTimeDuration = refl
named_bag bag.AtLeastOneMemberOf type.YearMonthDuration = refl
named_bag bag.AtLeastOneMemberOf type.AnyUri = refl
named_bag bag.AtLeastOneMemberOf type.HexBinary = refl
named_bag bag.AtLeastOneMemberOf type.Base64Binary = refl
named_bag bag.Subset type.String = refl
named_bag bag.Subset type.Boolean = refl
named_bag bag.Subset type.Integer = refl
named_bag bag.Subset type.Date = refl
named_bag bag.Subset type.Time = refl
named_bag bag.Subset type.DateTime = refl
named_bag bag.Subset type.DayTimeDuration = refl
named_bag bag.Subset type.YearMonthDuration = refl
named_bag bag.Subset type.AnyUri = refl
named_bag bag.Subset type.HexBinary = refl
named_bag bag.Subset type.Base64Binary = refl
named_bag bag.SetEquals type.String = refl
named_bag bag.SetEquals type.Boolean = refl
named_bag bag.SetEquals type.Integer = refl
named_bag bag.SetEquals type.Date = refl
named_bag bag.SetEquals type.Time = refl
named_bag bag.SetEquals type.DateTime = refl
named_bag bag.SetEquals type.DayTimeDuration = refl
named_bag bag.SetEquals type.YearMonthDuration = refl
named_bag bag.SetEquals type.AnyUri = refl
named_bag bag.SetEquals type.HexBinary = refl
named_bag bag.SetEquals type.Base64Binary = refl

named_higher : (x : HigherOrder) → function_of (uri (function.HigherOrder x)) ≡ Some (function.HigherOrder x)
named_higher higher.AnyOf = refl
named_higher higher.AllOf = refl
named_higher higher.AnyOfAny = refl
named_higher higher.Map = refl
named_higher higher.AllOfAny = refl
named_higher higher.AllOfAll = refl

-- the function of a name
named : (f : FuncId) → function_of (uri f) ≡ Some f
named (function.Equal t) = named_equal t
named (function.Compare c t) = named_compare c t
named (function.Arithmetic f) = named_arithmetic f
named function.IntegerAbs = refl
named (function.Logic f) = named_logic f
named (function.Text f) = named_text f
named (function.Part p t) = named_part p t
named (function.StringFrom t) = named_string_from t
named (function.FromString t) = named_from_string t
named (function.Move m d) = named_move m d
named function.TimeInRange = refl
named (function.Bag f t) = named_bag f t
named (function.HigherOrder f) = named_higher f

-- the later names of the bags of durations
later_day_time : (f : BagFunction) → function_of (later_uri (function.Bag f type.DayTimeDuration)) ≡ Some (function.Bag f type.DayTimeDuration)
later_day_time bag.OneAndOnly = refl
later_day_time bag.BagSize = refl
later_day_time bag.IsIn = refl
later_day_time bag.Bag = refl
later_day_time bag.Intersection = refl
later_day_time bag.Union = refl
later_day_time bag.AtLeastOneMemberOf = refl
later_day_time bag.Subset = refl
later_day_time bag.SetEquals = refl

later_year_month : (f : BagFunction) → function_of (later_uri (function.Bag f type.YearMonthDuration)) ≡ Some (function.Bag f type.YearMonthDuration)
later_year_month bag.OneAndOnly = refl
later_year_month bag.BagSize = refl
later_year_month bag.IsIn = refl
later_year_month bag.Bag = refl
later_year_month bag.Intersection = refl
later_year_month bag.Union = refl
later_year_month bag.AtLeastOneMemberOf = refl
later_year_month bag.Subset = refl
later_year_month bag.SetEquals = refl

later_bag : (f : BagFunction) (t : DataType) → is_duration t ≡ true → function_of (later_uri (function.Bag f t)) ≡ Some (function.Bag f t)
later_bag f type.String e = cc
later_bag f type.Boolean e = cc
later_bag f type.Integer e = cc
later_bag f type.Date e = cc
later_bag f type.Time e = cc
later_bag f type.DateTime e = cc
later_bag f type.DayTimeDuration e = later_day_time f
later_bag f type.YearMonthDuration e = later_year_month f
later_bag f type.AnyUri e = cc
later_bag f type.HexBinary e = cc
later_bag f type.Base64Binary e = cc

later : (f : FuncId) → has_later_name f ≡ true → function_of (later_uri f) ≡ Some f
later (function.Bag f t) e = later_bag f t e
later (function.Equal t) e = cc
later (function.Compare c t) e = cc
later (function.Arithmetic f) e = cc
later function.IntegerAbs e = cc
later (function.Logic f) e = cc
later (function.Text f) e = cc
later (function.Part p t) e = cc
later (function.StringFrom t) e = cc
later (function.FromString t) e = cc
later (function.Move m d) e = cc
later function.TimeInRange e = cc
later (function.HigherOrder f) e = cc

-- a text that is the first name, or the later one, is found
by_names : (text : List ℕ) (f : FuncId) (a : Bool) → bytes_eq text (uri f) ≡ a → (a || (has_later_name f && bytes_eq text (later_uri f))) ≡ true → function_of text ≡ Some f
by_names text f true e h = ap function_of ((bytes_eq-Decides text (uri f)).0 e) ∙ named f
by_names text f false e h =
    let both = and_parts (has_later_name f) (bytes_eq text (later_uri f)) h in
    ap function_of ((bytes_eq-Decides text (later_uri f)).0 both.1) ∙ later f both.0

of_name : (text : List ℕ) (f : FuncId) → names text f ≡ true → function_of text ≡ Some f
unfolding names
of_name text f h = by_names text f (bytes_eq text (uri f)) refl h

-- a text names one function
one_function : (text : List ℕ) (f g : FuncId) → names text f ≡ true → names text g ≡ true → Some f ≡ Some g
one_function text f g first second = sym (of_name text f first) ∙ of_name text g second

-- what a search finds passes its test
passes_at : {X : Type 0} (p : X → Bool) (y : X) (ys : List X) (x : X) (v : Bool) → p y ≡ v → (find p ys ≡ Some x → p x ≡ true)
    → cond v (Some y) (find p ys) ≡ Some x → p x ≡ true
passes_at p y ys x true here rest e = cc
passes_at p y ys x false other rest e = rest e

pub find_passes : {X : Type 0} (p : X → Bool) (xs : List X) (x : X) → find p xs ≡ Some x → p x ≡ true
find_passes p [] x e = cc
find_passes p (y ∷ ys) x e = passes_at p y ys x (p y) refl (find_passes p ys x) e

-- the function that a search finds is the one that the text names
pub found_is : (text : List ℕ) (fs : List FuncId) (g : FuncId) → Some g ≡ find (names text) fs → (f : FuncId) → (Some g ≡ Some f) ↔ IsTrue (names text f)
found_is text fs g e f = (λ same. find_passes (names text) fs f (sym e ∙ same), λ named. one_function text g f (find_passes (names text) fs g (sym e)) named)

-- of a list in which no function is named, each is not named
abbrev pub Each : {X : Type 0} → (X → Type 0) → List X → Type 0
Each P [] = Unit {0}
Each P (x ∷ xs) = P x × Each P xs

not_at : {X : Type 0} (p : X → Bool) (y : X) (ys : List X) (v : Bool) → p y ≡ v → cond v (Some y) (find p ys) ≡ None → (p y ≡ false) × (find p ys ≡ None)
not_at p y ys true here e = cc
not_at p y ys false other e = (other, e)

pub no_other : {X : Type 0} (p : X → Bool) (xs : List X) → find p xs ≡ None → Each (λ x. p x ≡ false) xs
no_other p [] e = tt
no_other p (y ∷ ys) e = let both = not_at p y ys (p y) refl e in (both.0, no_other p ys both.1)

pub both_none : {Y : Type 0} (a b : Option Y) → option_or a b ≡ None → (a ≡ None) × (b ≡ None)
both_none None b e = (refl, e)
both_none (Some x) b e = cc

pub in_no_part : {X Y : Type 0} (p : Y → Bool) (g : X → List Y) (xs : List X) → find p (flat_map g xs) ≡ None → Each (λ x. find p (g x) ≡ None) xs
in_no_part p g [] e = tt
in_no_part p g (x ∷ xs) e =
    let both = both_none (find p (g x)) (find p (flat_map g xs)) (sym (find-append p (g x) (flat_map g xs)) ∙ e) in
    (both.0, in_no_part p g xs both.1)

pub of_no_type : (p : FuncId → Bool) (c : DataType → FuncId) → find p (map c data_type.ALL) ≡ None → (t : DataType) → p (c t) ≡ false
of_no_type p c e type.String = (no_other p (map c data_type.ALL) e).0
of_no_type p c e type.Boolean = (no_other p (map c data_type.ALL) e).1.0
of_no_type p c e type.Integer = (no_other p (map c data_type.ALL) e).1.1.0
of_no_type p c e type.Date = (no_other p (map c data_type.ALL) e).1.1.1.0
of_no_type p c e type.Time = (no_other p (map c data_type.ALL) e).1.1.1.1.0
of_no_type p c e type.DateTime = (no_other p (map c data_type.ALL) e).1.1.1.1.1.0
of_no_type p c e type.DayTimeDuration = (no_other p (map c data_type.ALL) e).1.1.1.1.1.1.0
of_no_type p c e type.YearMonthDuration = (no_other p (map c data_type.ALL) e).1.1.1.1.1.1.1.0
of_no_type p c e type.AnyUri = (no_other p (map c data_type.ALL) e).1.1.1.1.1.1.1.1.0
of_no_type p c e type.HexBinary = (no_other p (map c data_type.ALL) e).1.1.1.1.1.1.1.1.1.0
of_no_type p c e type.Base64Binary = (no_other p (map c data_type.ALL) e).1.1.1.1.1.1.1.1.1.1.0

pub of_no_ordered : (p : FuncId → Bool) (c : OrderedType → FuncId) → find p (map c ordered_constant.ALL) ≡ None → (t : OrderedType) → p (c t) ≡ false
of_no_ordered p c e ordered.Integer = (no_other p (map c ordered_constant.ALL) e).0
of_no_ordered p c e ordered.String = (no_other p (map c ordered_constant.ALL) e).1.0
of_no_ordered p c e ordered.Time = (no_other p (map c ordered_constant.ALL) e).1.1.0
of_no_ordered p c e ordered.Date = (no_other p (map c ordered_constant.ALL) e).1.1.1.0
of_no_ordered p c e ordered.DateTime = (no_other p (map c ordered_constant.ALL) e).1.1.1.1.0

pub of_no_printed : (p : FuncId → Bool) (c : PrintedType → FuncId) → find p (map c printed_constant.ALL) ≡ None → (t : PrintedType) → p (c t) ≡ false
of_no_printed p c e printed.Boolean = (no_other p (map c printed_constant.ALL) e).0
of_no_printed p c e printed.Integer = (no_other p (map c printed_constant.ALL) e).1.0
of_no_printed p c e printed.Date = (no_other p (map c printed_constant.ALL) e).1.1.0
of_no_printed p c e printed.Time = (no_other p (map c printed_constant.ALL) e).1.1.1.0
of_no_printed p c e printed.DateTime = (no_other p (map c printed_constant.ALL) e).1.1.1.1.0
of_no_printed p c e printed.AnyUri = (no_other p (map c printed_constant.ALL) e).1.1.1.1.1.0
of_no_printed p c e printed.DayTimeDuration = (no_other p (map c printed_constant.ALL) e).1.1.1.1.1.1.0
of_no_printed p c e printed.YearMonthDuration = (no_other p (map c printed_constant.ALL) e).1.1.1.1.1.1.1.0

pub in_no_comparison : (p : FuncId → Bool) (g : Comparison → List FuncId) → find p (flat_map g comparison_constant.ALL) ≡ None → (c : Comparison) → find p (g c) ≡ None
in_no_comparison p g e comparison.GreaterThan = (in_no_part p g comparison_constant.ALL e).0
in_no_comparison p g e comparison.GreaterThanOrEqual = (in_no_part p g comparison_constant.ALL e).1.0
in_no_comparison p g e comparison.LessThan = (in_no_part p g comparison_constant.ALL e).1.1.0
in_no_comparison p g e comparison.LessThanOrEqual = (in_no_part p g comparison_constant.ALL e).1.1.1.0

pub in_no_bag_function : (p : FuncId → Bool) (g : BagFunction → List FuncId) → find p (flat_map g bag_constant.ALL) ≡ None → (f : BagFunction) → find p (g f) ≡ None
in_no_bag_function p g e bag.OneAndOnly = (in_no_part p g bag_constant.ALL e).0
in_no_bag_function p g e bag.BagSize = (in_no_part p g bag_constant.ALL e).1.0
in_no_bag_function p g e bag.IsIn = (in_no_part p g bag_constant.ALL e).1.1.0
in_no_bag_function p g e bag.Bag = (in_no_part p g bag_constant.ALL e).1.1.1.0
in_no_bag_function p g e bag.Intersection = (in_no_part p g bag_constant.ALL e).1.1.1.1.0
in_no_bag_function p g e bag.Union = (in_no_part p g bag_constant.ALL e).1.1.1.1.1.0
in_no_bag_function p g e bag.AtLeastOneMemberOf = (in_no_part p g bag_constant.ALL e).1.1.1.1.1.1.0
in_no_bag_function p g e bag.Subset = (in_no_part p g bag_constant.ALL e).1.1.1.1.1.1.1.0
in_no_bag_function p g e bag.SetEquals = (in_no_part p g bag_constant.ALL e).1.1.1.1.1.1.1.1.0

-- the families over types, as they are searched
abbrev pub equalities : List FuncId
equalities = map function.Equal data_type.ALL

abbrev pub strings_from : List FuncId
strings_from = map function.StringFrom printed_constant.ALL

abbrev pub from_strings : List FuncId
from_strings = map function.FromString printed_constant.ALL

abbrev pub comparisons : List FuncId
comparisons = flat_map (λ c. map (function.Compare c) ordered_constant.ALL) comparison_constant.ALL

abbrev pub of_bags : List FuncId
of_bags = flat_map (λ f. map (function.Bag f) data_type.ALL) bag_constant.ALL

-- no function is named where none is found
pub record IsNowhere (text : List ℕ) : Type 0 where
  pub single : find (names text) SINGLE ≡ None
  pub equality : find (names text) equalities ≡ None
  pub string_from : find (names text) strings_from ≡ None
  pub from_string : find (names text) from_strings ≡ None
  pub compare : find (names text) comparisons ≡ None
  pub bag : find (names text) of_bags ≡ None

nowhere : (text : List ℕ) (none : IsNowhere text) (f : FuncId) → names text f ≡ false
nowhere text none (function.Equal t) = of_no_type (names text) function.Equal none.equality t
nowhere text none (function.StringFrom t) = of_no_printed (names text) function.StringFrom none.string_from t
nowhere text none (function.FromString t) = of_no_printed (names text) function.FromString none.from_string t
nowhere text none (function.Compare c t) = of_no_ordered (names text) (function.Compare c) (in_no_comparison (names text) (λ c. map (function.Compare c) ordered_constant.ALL) none.compare c) t
nowhere text none (function.Bag f t) = of_no_type (names text) (function.Bag f) (in_no_bag_function (names text) (λ f. map (function.Bag f) data_type.ALL) none.bag f) t
nowhere text none (function.Arithmetic arithmetic.Add) = (no_other (names text) SINGLE none.single).0
nowhere text none (function.Arithmetic arithmetic.Multiply) = (no_other (names text) SINGLE none.single).1.0
nowhere text none (function.Arithmetic arithmetic.Subtract) = (no_other (names text) SINGLE none.single).1.1.0
nowhere text none (function.Arithmetic arithmetic.Divide) = (no_other (names text) SINGLE none.single).1.1.1.0
nowhere text none (function.Arithmetic arithmetic.Mod) = (no_other (names text) SINGLE none.single).1.1.1.1.0
nowhere text none function.IntegerAbs = (no_other (names text) SINGLE none.single).1.1.1.1.1.0
nowhere text none (function.Logic logic.Or) = (no_other (names text) SINGLE none.single).1.1.1.1.1.1.0
nowhere text none (function.Logic logic.And) = (no_other (names text) SINGLE none.single).1.1.1.1.1.1.1.0
nowhere text none (function.Logic logic.NOf) = (no_other (names text) SINGLE none.single).1.1.1.1.1.1.1.1.0
nowhere text none (function.Logic logic.Not) = (no_other (names text) SINGLE none.single).1.1.1.1.1.1.1.1.1.0
nowhere text none (function.Text text_function.NormalizeSpace) = (no_other (names text) SINGLE none.single).1.1.1.1.1.1.1.1.1.1.0
nowhere text none (function.Text text_function.Concatenate) = (no_other (names text) SINGLE none.single).1.1.1.1.1.1.1.1.1.1.1.0
nowhere text none (function.Text text_function.Substring) = (no_other (names text) SINGLE none.single).1.1.1.1.1.1.1.1.1.1.1.1.0
nowhere text none (function.Part part.StartsWith text_type.String) = (no_other (names text) SINGLE none.single).1.1.1.1.1.1.1.1.1.1.1.1.1.0
nowhere text none (function.Part part.EndsWith text_type.String) = (no_other (names text) SINGLE none.single).1.1.1.1.1.1.1.1.1.1.1.1.1.1.0
nowhere text none (function.Part part.Contains text_type.String) = (no_other (names text) SINGLE none.single).1.1.1.1.1.1.1.1.1.1.1.1.1.1.1.0
nowhere text none (function.Part part.StartsWith text_type.AnyUri) = (no_other (names text) SINGLE none.single).1.1.1.1.1.1.1.1.1.1.1.1.1.1.1.1.0
nowhere text none (function.Part part.EndsWith text_type.AnyUri) = (no_other (names text) SINGLE none.single).1.1.1.1.1.1.1.1.1.1.1.1.1.1.1.1.1.0
nowhere text none (function.Part part.Contains text_type.AnyUri) = (no_other (names text) SINGLE none.single).1.1.1.1.1.1.1.1.1.1.1.1.1.1.1.1.1.1.0
nowhere text none (function.Move moved.DateTimeByDayTime direction.Add) = (no_other (names text) SINGLE none.single).1.1.1.1.1.1.1.1.1.1.1.1.1.1.1.1.1.1.1.0
nowhere text none (function.Move moved.DateTimeByDayTime direction.Subtract) = (no_other (names text) SINGLE none.single).1.1.1.1.1.1.1.1.1.1.1.1.1.1.1.1.1.1.1.1.0
nowhere text none (function.Move moved.DateTimeByYearMonth direction.Add) = (no_other (names text) SINGLE none.single).1.1.1.1.1.1.1.1.1.1.1.1.1.1.1.1.1.1.1.1.1.0
nowhere text none (function.Move moved.DateTimeByYearMonth direction.Subtract) = (no_other (names text) SINGLE none.single).1.1.1.1.1.1.1.1.1.1.1.1.1.1.1.1.1.1.1.1.1.1.0
nowhere text none (function.Move moved.DateByYearMonth direction.Add) = (no_other (names text) SINGLE none.single).1.1.1.1.1.1.1.1.1.1.1.1.1.1.1.1.1.1.1.1.1.1.1.0
nowhere text none (function.Move moved.DateByYearMonth direction.Subtract) = (no_other (names text) SINGLE none.single).1.1.1.1.1.1.1.1.1.1.1.1.1.1.1.1.1.1.1.1.1.1.1.1.0
nowhere text none function.TimeInRange = (no_other (names text) SINGLE none.single).1.1.1.1.1.1.1.1.1.1.1.1.1.1.1.1.1.1.1.1.1.1.1.1.1.0
nowhere text none (function.HigherOrder higher.AnyOf) = (no_other (names text) SINGLE none.single).1.1.1.1.1.1.1.1.1.1.1.1.1.1.1.1.1.1.1.1.1.1.1.1.1.1.0
nowhere text none (function.HigherOrder higher.AllOf) = (no_other (names text) SINGLE none.single).1.1.1.1.1.1.1.1.1.1.1.1.1.1.1.1.1.1.1.1.1.1.1.1.1.1.1.0
nowhere text none (function.HigherOrder higher.AnyOfAny) = (no_other (names text) SINGLE none.single).1.1.1.1.1.1.1.1.1.1.1.1.1.1.1.1.1.1.1.1.1.1.1.1.1.1.1.1.0
nowhere text none (function.HigherOrder higher.Map) = (no_other (names text) SINGLE none.single).1.1.1.1.1.1.1.1.1.1.1.1.1.1.1.1.1.1.1.1.1.1.1.1.1.1.1.1.1.0
nowhere text none (function.HigherOrder higher.AllOfAny) = (no_other (names text) SINGLE none.single).1.1.1.1.1.1.1.1.1.1.1.1.1.1.1.1.1.1.1.1.1.1.1.1.1.1.1.1.1.1.0
nowhere text none (function.HigherOrder higher.AllOfAll) = (no_other (names text) SINGLE none.single).1.1.1.1.1.1.1.1.1.1.1.1.1.1.1.1.1.1.1.1.1.1.1.1.1.1.1.1.1.1.1.0

-- none is the answer for a function that is not named
none_is : (text : List ℕ) (f : FuncId) → names text f ≡ false → (◌≡◌ {A = Option FuncId} None (Some f)) ↔ IsTrue (names text f)
none_is text f other = (λ same. absurd (cc same), λ named. absurd (cc (other, named)))

-- the last search tells
pub last_is : (text : List ℕ) (fs : List FuncId) (result : Option FuncId) → result ≡ find (names text) fs → (find (names text) fs ≡ None → IsNowhere text)
    → (f : FuncId) → (result ≡ Some f) ↔ IsTrue (names text f)
last_is text fs (Some g) e none f = found_is text fs g e f
last_is text fs None e none f = none_is text f (nowhere text (none (sym e)) f)

-- an answer that is no function is none
pub none_of : (o found : Option FuncId) → o ≡ found → ((f : FuncId) → o ≡ Some f → ⊥) → found ≡ None
none_of None found e not = sym e
none_of (Some f) found e not = absurd (not f refl)

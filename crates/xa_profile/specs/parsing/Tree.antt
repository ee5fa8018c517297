-- What a tree of JSON stands for in which numbers are texts.
use Rattle.std.specs.Prelude.{List, Bool, true, ◌&&◌, Option, Some, None, is_some}
use Rattle.json.specs.Json as json
use Rattle.json.specs.Value.{value_view}
use Rattle.json.specs.Value as tree
use Rattle.json.specs.declared.value.Value.{Value}
use Rattle.serde_json.specs.Data.{Num, Data, null, boolean, number, string, array}
use Rattle.serde_json.specs.Data.{object, Items, no_items, item, Members, no_members, put}
use Rattle.serde_json.specs.Read.{number_of}

-- no number of the tree is too large
abbrev mutual
  pub is_readable : json.Json → Bool
  is_readable json.null = true
  is_readable (json.boolean b) = true
  is_readable (json.number s) = is_some (number_of s)
  is_readable (json.string s) = true
  is_readable (json.array js) = items_are_readable js
  is_readable (json.object ms) = members_are_readable ms

  pub items_are_readable : json.Items → Bool
  items_are_readable json.no_items = true
  items_are_readable (json.item j js) = is_readable j && items_are_readable js

  pub members_are_readable : json.Members → Bool
  members_are_readable json.no_members = true
  members_are_readable (json.member k j ms) = is_readable j && members_are_readable ms

-- the number; null, if it is too large
abbrev pub number_or_null : Option Num → Data
number_or_null None = null
number_or_null (Some n) = number n

-- the value that the tree stands for, if none of its numbers is too large
abbrev mutual
  pub data_of : json.Json → Data
  data_of json.null = null
  data_of (json.boolean b) = boolean b
  data_of (json.number s) = number_or_null (number_of s)
  data_of (json.string s) = string s
  data_of (json.array js) = array (data_of_items js)
  data_of (json.object ms) = object (data_of_members ms no_members)

  pub data_of_items : json.Items → Items
  data_of_items json.no_items = no_items
  data_of_items (json.item j js) = item (data_of j) (data_of_items js)

  pub data_of_members : json.Members → Members → Members
  data_of_members json.no_members found = found
  data_of_members (json.member k j ms) found = data_of_members ms (put k (data_of j) found)

-- what a tree of the code stands for
abbrev pub view : {A : Type 0} → Value A → Data
view v = data_of (value_view v)

-- what several trees of the code stand for
abbrev pub items_view : {A : Type 0} → List (Value A) → Items
items_view vs = data_of_items (tree.items_view vs)

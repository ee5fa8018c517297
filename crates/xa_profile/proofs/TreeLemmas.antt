-- A tree stands for the value that serde_json reads, and has the same members.
use Rattle.std.proofs.Common.{◌≡◌, ℕ, List, [], ◌∷◌, true≢false, refl, ap, sym, ◌∙◌, subst}
use Rattle.std.specs.Borrow.{Bor}
use Rattle.std.specs.Prelude.{Bool, true, false, ◌&&◌, cond, Option, Some, None, is_some, option_map, option_and_then, if◌then◌else◌}
use Rattle.std.specs.Str.{bytes_eq}
use Rattle.std.proofs.lemmas.Slice.Eq.{bytes_eq-Decides}
use Rattle.json.specs.Find as find
use Rattle.json.specs.Json as json
use Rattle.json.specs.Lex.{tokens}
use Rattle.json.specs.Token.{Token}
use Rattle.json.specs.Value.{value_view}
use Rattle.json.specs.declared.value.Value.{Value}
use Rattle.serde_json.specs.Data.{Num, Data, number, array, object, Items, item, Members, no_members, put}
use Rattle.serde_json.specs.Find.{get, get_member}
use Rattle.serde_json.specs.Read.{number_of, of_json, of_items, of_members, read}
use Rattle.serde_json.proofs.Views.{get_member-put, get_member-put_other}
use Rattle.xa_profile.specs.parsing.Tree.{is_readable, items_are_readable, members_are_readable, number_or_null, data_of, data_of_items, data_of_members, view}

-- ---- what serde_json reads

abbrev only : {X : Type 0} → Bool → X → Option X
only b x = if b then Some x else None

number_read : (n : Option Num) → option_map number n ≡ only (is_some n) (number_or_null n)
number_read None = refl
number_read (Some n) = refl

under : {X Y : Type 0} (f : X → Y) (b : Bool) (x : X) → option_map f (only b x) ≡ only b (f x)
under f true x = refl
under f false x = refl

item_read : (b c : Bool) (d : Data) (ds : Items) → option_and_then (λ e. option_map (item e) (only c ds)) (only b d) ≡ only (b && c) (item d ds)
item_read true true d ds = refl
item_read true false d ds = refl
item_read false c d ds = refl

member_read : (b c : Bool) (d : Data) (read : Data → Option Members) (ms : Members) → read d ≡ only c ms → option_and_then read (only b d) ≡ only (b && c) ms
member_read true c d read ms e = e
member_read false c d read ms e = refl

mutual
  pub value_read : (j : json.Json) → of_json j ≡ (if is_readable j then Some (data_of j) else None)
  value_read json.null = refl
  value_read (json.boolean b) = refl
  value_read (json.number s) = number_read (number_of s)
  value_read (json.string s) = refl
  value_read (json.array js) = ap (option_map array) (items_read js) ∙ under array (items_are_readable js) (data_of_items js)
  value_read (json.object ms) = ap (option_map object) (members_read ms no_members) ∙ under object (members_are_readable ms) (data_of_members ms no_members)

  items_read : (js : json.Items) → of_items js ≡ only (items_are_readable js) (data_of_items js)
  items_read json.no_items = refl
  items_read (json.item j js) =
      ap (λ ds. option_and_then (λ d. option_map (item d) ds) (of_json j)) (items_read js)
      ∙ ap (option_and_then (λ d. option_map (item d) (only (items_are_readable js) (data_of_items js)))) (value_read j)
      ∙ item_read (is_readable j) (items_are_readable js) (data_of j) (data_of_items js)

  members_read : (ms : json.Members) (found : Members) → of_members ms found ≡ only (members_are_readable ms) (data_of_members ms found)
  members_read json.no_members found = refl
  members_read (json.member k j ms) found =
      ap (option_and_then (λ d. of_members ms (put k d found))) (value_read j)
      ∙ member_read (is_readable j) (members_are_readable ms) (data_of j) (λ d. of_members ms (put k d found)) (data_of_members ms (put k (data_of j) found)) (members_read ms (put k (data_of j) found))

-- ---- what a text reads as

module _ (text : List ℕ) where
  abbrev Begins : json.Json → List Token → Type 0
  Begins j ts = json.value 127 (tokens text) ≡ Some (j, ts)

  reads : (o : Option (json.Json × List Token)) → json.value 127 (tokens text) ≡ o → read text ≡ option_and_then of_json (option_and_then (λ p. json.if_last p.0 p.1) o)
  reads o e = ap (λ p. option_and_then of_json (option_and_then (λ p. json.if_last p.0 p.1) p)) e

  -- the whole of it is a tree with no number that is too large
  pub whole_read : (j : json.Json) → Begins j [] → is_readable j ≡ true → read text ≡ Some (data_of j)
  whole_read j e readable = reads _ e ∙ value_read j ∙ ap (λ b. only b (data_of j)) readable

  -- some number is too large
  pub number_refused : (j : json.Json) (ts : List Token) → Begins j ts → is_readable j ≡ false → read text ≡ None
  number_refused j [] e readable = reads _ e ∙ value_read j ∙ ap (λ b. only b (data_of j)) readable
  number_refused j (t ∷ ts) e readable = reads _ e

-- ---- members

abbrev later : Option Data → Option Data → Option Data
later None earlier = earlier
later (Some d) earlier = Some d

later_twice : (last before : Option json.Json) (d : Option Data) → later (option_map data_of last) (later (option_map data_of before) d) ≡ later (option_map data_of (find.later_or last before)) d
later_twice None before d = refl
later_twice (Some j) before d = refl

later_none : (d : Option Data) → later d None ≡ d
later_none None = refl
later_none (Some d) = refl

put_at : (b : Bool) (k l : List ℕ) (j : json.Json) (found : Members) → bytes_eq l k ≡ b → get_member k (put l (data_of j) found) ≡ later (option_map data_of (cond b (Some j) None)) (get_member k found)
put_at true k l j found e = subst (λ m. get_member m (put l (data_of j) found) ≡ Some (data_of j)) ((bytes_eq-Decides l k).0 e) (get_member-put l (data_of j) found)
put_at false k l j found e = get_member-put_other k l (data_of j) found (λ same. true≢false (sym ((bytes_eq-Decides l k).1 (sym same)) ∙ e))

member_of : (k : List ℕ) (ms : json.Members) (found : Members) → get_member k (data_of_members ms found) ≡ later (option_map data_of (find.get_member k ms)) (get_member k found)
member_of k json.no_members found = refl
member_of k (json.member l j ms) found =
    member_of k ms (put l (data_of j) found)
    ∙ ap (later (option_map data_of (find.get_member k ms))) (put_at (bytes_eq l k) k l j found refl)
    ∙ later_twice (find.get_member k ms) (cond (bytes_eq l k) (Some j) None) (get_member k found)

get_of : (k : List ℕ) (j : json.Json) → option_map data_of (find.get k j) ≡ get k (data_of j)
get_of k json.null = refl
get_of k (json.boolean b) = refl
get_of k (json.number s) = no_number (number_of s) where
  no_number : (n : Option Num) → None ≡ get k (number_or_null n)
  no_number None = refl
  no_number (Some n) = refl
get_of k (json.string s) = refl
get_of k (json.array js) = refl
get_of k (json.object ms) = sym (member_of k ms no_members ∙ later_none _)

seen : {A : Type 0} (r : Option (Bor (Value A))) → option_map (λ v. view v.now) r ≡ option_map data_of (option_map (λ v. value_view v.now) r)
seen None = refl
seen (Some v) = refl

-- a member that is found in the tree is the one that the value has
pub member_found : {A : Type 0} (k : List ℕ) (v : Value A) (r : Option (Bor (Value A))) → option_map (λ v. value_view v.now) r ≡ find.get k (value_view v) → option_map (λ v. view v.now) r ≡ get k (view v)
member_found k v r e = seen r ∙ ap (option_map data_of) e ∙ get_of k (value_view v)

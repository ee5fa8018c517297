-- What the actions of foreign keys take out, when the row of a domain goes.
use Rattle.std.proofs.Common.{◌≡◌, ◌≢◌, inl, inr, ℕ, zero, suc, ℤ, ◌<ℤ◌, List, [], ◌∷◌, ◌++◌, map, filter, fold, length, Bool, true, false, not, ◌&&◌, ◌||◌, ◌==◌, cond, Option, Some, None, Ok, refl, sym, ap, ap₂, subst, subst₂, ◌∙◌, arith, int_eq, append-nil, length-append}
use Rattle.xa_store.proofs.Common.{AllByRecursion, list_all, list_any, and_parts, ints, Row, Table, Trees, Value, Int, Enforced, Eq, rowid, Work, action_edit, works, loses, is_child_of, AreChildren, Acts, ActsOn, Leads, IsNoIndex, taken_by, without_all, IsKeyedBy, delete_where, without_key, all_of, filter_all, deletes-map, at_ints, DomainRow, domain_row, schema_2, of_domain, tokens, policies, roots, attributes, sources}
use Rattle.std.specs.List.{flat_map, filter_map}
use Rattle.sqlite.specs.Ops.{binary}
use Rattle.sqlite_schema.specs.Names.{same_name}
use Rattle.sqlite_schema.specs.declared.schema.Reference.{Reference}
use Rattle.sqlite_value.specs.Keys.{joined, first_key}
use Rattle.sqlite_rules.specs.Lists.{Has}
use Rattle.sqlite_rules.specs.declared.action.Deed.TheVariants.{Delete}
use Rattle.xa_store.proofs.ActionLemmas.{rowids_order, works_of_going}
use Rattle.xa_store.proofs.FilterLemmas.{filter_alike}
use Rattle.xa_store.proofs.HoldLemmas.{is_other, of_other}
use Rattle.xa_store.proofs.KeyLemmas.{own_number}
use Rattle.xa_store.proofs.LastLemmas.{not_true}

-- ---- the actions

abbrev pub moves : DomainRow → List (Row × Row)
moves d = (domain_row d, []) ∷ []

abbrev pub work_on : DomainRow → Table → Reference → Work
work_on d child ref = record { depth = 0; child = child; ref = ref; places = 0 ∷ []; order = rowids_order; deed = Delete; moves = moves d }

abbrev pub of_root : Reference
of_root = record of_domain { columns = 0 ∷ [] }

-- a table whose rows refer to domains
pub record Child : Type 0 where
  pub table : Table
  pub ref : Reference

abbrev pub by_number : Table → Child
by_number table = record { table = table; ref = of_domain }

abbrev pub its_root : Child
its_root = record { table = roots; ref = of_root }

-- all of them, in the order in which they are acted on
abbrev pub all_children : List Child
all_children = by_number sources ∷ by_number attributes ∷ its_root ∷ by_number policies ∷ by_number tokens ∷ []

-- the actions, of which the last is the next
abbrev pub works_on : DomainRow → List Child → List Work
works_on d [] = []
works_on d (child ∷ more) = works_on d more ++ work_on d child.table child.ref ∷ []

abbrev work_if : Bool → DomainRow → Table → Reference → Option Work
work_if b d child ref = cond b (Some (work_on d child ref)) None

loses_its_key : (d : DomainRow) → loses rowids_order (0 ∷ []) (domain_row d, []) ≡ true
unfolding binary first_key
loses_its_key d = ap (λ x. (x && true) && not (false && true)) (at_ints false Eq d.number d.number ∙ own_number d.number)

works_if : (d : DomainRow) → works schema_2 Enforced 0 1 (domain_row d ∷ []) [] ≡ flat_map (λ child. filter_map (work_if (loses rowids_order (0 ∷ []) (domain_row d, []) || false) d child) child.references) schema_2.tables
unfolding same_name joined
works_if d = refl

pub works_of_drop : (d : DomainRow) → works schema_2 Enforced 0 1 (domain_row d ∷ []) [] ≡ works_on d all_children
works_of_drop d = works_if d ∙ ap (λ b. flat_map (λ child. filter_map (work_if (b || false) d child) child.references) schema_2.tables) (loses_its_key d)

-- none of them is that of domains, so nothing refers to them
abbrev pub AreOthers : List Child → Type 0
AreOthers = AllByRecursion (λ (child : Child). (1 == child.table.tree) ≡ false)

tidy : (b : Bool) → ((true && (b && true)) || false) ≡ b
tidy true = refl
tidy false = refl

-- a row that begins with its domain's number as a column, and one that has it as its rowid
pub child_at : (d : DomainRow) (id : Value) (m : ℤ) (rest : Row) (child : Table) → list_any (is_child_of (work_on d child of_domain) (id ∷ Int m ∷ rest)) (moves d) ≡ int_eq m d.number
unfolding binary first_key
child_at d id m rest child = ap₂ (λ a e. (a && (e && true)) || false) (loses_its_key d) (at_ints false Eq m d.number) ∙ tidy (int_eq m d.number)

pub root_child_at : (d : DomainRow) (m : ℤ) (rest : Row) → list_any (is_child_of (work_on d roots of_root) (Int m ∷ rest)) (moves d) ≡ int_eq m d.number
unfolding binary first_key
root_child_at d m rest = ap₂ (λ a e. (a && (e && true)) || false) (loses_its_key d) (at_ints false Eq m d.number) ∙ tidy (int_eq m d.number)

-- ---- one action after another

-- the rows of these rowids are gone
pub record Cleared (db mid : Trees) (child : Table) (ids : List ℤ) : Type 0 where
  pub rows : mid child.tree ≡ without_all (db child.tree) ids
  pub others : (t : ℕ) → t ≢ child.tree → IsNoIndex schema_2 t → mid t ≡ db t

split : {X : Type 0} (xs ys : List X) (x y : X) → xs ++ x ∷ [] ≡ ys ++ y ∷ [] → (xs ≡ ys) × (x ≡ y)
split [] [] x y e = (refl, cc)
split [] (b ∷ ys) x y e = absurd (omega (arith, ap length e, length-append ys (y ∷ [])))
split (a ∷ xs) [] x y e = absurd (omega (arith, ap length e, length-append xs (x ∷ [])))
split (a ∷ xs) (b ∷ ys) x y e =
    let head : a ≡ b = cc in
    let tail : xs ++ x ∷ [] ≡ ys ++ y ∷ [] = cc in
    let more = split xs ys x y tail in
    (ap₂ ◌∷◌ head more.0, more.1)

module _ (next : Trees) where
  abbrev Settle : ℕ → Trees → List Work → Type 0
  Settle n db stack = Leads schema_2 Enforced n db stack (Ok next)

  last_first : (m : ℕ) (db : Trees) (xs : List Work) (x : Work) → Settle m db (xs ++ x ∷ []) → (k : ℕ) × Acts schema_2 Enforced (Leads schema_2 Enforced k) db x xs (Ok next)
  last_first zero db xs x h = absurd (omega (arith, ap length h.0, length-append xs (x ∷ [])))
  last_first (suc k) db xs x h =
      let same = split xs h.0 x h.1 h.2 in
      (k, subst₂ (λ w below. Acts schema_2 Enforced (Leads schema_2 Enforced k) db w below (Ok next)) (sym same.1) (sym same.0) h.3)

  pub settled : (m : ℕ) (db : Trees) → Settle m db [] → next ≡ db
  settled zero db h = let e = h.1 in cc
  settled (suc k) db h = absurd (omega (arith, ap length h.2, length-append h.0 (h.1 ∷ [])))

  module _ (d : DomainRow) (child : Table) (ref : Reference) (quiet : (olds : List Row) → works schema_2 Enforced 1 child.tree olds [] ≡ []) where
    -- the last action is done, and the others wait
    pub record ActedOn (db : Trees) (below : List Work) : Type 0 where
      pub mid : Trees
      pub ids : List ℤ
      pub children : AreChildren db (work_on d child ref) ids
      pub cleared : Cleared db mid child ids
      pub steps : ℕ
      pub later : Settle steps mid below

    pub acted : (m : ℕ) (db : Trees) (below : List Work) → Settle m db (below ++ work_on d child ref ∷ []) → ActedOn db below
    acted m db below h = let it = last_first m db below (work_on d child ref) h in go it.0 it.1.0 it.1.1 it.1.2
      where
        go : (k : ℕ) (ids : List ℤ) → AreChildren db (work_on d child ref) ids → ActsOn schema_2 Enforced (Leads schema_2 Enforced k) db (work_on d child ref) below (Ok next) ids → ActedOn db below
        go k [] are h = record { mid = db; ids = []; children = are; cleared = record { rows = refl; others = λ t apart free. refl }; steps = k; later = h }
        go k (id ∷ ids) are (inl refused) = absurd (let e = refused.2 in cc)
        go k (id ∷ ids) are (inr (inl big)) = absurd (let e = big.3 in cc)
        go k (id ∷ ids) are (inr (inr went)) = record {
          mid = went.0;
          ids = id ∷ ids;
          children = are;
          cleared = record { rows = went.1.rows; others = went.1.others };
          steps = k;
          later = subst (Settle k went.0) (ap (λ more. below ++ more) (quiet (taken_by db (action_edit db (work_on d child ref) (id ∷ ids)))) ∙ append-nil below) went.2;
        }

  module _ (d : DomainRow) where
    -- the actions on these children, one after another, to the end
    abbrev pub ActedOnAll : List Child → Trees → Type 0
    ActedOnAll [] db = next ≡ db
    ActedOnAll (child ∷ more) db = (mid : Trees) × (ids : List ℤ) × AreChildren db (work_on d child.table child.ref) ids × Cleared db mid child.table ids × ActedOnAll more mid

    pub all_acted : (more : List Child) → AreOthers more → (m : ℕ) (db : Trees) → Settle m db (works_on d more) → ActedOnAll more db
    all_acted [] others m db h = settled m db h
    all_acted (child ∷ more) others m db h =
        let one = acted d child.table child.ref (works_of_going child.table.tree others.0 1) m db (works_on d more) h in
        (one.mid, one.ids, one.children, one.cleared, all_acted more others.1 one.steps one.mid one.later)

    -- a tree that is none of theirs is as it was
    pub untouched : (more : List Child) (db : Trees) → ActedOnAll more db → (t : ℕ) → list_all (λ (child : Child). is_other child.table.tree t) more ≡ true → next t ≡ db t
    untouched [] db h t free = ap (λ (f : Trees). f t) h
    untouched (child ∷ more) db h t free =
        let both = and_parts _ _ free in
        untouched more h.0 h.4 t both.1 ∙ of_other child.table.tree (λ t. h.0 t ≡ db t) h.3.others t both.0

-- ---- the rows that an action takes out

module _ {X : Type 0} where
  all_having : (P : X → Type 0) (xs : List X) → ((x : X) → Has xs x → P x) → AllByRecursion P xs
  all_having P [] f = tt
  all_having P (x ∷ xs) f = (f x (inl refl), all_having P xs (λ y h. f y (inr h)))

  having : (P : X → Type 0) (xs : List X) (x : X) → AllByRecursion P xs → Has xs x → P x
  having P [] x all h = absurd h
  having P (y ∷ xs) x all (inl same) = subst P (sym same) all.0
  having P (y ∷ xs) x all (inr more) = having P xs x all.1 more

  has_map : {Y : Type 0} (f : X → Y) (xs : List X) (x : X) → Has xs x → Has (map f xs) (f x)
  has_map f [] x h = absurd h
  has_map f (y ∷ xs) x (inl same) = inl (ap f same)
  has_map f (y ∷ xs) x (inr more) = inr (has_map f xs x more)

  from_map : {Y : Type 0} (f : X → Y) (xs : List X) (y : Y) → Has (map f xs) y → (x : X) × Has xs x × (y ≡ f x)
  from_map f [] y h = absurd h
  from_map f (x ∷ xs) y (inl same) = (x, inl refl, same)
  from_map f (x ∷ xs) y (inr more) = let it = from_map f xs y more in (it.0, inr it.1, it.2)

abbrev has_id : List ℤ → ℤ → Bool
has_id ids id = list_any (int_eq id) ids

id_from : (ids : List ℤ) (id : ℤ) → Has ids id → has_id ids id ≡ true
id_from [] id h = absurd h
id_from (y ∷ ids) id (inl same) = ap (λ b. b || has_id ids id) (ap (int_eq id) (sym same) ∙ own_number id)
id_from (y ∷ ids) id (inr more) = ap (λ b. int_eq id y || b) (id_from ids id more) ∙ or_true (int_eq id y)
  where
    or_true : (b : Bool) → (b || true) ≡ true
    or_true true = refl
    or_true false = refl

id_to : (ids : List ℤ) (id : ℤ) → has_id ids id ≡ true → Has ids id
id_to [] id h = absurd cc
id_to (y ∷ ids) id h = go (int_eq id y) refl h (id_to ids id)
  where
    go : (b : Bool) → int_eq id y ≡ b → (b || has_id ids id) ≡ true → (has_id ids id ≡ true → Has ids id) → Has (y ∷ ids) id
    go true is h more = inl (Rattle.sqlite_keyed.proofs.KeyedLemmas.same_int id y is)
    go false is h more = inr (more h)

module _ {X : Type 0} (key : X → ℤ) where
  without_each : (ids : List ℤ) (xs : List X) → fold (without_key key) xs ids ≡ filter (λ x. not (has_id ids (key x))) xs
  without_each [] xs = sym (filter_all (λ x. true) xs (all_of (λ x. true ≡ true) (λ x. refl) xs))
  without_each (id ∷ ids) xs = without_each ids (without_key key xs id) ∙ both xs
    where
      both : (ys : List X) → filter (λ x. not (has_id ids (key x))) (filter (λ x. not (int_eq (key x) id)) ys) ≡ filter (λ x. not (int_eq (key x) id || has_id ids (key x))) ys
      both [] = refl
      both (y ∷ ys) =
          elim (int_eq (key y) id) as (λ b. filter (λ x. not (has_id ids (key x))) (cond (not b) (y ∷ filter (λ x. not (int_eq (key x) id)) ys) (filter (λ x. not (int_eq (key x) id)) ys))
          ≡ cond (not (b || has_id ids (key y))) (y ∷ filter (λ x. not (int_eq (key x) id || has_id ids (key x))) ys) (filter (λ x. not (int_eq (key x) id || has_id ids (key x))) ys)) [
            | true ↦ both ys
            | false ↦ ap (λ l. cond (not (has_id ids (key y))) (y ∷ l) l) (both ys)
          ]

  unique : (xs : List X) (a b : X) → IsKeyedBy key xs → Has xs a → Has xs b → key a ≡ key b → a ≡ b
  unique [] a b up h k same = absurd h
  unique (x ∷ xs) a b up (inl p) (inl q) same = p ∙ sym q
  unique (x ∷ xs) a b up (inl p) (inr q) same = let over = having (λ y. key x <ℤ key y) xs b up.0 q in let at : key a ≡ key x = ap key p in absurd (omega (arith, ints))
  unique (x ∷ xs) a b up (inr p) (inl q) same = let over = having (λ y. key x <ℤ key y) xs a up.0 p in let at : key b ≡ key x = ap key q in absurd (omega (arith, ints))
  unique (x ∷ xs) a b up (inr p) (inr q) same = unique xs a b up.1 p q same

  module _ (to_row : X → Row) (keyed : (x : X) → rowid (to_row x) ≡ Int (key x)) (d : DomainRow) (child : Table) (ref : Reference) (number : X → ℤ)
      (linked : (x : X) → list_any (is_child_of (work_on d child ref) (to_row x)) (moves d) ≡ int_eq (number x) d.number) (db : Trees) (xs : List X) (are : db child.tree ≡ map to_row xs) (up : IsKeyedBy key xs) where
    abbrev own : X → Bool
    own x = int_eq (number x) d.number

    same_test : (ids : List ℤ) → AreChildren db (work_on d child ref) ids → (x : X) → Has xs x → has_id ids (key x) ≡ own x
    same_test ids children x here = go (own x) refl
      where
        row_here : Has (db child.tree) (to_row x)
        row_here = subst (λ rows. Has rows (to_row x)) (sym are) (has_map to_row xs x here)

        go : (b : Bool) → own x ≡ b → has_id ids (key x) ≡ b
        go true is = id_from ids (key x) (children.complete (to_row x) (key x) row_here (linked x ∙ is) (keyed x))
        go false is = not_true (has_id ids (key x)) (λ listed.
            let it = children.sound (key x) (id_to ids (key x) listed) in
            let from = from_map to_row xs it.0 (subst (λ rows. Has rows it.0) are it.1) in
            let ids_same : ◌≡◌ {A = Value} (Int (key from.0)) (Int (key x)) = sym (keyed from.0) ∙ ap rowid (sym from.2) ∙ it.3 in
            let keys : key from.0 ≡ key x = cc in
            let same : from.0 ≡ x = unique xs from.0 x up from.1 here keys in
            let passes : own x ≡ true = ap own (sym same) ∙ sym (linked from.0) ∙ ap (λ r. list_any (is_child_of (work_on d child ref) r) (moves d)) (sym from.2) ∙ it.2 in
            let no = sym is ∙ passes in cc)

    -- the child's rows of the domain are gone
    pub children_gone : (mid : Trees) (ids : List ℤ) → AreChildren db (work_on d child ref) ids → Cleared db mid child ids → mid child.tree ≡ map to_row (delete_where own xs)
    children_gone mid ids children cleared =
        cleared.rows ∙ ap (λ rows. without_all rows ids) are ∙ deletes-map key to_row keyed ids xs
        ∙ ap (map to_row) (without_each ids xs ∙ filter_alike (λ x. not (has_id ids (key x))) (λ x. not (own x)) xs (all_having (λ x. not (has_id ids (key x)) ≡ not (own x)) xs (λ x here. ap not (same_test ids children x here))))

  module _ (to_row : X → Row) (keyed : (x : X) → rowid (to_row x) ≡ Int (key x)) (d : DomainRow) (child : Child) (number : X → ℤ)
      (linked : (x : X) → list_any (is_child_of (work_on d child.table child.ref) (to_row x)) (moves d) ≡ int_eq (number x) d.number) (xs : List X) (up : IsKeyedBy key xs) where
    -- and they still are when the actions on the other children, before it and after it, are done
    pub gone : (next : Trees) (before more : List Child) (db : Trees) → db child.table.tree ≡ map to_row xs → ActedOnAll next d (before ++ child ∷ more) db
        → list_all (λ (other : Child). is_other other.table.tree child.table.tree) before ≡ true → list_all (λ (other : Child). is_other other.table.tree child.table.tree) more ≡ true
        → next child.table.tree ≡ map to_row (delete_where (λ x. int_eq (number x) d.number) xs)
    gone next [] more db are h free after =
        untouched next d more h.0 h.4 child.table.tree after ∙ children_gone to_row keyed d child.table child.ref number linked db xs are up h.0 h.1 h.2 h.3
    gone next (other ∷ before) more db are h free after =
        let both = and_parts _ _ free in
        gone next before more h.0 (of_other other.table.tree (λ t. h.0 t ≡ db t) h.3.others child.table.tree both.0 ∙ are) h.4 both.1 after

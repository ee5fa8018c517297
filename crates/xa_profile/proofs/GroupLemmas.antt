-- The places of each category's objects, as they are found one object after another.
use Rattle.std.proofs.Common.{◌≡◌, ℕ, zero, suc, ◌+◌, ◌<◌, Bool, true, false, cond, List, [], ◌∷◌, ◌++◌, length, get_or, take, map, refl, ap, sym, subst, ◌∙◌, arith, add-one, add-zero, zero-add, append-nil, length-append}
use Rattle.std.specs.Prelude.{◌||◌, bytes_eq, filter, nat_lt, Option, Some, None, is_some, option_map, IfSome, IfNone}
use Rattle.std.specs.List.{list_any, fold, range_with_len, slice_set}
use Rattle.std.specs.Option.{option_or}
use Rattle.std.proofs.lemmas.Bool.{and_parts, lt-ltb}
use Rattle.std.proofs.lemmas.List.{length-map, map-append, take_more, take_all}
use Rattle.std.proofs.lemmas.List.Elements.{filter-append}
use Rattle.std.proofs.lemmas.List.Folds.{list_all-append}
use Rattle.std.proofs.lemmas.List.Sums.{fold-append}
use Rattle.std.proofs.lemmas.Option.{slice_get-get_or}
use Rattle.std.proofs.lemmas.Slice.Eq.{bytes_eq-Decides}
use Rattle.xa_profile.specs.declared.category_object.CategoryObject.{CategoryObject}
use Rattle.xa_profile.specs.Individuals.{with_new, is_of, category_at, places_of, categories}
use Rattle.xa_profile.proofs.CombinationLemmas.{are_some}

-- texts are equal both ways
same_self : (t : List ℕ) → bytes_eq t t ≡ true
same_self t = (bytes_eq-Decides t t).1 refl

differs : (t q : List ℕ) → bytes_eq t q ≡ false → bytes_eq q t ≡ false
differs t q other = by_test (bytes_eq q t) refl where
  by_test : (b : Bool) → bytes_eq q t ≡ b → b ≡ false
  by_test false e = refl
  by_test true e = let there = (bytes_eq-Decides t q).1 (sym ((bytes_eq-Decides q t).0 e)) in cc

-- the place of a text among texts
abbrev pub number_of : List (List ℕ) → List ℕ → Option ℕ
number_of [] q = None
number_of (t ∷ ts) q = cond (bytes_eq q t) (Some 0) (option_map (λ n. suc n) (number_of ts q))

-- the places of a category's objects among the first ones
abbrev pub places_before : List CategoryObject → ℕ → List ℕ → List ℕ
places_before objects i q = filter (λ place. is_of q (category_at objects place)) (range_with_len 0 i)

-- no text stands twice
abbrev pub AreSingle : List (List ℕ) → Type 0
AreSingle [] = Unit {0}
AreSingle (t ∷ ts) = (number_of ts t ≡ None) × AreSingle ts

-- the groups of the categories cs are the places among the first i objects, and look-ups find their numbers
pub record IsGrouped (objects : List CategoryObject) (i : ℕ) (cs groups : List (List ℕ)) (look : List ℕ → Option ℕ) : Type 0 where
  pub numbers : (q : List ℕ) → look q ≡ number_of cs q
  pub places : groups ≡ map (places_before objects i) cs
  pub some : are_some groups ≡ true
  pub absent : (q : List ℕ) → number_of cs q ≡ None → places_before objects i q ≡ []
  pub single : AreSingle cs

-- no objects
pub grouped_none : (objects : List CategoryObject) (look : List ℕ → Option ℕ) → ((q : List ℕ) → look q ≡ None) → IsGrouped objects 0 [] [] look
grouped_none objects look none = record { numbers = none; places = refl; some = refl; absent = λ q e. refl; single = tt }

-- one more object
range_last : (a n : ℕ) → range_with_len a (suc n) ≡ range_with_len a n ++ (a + n) ∷ []
range_last a zero = ap (λ m. m ∷ []) (sym (add-zero a))
range_last a (suc n) = let e : a + 1 + n ≡ a + suc n = omega arith in ap (λ ms. a ∷ ms) (range_last (a + 1) n ∙ ap (λ m. range_with_len (a + 1) n ++ m ∷ []) e)

-- the places of a category, with that of one more object, which is of the category c
abbrev with_place : ℕ → List ℕ → List ℕ → List ℕ → List ℕ
with_place i c places q = places ++ cond (bytes_eq q c) (i ∷ []) []

filter_one : (p : ℕ → Bool) (i : ℕ) (b : Bool) → p i ≡ b → filter p (i ∷ []) ≡ cond b (i ∷ []) []
filter_one p i b e = rw e refl

places_more : (objects : List CategoryObject) (i : ℕ) (c q : List ℕ) → category_at objects i ≡ Some c → places_before objects (suc i) q ≡ with_place i c (places_before objects i q) q
places_more objects i c q is =
    let p : ℕ → Bool = λ place. is_of q (category_at objects place) in
    let last : range_with_len 0 (suc i) ≡ range_with_len 0 i ++ i ∷ [] = range_last 0 i ∙ ap (λ m. range_with_len 0 i ++ m ∷ []) (zero-add i) in
    ap (filter p) last ∙ filter-append p (range_with_len 0 i) (i ∷ [])
    ∙ ap (λ ps. places_before objects i q ++ ps) (filter_one p i (bytes_eq q c) (ap (is_of q) is))

-- where c isn't among categories, their places are as before
not_first : (q c : List ℕ) (rest : Option ℕ) → cond (bytes_eq q c) (Some 0) (option_map (λ n. suc n) rest) ≡ None → (bytes_eq q c ≡ false) × (rest ≡ None)
not_first q c rest e = by_test (bytes_eq q c) rest refl e where
  by_test : (b : Bool) (r : Option ℕ) → bytes_eq q c ≡ b → cond b (Some 0) (option_map (λ n. suc n) r) ≡ None → (bytes_eq q c ≡ false) × (r ≡ None)
  by_test true r t h = absurd (cc)
  by_test false None t h = (t, refl)
  by_test false (Some n) t h = absurd (cc)

without_place : (F : List ℕ → List ℕ) (i : ℕ) (c q : List ℕ) → bytes_eq q c ≡ false → with_place i c (F q) q ≡ F q
without_place F i c q other = rw other (append-nil (F q))

unchanged : (F : List ℕ → List ℕ) (i : ℕ) (c : List ℕ) (cs : List (List ℕ)) → number_of cs c ≡ None → map (λ q. with_place i c (F q) q) cs ≡ map F cs
unchanged F i c [] none = refl
unchanged F i c (t ∷ ts) none =
    let h = not_first c t (number_of ts c) none in
    rw (without_place F i c t (differs c t h.0), unchanged F i c ts h.1) refl

-- where it is, its places have one more
record IsNext (rest : Option ℕ) (g : ℕ) : Type 0 where
  pub before : ℕ
  pub is : g ≡ suc before
  pub at : rest ≡ Some before

next_of : (rest : Option ℕ) (g : ℕ) → option_map (λ n. suc n) rest ≡ Some g → IsNext rest g
next_of None g e = absurd (cc)
next_of (Some n) g e = record { before = n; is = cc; at = refl }

put_at : (F : List ℕ → List ℕ) (i : ℕ) (c : List ℕ) (cs : List (List ℕ)) (g : ℕ) → AreSingle cs → number_of cs c ≡ Some g
    → slice_set (map F cs) g (get_or (map F cs) g [] ++ i ∷ []) ≡ map (λ q. with_place i c (F q) q) cs
put_at F i c [] g single at = absurd (cc)
put_at F i c (t ∷ ts) g single at = by_test (λ m e. put_at F i c ts m single.1 e) (bytes_eq c t) refl at where
  goal : ℕ → Type 0
  goal m = slice_set (F t ∷ map F ts) m (get_or (F t ∷ map F ts) m [] ++ i ∷ []) ≡ with_place i c (F t) t ∷ map (λ q. with_place i c (F q) q) ts

  by_test : ((m : ℕ) → number_of ts c ≡ Some m → slice_set (map F ts) m (get_or (map F ts) m [] ++ i ∷ []) ≡ map (λ q. with_place i c (F q) q) ts)
      → (b : Bool) → bytes_eq c t ≡ b → cond b (Some 0) (option_map (λ n. suc n) (number_of ts c)) ≡ Some g → goal g
  by_test again true e h =
      let same : c ≡ t = (bytes_eq-Decides c t).0 e in
      let zeroth : 0 ≡ g = cc in
      let back : bytes_eq t c ≡ true = (bytes_eq-Decides t c).1 (sym same) in
      subst goal zeroth (rw (back, unchanged F i c ts (subst (λ q. number_of ts q ≡ None) (sym same) single.0)) refl)
  by_test again false e h =
      let next = next_of (number_of ts c) g h in
      subst goal (sym next.is) (rw (without_place F i c t (differs c t e), again next.before next.at) refl)

some_set : (groups : List (List ℕ)) (g : ℕ) (ps : List ℕ) → are_some groups ≡ true → 0 < length ps → are_some (slice_set groups g ps) ≡ true
some_set [] g ps some long = refl
some_set (x ∷ xs) zero ps some long = rw (lt-ltb 0 (length ps) long, (and_parts (nat_lt 0 (length x)) (are_some xs) some).1) refl
some_set (x ∷ xs) (suc g) ps some long =
    let h = and_parts (nat_lt 0 (length x)) (are_some xs) some in
    rw (h.0, some_set xs g ps h.1 long) refl

-- whether a text is among texts
among_first : (b r : Bool) (rest : Option ℕ) → r ≡ is_some rest → (b || r) ≡ is_some (cond b (Some 0) (option_map (λ n. suc n) rest))
among_first true r rest e = refl
among_first false r None e = e
among_first false r (Some n) e = e

among : (q : List ℕ) (ts : List (List ℕ)) → list_any (bytes_eq q) ts ≡ is_some (number_of ts q)
among q [] = refl
among q (t ∷ ts) = among_first (bytes_eq q t) (list_any (bytes_eq q) ts) (number_of ts q) (among q ts)

-- an object of a category that was found before
found_with : (cs : List (List ℕ)) (c : List ℕ) (g : ℕ) → number_of cs c ≡ Some g → with_new cs c ≡ cs
found_with cs c g at = rw (among c cs, at) refl

absent_more : (objects : List CategoryObject) (i : ℕ) (c q : List ℕ) → category_at objects i ≡ Some c → bytes_eq q c ≡ false → places_before objects i q ≡ []
    → places_before objects (suc i) q ≡ []
absent_more objects i c q is other none = places_more objects i c q is ∙ rw (other, none) refl

is_other : (cs : List (List ℕ)) (c q : List ℕ) (g : ℕ) → number_of cs c ≡ Some g → number_of cs q ≡ None → bytes_eq q c ≡ false
is_other cs c q g at none = by_test (bytes_eq q c) refl where
  by_test : (b : Bool) → bytes_eq q c ≡ b → b ≡ false
  by_test false e = refl
  by_test true e = let h : number_of cs q ≡ Some g = ap (number_of cs) ((bytes_eq-Decides q c).0 e) ∙ at in absurd (cc)

map_more : (objects : List CategoryObject) (i : ℕ) (c : List ℕ) (cs : List (List ℕ)) → category_at objects i ≡ Some c
    → map (λ q. with_place i c (places_before objects i q) q) cs ≡ map (places_before objects (suc i)) cs
map_more objects i c [] is = refl
map_more objects i c (t ∷ ts) is = rw (sym (places_more objects i c t is), map_more objects i c ts is) refl

long_put : (ps : List ℕ) (i : ℕ) → 0 < length (ps ++ i ∷ [])
long_put ps i = let e = length-append ps (i ∷ []) in omega (arith, e)

pub grouped_found : (objects : List CategoryObject) (i : ℕ) (cs groups : List (List ℕ)) (look : List ℕ → Option ℕ) (c : List ℕ) (g : ℕ)
    → IsGrouped objects i cs groups look → category_at objects i ≡ Some c → look c ≡ Some g
    → IsGrouped objects (suc i) (with_new cs c) (slice_set groups g (get_or groups g [] ++ i ∷ [])) look
grouped_found objects i cs groups look c g h is at =
    let there : number_of cs c ≡ Some g = sym (h.numbers c) ∙ at in
    subst (λ ts. IsGrouped objects (suc i) ts (slice_set groups g (get_or groups g [] ++ i ∷ [])) look) (sym (found_with cs c g there)) (record {
      numbers = h.numbers;
      places = ap (λ gs. slice_set gs g (get_or gs g [] ++ i ∷ [])) h.places ∙ put_at (places_before objects i) i c cs g h.single there ∙ map_more objects i c cs is;
      some = some_set groups g (get_or groups g [] ++ i ∷ []) h.some (long_put (get_or groups g []) i);
      absent = λ q none. absent_more objects i c q is (is_other cs c q g there none) (h.absent q none);
      single = h.single;
    })

-- its group is there
number_within : (cs : List (List ℕ)) (c : List ℕ) (g : ℕ) → number_of cs c ≡ Some g → g < length cs
number_within [] c g at = absurd (cc)
number_within (t ∷ ts) c g at = by_test (number_within ts c) (bytes_eq c t) at where
  by_test : ((m : ℕ) → number_of ts c ≡ Some m → m < length ts) → (b : Bool) → cond b (Some 0) (option_map (λ n. suc n) (number_of ts c)) ≡ Some g → g < suc (length ts)
  by_test again true h = let zeroth : 0 ≡ g = cc in omega (arith, zeroth)
  by_test again false h =
      let next = next_of (number_of ts c) g h in
      let e = next.is in
      let within = again next.before next.at in
      omega (arith, e, within)

pub group_within : (objects : List CategoryObject) (i : ℕ) (cs groups : List (List ℕ)) (look : List ℕ → Option ℕ) (c : List ℕ) (g : ℕ)
    → IsGrouped objects i cs groups look → look c ≡ Some g → g < length groups
group_within objects i cs groups look c g h at =
    let long : length groups ≡ length cs = ap length h.places ∙ length-map cs (places_before objects i) in
    let within = number_within cs c g (sym (h.numbers c) ∙ at) in
    omega (arith, long, within)

-- an object of a new category
new_with : (cs : List (List ℕ)) (c : List ℕ) → number_of cs c ≡ None → with_new cs c ≡ cs ++ c ∷ []
new_with cs c none = rw (among c cs, none) refl

last_first : (b : Bool) (rest x next : Option ℕ) → next ≡ option_or rest x → cond b (Some 0) (option_map (λ n. suc n) next) ≡ option_or (cond b (Some 0) (option_map (λ n. suc n) rest)) (option_map (λ n. suc n) x)
last_first true rest x next e = refl
last_first false None x next e = ap (option_map (λ n. suc n)) e
last_first false (Some n) x next e = ap (option_map (λ n. suc n)) e

suc_place : (b : Bool) (n : ℕ) → option_map (λ m. suc m) (cond b (Some n) None) ≡ cond b (Some (suc n)) None
suc_place true n = refl
suc_place false n = refl

number_last : (ts : List (List ℕ)) (c q : List ℕ) → number_of (ts ++ c ∷ []) q ≡ option_or (number_of ts q) (cond (bytes_eq q c) (Some (length ts)) None)
number_last [] c q = by_test (bytes_eq q c) where
  by_test : (b : Bool) → cond b (Some 0) (option_map (λ n. suc n) None) ≡ option_or None (cond b (Some 0) None)
  by_test true = refl
  by_test false = refl
number_last (t ∷ ts) c q =
    last_first (bytes_eq q t) (number_of ts q) (cond (bytes_eq q c) (Some (length ts)) None) (number_of (ts ++ c ∷ []) q) (number_last ts c q)
    ∙ ap (option_or (number_of (t ∷ ts) q)) (suc_place (bytes_eq q c) (length ts))

or_none : (x : Option ℕ) → option_or x None ≡ x
or_none None = refl
or_none (Some n) = refl

look_next : (cs : List (List ℕ)) (c q : List ℕ) (n : ℕ) (old : Option ℕ) → number_of cs c ≡ None → n ≡ length cs → old ≡ number_of cs q
    → cond (bytes_eq c q) (Some n) old ≡ number_of (cs ++ c ∷ []) q
look_next cs c q n old none long was = by_test (bytes_eq c q) refl ∙ sym (number_last cs c q) where
  by_test : (b : Bool) → bytes_eq c q ≡ b → cond b (Some n) old ≡ option_or (number_of cs q) (cond (bytes_eq q c) (Some (length cs)) None)
  by_test true e =
      let same : c ≡ q = (bytes_eq-Decides c q).0 e in
      let gone : number_of cs q ≡ None = subst (λ t. number_of cs t ≡ None) same none in
      rw (gone, (bytes_eq-Decides q c).1 (sym same), long) refl
  by_test false e = rw (differs c q e, or_none (number_of cs q)) was

both_none : (a x : Option ℕ) → option_or a x ≡ None → (a ≡ None) × (x ≡ None)
both_none None x e = (refl, e)
both_none (Some n) x e = absurd (cc)

not_last : (ts : List (List ℕ)) (c q : List ℕ) → number_of (ts ++ c ∷ []) q ≡ None → (number_of ts q ≡ None) × (bytes_eq q c ≡ false)
not_last ts c q none =
    let h = both_none (number_of ts q) (cond (bytes_eq q c) (Some (length ts)) None) (sym (number_last ts c q) ∙ none) in
    (h.0, by_test (bytes_eq q c) h.1) where
      by_test : (b : Bool) → cond b (Some (length ts)) None ≡ None → b ≡ false
      by_test true e = absurd (cc)
      by_test false e = refl

single_last : (cs : List (List ℕ)) (c : List ℕ) → AreSingle cs → number_of cs c ≡ None → AreSingle (cs ++ c ∷ [])
single_last [] c single none = (refl, tt)
single_last (t ∷ ts) c single none =
    let h = not_first c t (number_of ts c) none in
    (number_last ts c t ∙ rw (single.0, differs c t h.0) refl, single_last ts c single.1 h.1)

pub grouped_new : (objects : List CategoryObject) (i : ℕ) (cs groups : List (List ℕ)) (look after : List ℕ → Option ℕ) (c : List ℕ)
    → IsGrouped objects i cs groups look → category_at objects i ≡ Some c → look c ≡ None
    → ((q : List ℕ) → after q ≡ cond (bytes_eq c q) (Some (length groups)) (look q))
    → IsGrouped objects (suc i) (with_new cs c) (groups ++ (i ∷ []) ∷ []) after
grouped_new objects i cs groups look after c h is new put =
    let none : number_of cs c ≡ None = sym (h.numbers c) ∙ new in
    let long : length groups ≡ length cs = ap length h.places ∙ length-map cs (places_before objects i) in
    let own : places_before objects (suc i) c ≡ i ∷ [] = places_more objects i c c is ∙ rw (h.absent c none, same_self c) refl in
    subst (λ ts. IsGrouped objects (suc i) ts (groups ++ (i ∷ []) ∷ []) after) (sym (new_with cs c none)) (record {
      numbers = λ q. put q ∙ look_next cs c q (length groups) (look q) none long (h.numbers q);
      places =
          ap (λ gs. gs ++ (i ∷ []) ∷ []) (h.places ∙ sym (unchanged (places_before objects i) i c cs none) ∙ map_more objects i c cs is)
          ∙ ap (λ ps. map (places_before objects (suc i)) cs ++ ps ∷ []) (sym own) ∙ sym (map-append (places_before objects (suc i)) cs (c ∷ []));
      some = list_all-append (λ places. nat_lt 0 (length places)) groups ((i ∷ []) ∷ []) ∙ rw h.some refl;
      absent = λ q gone. let k = not_last cs c q gone in absent_more objects i c q is k.1 (h.absent q k.0);
      single = single_last cs c h.single none;
    })

-- the categories of one more object
pub categories_more : (objects : List CategoryObject) (i : ℕ) (object : CategoryObject) → i < length objects → object ≡ get_or objects i object
    → categories (take (i + 1) objects) ≡ with_new (categories (take i objects)) object.category
categories_more objects i object within is =
    ap categories (take_more objects i object within ∙ ap (λ o. take i objects ++ o ∷ []) (sym is))
    ∙ ap (fold with_new []) (map-append (λ (o : CategoryObject). o.category) (take i objects) (object ∷ []))
    ∙ fold-append with_new [] (map (λ (o : CategoryObject). o.category) (take i objects)) (object.category ∷ [])

-- one more object, by what a look-up for its category gives
pub grouped_next : (objects : List CategoryObject) (i : ℕ) (groups next : List (List ℕ)) (look after : List ℕ → Option ℕ) (object : CategoryObject) (text : List ℕ)
    → text ≡ object.category → i < length objects → object ≡ get_or objects i object → IsGrouped objects i (categories (take i objects)) groups look
    → IfSome (look text) (λ n. ((q : List ℕ) → after q ≡ look q) × (next ≡ slice_set groups n (get_or groups n [] ++ i ∷ [])))
    → IfNone (look text) ((next ≡ groups ++ (i ∷ []) ∷ []) × ((q : List ℕ) → after q ≡ cond (bytes_eq text q) (Some (length groups)) (look q)))
    → IsGrouped objects (i + 1) (categories (take (i + 1) objects)) next after
grouped_next objects i groups next look after object text same within is h found new =
    rw (categories_more objects i object within is, ← same, add-one i) (by_look (look text) refl found new) where
      cs : List (List ℕ)
      cs = categories (take i objects)

      at : category_at objects i ≡ Some text
      at = ap (option_map (λ (o : CategoryObject). o.category)) (slice_get-get_or objects i object within ∙ ap Some (sym is)) ∙ ap Some (sym same)

      by_look : (o : Option ℕ) → look text ≡ o
          → IfSome o (λ n. ((q : List ℕ) → after q ≡ look q) × (next ≡ slice_set groups n (get_or groups n [] ++ i ∷ [])))
          → IfNone o ((next ≡ groups ++ (i ∷ []) ∷ []) × ((q : List ℕ) → after q ≡ cond (bytes_eq text q) (Some (length groups)) (look q)))
          → IsGrouped objects (suc i) (with_new cs text) next after
      by_look (Some n) e f g =
          let k = grouped_found objects i cs groups look text n h at e in
          rw f.1 (record { numbers = λ q. f.0 q ∙ k.numbers q; places = k.places; some = k.some; absent = k.absent; single = k.single })
      by_look None e f g = rw g.0 (grouped_new objects i cs groups look after text h at e g.1)

pub may_put : (objects : List CategoryObject) (i : ℕ) (cs groups : List (List ℕ)) (look : List ℕ → Option ℕ) (c : List ℕ)
    → IsGrouped objects i cs groups look → IfSome (look c) (λ n. n < length groups)
may_put objects i cs groups look c h = by_look (look c) refl where
  by_look : (o : Option ℕ) → look c ≡ o → IfSome o (λ n. n < length groups)
  by_look (Some n) e = group_within objects i cs groups look c n h e
  by_look None e = tt

-- all objects
pub grouped_all : (objects : List CategoryObject) (i : ℕ) (groups : List (List ℕ)) (look : List ℕ → Option ℕ)
    → i ≡ length objects → IsGrouped objects i (categories (take i objects)) groups look
    → (groups ≡ map (places_of objects) (categories objects)) × (are_some groups ≡ true)
grouped_all objects i groups look e h =
    let all : take i objects ≡ objects = take_all i objects (omega (arith, e)) in
    (h.places ∙ ap (λ n. map (places_before objects n) (categories (take i objects))) e ∙ ap (λ os. map (places_of objects) (categories os)) all, h.some)

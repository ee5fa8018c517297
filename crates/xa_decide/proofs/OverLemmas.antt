-- Where the first results are over the limit, the body of all is.
use Rattle.std.proofs.Common.{◌≡◌, ◌≤◌, ◌<◌, ℕ, ◌+◌, false, List, [], ◌∷◌, ◌++◌, length, map, refl, sym, ap, subst, arith}
use Rattle.std.specs.Prelude.{Option, Some, None, Result, Ok, Err, ℤ}
use Rattle.xa_value.specs.declared.or_memory.OrMemory.{OrMemory}
use Rattle.xa_value.specs.declared.or_memory.OrMemory.TheVariants.{Memory, Error}
use Rattle.xa_profile.specs.declared.individuals.Individual.{Individual}
use Rattle.xa_profile.specs.declared.request.Request.{Request}
use Rattle.xa_profile.specs.Individuals.{individuals}
use Rattle.xa_profile.specs.declared.category_object.CategoryObject.{CategoryObject}
use Rattle.xa_profile.specs.declared.response.ResultObject.{ResultObject}
use Rattle.xa_profile.specs.Response.{response_body}
use Rattle.xa_profile.specs.writing.Lengths.{bytes_of_all, bytes_of_result}
use Rattle.xa_profile.proofs.LengthLemmas.{body_takes}
use Rattle.xa_decide.specs.declared.limits.OverLimit.{OverLimit}
use Rattle.xa_decide.specs.Decision.{Viewed, decided, result_of}
use Rattle.xa_decide.specs.Limits.{IfOver, IsLonger, IsOver}

-- one result more behind those so far
pub then_others : (before : List ResultObject) (r : ResultObject) (rest : List ResultObject) → (before ++ (r ∷ [])) ++ rest ≡ before ++ (r ∷ rest)
then_others [] r rest = refl
then_others (first ∷ before) r rest = ap (λ rs. first ∷ rs) (then_others before r rest)

pub one_behind : (objects : List CategoryObject) (before : List ResultObject) (r : ResultObject)
    → bytes_of_all (bytes_of_result objects) (before ++ (r ∷ [])) ≡ bytes_of_all (bytes_of_result objects) before + bytes_of_result objects r
one_behind objects [] r = omega arith
one_behind objects (first ∷ before) r = let others = one_behind objects before r in omega (arith, others)

-- the results of a request are those of its individual requests
pub decided_all : (view : Viewed) (request : Request) (moment : ℤ) (all : List Individual) → request.combined_decision ≡ false → individuals request ≡ Ok all
    → map (result_of view request.return_policy_id_list request.objects moment) all ≡ decided view request moment
unfolding decided individuals
decided_all view request moment all several is = rw (several, is) refl

-- what is handed on says what it said
pub handed_on : {X Y : Type 0} (P : OverLimit → Type 0) (r : Result X (OrMemory OverLimit)) (s : Result Y (OrMemory OverLimit)) (e : OrMemory OverLimit)
    → r ≡ Err e → s ≡ Err e → IfOver r P → IfOver s P
handed_on P r s Memory was is over = subst (λ t. IfOver t P) (sym is) tt
handed_on P r s (Error limit) was is over = subst (λ t. IfOver t P) (sym is) (subst (λ t. IfOver t P) was over)

-- one result more, before others
one_more : (objects : List CategoryObject) (before : List ResultObject) (r : ResultObject) (rest : List ResultObject)
    → bytes_of_all (bytes_of_result objects) before + bytes_of_result objects r ≤ bytes_of_all (bytes_of_result objects) (before ++ r ∷ rest)
one_more objects [] r rest = omega arith
one_more objects (first ∷ before) r rest = let behind = one_more objects before r rest in omega (arith, behind)

pub results_over : (limit : Option ℕ) (objects : List CategoryObject) (before : List ResultObject) (r : ResultObject) (rest all : List ResultObject) (bytes : ℕ)
    → before ++ r ∷ rest ≡ all → bytes ≤ bytes_of_all (bytes_of_result objects) before + bytes_of_result objects r → IsOver limit bytes
    → IsLonger limit (Some (response_body objects all))
results_over None objects before r rest all bytes is at_most over = over
results_over (Some most) objects before r rest all bytes is at_most over =
    let more = one_more objects before r rest in
    let whole = body_takes objects (before ++ r ∷ rest) in
    subst (λ results. most < length (response_body objects results)) is (omega (arith, more, whole, at_most, over))

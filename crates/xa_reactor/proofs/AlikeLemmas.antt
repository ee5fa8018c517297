-- The places of a reactor and the connections of its front: where one is open, the other is.
use Rattle.std.proofs.Common.{◌≡◌, ◌≢◌, ◌<◌, ℕ, zero, suc, [], ◌∷◌, length, get_or, set, Option, Some, None, option_map, replicate, refl, sym, ap, subst, arith}
use Rattle.std.proofs.lemmas.List.{set-set}
use Rattle.xa_http.specs.Stream.{Stream}
use Rattle.xa_server.specs.declared.lines.Conn.{Conn}
use Rattle.xa_server.specs.Lines.{Lines, first_free, none_open}
use Rattle.xa_reactor.specs.declared.lane.Lane.{Lane}
use Rattle.xa_reactor.specs.Step.{Lasts}
use Rattle.xa_reactor.specs.Turn.{AreAlike, AreFree, AreOpen, Lanes, lane_at, no_lanes}

nothing : {X : Type 0} {x : X} → None ≡ Some x → ⊥
nothing e = cc

-- ---- one place

-- a connection is open at a place, and that of the front is; or neither is
abbrev pub IsAlike : Option Lane → Option Stream → Type 0
IsAlike None None = Unit {0}
IsAlike (Some lane) (Some stream) = Unit {0}
IsAlike _ _ = ⊥

pub some_line : (lane : Option Lane) (line : Option Stream) → IsAlike lane line → lane ≢ None → (stream : Stream) × (line ≡ Some stream)
some_line None None same there = absurd (there refl)
some_line None (Some stream) none there = absurd none
some_line (Some lane) None none there = absurd none
some_line (Some lane) (Some stream) same there = (stream, refl)

pub some_lane : (lane : Option Lane) → lane ≢ None → (is : Lane) × (lane ≡ Some is)
some_lane None there = absurd (there refl)
some_lane (Some lane) there = (lane, refl)

pub no_lane : (lane : Option Lane) (line : Option Stream) → IsAlike lane line → line ≡ None → lane ≡ None
no_lane None line same none = refl
no_lane (Some lane) None absent none = absurd absent
no_lane (Some lane) (Some stream) same none = absurd (nothing (sym none))

-- ---- the first place and those behind it

first_alike : (lane : Option Lane) (line : Option Stream) (lanes : Lanes) (lines : Lines) → AreAlike (lane ∷ lanes) (line ∷ lines) → IsAlike lane line
first_alike None None lanes lines alike = tt
first_alike None (Some stream) lanes lines none = absurd none
first_alike (Some lane) None lanes lines none = absurd none
first_alike (Some lane) (Some stream) lanes lines alike = tt

rest_alike : (lane : Option Lane) (line : Option Stream) (lanes : Lanes) (lines : Lines) → AreAlike (lane ∷ lanes) (line ∷ lines) → AreAlike lanes lines
rest_alike None None lanes lines alike = alike
rest_alike None (Some stream) lanes lines none = absurd none
rest_alike (Some lane) None lanes lines none = absurd none
rest_alike (Some lane) (Some stream) lanes lines alike = alike

both_alike : (lane : Option Lane) (line : Option Stream) (lanes : Lanes) (lines : Lines) → IsAlike lane line → AreAlike lanes lines → AreAlike (lane ∷ lanes) (line ∷ lines)
both_alike None None lanes lines same alike = alike
both_alike None (Some stream) lanes lines none alike = absurd none
both_alike (Some lane) None lanes lines none alike = absurd none
both_alike (Some lane) (Some stream) lanes lines same alike = alike

too_many : (lane : Option Lane) (lanes : Lanes) → AreAlike (lane ∷ lanes) [] → ⊥
too_many None lanes none = none
too_many (Some lane) lanes none = none

-- ---- any place

pub alike_at : (lanes : Lanes) (lines : Lines) (n : ℕ) → AreAlike lanes lines → IsAlike (get_or lanes n None) (get_or lines n None)
alike_at [] [] n alike = tt
alike_at [] (line ∷ lines) n none = absurd none
alike_at (lane ∷ lanes) [] n none = absurd (too_many lane lanes none)
alike_at (lane ∷ lanes) (line ∷ lines) zero alike = first_alike lane line lanes lines alike
alike_at (lane ∷ lanes) (line ∷ lines) (suc n) alike = alike_at lanes lines n (rest_alike lane line lanes lines alike)

-- both are set at one place
pub alike_set : (lanes : Lanes) (lines : Lines) (n : ℕ) (lane : Option Lane) (line : Option Stream) → IsAlike lane line → AreAlike lanes lines → AreAlike (set lanes n lane) (set lines n line)
alike_set [] [] n lane line same alike = tt
alike_set [] (had ∷ lines) n lane line same none = absurd none
alike_set (was ∷ lanes) [] n lane line same none = absurd (too_many was lanes none)
alike_set (was ∷ lanes) (had ∷ lines) zero lane line same alike = both_alike lane line lanes lines same (rest_alike was had lanes lines alike)
alike_set (was ∷ lanes) (had ∷ lines) (suc n) lane line same alike =
    both_alike was had (set lanes n lane) (set lines n line) (first_alike was had lanes lines alike) (alike_set lanes lines n lane line same (rest_alike was had lanes lines alike))

-- one is opened, and one is closed
pub alike_open : (lanes : Lanes) (lines : Lines) (n : ℕ) (lane : Lane) (stream : Stream) → AreAlike lanes lines → AreAlike (set lanes n (Some lane)) (set lines n (Some stream))
alike_open lanes lines n lane stream alike = alike_set lanes lines n (Some lane) (Some stream) tt alike

pub alike_close : (lanes : Lanes) (lines : Lines) (n : ℕ) → AreAlike lanes lines → AreAlike (set lanes n None) (set lines n None)
alike_close lanes lines n alike = alike_set lanes lines n None None tt alike

-- one is taken out and put back, as another, and that of the front has lasted
pub alike_kept : (lanes : Lanes) (old new : Lines) (conn : Conn) (lane : Lane) → AreAlike lanes old → lane_at conn.number lanes ≢ None → Lasts conn old new
    → AreAlike (set (set lanes conn.number None) conn.number (Some lane)) new
alike_kept lanes old new conn lane alike there lasts =
    let line = some_line (get_or lanes conn.number None) (get_or old conn.number None) (alike_at lanes old conn.number alike) there in
    let kept = lasts line.0 line.1 in
    subst (λ (ls : Lanes). AreAlike ls new) (sym (set-set lanes conn.number None (Some lane)))
    (subst (λ (ls : Lines). AreAlike (set lanes conn.number (Some lane)) ls) (sym kept.1) (alike_open lanes old conn.number lane kept.0 alike))

-- ---- none is open

pub none_alike : AreAlike no_lanes none_open
none_alike = tt

none_at_all : (lanes : Lanes) (lines : Lines) (count : ℕ) → AreAlike lanes lines → AreFree lanes → length lanes ≡ count → lines ≡ replicate count None
none_at_all [] [] zero alike free long = refl
none_at_all [] [] (suc count) alike free long = absurd (omega (arith, long))
none_at_all (lane ∷ lanes) lines zero alike free long = absurd (omega (arith, long))
none_at_all [] (line ∷ lines) count none free long = absurd none
none_at_all (lane ∷ lanes) [] count none free long = absurd (too_many lane lanes none)
none_at_all (None ∷ lanes) (None ∷ lines) (suc count) alike free long = ap (λ (ls : Lines). None ∷ ls) (none_at_all lanes lines count alike free (omega (arith, long)))
none_at_all (None ∷ lanes) (Some stream ∷ lines) count none free long = absurd none
none_at_all (Some lane ∷ lanes) lines count alike none long = absurd none

pub all_closed : (lanes : Lanes) (lines : Lines) → AreAlike lanes lines → AreFree lanes → length lanes ≡ 64 → lines ≡ none_open
all_closed lanes lines alike free long = none_at_all lanes lines 64 alike free long

-- ---- the least free place

-- a place at which one is, is one of them
pub within : (lanes : Lanes) (n : ℕ) (lane : Lane) → get_or lanes n None ≡ Some lane → n < length lanes
within [] n lane there = absurd (nothing there)
within (first ∷ lanes) zero lane there = omega arith
within (first ∷ lanes) (suc n) lane there = omega (arith, within lanes n lane there)

next_free : (found : Option ℕ) → option_map suc found ≡ None → found ≡ None
next_free None none = refl
next_free (Some n) none = absurd (nothing (sym none))

next_is : (found : Option ℕ) (n : ℕ) → option_map suc found ≡ Some n → (k : ℕ) × (found ≡ Some k) × (n ≡ suc k)
next_is None n is = absurd (nothing is)
next_is (Some k) n is = let e : suc k ≡ n = cc in (k, refl, sym e)

-- at the least place that is free nobody is
pub first_at : (lines : Lines) (n : ℕ) → first_free lines ≡ Some n → get_or lines n None ≡ None
first_at [] n free = absurd (nothing free)
first_at (None ∷ lines) n free = let e : 0 ≡ n = cc in subst (λ (k : ℕ). get_or (None ∷ lines) k None ≡ None) e refl
first_at (Some stream ∷ lines) n free =
    let (k, is, next) = next_is (first_free lines) n free in
    subst (λ (m : ℕ). get_or (Some stream ∷ lines) m None ≡ None) (sym next) (first_at lines k is)

pub alike_first : (lanes : Lanes) (lines : Lines) (n : ℕ) → AreAlike lanes lines → first_free lines ≡ Some n → lane_at n lanes ≡ None
alike_first lanes lines n alike free = no_lane (get_or lanes n None) (get_or lines n None) (alike_at lanes lines n alike) (first_at lines n free)

-- if nobody is at a place, one is free
pub some_free : (lanes : Lanes) (lines : Lines) (n : ℕ) → AreAlike lanes lines → n < length lanes → lane_at n lanes ≡ None → first_free lines ≢ None
some_free [] lines n alike inside none taken = omega (arith, inside)
some_free (lane ∷ lanes) [] n absent inside none taken = too_many lane lanes absent
some_free (None ∷ lanes) (None ∷ lines) n alike inside none taken = nothing (sym taken)
some_free (None ∷ lanes) (Some stream ∷ lines) n absent inside none taken = absent
some_free (Some lane ∷ lanes) (None ∷ lines) n absent inside none taken = absent
some_free (Some lane ∷ lanes) (Some stream ∷ lines) zero alike inside none taken = nothing (sym none)
some_free (Some lane ∷ lanes) (Some stream ∷ lines) (suc n) alike inside none taken =
    some_free lanes lines n alike (omega (arith, inside)) none (next_free (first_free lines) taken)

-- if all were taken and one is closed, its place is the least that is free
pub first_alone : (lanes : Lanes) (lines : Lines) (n : ℕ) → AreOpen lanes → n < length lanes → AreAlike (set lanes n None) lines → first_free lines ≡ Some n
first_alone [] lines n full inside alike = absurd (omega (arith, inside))
first_alone (None ∷ lanes) lines n none inside alike = absurd none
first_alone (Some lane ∷ lanes) [] zero full inside none = absurd none
first_alone (Some lane ∷ lanes) (None ∷ lines) zero full inside alike = refl
first_alone (Some lane ∷ lanes) (Some stream ∷ lines) zero full inside none = absurd none
first_alone (Some lane ∷ lanes) [] (suc n) full inside none = absurd none
first_alone (Some lane ∷ lanes) (None ∷ lines) (suc n) full inside none = absurd none
first_alone (Some lane ∷ lanes) (Some stream ∷ lines) (suc n) full inside alike =
    ap (λ (found : Option ℕ). option_map suc found) (first_alone lanes lines n full (omega (arith, inside)) alike)

-- Facts on the numbers of types.
use Rattle.std.proofs.Common.{◌≡◌, ℕ, zero, suc, ◌<◌, ◌≤◌, false, None, refl, sym, arith}
use Rattle.std.specs.Prelude.{◌==◌, slice_get}
use Rattle.std.proofs.lemmas.Bool.Decides.{nat_tests}
use Rattle.xa_value.specs.Types.{all_types, type_at}

other : (p n : ℕ) → p < n → (p == n) ≡ false
other p n l = grind (arith, nat_tests)

-- there are eleven types
none_at : (n : ℕ) → 11 ≤ n → type_at n ≡ None
none_at n l =
    rw (
      other 0 n (omega (arith, l)),
      other 1 n (omega (arith, l)),
      other 2 n (omega (arith, l)),
      other 3 n (omega (arith, l)),
      other 4 n (omega (arith, l)),
      other 5 n (omega (arith, l)),
      other 6 n (omega (arith, l)),
      other 7 n (omega (arith, l)),
      other 8 n (omega (arith, l)),
      other 9 n (omega (arith, l)),
      other 10 n (omega (arith, l)),
    ) refl

-- the type that has a place stands there in the list
pub type_got : (n : ℕ) → slice_get all_types n ≡ type_at n
type_got zero = refl
type_got (suc zero) = refl
type_got (suc (suc zero)) = refl
type_got (suc (suc (suc zero))) = refl
type_got (suc (suc (suc (suc zero)))) = refl
type_got (suc (suc (suc (suc (suc zero))))) = refl
type_got (suc (suc (suc (suc (suc (suc zero)))))) = refl
type_got (suc (suc (suc (suc (suc (suc (suc zero))))))) = refl
type_got (suc (suc (suc (suc (suc (suc (suc (suc zero)))))))) = refl
type_got (suc (suc (suc (suc (suc (suc (suc (suc (suc zero))))))))) = refl
type_got (suc (suc (suc (suc (suc (suc (suc (suc (suc (suc zero)))))))))) = refl
type_got (suc (suc (suc (suc (suc (suc (suc (suc (suc (suc (suc n))))))))))) = sym (none_at (suc (suc (suc (suc (suc (suc (suc (suc (suc (suc (suc n))))))))))) (omega arith))

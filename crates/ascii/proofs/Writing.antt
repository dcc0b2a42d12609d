-- What is printed, in other words. Assumes nothing.
use Prim.Native.Nat.{ℕ, ◌+◌, ◌≤◌}
use mathlib.Core.Path.{◌≡◌, sym, subst}
use mathlib.Core.List.{List}
use native.Mathlib.Omega.{arith}
use Rattle.lent.specs.Put.{Put}
use Rattle.ascii.specs.Promises.{Printed}

-- the same bytes, in other words
pub printed_as : {most : ℕ} {l xs ys l' : List ℕ} {r : ℕ} → ys ≡ xs → Printed most l xs l' r → Printed most l ys l' r
printed_as {most} {l} {xs} {ys} {l'} {r} e p = subst (λ (x : List ℕ). Printed most l x l' r) (sym e) p

-- a refusal, where more than its line may be printed
pub printed_refused : (most : ℕ) {l xs ys l' : List ℕ} {r : ℕ} → 50 ≤ most → ys ≡ xs → Put l 0 xs l' r → r ≤ 0 + 50 → Printed most l ys l' r
printed_refused most g e p h = printed_as e (record { put = p; long = omega arith })

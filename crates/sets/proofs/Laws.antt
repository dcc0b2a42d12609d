-- Laws of the definitions of specs/Sets.antt. Assumes nothing.
use Prim.Native.Nat.{ℕ, zero, suc, ◌+◌, ◌<◌}
use mathlib.Core.Path.{◌≡◌, refl, ap}
use mathlib.Core.Bool.{Bool, true, false, cond, ◌&&◌}
use mathlib.Core.List.{◌∷◌}
use mathlib.Core.Option.{Option, none, some}
use native.Mathlib.Omega.{arith}
use lib.Dec.{T, eqb, eqb→eq}
use lib.ListN.{drop, replicate}
use Rattle.base.proofs.Table.{every, at}
use Rattle.sets.specs.Sets.{bytes_per_char, is_drcs_form, final_byte, sequence, designation, has_final, first_from, from_designation, Designation, read_designation}

-- ESC begins a designation
pub begins : (s n : ℕ) → designation s n ≡ 0x1B ∷ drop 1 (designation s n)
unfolding designation
begins s n = go (eqb (bytes_per_char s) 2) (is_drcs_form s) (eqb n 0) refl
  where
    go : (two drcs g0 : Bool) → eqb n 0 ≡ g0 → sequence two drcs n (final_byte s) ≡ 0x1B ∷ drop 1 (sequence two drcs n (final_byte s))
    go false false g0 e = refl
    go false true g0 e = refl
    go true false true e = rw e
    go true false false e = rw e
    go true true g0 e = refl

-- what is read is element n and set s
abbrev reads : Option Designation → ℕ → ℕ → Bool
reads none n s = false
reads (some d) n s = eqb d.element n && eqb d.set s

both : (a b : Bool) → T (a && b) → T a × T b
both true b t = (tt, t)
both false b t = absurd t

from_reads : (o : Option Designation) (n s : ℕ) → T (reads o n s) → o ≡ some (record { element = n; set = s })
from_reads none n s t = absurd t
from_reads (some d) n s t =
    let h = both (eqb d.element n) (eqb d.set s) t in
    ap some (λ i. record { element = eqb→eq d.element n h.0 i; set = eqb→eq d.set s h.1 i })

-- a designation of each of the 32 sets to each of the four elements reads as that set and element, computed
pub read_designation_lem : (s n : ℕ) → s < 32 → n < 4 → read_designation (drop 1 (designation s n)) ≡ some (record { element = n; set = s })
unfolding read_designation designation
read_designation_lem s n hs hn = from_reads _ n s (at {A = ℕ} 0 (right s) (replicate 4 0) (at {A = ℕ} 0 (λ k _. every (right k) 0 (replicate 4 0)) (replicate 32 0) tt s hs) n hn)
  where
    right : ℕ → ℕ → ℕ → Bool
    right k m _ = reads (read_designation (drop 1 (designation k m))) m k

-- what is found among k numbers from a on is below a + k
first_below : (p : ℕ → Bool) (a k s : ℕ) → first_from p a k ≡ some s → s < a + k
unfolding first_from
first_below p a zero s e = let z : ◌≡◌ {A = ℕ} 0 1 = cc in omega arith
first_below p a (suc k) s e = pass (p a) (first_below p (suc a) k s) e
  where
    pass : (b : Bool) → (first_from p (suc a) k ≡ some s → s < suc a + k) → cond b (some a) (first_from p (suc a) k) ≡ some s → s < a + suc k
    pass true h e = let q : a ≡ s = cc in omega arith
    pass false h e = let q : s < suc a + k = h e in omega arith

-- the sets that a designation selects have numbers below 32
pub known_set : (two drcs : Bool) (f s : ℕ) → from_designation two drcs f ≡ some s → s < 32
unfolding from_designation
known_set two drcs f s e = first_below (has_final two drcs f) 0 32 s e

-- The ways to make a set usable: encode.rs, `ways`.
use Rattle.std.specs.Prelude.{ℕ, cond, ◌||◌, List, [], ◌∷◌, ◌++◌, eqb, leb, ltb}
use Rattle.base.specs.Lists.{when}
use Rattle.sets.specs.Sets.{designation}
use Rattle.coding.specs.State.{State, set_in, designate, invoke_gl, invoke_gr, lock_gl, lock_gr, single}

-- what is written, the state after it, and 128 where the character goes through GR
pub record Way : Type 0 where
  pub pre : List ℕ
  pub to : State
  pub hi : ℕ

abbrev pub way : List ℕ → State → ℕ → Way
way p s h = record { pre = p; to = s; hi = h }

-- the ways through the code element n after the bytes p, the state then being s: as it is invoked, else by a locking shift to GL, one to GR, a
-- single shift
unfoldable pub through : List ℕ → State → ℕ → List Way
unfolding lock_gl lock_gr single
through p s n =
    cond (eqb s.gl n || eqb s.gr n)
    (when (eqb s.gl n) (way p s 0) ++ when (eqb s.gr n) (way p s 128))
    (way (p ++ lock_gl n) (invoke_gl s n) 0 ∷ (when (ltb 0 n) (way (p ++ lock_gr n) (invoke_gr s n) 128) ++ when (leb 2 n) (way (p ++ single n) s 0)))

-- the ways through the code element n, to which the set x is designated unless it stands there
unfoldable pub by_element : State → ℕ → ℕ → List Way
unfolding through set_in designate designation
by_element s x n = cond (eqb (set_in s n) x) (through [] s n) (through (designation x n) (designate s n x) n)

-- the ways to the set x: if it is invoked, as it is; else through each code element
unfoldable pub ways : State → ℕ → List Way
unfolding by_element set_in
ways s x =
    cond (eqb (set_in s s.gl) x || eqb (set_in s s.gr) x)
    (when (eqb (set_in s s.gl) x) (way [] s 0) ++ when (eqb (set_in s s.gr) x) (way [] s 128))
    (by_element s x 0 ++ (by_element s x 1 ++ (by_element s x 2 ++ by_element s x 3)))

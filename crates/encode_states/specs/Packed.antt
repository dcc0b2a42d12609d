-- The coder's state in one number below 98,304.
use Rattle.std.specs.Prelude.{ℕ, zero, suc, ◌+◌, ◌/◌, ◌%◌, ◌<◌, ◌≡◌}
use Rattle.coding.specs.State.{State}

-- 01's set of a code: the six sets of the coder's candidates, then Macro, which stands in G3 at the Caption start. No two codes are one set
unfoldable pub set_of : ℕ → ℕ
set_of zero = 0
set_of (suc zero) = 1
set_of (suc (suc zero)) = 2
set_of (suc (suc (suc zero))) = 3
set_of (suc (suc (suc (suc zero)))) = 11
set_of (suc (suc (suc (suc (suc zero))))) = 14
set_of (suc (suc (suc (suc (suc (suc zero)))))) = 15
set_of (suc (suc (suc (suc (suc (suc (suc x))))))) = 16 + x

-- from the lowest bit on: one for the size, two for GL, two for GR, three for a code element, the rest for G0. No two numbers are one state
unfoldable pub unpack : ℕ → State
unfolding set_of
unpack a =
    record {
      g0 = set_of (a / 16384);
      g1 = set_of (a / 2048 % 8);
      g2 = set_of (a / 256 % 8);
      g3 = set_of (a / 32 % 8);
      gl = a / 2 % 4;
      gr = a / 8 % 4;
      narrow = a % 2;
    }

-- a state that the coder can reach: sets of candidates in G0 to G2, and in G3 one of them or Macro
pub record Proper (a : ℕ) : Type 0 where
  pub g0 : a / 16384 < 6
  pub g1 : a / 2048 % 8 < 6
  pub g2 : a / 256 % 8 < 6
  pub g3 : a / 32 % 8 < 7

-- a number is the packed state
pub record Packs (a : ℕ) (s : State) : Type 0 where
  pub proper : Proper a
  pub is : unpack a ≡ s

-- a number is the code of the set
pub record Codes (x set : ℕ) : Type 0 where
  pub small : x < 8
  pub is : set_of x ≡ set

-- a number is the code element
pub record Element (n element : ℕ) : Type 0 where
  pub small : n < 4
  pub is : n ≡ element

-- How a character was written is read off its number. Assumes nothing.
use mathlib.Core.Path.{◌≡◌}
use mathlib.Core.List.{List, [], ◌∷◌}
use Prim.Native.Nat.{ℕ, zero, suc, ◌/◌, ◌%◌, ◌<◌}
use native.Mathlib.Omega.{arith}
use lib.ListN.{drop}
use Rattle.coding.specs.Candidates.{Cand}
use Rattle.encode_states.specs.Written.{written_by, written_at, written, how_of}

module _ (k z e d v : ℕ) (hk : k < 16) (hz : z < 4) (he : e < 4) (hd : d < 2) where
  how_k : how_of k z e d v % 16 ≡ k
  how_k = omega arith

  how_z : how_of k z e d v / 16 % 4 ≡ z
  how_z = omega arith

  how_e : how_of k z e d v / 64 % 4 ≡ e
  how_e = omega arith

  how_d : how_of k z e d v / 256 % 2 ≡ d
  how_d = omega arith

  how_v : how_of k z e d v / 512 ≡ v
  how_v = omega arith

  pub written_how : (cs : List Cand) → written cs (how_of k z e d v) ≡ written_at cs k z e d v
  unfolding written
  written_how cs = λ i. written_at cs (how_k i) (how_z i) (how_e i) (how_d i) (how_v i)

-- the k-th candidate
pub written_at_lem : (cs : List Cand) (k : ℕ) (c : Cand) (rest : List Cand) (z e d v : ℕ) → drop k cs ≡ c ∷ rest → written_at cs k z e d v ≡ written_by c z e d v
unfolding written_at
written_at_lem [] zero c rest z e d v q = absurd (let y : ◌≡◌ {A = ℕ} 0 1 = cc in omega arith)
written_at_lem [] (suc k) c rest z e d v q = absurd (let y : ◌≡◌ {A = ℕ} 0 1 = cc in omega arith)
written_at_lem (b ∷ cs) zero c rest z e d v q = let y : b ≡ c = cc in rw y
written_at_lem (b ∷ cs) (suc k) c rest z e d v q = written_at_lem cs k c rest z e d v q

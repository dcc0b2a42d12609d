-- How a character was written, in one number, and the bytes that it gives with the character's candidates alone.
use Rattle.std.specs.Prelude.{ℕ, zero, suc, ◌+◌, ◌*◌, ◌/◌, ◌%◌, cond, ◌||◌, List, [], ◌∷◌, ◌++◌, map, eqb}
use Rattle.control.specs.Codes.{MSZ, NSZ}
use Rattle.sets.specs.Sets.{designation}
use Rattle.coding.specs.State.{lock_gl, lock_gr, single}
use Rattle.coding.specs.Candidates.{Cand, graphic, plain}

-- no size control (0), MSZ (1), NSZ (2)
unfoldable pub size_control : ℕ → List ℕ
size_control zero = []
size_control (suc zero) = MSZ ∷ []
size_control (suc (suc z)) = NSZ ∷ []

-- the invocation of the code element e: as it stands in GL (0) or in GR (1), by a locking shift to GL (2) or to GR (3), by a single shift (4)
unfoldable pub invocation : ℕ → ℕ → List ℕ
unfolding lock_gl lock_gr single
invocation zero e = []
invocation (suc zero) e = []
invocation (suc (suc zero)) e = lock_gl e
invocation (suc (suc (suc zero))) e = lock_gr e
invocation (suc (suc (suc (suc v)))) e = single e

-- what it adds to each byte of a code
unfoldable pub half : ℕ → ℕ
half v = cond (eqb v 1 || eqb v 3) 128 0

-- a candidate after the size control z, through the code element e, designated (1) or not (0), by the invocation v
unfoldable pub written_by : Cand → ℕ → ℕ → ℕ → ℕ → List ℕ
unfolding size_control designation invocation half
written_by (graphic x code size) z e d v = size_control z ++ ((cond (eqb d 1) (designation x e) [] ++ invocation v e) ++ map (λ b. b + half v) code)
written_by (plain b size) z e d v = size_control z ++ (b ∷ [])

-- the k-th candidate so written; nothing where there is none, as at the start
unfoldable pub written_at : List Cand → ℕ → ℕ → ℕ → ℕ → ℕ → List ℕ
unfolding written_by
written_at [] k z e d v = []
written_at (c ∷ cs) zero z e d v = written_by c z e d v
written_at (c ∷ cs) (suc k) z e d v = written_at cs k z e d v

-- k, z, e, d and v in one number
abbrev pub how_of : ℕ → ℕ → ℕ → ℕ → ℕ → ℕ
how_of k z e d v = k + 16 * (z + 4 * (e + 4 * (d + 2 * v)))

unfoldable pub written : List Cand → ℕ → List ℕ
unfolding written_at
written cs how = written_at cs (how % 16) (how / 16 % 4) (how / 64 % 4) (how / 256 % 2) (how / 512)

-- MSZ in an admissible coding, as a statement. proofs/Laws.antt proves it.
use Rattle.std.specs.Prelude.{ℕ, ◌≡◌, List, [], ◌∷◌, ◌++◌}
use Rattle.base.specs.Lists.{All}
use Rattle.coding.specs.Admissible.{Some}
use Rattle.control.specs.Codes.{NSZ}
use Rattle.coding.specs.State.{State}
use Rattle.coding.specs.Candidates.{Size, either, narrow, wide, Cand, graphic, plain}
use Rattle.coding.specs.Admissible.{Admissible, done, control, write}

-- the bytes of the controls before a coding's first character
unfoldable pub lead : {s : State} {css : List (List Cand)} {bs : List ℕ} → Admissible s css bs → List ℕ
lead (done s) = []
lead (control {bs = bs} k d) = bs ++ lead d
lead (write w d) = []

-- "NSZ or the start wide"
abbrev pub Wide : Size → Type 0
Wide either = ⊥
Wide narrow = ⊥
Wide wide = Unit {0}

abbrev pub WideCand : Cand → Type 0
WideCand (graphic x code size) = Wide size
WideCand (plain byte size) = Wide size

-- where the size is narrow, a character that has wide candidates alone has NSZ before it: no other control undoes MSZ
abbrev pub MszUndone : Type 0
MszUndone = (s : State) (ks : List Cand) (css : List (List Cand)) (bs : List ℕ) (d : Admissible s (ks ∷ css) bs) → s.narrow ≡ 1 → All WideCand ks → Some (λ b. b ≡ NSZ) (lead d)

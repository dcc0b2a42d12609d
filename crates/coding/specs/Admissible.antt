-- Admissible codings: 01, "An admissible coding".
use Rattle.std.specs.Prelude.{ℕ, ◌+◌, ◌≤◌, ◌<◌, ◌≡◌, List, [], ◌∷◌, ◌++◌, map}
use Rattle.control.specs.Codes.{MSZ, NSZ}
use Rattle.sets.specs.Sets.{designation}
use Rattle.coding.specs.State.{State, set_in, designate, invoke_gl, invoke_gr, resize, lock_gl, lock_gr, single}
use Rattle.coding.specs.Candidates.{Size, either, narrow, wide, Cand, graphic, plain}

-- some element has a property
pub data Some {X : Type 0} (P : X → Type 0) : List X → Type 0 where
  here : {x : X} {xs : List X} → P x → Some P (x ∷ xs)
  there : {x : X} {xs : List X} → Some P xs → Some P (x ∷ xs)

-- "designations of any set in the form of `designation`, locking shifts, MSZ and NSZ": from a state, by bytes, to a state
pub data Control : State → List ℕ → State → Type 0 where
  designates : {s : State} (x n : ℕ) → x < 32 → n < 4 → Control s (designation x n) (designate s n x)
  locks_gl : {s : State} (n : ℕ) → n < 4 → Control s (lock_gl n) (invoke_gl s n)
  locks_gr : {s : State} (n : ℕ) → 1 ≤ n → n < 4 → Control s (lock_gr n) (invoke_gr s n)
  msz : {s : State} → Control s (MSZ ∷ []) (resize s 1)
  nsz : {s : State} → Control s (NSZ ∷ []) (resize s 0)

-- "under the candidate's size (MSZ narrow, NSZ or the start wide); a candidate to which 000 gives no width goes under either"
abbrev pub Sized : State → Size → Type 0
Sized s either = Unit {0}
Sized s narrow = s.narrow ≡ 1
Sized s wide = s.narrow ≡ 0

-- a code goes in the half of GL or in that of GR
pub data Half : ℕ → Type 0 where
  low : Half 0
  high : Half 128

-- "from a set then invoked in GL or GR or single-shifted just before it"; "SP and newline need no set": a candidate, from a state, by bytes
pub data Shows : State → Cand → List ℕ → Type 0 where
  left : {s : State} (code : List ℕ) (size : Size) → Sized s size → Shows s (graphic (set_in s s.gl) code size) code
  right : {s : State} (code : List ℕ) (size : Size) → Sized s size → Shows s (graphic (set_in s s.gr) code size) (map (λ b. b + 128) code)
  shifted : {s : State} (code : List ℕ) (size : Size) (n h : ℕ) → Half h → Sized s size → 2 ≤ n → n < 4 → Shows s (graphic (set_in s n) code size) (single n ++ map (λ b. b + h) code)
  direct : {s : State} (b : ℕ) (size : Size) → Sized s size → Shows s (plain b size) (b ∷ [])

-- "writes the characters in that order, each by one of its candidate codes"; "Anywhere between characters, and at either end, it may hold"
-- controls: a coding of characters, by their candidates, from a state
pub data Admissible : State → List (List Cand) → List ℕ → Type 0 where
  done : (s : State) → Admissible s [] []
  control : {s t : State} {css : List (List Cand)} {bs cs : List ℕ} → Control s bs t → Admissible t css cs → Admissible s css (bs ++ cs)
  write : {s : State} {ks : List Cand} {css : List (List Cand)} {bs cs : List ℕ} → Some (λ k. Shows s k bs) ks → Admissible s css cs → Admissible s (ks ∷ css) (bs ++ cs)

-- The controls of an admissible coding: what each does to the coder's state it does in reading, and no more. Assumes nothing.
use Prim.Native.Nat.{ℕ, zero, suc, ◌+◌, ◌<◌}
use mathlib.Core.Path.{◌≡◌, refl, ap, ◌∙◌}
use mathlib.Core.Bool.{Bool, true, false, not, ◌&&◌}
use mathlib.Core.List.{List, [], ◌∷◌, ◌++◌, append_assoc, append-nil}
use mathlib.Core.Option.{some}
use native.Mathlib.Omega.{arith}
use borrow.Author.Tests.{not-true}
use lib.Dec.{T, leb}
use lib.ListN.{length, take, drop, replicate, length-append}
use Rattle.base.proofs.Table.{every, at}
use Rattle.sets.specs.Sets.{designation, read_designation}
use Rattle.sets.proofs.Laws.{begins, read_designation_lem}
use Rattle.decode_output.specs.Output.{Output}
use Rattle.coding.specs.State.{State, designate, lock_gl, lock_gr}
use Rattle.coding.specs.Admissible.{Control, designates, locks_gl, locks_gr, msz, nsz}
use Rattle.reading.specs.State as reading
use Rattle.reading.specs.Macros.{Run}
use Rattle.reading.specs.Controls.{leading, applied, applied_or, escape_at, escape}
use Rattle.reading.specs.Steps.{step, offset}
use Rattle.laws_readback.proofs.States.{read, Invokes, Moves, one_step}

-- ---- Designations

-- intermediates (02/0 to 02/15), then a final byte (03/0 to 07/14)
abbrev is_escape : List ℕ → Bool
is_escape [] = false
is_escape (f ∷ []) = not (leb 0x20 f && leb f 0x2F) && (leb 0x30 f && leb f 0x7E)
is_escape (a ∷ (b ∷ r)) = leb 0x20 a && leb a 0x2F && is_escape (b ∷ r)

both : (a b : Bool) → T (a && b) → (a ≡ true) × T b
both true b t = (refl, t)
both false b t = absurd t

passes : (a : Bool) → T a → a ≡ true
passes true t = refl
passes false t = absurd t

-- such bytes are read as one escape, whatever follows them; ins stands before them
read_whole : (ins bs rest : List ℕ) (place at : ℕ) (s : reading.State) → T (is_escape bs)
    → escape_at (ins ++ take (leading 0x20 0x2F (bs ++ rest)) (bs ++ rest)) (drop (leading 0x20 0x2F (bs ++ rest)) (bs ++ rest)) place at s
    ≡ applied_or (applied (ins ++ bs) s) (suc (length (ins ++ bs))) place at s
unfolding leading escape_at
read_whole ins [] rest place at s t = absurd t
read_whole ins (f ∷ []) rest place at s t =
    let h = both (not (leb 0x20 f && leb f 0x2F)) (leb 0x30 f && leb f 0x7E) t in
    let n : length ins + 2 ≡ suc (length (ins ++ (f ∷ []))) = omega (arith, length-append ins (f ∷ [])) in
    rw (not-true (leb 0x20 f && leb f 0x2F) h.0, append-nil ins, passes (leb 0x30 f && leb f 0x7E) h.1) (ap (λ (k : ℕ). applied_or (applied (ins ++ (f ∷ [])) s) k place at s) n)
read_whole ins (a ∷ (b ∷ r)) rest place at s t =
    let h = both (leb 0x20 a && leb a 0x2F) (is_escape (b ∷ r)) t in
    let l = (b ∷ r) ++ rest in
    rw (h.0, ← (append_assoc ins (a ∷ []) (b ∷ r)), ← (append_assoc ins (a ∷ []) (take (leading 0x20 0x2F l) l))) (read_whole (ins ++ (a ∷ [])) (b ∷ r) rest place at s h.1)

-- each of the 128 designations is an escape, computed
escapes : (x n : ℕ) → x < 32 → n < 4 → T (is_escape (drop 1 (designation x n)))
unfolding designation
escapes x n hx hn = at {A = ℕ} 0 (right x) (replicate 4 0) (at {A = ℕ} 0 (λ k _. every (right k) 0 (replicate 4 0)) (replicate 32 0) tt x hx) n hn
  where
    right : ℕ → ℕ → ℕ → Bool
    right k m _ = is_escape (drop 1 (designation k m))

-- what a designation does
known : (bs : List ℕ) (n x place at : ℕ) (s : reading.State) → T (is_escape bs) → read_designation bs ≡ some (record { element = n; set = x })
    → applied_or (applied bs s) (suc (length bs)) place at s ≡ reading.took (suc (length bs)) (reading.designate n x s)
unfolding applied applied_or
known [] n x place at s t e = absurd t
known (f ∷ []) n x place at s t e = absurd (let q : ◌≡◌ {A = ℕ} 0 1 = cc in omega arith)
known (a ∷ (b ∷ r)) n x place at s t e = rw e

designation_step : (g : reading.Given) (depth : ℕ) (R : Run) (x n : ℕ) → x < 32 → n < 4 → (rest : List ℕ) (place at : ℕ) (s : reading.State)
    → step g depth R 0x1B (drop 1 (designation x n) ++ rest) place at s ≡ reading.took (suc (length (drop 1 (designation x n)))) (reading.designate n x s)
unfolding step escape
designation_step g depth R x n hx hn rest place at s =
    read_whole [] (drop 1 (designation x n)) rest place at s (escapes x n hx hn)
    ∙ known (drop 1 (designation x n)) n x place at s (escapes x n hx hn) (read_designation_lem x n hx hn)

-- ---- Any control

designate_read : (z : reading.State) (s : State) (n x : ℕ) (o : Output) → n < 4 → reading.designate n x (read z s o) ≡ read z (designate s n x) o
unfolding reading.designate designate
designate_read z s zero x o h = refl
designate_read z s (suc zero) x o h = refl
designate_read z s (suc (suc zero)) x o h = refl
designate_read z s (suc (suc (suc zero))) x o h = refl
designate_read z s (suc (suc (suc (suc n)))) x o h = absurd (omega arith)

-- the code elements invoked stay of the four
pub still : {s t : State} {bs : List ℕ} → Control s bs t → Invokes s → Invokes t
unfolding designate
still (designates x zero hx hn) i = record { left = i.left; right = i.right }
still (designates x (suc zero) hx hn) i = record { left = i.left; right = i.right }
still (designates x (suc (suc zero)) hx hn) i = record { left = i.left; right = i.right }
still (designates x (suc (suc (suc n))) hx hn) i = record { left = i.left; right = i.right }
still (locks_gl n h) i = record { left = h; right = i.right }
still (locks_gr n l h) i = record { left = i.left; right = h }
still msz i = record { left = i.left; right = i.right }
still nsz i = record { left = i.left; right = i.right }

module _ (g : reading.Given) (depth : ℕ) (R : Run) (base origin : ℕ) (z : reading.State) where
  pub control_moves : {s t : State} {bs : List ℕ} → Control s bs t → (i : ℕ) (o : Output) → Moves g depth R base origin bs i (read z s o) (read z t o)
  unfolding lock_gl lock_gr step
  control_moves (designates {s = s} x n hx hn) i o =
      rw (begins x n)
      (one_step g depth R base origin 0x1B (drop 1 (designation x n)) i _ _
      (λ rest. designation_step g depth R x n hx hn rest (base + i) (offset origin i) (read z s o) ∙
      ap (reading.took (suc (length (drop 1 (designation x n))))) (designate_read z s n x o hn)))
  control_moves (locks_gl zero h) i o = one_step g depth R base origin 0x0F [] i _ _ (λ rest. refl)
  control_moves (locks_gl (suc zero) h) i o = one_step g depth R base origin 0x0E [] i _ _ (λ rest. refl)
  control_moves (locks_gl (suc (suc zero)) h) i o = one_step g depth R base origin 0x1B (0x6E ∷ []) i _ _ (λ rest. refl)
  control_moves (locks_gl (suc (suc (suc zero))) h) i o = one_step g depth R base origin 0x1B (0x6F ∷ []) i _ _ (λ rest. refl)
  control_moves (locks_gl (suc (suc (suc (suc n)))) h) i o = absurd (omega arith)
  control_moves (locks_gr zero l h) i o = absurd (omega arith)
  control_moves (locks_gr (suc zero) l h) i o = one_step g depth R base origin 0x1B (0x7E ∷ []) i _ _ (λ rest. refl)
  control_moves (locks_gr (suc (suc zero)) l h) i o = one_step g depth R base origin 0x1B (0x7D ∷ []) i _ _ (λ rest. refl)
  control_moves (locks_gr (suc (suc (suc zero))) l h) i o = one_step g depth R base origin 0x1B (0x7C ∷ []) i _ _ (λ rest. refl)
  control_moves (locks_gr (suc (suc (suc (suc n)))) l h) i o = absurd (omega arith)
  control_moves msz i o = one_step g depth R base origin 0x89 [] i _ _ (λ rest. refl)
  control_moves nsz i o = one_step g depth R base origin 0x8A [] i _ _ (λ rest. refl)

-- The steps up to a place, from the start: by induction over the bytes, what `Sound` says holds, and the steps go on from there. Assumes nothing.
use Prim.Native.Nat.{ℕ, zero, suc, ◌+◌, ◌-◌, ◌≤◌, ◌<◌}
use mathlib.Core.Path.{◌≡◌, refl, sym, ap, ◌∙◌}
use mathlib.Core.List.{List, [], ◌∷◌, append-nil}
use native.Mathlib.Nat.{zero-add}
use native.Mathlib.Omega.{arith}
use lib.Dec.{eqb, leb}
use lib.ListN.{length, drop, length-drop}
use lib.Seq.{drop-drop}
use Rattle.base.proofs.Tests.{either}
use Rattle.decode_output.specs.Output.{nothing}
use Rattle.reading.specs.State.{Given, State, start}
use Rattle.reading.specs.Steps.{step, offset, steps, run}
use Rattle.reading.specs.Between.{Between, until, before}
use Rattle.laws_reading.proofs.Changes.{Part, part, Kept}
use Rattle.laws_reading.proofs.Escapes.{LiesAt}
use Rattle.laws_reading.proofs.Steps.{step_good, runs_to}
use Rattle.laws_between.proofs.Defining.{macros_start}
use Rattle.laws_between.proofs.Fine.{Fine}
use Rattle.laws_between.proofs.Steps.{step_to, runs_fine}

-- what holds where the steps stop, which began with `first` and end with `whole`
pub record Reached (g : Given) (first : Part) (whole : State) (b : Between) : Type 0 where
  pub within : b.at ≤ length g.input
  pub kept : Kept g.input b.at first (part b.state)
  pub fine : Fine g.input b.state
  pub on : steps g 4 (run g 3) 0 0 (drop b.at g.input) b.at 0 b.state ≡ whole

-- what was paid by u bytes is paid by v
pays : {input : List ℕ} {p q : Part} (u v : ℕ) → u ≤ v → Kept input u p q → Kept input v p q
pays u v h a = record { fine = a.fine; paid = omega (arith, h, a.paid) }

-- u bytes, and then v
adds : {input : List ℕ} {p q r : Part} (u v w : ℕ) → u + v ≤ w → Kept input u p q → Kept input v q r → Kept input w p r
adds u v w h a b = record { fine = b.fine; paid = omega (arith, h, a.paid, b.paid) }

-- the bytes xs are those from the i-th on, of which k are passed over
until_to : (g : Given) (first : Part) (whole : State) (to : ℕ) (xs : List ℕ) (i k : ℕ) (s : State) → drop i g.input ≡ xs → i ≤ length g.input → k ≤ length xs
    → Kept g.input (i + k) first (part s) → Fine g.input s → steps g 4 (run g 3) 0 0 xs i k s ≡ whole
    → Reached g first whole (until g 4 (run g 3) 0 0 to xs i k s)
unfolding until steps
until_to g first whole to [] i k s e h m a f w =
    record { within = h; kept = pays (i + k) i (omega (arith, m)) a; fine = f; on = ap (λ (l : List ℕ). steps g 4 (run g 3) 0 0 l i 0 s) e ∙ w }
until_to g first whole to (x ∷ xs) i zero s e h m a f w =
    let v = step g 4 (run g 3) x xs (0 + i) (offset 0 i) s in
    let long : suc (length xs) ≡ length g.input - i = sym (ap length e) ∙ length-drop i g.input in
    let inside : i < length g.input = omega (arith, long) in
    let stands : LiesAt g.input (0 + i) (x ∷ xs) = record { after = []; bytes = ap (λ (n : ℕ). drop n g.input) (zero-add i) ∙ (e ∙ sym (append-nil (x ∷ xs))) } in
    let q = step_good (Unit {0}) g 4 (run g 3) (runs_to g 3 (Unit {0})) x xs (0 + i) (offset 0 i) s (λ c. inside) (λ c. stands) in
    either (Reached g first whole) (leb to i)
    (record { within = h; kept = pays (i + 0) i (omega arith) a; fine = f; on = ap (λ (l : List ℕ). steps g 4 (run g 3) 0 0 l i 0 s) e ∙ w })
    (until_to g first whole to xs (i + 1) (v.used - 1) v.to (sym (drop-drop 1 i g.input) ∙ ap (drop 1) e) (omega (arith, inside)) (omega (arith, q.most))
    (adds (i + 0) v.used (i + 1 + (v.used - 1)) (omega (arith, q.least)) a (q.to.change.keeps tt a.fine))
    (step_to g 4 (run g 3) (runs_fine g 3) x xs (0 + i) (offset 0 i) s stands f) w)
until_to g first whole to (x ∷ xs) i (suc k) s e h m a f w =
    let long : suc (length xs) ≡ length g.input - i = sym (ap length e) ∙ length-drop i g.input in
    until_to g first whole to xs (i + 1) k s (sym (drop-drop 1 i g.input) ∙ ap (drop 1) e) (omega (arith, long)) (omega (arith, m))
    (pays (i + suc k) (i + 1 + k) (omega arith) a) f w

-- ---- from the start

started : (g : Given) (initial : ℕ) → Kept g.input 0 (part (start initial)) (part (start initial))
unfolding start nothing
started g initial = record { fine = record { charge = omega arith; issues = tt; marks = omega arith; repeat = omega arith }; paid = omega arith }

start_fine : (g : Given) (initial : ℕ) → Fine g.input (start initial)
unfolding start nothing
start_fine g initial =
    record {
      four = refl;
      sets = (omega arith, (omega arith, (omega arith, (either (λ n. n ≤ 31) (eqb initial 0) (omega arith) (omega arith), tt))));
      gl = omega arith;
      gr = omega arith;
      macros = macros_start g.input;
      marks = tt;
    }

whole_run : (g : Given) (initial : ℕ) → steps g 4 (run g 3) 0 0 g.input 0 0 (start initial) ≡ run g 4 g.input 0 0 (start initial)
unfolding run
whole_run g initial = refl

pub reached : (g : Given) (initial place : ℕ) → Reached g (part (start initial)) (run g 4 g.input 0 0 (start initial)) (before g initial place)
unfolding before
reached g initial place =
    until_to g (part (start initial)) (run g 4 g.input 0 0 (start initial)) place g.input 0 0 (start initial) refl (omega arith) (omega arith)
    (started g initial) (start_fine g initial) (whole_run g initial)

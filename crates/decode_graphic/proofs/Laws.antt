-- The definitions of reading/specs/Characters by cases, as the code takes them. Assumes nothing.
use Prim.Native.Nat.{ℕ, ◌+◌, ◌-◌, ◌/◌, ◌≤◌, ◌<◌}
use mathlib.Core.Path.{◌≡◌, sym, ap, ◌∙◌}
use mathlib.Core.Bool.{Bool, true, false, ◌&&◌, ◌||◌}
use mathlib.Core.List.{List}
use native.Mathlib.Omega.{arith}
use borrow.Author.Tests.{ne_eqb, le-leb, lt-leb}
use native.Mathlib.Numerals.{add-one}
use lib.Dec.{eqb}
use lib.ListN.{length, drop, get_or, drop_of_length-le}
use Rattle.issues.specs.declared.IssueKind.{IssueKind}
use Rattle.issues.specs.declared.IssueKind.TheVariants.{Drcs, LoneSingleShift}
use Rattle.reading.specs.State.{Given, State, took, issue, placeholder, truncated, is_narrow}
use Rattle.reading.specs.Macros.{Run}
use Rattle.reading.specs.Characters.{is_graphic, emit_or, char1, letter, mosaic, graphic2, graphic_of, graphic, single_shift}
use Rattle.decode_state.specs.declared.Core.{Core}
use Rattle.decode_state.specs.Promises.{whole, Holds}
use Rattle.decode_state.proofs.Steps.{drop_one}

-- ---- one-byte sets

module _ (g : Given) (left : ℕ) (R : Run) (z c at : ℕ) (s : State) (h : z ≡ 15 → ⊥) where
  pub char1_mosaic : 4 ≤ z → z ≤ 7 → mosaic z c at s ≡ char1 g left R z c at s
  unfolding char1
  char1_mosaic p q = rw (ne_eqb z 15 h, le-leb 4 z p, le-leb z 7 q)

  pub char1_drcs : 17 ≤ z → placeholder at (Drcs (z - 16) c) s ≡ char1 g left R z c at s
  unfolding char1
  char1_drcs p = let a : 4 ≤ z = omega arith in let b : 7 < z = omega arith in rw (ne_eqb z 15 h, le-leb 4 z a, lt-leb z 7 b, le-leb 17 z p)

-- the letter that the code reads, over a state that its struct holds
pub letter_narrows : {starts lens t₀ i₀ t i : List ℕ} (g : Given) (s : State) {c : Core} (kind : IssueKind) (at z a : ℕ) {narrow : Bool}
    → narrow ≡ (c.annex || c.narrow) → Holds g t₀ i₀ s (whole c starts lens) t i
    → emit_or kind (letter narrow z a) at s ≡ emit_or kind (letter (is_narrow g s) z a) at s
unfolding is_narrow
letter_narrows g s kind at z a {narrow = narrow} n h =
    let q : narrow ≡ (g.annex_e || s.narrow) = n ∙ (λ j. (h.state j).core.annex || (h.state j).core.narrow) in
    ap (λ (u : Bool). emit_or kind (letter u z a) at s) q

-- ---- steps

module _ (g : Given) (z x : ℕ) (b : List ℕ) (j at : ℕ) (s : State) where
  pub graphic2_end : length b ≤ j → graphic2 g z x (drop j b) at s ≡ truncated 1 at s
  unfolding graphic2
  graphic2_end h = rw (drop_of_length-le b h)

  pub graphic2_other : j < length b → (is_graphic (get_or b j 0) && eqb (x / 128) (get_or b j 0 / 128)) ≡ false → graphic2 g z x (drop j b) at s ≡ truncated 1 at s
  unfolding graphic2
  graphic2_other h e = rw (drop_one b j h) (rw e)

module _ (g : Given) (left : ℕ) (R : Run) (element : ℕ) (b : List ℕ) (j at : ℕ) (s : State) where
  pub shift_end : length b ≤ j → single_shift g left R element (drop j b) at s ≡ truncated 1 at s
  unfolding single_shift
  shift_end h = rw (drop_of_length-le b h)

  pub shift_lone : j < length b → is_graphic (get_or b j 0) ≡ false → single_shift g left R element (drop j b) at s ≡ took 1 (issue at LoneSingleShift s)
  unfolding single_shift
  shift_lone h e = rw (drop_one b j h) (rw e)

  pub shift_character : j < length b → is_graphic (get_or b j 0) ≡ true → {z : ℕ} → z ≡ get_or s.sets element 0
      → let w = graphic_of g left R z (get_or b j 0) (drop (j + 1) b) at s in single_shift g left R element (drop j b) at s ≡ took (w.used + 1) w.to
  unfolding single_shift graphic
  shift_character h e q =
      let w = graphic_of g left R (get_or s.sets element 0) (get_or b j 0) (drop (j + 1) b) at s in
      rw (drop_one b j h) (rw (e, q) (ap (λ (n : ℕ). took n w.to) (sym (add-one w.used))))

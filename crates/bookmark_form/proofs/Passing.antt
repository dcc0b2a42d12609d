-- The numbers of a sound state pass the tests. Assumes nothing.
use Prim.Native.Nat.{ℕ, ◌+◌, ◌-◌, ◌*◌, ◌≤◌, ◌<◌}
use mathlib.Core.Path.{◌≡◌, refl, sym, ap, subst, ◌∙◌}
use mathlib.Core.Bool.{Bool, true, false, cond}
use mathlib.Core.List.{List}
use native.Mathlib.Omega.{arith}
use lib.ListN.{length, take, drop, get_or, length-drop}
use lib.Seq.{length-take-le}
use Rattle.base.specs.Lists.{All}
use Rattle.base.proofs.Every.{all_at}
use Rattle.tables.specs.Kanji.{non_spacing, has_character}
use Rattle.reading.specs.State.{State}
use Rattle.reading.specs.Macros.{end_of, limit}
use Rattle.laws_between.specs.Between.{Sound}
use Rattle.bookmark_form.specs.Form.{resumable}
use Rattle.bookmark_form.specs.Numbers.{numbers}
use Rattle.bookmark_form.proofs.Resumes.{Settings, Counts, Bodies, settings_hold_lem, counts_hold_lem, marks_hold_lem, bodies_hold_lem, resumable_hold}
use Rattle.bookmark_form.proofs.Places.{head_of, mark_at, start_at, len_at, charged_at, text_at, minus_one}

bit : (b : Bool) → cond b 1 0 ≤ 1
bit true = omega arith
bit false = omega arith

within : (input : List ℕ) → limit input ≡ 64 * length input + 4096
unfolding limit
within input = refl

module _ (input : List ℕ) (place : ℕ) (s : State) (w : Sound input s) (marks : length s.out.marks ≤ 16) where
  settings : Settings (numbers place s)
  settings =
      let h = head_of place s w.four w.starts w.lens in
      let sets = subst (λ (l : List ℕ). All (λ (n : ℕ). n ≤ 31) l) (sym h.sets_at) w.sets in (
        sets.0,
        sets.1.0,
        sets.1.1.0,
        sets.1.1.1.0,
        omega (arith, h.gl_at, w.gl),
        omega (arith, h.gr_at, w.gr),
        omega (arith, h.narrow_at, bit s.narrow),
      )

  counts : place ≤ length input → length input ≤ 65535 → Counts input (numbers place s)
  counts p q =
      let h = head_of place s w.four w.starts w.lens in
      let c = charged_at place s w.four w.starts w.lens in (
        omega (arith, h.at, p),
        omega (arith, h.repeat_at, w.repeat),
        omega (arith, h.count_at, marks),
        omega (arith, c, w.charged),
        omega (arith, text_at place s w.four w.starts w.lens, w.text, w.charged, within input, q),
      )

  marked : (k : ℕ) → k < get_or (numbers place s) 10 0 → has_character non_spacing (get_or (numbers place s) (12 + k) 0) ≡ true
  marked k l =
      let h = head_of place s w.four w.starts w.lens in
      let b : k < length s.out.marks = omega (arith, h.count_at, l) in
      ap (λ (n : ℕ). has_character non_spacing n) (mark_at place s w.four w.starts w.lens k b marks)
      ∙ all_at (λ (m : ℕ). has_character non_spacing m ≡ true) 0 s.out.marks w.marks k b

  bodies : Bodies input (numbers place s)
  bodies code l =
      let start = get_or s.starts code 0 in
      let len = get_or s.lens code 0 in
      let i = w.inside code in
      let f : start ≡ get_or (numbers place s) (28 + code) 0 - 1 =
      sym (ap (λ (n : ℕ). n - 1) (start_at place s w.four w.starts w.lens code l) ∙ minus_one start) in
      let n : len ≡ get_or (numbers place s) (156 + code) 0 = sym (len_at place s w.four w.starts w.lens code l) in
      let short : length (take len (drop start input)) ≡ len = length-take-le len (drop start input) (omega (arith, i, length-drop start input)) in
      subst (λ (m : ℕ). ((get_or (numbers place s) (28 + code) 0 - 1) + m ≤ length input) × (end_of (take m (drop (get_or (numbers place s) (28 + code) 0 - 1) input)) ≡ m)) n
      (subst (λ (m : ℕ). (m + len ≤ length input) × (end_of (take len (drop m input)) ≡ len)) f (i, w.bare code ∙ short))

pub numbers_resumable : (input : List ℕ) (place : ℕ) (s : State) → Sound input s → place ≤ length input → length input ≤ 65535
    → length s.out.marks ≤ 16 → resumable input (numbers place s) ≡ true
numbers_resumable input place s w p q m =
    resumable_hold input (numbers place s) (settings_hold_lem (numbers place s) (settings input place s w m))
    (counts_hold_lem input (numbers place s) (counts input place s w m p q))
    (marks_hold_lem (numbers place s) (marked input place s w m))
    (bodies_hold_lem input (numbers place s) (bodies input place s w m))

-- The positions of a buffer's issues, moved one after another, and what this makes of a list of issues. Assumes nothing.
use Prim.Native.Nat.{ℕ, zero, suc, ◌+◌, ◌*◌, ◌-◌, ◌≤◌, ◌<◌}
use mathlib.Core.Path.{◌≡◌, refl, sym, ap, ◌∙◌, subst}
use mathlib.Core.List.{List, [], ◌∷◌, ◌++◌, map, append_assoc}
use native.Mathlib.Nat.{zero-add}
use native.Mathlib.Omega.{arith}
use lib.ListN.{length, take, drop, get_or, set, length-append, length-drop, length-map}
use lib.Seq.{length-take-le, get_or-append-add, get_or-drop, set_split}
use Rattle.base.specs.Lists.{All}
use Rattle.issues.specs.Issue.{Issue, numbers, numbers_of, issue_numbers, issues_numbers}
use Rattle.decode_output.proofs.Counts.{length_numbers}
use Rattle.laws_behind.specs.Behind.{later}
use Rattle.bookmark_positions.specs.Positions.{moved}

-- ---- one turn

pub moved_none : (by : ℕ) (l : List ℕ) → l ≡ moved 0 by l
unfolding moved
moved_none by l = refl

-- the first issue, moved
abbrev first : ℕ → List ℕ → List ℕ
first by l = take 4 l ++ ((by + get_or l 4 0) ∷ [])

length_first : (by : ℕ) (l : List ℕ) → 5 ≤ length l → length (first by l) ≡ 5
length_first by l h = omega (arith, length-append (take 4 l) ((by + get_or l 4 0) ∷ []), length-take-le 4 l (omega (arith, h)))

moved_first : (k by : ℕ) (l : List ℕ) → moved (suc k) by l ≡ first by l ++ moved k by (drop 5 l)
unfolding moved
moved_first k by l = sym (append_assoc (take 4 l) ((by + get_or l 4 0) ∷ []) (moved k by (drop 5 l)))

-- behind the issues that are moved, the numbers are as they were
moved_rest : (k by : ℕ) (l : List ℕ) (j : ℕ) → 5 * k ≤ length l → 5 * k ≤ j → get_or (moved k by l) j 0 ≡ get_or l j 0
moved_rest zero by l j h m = ap (λ (s : List ℕ). get_or s j 0) (sym (moved_none by l))
moved_rest (suc k) by l j h m =
    let r = drop 5 l in
    let e : j ≡ length (first by l) + (j - 5) = omega (arith, m, length_first by l (omega (arith, h))) in
    let f : 5 + (j - 5) ≡ j = omega (arith, m) in
    ap (λ (s : List ℕ). get_or s j 0) (moved_first k by l)
    ∙ ap (λ (n : ℕ). get_or (first by l ++ moved k by r) n 0) e
    ∙ get_or-append-add (first by l) (moved k by r) (j - 5) 0
    ∙ moved_rest k by r (j - 5) (omega (arith, h, length-drop 5 l)) (omega (arith, m))
    ∙ get_or-drop 5 l (j - 5) 0
    ∙ ap (λ (n : ℕ). get_or l n 0) f

set_behind : (p q : List ℕ) (j v : ℕ) → set (p ++ q) (length p + j) v ≡ p ++ set q j v
set_behind [] q j v = ap (λ (n : ℕ). set q n v) (zero-add j)
set_behind (x ∷ p) q j v =
    let e : suc (length p) + j ≡ suc (length p + j) = omega arith in
    ap (λ (n : ℕ). set (x ∷ (p ++ q)) n v) e ∙ ap (λ (s : List ℕ). x ∷ s) (set_behind p q j v)

-- one more
moved_more : (k by j : ℕ) (l : List ℕ) → j ≡ 5 * k + 4 → j < length l → set (moved k by l) j (by + get_or l j 0) ≡ moved (suc k) by l
unfolding moved
moved_more zero by j l e h =
    let f : j ≡ 4 = omega (arith, e) in
    ap (λ (n : ℕ). set l n (by + get_or l n 0)) f ∙ set_split l 4 (by + get_or l 4 0) (omega (arith, f, h))
moved_more (suc k) by j l e h =
    let r = drop 5 l in
    let v = by + get_or l j 0 in
    let i : j ≡ length (first by l) + (j - 5) = omega (arith, e, length_first by l (omega (arith, e, h))) in
    let f : j ≡ 5 + (j - 5) = omega (arith, e) in
    let g : v ≡ by + get_or r (j - 5) 0 = ap (λ (x : ℕ). by + x) (ap (λ (n : ℕ). get_or l n 0) f ∙ sym (get_or-drop 5 l (j - 5) 0)) in
    ap (λ (s : List ℕ). set s j v) (moved_first k by l)
    ∙ ap (λ (n : ℕ). set (first by l ++ moved k by r) n v) i
    ∙ set_behind (first by l) (moved k by r) (j - 5) v
    ∙ ap (λ (x : ℕ). first by l ++ set (moved k by r) (j - 5) x) g
    ∙ ap (λ (s : List ℕ). first by l ++ s) (moved_more k by (j - 5) r (omega (arith, e)) (omega (arith, e, h, length-drop 5 l)))
    ∙ sym (moved_first (suc k) by l)

-- the number that a turn reads, and what it writes
pub moved_read : (k by : ℕ) (l : List ℕ) {s : List ℕ} → s ≡ moved k by l → 5 * (k + 1) ≤ length l → get_or s (5 * k + 4) 0 ≡ get_or l (5 * k + 4) 0
moved_read k by l e h = ap (λ (s : List ℕ). get_or s (5 * k + 4) 0) e ∙ moved_rest k by l (5 * k + 4) (omega (arith, h)) (omega arith)

pub moved_turn : (k by : ℕ) (l : List ℕ) {s : List ℕ} → s ≡ moved k by l → 5 * (k + 1) ≤ length l
    → set s (5 * k + 4) (by + get_or s (5 * k + 4) 0) ≡ moved (k + 1) by l
moved_turn k by l {s} e h =
    let f : suc k ≡ k + 1 = omega arith in
    ap (λ (x : ℕ). set s (5 * k + 4) (by + x)) (moved_read k by l e h)
    ∙ ap (λ (t : List ℕ). set t (5 * k + 4) (by + get_or l (5 * k + 4) 0)) e
    ∙ moved_more k by (5 * k + 4) l refl (omega (arith, h))
    ∙ ap (λ (n : ℕ). moved n by l) f

-- ---- issues

pub moved_numbers : (by : ℕ) (is : List Issue) (r : List ℕ) → moved (length is) by (issues_numbers is ++ r) ≡ issues_numbers (map (later by) is) ++ r
unfolding moved issues_numbers issue_numbers later
moved_numbers by [] r = refl
moved_numbers by (i ∷ is) r =
    let n = numbers_of i.kind in
    ap (λ (s : List ℕ). i.offset ∷ n.kind ∷ n.first ∷ n.second ∷ (by + i.position) ∷ s) (moved_numbers by is r)

pub numbers_as_many : (by : ℕ) (is : List Issue) → length (issues_numbers (map (later by) is)) ≡ length (issues_numbers is)
numbers_as_many by is = length_numbers (map (later by) is) ∙ ap (λ (n : ℕ). n * numbers) (length-map is (later by)) ∙ sym (length_numbers is)

pub position_at : (is : List Issue) (r : List ℕ) (k : ℕ) → k < length is → (P : ℕ → Type 0) → All (λ i. P i.position) is
    → P (get_or (issues_numbers is ++ r) (5 * k + 4) 0)
unfolding issues_numbers issue_numbers
position_at [] r k h P a = absurd (omega (arith, h))
position_at (i ∷ is) r zero h P a = a.0
position_at (i ∷ is) r (suc k) h P a =
    let e : suc (suc (suc (suc (suc (5 * k + 4))))) ≡ 5 * suc k + 4 = omega arith in
    subst (λ (n : ℕ). P (get_or (issues_numbers (i ∷ is) ++ r) n 0)) e (position_at is r k (omega (arith, h)) P a.1)

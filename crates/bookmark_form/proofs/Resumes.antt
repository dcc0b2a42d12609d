-- What the tests of a bookmark's numbers say, and what passes them. Assumes nothing.
use Prim.Native.Nat.{ℕ, ◌+◌, ◌-◌, ◌≤◌, ◌<◌}
use mathlib.Core.Path.{◌≡◌, ap}
use mathlib.Core.Bool.{true}
use mathlib.Core.List.{List}
use borrow.Author.Tests.{leb-true, le-leb, eqb-true, eq-eqb}
use lib.Dec.{leb}
use lib.ListN.{length, take, drop, get_or}
use Rattle.tables.specs.Kanji.{non_spacing, has_character}
use Rattle.tables.specs.Marks.{mark_test}
use Rattle.tables.specs.declared.MarkTest.{MarkTest}
use Rattle.reading.specs.Macros.{end_of, limit}
use Rattle.bookmark_form.specs.Form.{settings_hold, counts_hold, marks_hold, body_holds, bodies_hold, resumable}
use Rattle.bookmark_form.proofs.Below.{and_left, and_right, and_both, below_at, below_all}

-- ---- sets, elements and size

abbrev pub Settings : List ℕ → Type 0
Settings l =
    (get_or l 2 0 ≤ 31) × (get_or l 3 0 ≤ 31) × (get_or l 4 0 ≤ 31) × (get_or l 5 0 ≤ 31) × (get_or l 6 0 ≤ 3) × (get_or l 7 0 ≤ 3) × (get_or l 8 0 ≤ 1)

pub settings_known : (l : List ℕ) → settings_hold l ≡ true → Settings l
unfolding settings_hold
settings_known l e =
    let r2 = and_right (leb (get_or l 2 0) 31) _ e in
    let r3 = and_right (leb (get_or l 3 0) 31) _ r2 in
    let r4 = and_right (leb (get_or l 4 0) 31) _ r3 in
    let r5 = and_right (leb (get_or l 5 0) 31) _ r4 in
    let r6 = and_right (leb (get_or l 6 0) 3) _ r5 in
    let r7 = and_right (leb (get_or l 7 0) 3) _ r6 in (
      leb-true _ _ (and_left (leb (get_or l 2 0) 31) _ e),
      leb-true _ _ (and_left (leb (get_or l 3 0) 31) _ r2),
      leb-true _ _ (and_left (leb (get_or l 4 0) 31) _ r3),
      leb-true _ _ (and_left (leb (get_or l 5 0) 31) _ r4),
      leb-true _ _ (and_left (leb (get_or l 6 0) 3) _ r5),
      leb-true _ _ (and_left (leb (get_or l 7 0) 3) _ r6),
      leb-true _ _ r7,
    )

pub settings_hold_lem : (l : List ℕ) → Settings l → settings_hold l ≡ true
unfolding settings_hold
settings_hold_lem l h =
    and_both (le-leb _ _ h.0)
    (and_both (le-leb _ _ h.1)
    (and_both (le-leb _ _ h.2)
    (and_both (le-leb _ _ h.3) (and_both (le-leb _ _ h.4) (and_both (le-leb _ _ h.5) (le-leb _ _ h.6))))))

-- ---- place and counts

abbrev pub Counts : List ℕ → List ℕ → Type 0
Counts input l =
    (get_or l 1 0 ≤ length input) × (get_or l 9 0 ≤ 63) × (get_or l 10 0 ≤ 16) × (get_or l 284 0 ≤ limit input) × (get_or l 285 0 ≤ 0x7FFFFFFF)

pub counts_known : (input l : List ℕ) → counts_hold input l ≡ true → Counts input l
unfolding counts_hold
counts_known input l e =
    let r1 = and_right (leb (get_or l 1 0) (length input)) _ e in
    let r2 = and_right (leb (get_or l 9 0) 63) _ r1 in
    let r3 = and_right (leb (get_or l 10 0) 16) _ r2 in
    let r4 = and_right (leb (get_or l 284 0) (limit input)) _ r3 in (
      leb-true _ _ (and_left (leb (get_or l 1 0) (length input)) _ e),
      leb-true _ _ (and_left (leb (get_or l 9 0) 63) _ r1),
      leb-true _ _ (and_left (leb (get_or l 10 0) 16) _ r2),
      leb-true _ _ (and_left (leb (get_or l 284 0) (limit input)) _ r3),
      leb-true _ _ r4,
    )

pub counts_hold_lem : (input l : List ℕ) → Counts input l → counts_hold input l ≡ true
unfolding counts_hold
counts_hold_lem input l h =
    and_both (le-leb _ _ h.0)
    (and_both (le-leb _ _ h.1) (and_both (le-leb _ _ h.2) (and_both (le-leb _ _ h.3) (le-leb _ _ h.4))))

-- ---- marks

-- what a test of a character says
pub marked : (c : ℕ) {r : MarkTest} → r ≡ mark_test c → r.mark ≡ has_character non_spacing c
marked c e = ap (λ (t : MarkTest). t.mark) e

pub marks_known : (l : List ℕ) → marks_hold l ≡ true → (k : ℕ) → k < get_or l 10 0 → has_character non_spacing (get_or l (12 + k) 0) ≡ true
unfolding marks_hold
marks_known l e = below_at (get_or l 10 0) (λ k. has_character non_spacing (get_or l (12 + k) 0)) e

pub marks_hold_lem : (l : List ℕ) → ((k : ℕ) → k < get_or l 10 0 → has_character non_spacing (get_or l (12 + k) 0) ≡ true) → marks_hold l ≡ true
unfolding marks_hold
marks_hold_lem l h = below_all (get_or l 10 0) (λ k. has_character non_spacing (get_or l (12 + k) 0)) h

-- ---- bodies

pub body_known : (input : List ℕ) (start len : ℕ) → body_holds input start len ≡ true
    → (start + len ≤ length input) × (end_of (take len (drop start input)) ≡ len)
unfolding body_holds
body_known input start len e = (leb-true _ _ (and_left (leb (start + len) (length input)) _ e), eqb-true _ _ (and_right (leb (start + len) (length input)) _ e))

pub body_hold : (input : List ℕ) (start len : ℕ) → start + len ≤ length input → end_of (take len (drop start input)) ≡ len
    → body_holds input start len ≡ true
unfolding body_holds
body_hold input start len h q = and_both (le-leb _ _ h) (eq-eqb _ _ q)

abbrev pub Bodies : List ℕ → List ℕ → Type 0
Bodies input l = (code : ℕ) → code < 128
    → ((get_or l (28 + code) 0 - 1) + get_or l (156 + code) 0 ≤ length input)
    × (end_of (take (get_or l (156 + code) 0) (drop (get_or l (28 + code) 0 - 1) input)) ≡ get_or l (156 + code) 0)

pub bodies_known : (input l : List ℕ) → bodies_hold input l ≡ true → Bodies input l
unfolding bodies_hold
bodies_known input l e code h =
    body_known input _ _ (below_at 128 (λ code. body_holds input (get_or l (28 + code) 0 - 1) (get_or l (156 + code) 0)) e code h)

pub bodies_hold_lem : (input l : List ℕ) → Bodies input l → bodies_hold input l ≡ true
unfolding bodies_hold
bodies_hold_lem input l h =
    below_all 128 (λ code. body_holds input (get_or l (28 + code) 0 - 1) (get_or l (156 + code) 0)) (λ code k. let b = h code k in body_hold input _ _ b.0 b.1)

-- ---- all four

pub resumable_known : (input l : List ℕ) → resumable input l ≡ true
    → (settings_hold l ≡ true) × (counts_hold input l ≡ true) × (marks_hold l ≡ true) × (bodies_hold input l ≡ true)
unfolding resumable
resumable_known input l e =
    let r1 = and_right (settings_hold l) _ e in
    let r2 = and_right (counts_hold input l) _ r1 in (
      and_left (settings_hold l) _ e,
      and_left (counts_hold input l) _ r1,
      and_left (marks_hold l) _ r2,
      and_right (marks_hold l) _ r2,
    )

pub resumable_hold : (input l : List ℕ) → settings_hold l ≡ true → counts_hold input l ≡ true → marks_hold l ≡ true → bodies_hold input l ≡ true
    → resumable input l ≡ true
unfolding resumable
resumable_hold input l s c m b = and_both s (and_both c (and_both m b))

-- `tables::is_non_spacing` meets its contract. Assumes nothing.
use Rattle.std.proofs.Common.{ℕ, ◌≡◌, ◌<◌, ◌≤◌, get_or, eqb, arith}
use Rattle.std.specs.List.{position_or_len}
use Rattle.std.proofs.lemmas.Bool.{lt-ltb, le-ltb, eq-eqb, ne_eqb}
use Rattle.std.proofs.lemmas.List.Sums.{position_or_len_is}
use Rattle.tables.specs.Kanji.{non_spacing}
use Rattle.tables.specs.declared.Assignment.{Assignment}
use Rattle.tables.proofs.CellLaws.{outside, place_found, place_missing}
use Rattle.tables.proofs.MarkLaws.{lower, met, unmet}
use Rattle.tables.proofs.is_non_spacing.Goals as goal

-- std's search ends where the loop does
ends : (c i : ℕ) → i ≤ 7 → ((k : ℕ) → k < i → (get_or non_spacing k outside).character ≡ c → ⊥) → (i < 7 → (get_or non_spacing i outside).character ≡ c)
    → position_or_len (λ (a : Assignment). eqb a.character c) non_spacing ≡ i
ends c i h before here =
    position_or_len_is (λ (a : Assignment). eqb a.character c) non_spacing i outside h (λ k l. ne_eqb _ c (before k l)) (λ l. eq-eqb _ c (here l))

pub returns-then-c-lt768 : goal.returns-then-c-lt768
returns-then-c-lt768 c = lower c.args.c c.if-c-lt768.true

pub returns-then-a-c : goal.returns-then-a-c
returns-then-a-c c =
    let x = c.args.c in
    let i = c.loop-a.a-index in
    let e = ends x i (omega arith) c.loop-a.invariant.1 (λ _. c.if-a-c.true) in
    let p = place_found non_spacing x i (rw (e, lt-ltb i 7 c.loop-a-test.true)) in
    met x c.if-c-lt768.false p.0 (omega (arith, p.1, c.loop-a.invariant.0))

pub returns : goal.returns
returns c =
    let x = c.args.c in
    let i = c.loop-a.a-index in
    let e = ends x i (omega arith) c.loop-a.invariant.1 (λ l. absurd (omega arith)) in
    unmet x c.if-c-lt768.false (place_missing non_spacing x (rw (e, le-ltb i 7 c.loop-a-test.false))) (omega (arith, c.loop-a.invariant.0))

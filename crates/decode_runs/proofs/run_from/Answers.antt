-- `run_from` meets its contract. The invariant: what is spelt so far. Assumes nothing.
use Prim.Native.Nat.{◌+◌, ◌%◌, ◌≤◌, ◌<◌}
use mathlib.Core.Path.{◌≡◌, sym, ap, ◌∙◌}
use native.Mathlib.Omega.{arith}
use lib.ListN.{length, get_or}
use Rattle.utf8.specs.Utf8.{utf8}
use Rattle.lent.proofs.Stores.{sets_out}
use Rattle.decode_letters.proofs.Spelling.{letter_of_lem, letter_plain, three_bytes, one_byte, spells_letter, kanji_two, spells_pair}
use Rattle.decode_runs.proofs.Runs.{flag, yen_bytes, space_sum, spelt_more}
use Rattle.decode_runs.proofs.run_from.Goals as goal
use Rattle.decode_runs.proofs.run_from.Goals.{then-letter-ge2048, else-letter-ge2048+then-letter-lt128, else-letter-ge2048+else-letter-lt128+else-this-ne0}

pub overflow_add-m : goal.overflow_add-m
overflow_add-m g c =
    let w = c.in-Some.ensures in
    omega (arith, space_sum c.loop-i.invariant.room (omega (arith, c.well_formed)), c.loop-i-test.true, c.wide-m.ensures.count, three_bytes _ (omega (arith, w.low)) w.high)

pub loop-i-preserved-then-set-eq0 : goal.loop-i-preserved-then-set-eq0
loop-i-preserved-then-set-eq0 g c =
    let b = c.args.b.now in
    let i = c.loop-i.i in
    let w = c.in-Some.ensures in
    let x : get_or b i 0 < 256 = omega (arith, c.type_inv.b i) in
    let two = w.pair.two in
    let three : 3 ≡ length (utf8 c.in-Some.kanji) = three_bytes _ (omega (arith, w.low)) w.high in
    spelt_more 2 _ c.loop-i.invariant (omega arith) c.loop-i-test.true (omega arith)
    (spells_pair _ b i _ x (sym c.if-set-eq0.true ∙ c.set_of-set.ensures) kanji_two w.pair) w.ordinary c.wide-m.ensures.count (omega (arith, c.wide-m.ensures.count))
    (omega (arith, c.wide-m.ensures.count, c.loop-i-test.true)) c.wide-m.ensures.bytes

pub wide-m-requires-then-letter-ge2048-clause-c_bound : goal.wide-m-requires-then-letter-ge2048-clause-c_bound
wide-m-requires-then-letter-ge2048-clause-c_bound g c =
    let e = c.in-Some-initial_at.ensures in
    (c.if-letter-ge2048.true, (letter_of_lem c.args.sets.narrow e.0 (λ q. omega (arith, e.1, q)) (omega arith)).small)

pub overflow_add-m-then-letter-ge2048 : goal.overflow_add-m-then-letter-ge2048
overflow_add-m-then-letter-ge2048 g c =
    let e = c.in-Some-initial_at.ensures in
    let small = (letter_of_lem c.args.sets.narrow e.0 (λ q. omega (arith, e.1, q)) (omega arith)).small in
    omega (arith, space_sum c.loop-i.invariant.room (omega (arith, c.well_formed)), c.loop-i-test.true, c.wide-m-then-letter-ge2048.ensures.count, three_bytes _ c.if-letter-ge2048.true small)

pub overflow_add-m-then-letter-lt128 : goal.overflow_add-m-then-letter-lt128
overflow_add-m-then-letter-lt128 g c =
    omega (arith, space_sum c.loop-i.invariant.room (omega (arith, c.well_formed)), c.loop-i-test.true, c.ascii-m.ensures.count, one_byte _ c.if-letter-lt128.true)

pub overflow_add-m-else-this-ne0 : goal.overflow_add-m-else-this-ne0
overflow_add-m-else-this-ne0 g c =
    omega (arith, space_sum c.loop-i.invariant.room (omega (arith, c.well_formed)), c.loop-i-test.true)

pub loop-i-preserved : goal.loop-i-preserved
loop-i-preserved g c =
    let b = c.args.b.now in
    let i = c.loop-i.i in
    let l = c.in-Some-initial_at.letter in
    let narrow = c.args.sets.narrow in
    let e = c.in-Some-initial_at.ensures in
    let some : l ≡ 0 → ⊥ = λ q. omega (arith, e.1, q) in
    let w = letter_of_lem narrow e.0 some (omega arith) in
    let x : get_or b i 0 < 256 = omega (arith, c.type_inv.b i) in
    let spells = spells_letter c.args.cells.now b i c.args.sets x c.set_of-set.ensures e.0 some w in
    let plain = letter_plain narrow c.set_of-set.result (get_or b i 0 % 128) e.0 in
    let within : i + 1 ≤ length b = omega (arith, c.loop-i-test.true, c.requires.at_in_bounds.1) in
    elim c.if-letter-ge2048.branch [
      | then-letter-ge2048 v ↦
          let three : 3 ≡ length (utf8 l) = three_bytes l v.if-letter-ge2048.true w.small in
          let m = v.wide-m-then-letter-ge2048.ensures in
          rw (v.m-is, v.text-is)
          (spelt_more 1 l c.loop-i.invariant (omega arith) c.loop-i-test.true within spells plain m.count (omega (arith, m.count))
          (omega (arith, m.count, c.loop-i-test.true)) m.bytes)
      | else-letter-ge2048+then-letter-lt128 v ↦
          let one : 1 ≡ length (utf8 l) = one_byte l v.if-letter-lt128.true in
          let m = v.ascii-m.ensures in
          rw (v.m-is, v.text-is)
          (spelt_more 1 l c.loop-i.invariant (omega arith) c.loop-i-test.true within spells plain m.count (omega (arith, m.count))
          (omega (arith, m.count, c.loop-i-test.true)) m.bytes)
      | else-letter-ge2048+else-letter-lt128+else-this-ne0 v ↦
          let two : 2 ≡ length (utf8 l) = yen_bytes l v.if-letter-lt128.false v.if-letter-ge2048.false in
          let behind : length c.loop-i.text ≤ c.loop-i.m =
          omega (arith, c.loop-i.invariant.as_long, c.loop-i.invariant.room.behind (ap flag v.if-this-ne0.false)) in
          rw (v.m-is, v.text-is)
          (spelt_more 1 l c.loop-i.invariant (omega arith) c.loop-i-test.true within spells plain two (omega arith)
          (omega (arith, c.loop-i-test.true)) (sym (sets_out (utf8 l) c.loop-i.text c.loop-i.m behind)))
    ]

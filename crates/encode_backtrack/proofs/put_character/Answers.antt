-- `encode_backtrack::put_character` meets its contract: by the candidate's set. Assumes nothing.
use mathlib.Core.Path.{sym}
use native.Mathlib.Omega.{arith}
use Rattle.lent.proofs.Putting.{put_none, put_as}
use Rattle.encode_candidates.specs.Packed.{size_of}
use Rattle.encode_backtrack.proofs.Character.{written_none, written_plain, written_graphic}
use Rattle.encode_backtrack.proofs.put_character.Goals as goal

pub returns-then-j-candidates : goal.returns-then-j-candidates
returns-then-j-candidates c =
    let a = c.args in
    put_as (sym (written_none a.candidates.now a.how c.if-j-candidates.true)) (put_none a.coding.now a.at)

pub overflow_cast-candidate : goal.overflow_cast-candidate
overflow_cast-candidate c =
    let h = c.index-candidates-j.result.plain c.if-candidate-eq7.true in
    omega arith

pub returns-then-candidate-eq7 : goal.returns-then-candidate-eq7
returns-then-candidate-eq7 c =
    let a = c.args in
    let x = c.index-candidates-j.result in
    put_as (sym (written_plain a.candidates.now a.how x c.if-j-candidates.false c.index-candidates-j.is c.if-candidate-eq7.true)) (c.put_plain.ensures (size_of x.size))

pub put_graphic-requires : goal.put_graphic-requires
put_graphic-requires c =
    let x = c.index-candidates-j.result in
    (c.requires, omega (arith, x.six c.if-candidate-eq7.false), x.row, x.last)

pub returns : goal.returns
returns c =
    let a = c.args in
    let x = c.index-candidates-j.result in
    put_as (sym (written_graphic a.candidates.now a.how x c.if-j-candidates.false c.index-candidates-j.is c.if-candidate-eq7.false)) (c.put_graphic.ensures (size_of x.size))

-- `decoder` meets its contract. Assumes nothing.
use native.Mathlib.Omega.{arith}
use Rattle.bookmark_form.proofs.Resumes.{settings_known, counts_known, bodies_known, resumable_known}
use Rattle.bookmark_numbers.proofs.Reading.{restored}
use Rattle.bookmark_numbers.proofs.decoder.Goals as goal

pub restore-out-requires : goal.restore-out-requires
restore-out-requires c =
    let l = c.args.l.now in
    let k = resumable_known c.args.input.now l c.requires.l_value in
    let n = counts_known c.args.input.now l k.1 in
    (c.requires.input_len_bound.1, n.1, n.2, k.2)

pub overflow_cast-sets : goal.overflow_cast-sets
overflow_cast-sets c =
    omega (arith, (settings_known c.args.l.now (resumable_known c.args.input.now c.args.l.now c.requires.l_value).0).0)

pub overflow_cast-sets-2 : goal.overflow_cast-sets-2
overflow_cast-sets-2 c =
    omega (arith, (settings_known c.args.l.now (resumable_known c.args.input.now c.args.l.now c.requires.l_value).0).1)

pub overflow_cast-sets-3 : goal.overflow_cast-sets-3
overflow_cast-sets-3 c =
    omega (arith, (settings_known c.args.l.now (resumable_known c.args.input.now c.args.l.now c.requires.l_value).0).2)

pub overflow_cast-sets-4 : goal.overflow_cast-sets-4
overflow_cast-sets-4 c =
    omega (arith, (settings_known c.args.l.now (resumable_known c.args.input.now c.args.l.now c.requires.l_value).0).3)

pub overflow_cast-core : goal.overflow_cast-core
overflow_cast-core c =
    omega (arith, (settings_known c.args.l.now (resumable_known c.args.input.now c.args.l.now c.requires.l_value).0).4)

pub overflow_cast-core-2 : goal.overflow_cast-core-2
overflow_cast-core-2 c =
    omega (arith, (settings_known c.args.l.now (resumable_known c.args.input.now c.args.l.now c.requires.l_value).0).5)

pub read_bodies-macros-requires : goal.read_bodies-macros-requires
read_bodies-macros-requires c =
    let l = c.args.l.now in
    let input = c.args.input.now in
    let bodies = bodies_known input l (resumable_known input l c.requires.l_value).3 in
    record { l_len = c.requires.input_len_bound.1; by_index = λ code p. (omega (arith, (bodies code p).0, c.requires.input_len_bound.0), omega (arith, (bodies code p).0, c.requires.input_len_bound.0)) }

pub returns : goal.returns
returns c =
    let w = c.restore-out.ensures.len_value in
    restored c.args.input.now c.args.l.now c.requires.input_len_bound.0 c.requires.input_len_bound.1 c.requires.l_value c.args.width c.restore-out.ensures.by_index
    (record { len = w.0; end = w.1; issues = w.2; private_use = w.3; repeat = w.4 }) c.read_bodies-macros.ensures.starts c.read_bodies-macros.ensures.lens

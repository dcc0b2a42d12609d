-- `put_answer` meets its contract, by the question's number. Assumes nothing.
use Rattle.keys_form.proofs.Writing.{refused_put, newline_put}
use Rattle.keys_form.proofs.printing.put_answer.Goals as goal

pub returns-then-number-gt0 : goal.returns-then-number-gt0
returns-then-number-gt0 c =
    let a = c.args in
    let whole = refused_put a.at a.number a.len c.if-number-gt0.true (c.refused.ensures.put, c.refused.ensures.upper_bound) in
    record { put = whole.0; upper_bound = whole.1 }

pub returns : goal.returns
returns c =
    let a = c.args in
    let whole = newline_put a.at a.number a.len c.if-number-gt0.false c.word.ensures in
    record { put = whole.0; upper_bound = whole.1 }

-- `decode_with`: a question that fails refuses; else the decoding answers.
use mathlib.Core.Path.{refl, sym, ap, ◌∙◌}
use Rattle.questions.specs.Refusal.{refused, refused_at}
use Rattle.decode.proofs.Calls as calls
use Rattle.decode.proofs.call.decode_with.Goals as goal

pub decode_checked-requires : goal.decode_checked-requires
decode_checked-requires c = sym c.in-Ok.ensures.number

pub returns-in-Err : goal.returns-in-Err
returns-in-Err c =
    let a = c.args in
    calls.refused _ _ _ a.text.now a.issues.now _ _ c.in-Err.ensures.number c.in-Err.ensures.place refl refl c.refuse.ensures

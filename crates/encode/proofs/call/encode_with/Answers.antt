-- `encode::call::encode_with` meets its contract: questions 1 to 3, then the rest. Assumes nothing.
use mathlib.Core.Path.{sym}
use Rattle.encode.proofs.Outcomes.{refused_first}
use Rattle.encode.proofs.call.encode_with.Goals as goal

pub encode_checked-requires : goal.encode_checked-requires
encode_checked-requires c = sym c.in-Ok.ensures.number

pub returns-in-Err : goal.returns-in-Err
returns-in-Err c =
    refused_first _ _ _ _ c.args.store.now c.args.coding.now c.in-Err.ensures.number c.in-Err.ensures.place c.refuse.ensures

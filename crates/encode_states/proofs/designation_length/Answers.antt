-- `encode_states::designation_length` meets its contract: the bytes of the designation of a candidate's set, by its code, to the code element n.
use Rattle.encode_states.proofs.Elements.{to_first, kanji, symbols, one_byte}
use Rattle.encode_states.proofs.designation_length.Goals as goal

pub returns-then-n-eq0 : goal.returns-then-n-eq0
returns-then-n-eq0 c = to_first c.args.x c.args.n c.requires c.if-n-eq0.true

pub returns-then-x-eq0 : goal.returns-then-x-eq0
returns-then-x-eq0 c = kanji c.args.x c.args.n c.if-n-eq0.false c.if-x-eq0.true

pub returns-then-x-eq5 : goal.returns-then-x-eq5
returns-then-x-eq5 c =
    symbols c.args.x c.args.n c.if-n-eq0.false c.if-x-eq5.true

pub returns : goal.returns
returns c =
    one_byte c.args.x c.args.n c.requires c.if-x-eq0.false c.if-x-eq5.false

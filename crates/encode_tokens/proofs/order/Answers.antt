-- `encode_tokens::order` meets its contract, by the test for a mark. Assumes nothing.
use Rattle.tables.proofs.MarkLaws.{tested}
use Rattle.encode_tokens.specs.Steps.{token}
use Rattle.encode_tokens.proofs.Texts.{mark_first, base_first}
use Rattle.encode_tokens.proofs.order.Goals as goal

pub returns-then-is_non_spacing : goal.returns-then-is_non_spacing
returns-then-is_non_spacing c =
    let g = c.args in
    record { ordered = λ ts. mark_first (token g.base) g.next.place g.next.char ts (tested g.next.char c.is_non_spacing.ensures c.if-is_non_spacing.true) }

pub returns : goal.returns
returns c =
    let g = c.args in
    record { ordered = λ ts. base_first (token g.base) g.next.place g.next.char ts (tested g.next.char c.is_non_spacing.ensures c.if-is_non_spacing.false) }

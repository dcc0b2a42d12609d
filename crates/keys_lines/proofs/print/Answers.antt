-- `print` meets its contract. Assumes nothing.
use mathlib.Core.Path.{sym, ◌∙◌}
use Rattle.keys_lines.proofs.Writing.{malformed, well_formed}
use Rattle.keys_lines.proofs.print.Goals as goal

pub is_line-requires : goal.is_line-requires
is_line-requires c = c.tab_at-tab.ensures

pub returns-then-not-is_line : goal.returns-then-not-is_line
returns-then-not-is_line c = malformed _ _ _ c.trimmed-l.ensures (sym c.is_line.ensures ∙ c.if-not-is_line.true)

pub print_line-requires : goal.print_line-requires
print_line-requires c =
    record { line_value = (sym c.is_line.ensures ∙ c.if-not-is_line.false, c.tab_at-tab.ensures); print_room = c.requires }

pub returns : goal.returns
returns c = (
  c.print_line.ensures.0,
  well_formed _ _ _ c.trimmed-l.ensures
      (sym c.is_line.ensures ∙ c.if-not-is_line.false) ∙ c.print_line.ensures.1,
)

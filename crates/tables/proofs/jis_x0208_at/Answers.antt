-- `tables::jis_x0208_at` meets its contract. Assumes nothing.
use Rattle.std.proofs.Common.{◌∙◌}
use Rattle.tables.specs.Kanji.{kanji_overrides, jis_x0208_at}
use Rattle.tables.proofs.KanjiLaws.{assigned_find}
use Rattle.tables.proofs.jis_x0208_at.Goals as goal

pub returns : goal.returns
unfolding jis_x0208_at
returns c =
    rw (c.assigned_at.ensures, c.table_at.ensures) at c.unwrap_or.ensures ∙ assigned_find kanji_overrides c.args.row c.args.cell _

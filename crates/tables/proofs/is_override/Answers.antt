-- `tables::is_override` meets its contract. Assumes nothing.
use Rattle.std.proofs.Common.{◌∙◌, ap}
use Rattle.std.specs.Prelude.{is_some}
use Rattle.tables.specs.Kanji.{kanji_overrides}
use Rattle.tables.proofs.CellLaws.{has_position}
use Rattle.tables.proofs.is_override.Goals as goal

pub returns : goal.returns
returns c = c.is_some.ensures ∙ ap is_some c.place_with.ensures ∙ has_position kanji_overrides c.args.c

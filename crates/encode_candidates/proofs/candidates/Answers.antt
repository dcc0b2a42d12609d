-- `encode_candidates::candidates` meets its contract. Assumes nothing.
use mathlib.Core.Path.{sym, ap, ◌∙◌}
use mathlib.Core.List.{[], ◌∷◌}
use native.Mathlib.Omega.{arith}
use lib.ListN.{length}
use Rattle.tables.specs.Kanji.{non_spacing, cell_with}
use Rattle.coding.specs.Candidates.{Cand}
use Rattle.encode_states.specs.Packed.{set_of}
use Rattle.encode_candidates.specs.Packed.{packed, size_of}
use Rattle.encode_candidates.proofs.Adding.{one_more, likewise, cell_more, alone}
use Rattle.encode_candidates.proofs.Cases.{mark_grid, is_mark, no_mark, at_newline, at_mark, at_letter}
use Rattle.encode_candidates.proofs.candidates.Goals as goal

pub returns-then-c-eq10 : goal.returns-then-c-eq10
unfolding size_of
returns-then-c-eq10 c =
    let z = c.args in
    let a = likewise (one_more _ _ _ c.push.ensures) (ap (λ (y : Cand). y ∷ []) c.without_set.ensures) in
    record {
      few = omega (arith, a.count, ap length c.new-k.ensures);
      list = λ cells e f. alone c.new-k.ensures a ∙ at_newline cells z.annex z.c c.if-c-eq10.true;
    }

pub returns-then-mark-ne0 : goal.returns-then-mark-ne0
unfolding set_of size_of
returns-then-mark-ne0 c =
    let z = c.args in
    let a = c.with_cell.ensures in
    let o = c.pack-mark.ensures ∙ ap packed c.mark_cell.ensures in
    record {
      few = omega (arith, a.count, ap length c.new-k.ensures);
      list = λ cells e f.
          alone c.new-k.ensures (cell_more a (cell_with non_spacing z.c) (mark_grid z.c) o)
          ∙ at_mark cells z.annex z.c c.if-c-eq10.false (is_mark z.c (λ q. c.if-mark-ne0.true (o ∙ q)));
    }

pub returns : goal.returns
returns c =
    let z = c.args in
    let a = c.letters.ensures in
    let o = c.pack-mark.ensures ∙ ap packed c.mark_cell.ensures in
    record {
      few = a.few;
      list = λ cells e f.
          a.list cells e f
          ∙ at_letter cells z.annex z.c c.if-c-eq10.false (no_mark z.c (sym o ∙ c.if-mark-ne0.false));
    }

-- `encode_search::turn` meets its contract: the next layer, by the character's candidates. Assumes nothing.
use mathlib.Core.Path.{sym, ap, ◌∙◌}
use mathlib.Core.List.{List}
use Prim.Native.Nat.{ℕ, ◌-◌}
use Rattle.coding.specs.Candidates.{shortest}
use Rattle.encode_candidates.specs.declared.candidate.Candidate.{Candidate}
use Rattle.encode_candidates.specs.Packed.{cands_of}
use Rattle.encode_search.proofs.Matching.{turned}
use Rattle.encode_search.proofs.turn.Goals as goal

pub returns : goal.returns
returns c =
    let a = c.args in
    turned a.store.now _ a.at a.x a.annex _ _ c.advance.result (rw c.as_slice-2.ensures.value c.candidates-candidates.ensures)
    (c.saturating_sub.ensures ∙ ap (λ (y : ℕ). a.at.rest - y)
    (c.shortest.ensures ∙ ap (λ (l : List Candidate). shortest (cands_of l)) (c.as_slice.ensures.value ∙ sym c.as_slice-2.ensures.value))) c.advance.ensures

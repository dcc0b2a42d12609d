-- `encode_tokens::append` meets its contract: what the look-ups, the candidates and the shortest one ensure. Assumes nothing.
use mathlib.Core.Path.{ap, ◌∙◌}
use mathlib.Core.List.{List}
use native.Mathlib.Omega.{arith}
use Rattle.coding.specs.Candidates.{shortest}
use Rattle.encode_candidates.specs.declared.candidate.Candidate.{Candidate}
use Rattle.encode_candidates.specs.Packed.{packed, cands_of}
use Rattle.encode_tokens.proofs.Codes.{appended_none, appended_some}
use Rattle.encode_tokens.proofs.append.Goals as goal

pub returns-in-0 : goal.returns-in-0
returns-in-0 c =
    appended_none _ _ _ _ _ _ _ (c.pack-kanji.ensures ∙ ap packed c.kanji_reverse.ensures)
    (c.pack-symbol.ensures ∙ ap packed c.additional_reverse.ensures) c.candidates.ensures
    (c.shortest.ensures ∙ ap (λ (l : List Candidate). shortest (cands_of l)) c.as_slice.ensures.value) c.in-0.is

pub returns-in_default : goal.returns-in_default
returns-in_default c =
    appended_some _ _ _ _ _ _ _ (c.pack-kanji.ensures ∙ ap packed c.kanji_reverse.ensures)
    (c.pack-symbol.ensures ∙ ap packed c.additional_reverse.ensures) c.candidates.ensures
    (c.shortest.ensures ∙ ap (λ (l : List Candidate). shortest (cands_of l)) c.as_slice.ensures.value)
    (λ e. omega (arith, e))

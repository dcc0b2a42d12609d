-- `finish`: 8, 9, or the counts and zeros behind the result.
use Rattle.decode.proofs.Calls.{finish_8, finish_9, finish_0}
use Rattle.decode.proofs.call.finish.Goals as goal

pub returns-then-n-text : goal.returns-then-n-text
returns-then-n-text c =
    λ s t₀ i₀ h. finish_8 s t₀ i₀ _ _ _ h _ _ _ c.if-n-text.true c.refuse.ensures

pub returns-then-k-issues : goal.returns-then-k-issues
returns-then-k-issues c =
    λ s t₀ i₀ h. finish_9 s t₀ i₀ _ _ _ h _ _ _ c.if-n-text.false c.if-k-issues.true c.refuse-then-k-issues.ensures

pub returns : goal.returns
returns c =
    λ s t₀ i₀ h. finish_0 s t₀ i₀ _ _ _ h _ _ c.if-n-text.false c.if-k-issues.false c.clear.ensures c.clear-2.ensures

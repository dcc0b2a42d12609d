-- `encode_candidates::candidate::Candidate::length` meets its contract. Assumes nothing.
use mathlib.Core.Path.{◌≡◌, sym}
use native.Mathlib.Omega.{arith}
use Rattle.encode_candidates.specs.Packed.{cand, size_of}
use Rattle.encode_candidates.proofs.Lengths.{of_byte, of_bytes}
use Rattle.encode_candidates.proofs.candidate.Candidate.length.Goals as goal

pub returns-then-self-lt256 : goal.returns-then-self-lt256
unfolding cand
returns-then-self-lt256 c = sym (of_byte c.args.self.set _ (size_of c.args.self.size) c.if-self-lt256.true)

pub returns-else-self-lt256 : goal.returns-else-self-lt256
unfolding cand
returns-else-self-lt256 c =
    let none : c.args.self.set ≡ 7 → ⊥ = λ e. absurd (omega (arith, c.args.self.plain e, c.if-self-lt256.false)) in
    sym (of_bytes _ _ (size_of c.args.self.size) none c.if-self-lt256.false)

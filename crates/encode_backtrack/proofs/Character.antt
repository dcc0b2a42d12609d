-- The bytes of a character by a candidate of those that the code holds. Assumes nothing.
use mathlib.Core.Path.{◌≡◌, refl, sym, ap, ◌∙◌}
use mathlib.Core.List.{List, [], ◌∷◌}
use Prim.Native.Nat.{ℕ, zero, suc, ◌/◌, ◌%◌, ◌≤◌, ◌<◌}
use native.Mathlib.Omega.{arith}
use lib.ListN.{length, get_or}
use borrow.Author.Tests.{eq-eqb, ne_eqb}
use Rattle.coding.specs.Candidates.{Cand, graphic, plain}
use Rattle.encode_candidates.specs.Packed.{code_of, size_of, cand_of, cand, cands_of}
use Rattle.encode_candidates.specs.declared.candidate.Candidate.{Candidate}
use Rattle.encode_states.specs.Packed.{set_of}
use Rattle.encode_states.specs.Written.{written_by, written_at, written}

-- by the j-th candidate, and past the last
at : (l : List Candidate) (c : Candidate) (j z e d v : ℕ) → j < length l → written_at (cands_of l) j z e d v ≡ written_by (cand (get_or l j c)) z e d v
unfolding written_at
at [] c j z e d v h = absurd (omega arith)
at (b ∷ l) c zero z e d v h = refl
at (b ∷ l) c (suc j) z e d v h = at l c j z e d v (omega arith)

past : (l : List Candidate) (j z e d v : ℕ) → length l ≤ j → written_at (cands_of l) j z e d v ≡ []
unfolding written_at
past [] j z e d v h = refl
past (b ∷ l) zero z e d v h = absurd (omega arith)
past (b ∷ l) (suc j) z e d v h = past l j z e d v (omega arith)

module _ (l : List Candidate) (how : ℕ) where
  abbrev by : Cand → List ℕ
  by c = written_by c (how / 16 % 4) (how / 64 % 4) (how / 256 % 2) (how / 512)

  pub written_none : length l ≤ how % 16 → [] ≡ written (cands_of l) how
  unfolding written
  written_none h = sym (past l (how % 16) _ _ _ _ h)

  module _ (c : Candidate) (h : how % 16 < length l) (q : c ≡ get_or l (how % 16) c) where
    chosen : by (cand c) ≡ written (cands_of l) how
    unfolding written
    chosen = ap (λ (x : Candidate). by (cand x)) q ∙ sym (at l c (how % 16) _ _ _ _ h)

    pub written_plain : c.set ≡ 7 → by (plain c.code (size_of c.size)) ≡ written (cands_of l) how
    unfolding cand cand_of
    written_plain e = ap by (sym (rw (eq-eqb c.set 7 e) refl)) ∙ chosen

    pub written_graphic : (c.set ≡ 7 → ⊥) → by (graphic (set_of c.set) (code_of c.code) (size_of c.size)) ≡ written (cands_of l) how
    unfolding cand cand_of
    written_graphic e = ap by (sym (rw (ne_eqb c.set 7 e) refl)) ∙ chosen

-- The shortest code of a character has one or two bytes, and a character with a candidate has one. Assumes nothing.
use mathlib.Core.Path.{◌≡◌, sym, ap, ◌∙◌}
use mathlib.Core.Bool.{Bool}
use mathlib.Core.List.{List, [], ◌∷◌}
use Prim.Native.Nat.{ℕ}
use native.Mathlib.Omega.{arith}
use Rattle.tables_reverse.specs.Reverse.{kanji_reverse, additional_reverse}
use Rattle.coding.specs.Candidates.{Cand, candidates, shortest}
use Rattle.encode_candidates.specs.declared.candidate.Candidate.{Candidate}
use Rattle.encode_candidates.specs.Packed.{packed, cands_of, StandsForCandidates}
use Rattle.encode_candidates.proofs.Lengths.{short, nothing}
use Rattle.std.specs.Prelude.{Some, None}
use Rattle.encode_tokens.specs.Promises.{character}
use Rattle.encode_tokens.specs.declared.Character.{Character}
use Rattle.encode_tokens.specs.Steps.{shortest_of, Appended}

-- the shortest of a list of candidates
some_of : (n : ℕ) (l : List Cand) → (n ≡ 0 → ⊥) → n ≡ shortest l → Some n ≡ shortest_of l
unfolding shortest_of shortest
some_of n [] h e = absurd (h e)
some_of n (k ∷ ks) h e = ap Some e

-- a character with its cells, and the shortest of its candidates
module _ (cells : List ℕ) (annex_e : Bool) (c n kanji symbol : ℕ) (k : List Candidate) (p : kanji ≡ packed (kanji_reverse cells c)) (q : symbol ≡ packed (additional_reverse c))
    (s : StandsForCandidates c kanji symbol annex_e k) (e : n ≡ shortest (cands_of k)) where
  list : cands_of k ≡ candidates cells annex_e c
  list = s.list cells p q

  cells_of : ◌≡◌ {A = Character} (record { char = c; kanji = kanji; symbol = symbol }) (character cells c)
  cells_of = cc

  pub appended_none : n ≡ 0 → Appended cells annex_e c (record { char = c; kanji = kanji; symbol = symbol }) None
  unfolding shortest_of
  appended_none z =
      record { character = cells_of; shortest = sym (ap shortest_of (sym list ∙ nothing k (sym e ∙ z))); short = tt }

  pub appended_some : (n ≡ 0 → ⊥) → Appended cells annex_e c (record { char = c; kanji = kanji; symbol = symbol }) (Some n)
  appended_some h = record { character = cells_of; shortest = some_of n (candidates cells annex_e c) h (e ∙ ap shortest list); short = omega (arith, e, short k) }

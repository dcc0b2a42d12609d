-- The candidates of a character as the code holds them, and the list of `coding` that they stand for.
use Rattle.std.specs.Prelude.{ℕ, zero, suc, ◌+◌, ◌*◌, ◌/◌, ◌%◌, ◌≤◌, ◌≡◌, Bool, true, false, cond, List, [], ◌∷◌, ◌++◌, map, eqb, ltb, length, take}
use Rattle.std.proofs.Common.{zero-le, suc-le-suc}
use Rattle.std.proofs.Math.Option.{Option, none, some}
use Rattle.tables_reverse.specs.Reverse.{kanji_reverse, additional_reverse}
use Rattle.coding.specs.Candidates as coding
use Rattle.coding.specs.Candidates.{Cand, graphic, plain, of_place, candidates, code_length}
use Rattle.encode_states.specs.Packed.{set_of}
use Rattle.encode_candidates.specs.declared.candidate.Candidate.{Candidate}
use Rattle.encode_candidates.specs.declared.candidate.Cands.{Cands}
use Rattle.encode_candidates.specs.declared.candidate.Size.{Size}
use Rattle.encode_candidates.specs.declared.candidate.Size.TheVariants.{Either, Narrow, Wide}

-- a cell of a two-byte set in one number, 0 for none
unfoldable pub packed : Option (ℕ × ℕ) → ℕ
packed none = 0
packed (some (row, cell)) = row * 256 + cell

-- the bytes of a code in one number: one byte, or the row's and the cell's
unfoldable pub code_of : ℕ → List ℕ
code_of code = cond (ltb code 256) (code ∷ []) ((code / 256) ∷ (code % 256) ∷ [])

-- a candidate's size
unfoldable pub size_of : Size → coding.Size
size_of Either = coding.either
size_of Narrow = coding.narrow
size_of Wide = coding.wide

-- that of a number: 0 either, 1 narrow, else wide
unfoldable pub size_by_number : ℕ → coding.Size
size_by_number zero = coding.either
size_by_number (suc zero) = coding.narrow
size_by_number (suc (suc z)) = coding.wide

-- a candidate by its three numbers: 7 stands in the place of a set for SP and APR, which need none
unfoldable pub cand_of : ℕ → ℕ → coding.Size → Cand
unfolding set_of code_of
cand_of set code size = cond (eqb set 7) (plain code size) (graphic (set_of set) (code_of code) size)

unfoldable pub cand : Candidate → Cand
unfolding cand_of size_of
cand c = cand_of c.set c.code (size_of c.size)

-- its code is a byte, or a row's and a cell's
abbrev pub OneOrTwo : Cand → Type 0
OneOrTwo c = (1 ≤ code_length c) × (code_length c ≤ 2)

pub numbers_one_or_two : (set code : ℕ) (size : coding.Size) → OneOrTwo (cand_of set code size)
unfolding cand_of code_of code_length
numbers_one_or_two set code size = go (eqb set 7) (ltb code 256)
  where
    go : (d e : Bool) → OneOrTwo (cond d (plain code size) (graphic (set_of set) (cond e (code ∷ []) ((code / 256) ∷ (code % 256) ∷ [])) size))
    go true e = (suc-le-suc zero-le, suc-le-suc zero-le)
    go false true = (suc-le-suc zero-le, suc-le-suc zero-le)
    go false false = (suc-le-suc zero-le, suc-le-suc (suc-le-suc zero-le))

pub one_or_two : (c : Candidate) → OneOrTwo (cand c)
unfolding cand
one_or_two c = numbers_one_or_two c.set c.code (size_of c.size)

-- those that a list in a struct holds
unfoldable pub items : Cands → List Candidate
items k = take k.count k.all

-- all of them
abbrev pub cands_of : List Candidate → List Cand
cands_of l = map cand l

-- what a function promises that adds candidates l to those of k, n at most
pub record Adds (k : List Candidate) (l : List Cand) (n : ℕ) (r : List Candidate) : Type 0 where
  pub list : cands_of r ≡ cands_of k ++ l
  pub count : length r ≤ length k + n

-- one that adds the cell with a number, where there is one, as a candidate of a set and a size
pub record AddsCell (k : List Candidate) (set : ℕ) (size : coding.Size) (cell : ℕ) (r : List Candidate) : Type 0 where
  pub nowhere : cell ≡ 0 → cands_of r ≡ cands_of k
  pub there : (a b : ℕ) → 1 ≤ a → a ≤ 94 → b ≤ 94 → cell ≡ a * 256 + b → cands_of r ≡ cands_of k ++ of_place (set_of set) size (some (a, b))
  pub count : length r ≤ length k + 1

-- k stands for the candidates f of c, over every cell table in which its cell of the Kanji set is `kanji`, where its cell of the additional
-- symbols is `symbol`
pub record StandsFor (f : List ℕ → List Cand) (c kanji symbol : ℕ) (k : List Candidate) : Type 0 where
  pub few : length k ≤ 9
  pub list : (cells : List ℕ) → kanji ≡ packed (kanji_reverse cells c) → symbol ≡ packed (additional_reverse c) → cands_of k ≡ f cells

-- what `candidates` promises
abbrev pub StandsForCandidates : ℕ → ℕ → ℕ → Bool → List Candidate → Type 0
StandsForCandidates c kanji symbol annex_e k = StandsFor (λ cells. candidates cells annex_e c) c kanji symbol k

-- What the search left, from which the coding is written.
use Rattle.std.specs.Prelude.{ℕ, suc, ◌+◌, ◌≤◌, ◌<◌, ◌≡◌, Bool, List, [], length, get_or}
use Rattle.coding.specs.Candidates.{Cand, candidates}
use Rattle.coding.specs.Search.{begin, run, back}
use Rattle.encode_tokens.specs.declared.Character.{Character}
use Rattle.encode_search.specs.Layers.{HasCells, Older}

-- a character has its cells, and cs are its candidates
pub record Chosen (cells : List ℕ) (annex_e : Bool) (x : Character) (cs : List Cand) : Type 0 where
  pub list : cs ≡ candidates cells annex_e x.char
  pub has : HasCells cells x

-- Characters, and a node, at a number of the store s: the layers are those to which the search leads, by the characters' candidates, each node as one
-- number, and the node is one of the newest layer, to which a coding of so many bytes leads
pub record Searched (annex_e : Bool) (xs : List Character) (s : List ℕ) (node bytes : ℕ) : Type 0 where
  pub cells : List ℕ
  pub css : List (List Cand)
  pub initial : ℕ
  pub end : ℕ
  pub count : ℕ
  pub place : ℕ
  pub chosen : (j : ℕ) (d : Character) → j < length xs → Chosen cells annex_e (get_or xs j d) (get_or css j [])
  pub layers : Older css s (suc (length xs)) end count (run css (begin initial)).layers
  pub fits : end ≤ length s
  pub inside : place < count
  pub stands : node + count ≡ end + place
  pub bytes_are : bytes ≡ length (back (run css (begin initial)).layers place [])
  pub bytes_few : bytes ≤ 4294967295

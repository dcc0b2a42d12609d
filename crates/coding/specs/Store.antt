-- The store that a search needs: question 7, in the words of request 7. The search itself does not ask it.
use Rattle.std.specs.Prelude.{ℕ, ◌+◌, ◌*◌, ◌/◌, Bool, List, [], ◌∷◌, map, leb, length}
use Rattle.questions.specs.Questions.{all}
use Rattle.coding.specs.Candidates.{Cand}
use Rattle.coding.specs.Search.{Node, reach, top, keep, alone}

-- the states that question 7 counts at a layer: kept two or more layers back, kept in the previous layer, reached in this one before dropping
pub record Counts : Type 0 where
  pub older : ℕ
  pub previous : ℕ
  pub reached : ℕ

-- at each layer, of the characters with the candidates css; just before them the states `kept` are kept, and `older` states in the layers before that
unfoldable pub counts_from : List (List Cand) → ℕ → List Node → List Counts
unfolding reach keep
counts_from [] older kept = []
counts_from (cs ∷ css) older kept =
    let full : List Node = reach cs kept 0 [] in
    record { older = older; previous = length kept; reached = length full } ∷ counts_from css (older + length kept) (keep (top full) full)

-- before the first layer stands the start alone
unfoldable pub counts : List (List Cand) → ℕ → List Counts
unfolding counts_from
counts css initial = counts_from css 0 (alone initial)

-- "one for every state kept two or more layers back, plus four for every state kept in the previous layer and reached in this one": the numbers that
-- each layer needs
abbrev pub numbers : Counts → ℕ
numbers n = n.older + 4 * (n.previous + n.reached)

unfoldable pub needs : List (List Cand) → ℕ → List ℕ
unfolding counts
needs css initial = map numbers (counts css initial)

-- "at each layer, .. fits the slice"
unfoldable pub fit : ℕ → List ℕ → Bool
unfolding all
fit store_room ns = all (λ n. leb n store_room) ns

-- The older count, 01's, with which the laws compare: "the states kept in all layers before it, the start included, plus those reached in it before
-- dropping", "four to a state, a remainder unused"
abbrev pub states : Counts → ℕ
states n = n.older + n.previous + n.reached

unfoldable pub needs_states : List (List Cand) → ℕ → List ℕ
unfolding counts
needs_states css initial = map states (counts css initial)

abbrev pub fit_states : ℕ → List ℕ → Bool
fit_states store_room ns = fit (store_room / 4) ns

-- From a node back to the start: the layers of a search are linked, and what is written on the way is an admissible coding of the node's cost.
-- Assumes nothing.
use mathlib.Core.Path.{◌≡◌, refl, sym, subst}
use mathlib.Core.List.{List, [], ◌∷◌, ◌++◌, reverse_aux}
use Prim.Native.Nat.{ℕ, zero, suc, ◌+◌, ◌*◌, ◌≤◌, ◌<◌}
use native.Mathlib.Nat.{add-zero, zero-add, add-suc, suc-add}
use native.Mathlib.Omega.{arith}
use lib.ListN.{length, get_or, length-append}
use Rattle.coding.specs.State.{State, start}
use Rattle.coding.specs.Candidates.{Cand}
use Rattle.coding.specs.Search.{Node, node, reach, newest, least, keep, Run, layer, run, node_at, back}
use Rattle.coding.specs.Admissible.{Admissible}
use Rattle.base.specs.Lists.{All}
use Rattle.base.proofs.Every.{all_append, all_map, all_at}
use Rattle.laws_coding.proofs.Layers.{by_each, reached, reach_flat, all_every, keep_every}
use Rattle.laws_coding.proofs.Written.{OfTables, Step, each_steps}

-- the i-th node; past the end one that wrote nothing
abbrev pub at : List Node → ℕ → Node
at l i = get_or l i (node 0 0 (start 0) [])

-- a node and the one in the layer l from which it was reached
pub record Link (C : Type 0) (ks : List Cand) (l : List Node) (m : Node) : Type 0 where
  pub from : m.prev < length l
  pub step : Step C ks (at l m.prev) m.prev m

-- the layers, the newest first, after the characters with the candidates css, the last first
pub data Chain (C : Type 0) (s : State) : List (List Cand) → List (List Node) → Type 0 where
  begins : Chain C s [] ((node 0 0 s [] ∷ []) ∷ [])
  grows : {ks : List Cand} {css : List (List Cand)} {l : List Node} {ls : List (List Node)} → All (Link C ks (newest ls)) l → Chain C s css ls → Chain C s (ks ∷ css) (l ∷ ls)

-- a layer that a search reaches is linked
module _ (C : Type 0) (ks : List Cand) (fine : C → All OfTables ks) (l : List Node) where
  node_links : (n : Node) (i : ℕ) → i < length l → at l i ≡ n → All (Link C ks l) (by_each n i ks)
  node_links n i h e =
      all_map (Step C ks n i) (Link C ks l) (by_each n i ks) (λ m s.
      record { from = omega (arith, s.prev); step = subst (λ (j : ℕ). Step C ks (at l j) j m) (sym s.prev) (rw e s) }) (each_steps C ks n i ks fine (λ k m. m))

  reached_links : (ns : List Node) (i : ℕ) → ((j : ℕ) → j < length ns → (i + j < length l) × (at l (i + j) ≡ at ns j)) → All (Link C ks l) (reached ks ns i)
  unfolding reached
  reached_links [] i h = tt
  reached_links (n ∷ ns) i h =
      let q = rw (add-zero i) at (h 0 (omega arith)) in
      all_append (Link C ks l) (by_each n i ks) _ (node_links n i q.0 q.1) (reached_links ns (suc i) (λ j k. rw (suc-add, ← add-suc) (h (suc j) (omega arith))))

  layer_links : (top : ℕ) → All (Link C ks l) (keep top (reach ks l 0 []))
  layer_links top = rw reach_flat (keep_every (Link C ks l) top _ (all_every (Link C ks l) [] (reached ks l 0) tt (reached_links l 0 (λ j h. rw (zero-add j) (h, refl)))))

pub run_chain : (C : Type 0) (s : State) (css : List (List Cand)) → (C → All (All OfTables) css) → (done : List (List Cand)) (r : Run) → Chain C s done r.layers →
    Chain C s (reverse_aux css done) (run css r).layers
unfolding run layer
run_chain C s [] fine done r c = c
run_chain C s (ks ∷ css) fine done r c =
    let full = reach ks (newest r.layers) 0 [] in
    run_chain C s css (λ k. (fine k).1) (ks ∷ done) (layer r full css) (grows (layer_links C ks (λ k. (fine k).0) (newest r.layers) (least full + 10)) c)

-- backwards
node_at_lem : (l : List Node) (i : ℕ) → node_at l i ≡ ((at l i).bytes, (at l i).prev)
unfolding node_at
node_at_lem [] i = refl
node_at_lem (n ∷ ns) zero = refl
node_at_lem (n ∷ ns) (suc i) = node_at_lem ns i

module _ (C : Type 0) (s : State) where
  pub back_length : {css : List (List Cand)} {ls : List (List Node)} → Chain C s css ls → (i : ℕ) → i < length (newest ls) → (acc : List ℕ) →
      length (back ls i acc) ≡ (at (newest ls) i).cost + length acc
  unfolding back newest
  back_length begins zero h acc = omega arith
  back_length begins (suc i) h acc = absurd (omega arith)
  back_length (grows {ks = ks} {l = l} {ls = ls} a c) i h acc =
      let k = all_at (Link C ks (newest ls)) _ l a i h in
      let m = at l i in
      rw node_at_lem (omega (arith, back_length c m.prev k.from (m.bytes ++ acc), length-append m.bytes acc, k.step.cost))

  small : {css : List (List Cand)} {ls : List (List Node)} → C → s.narrow ≤ 1 → Chain C s css ls → (i : ℕ) → i < length (newest ls) → (at (newest ls) i).state.narrow ≤ 1
  unfolding newest
  small x z begins zero h = z
  small x z begins (suc i) h = absurd (omega arith)
  small x z (grows {ks = ks} {l = l} {ls = ls} a c) i h = let k = all_at (Link C ks (newest ls)) _ l a i h in k.step.small x (small x z c (at l i).prev k.from)

  pub back_writes : {css : List (List Cand)} {ls : List (List Node)} → C → s.narrow ≤ 1 → Chain C s css ls → (i : ℕ) → i < length (newest ls) →
      (rest : List (List Cand)) (acc : List ℕ) → Admissible (at (newest ls) i).state rest acc → Admissible s (reverse_aux css rest) (back ls i acc)
  unfolding back newest
  back_writes x z begins zero h rest acc d = d
  back_writes x z begins (suc i) h rest acc d = absurd (omega arith)
  back_writes x z (grows {ks = ks} {l = l} {ls = ls} a c) i h rest acc d =
      let k = all_at (Link C ks (newest ls)) _ l a i h in
      let m = at l i in
      rw node_at_lem (back_writes x z c m.prev k.from (ks ∷ rest) (m.bytes ++ acc) (k.step.writes x (small x z c m.prev k.from) rest acc d))

  at_most : (ks : List Cand) (p l : List Node) → C → All (Link C ks p) l → (i : ℕ) → length (at l i).bytes ≤ 9
  at_most ks p [] x a i = omega arith
  at_most ks p (n ∷ l) x a zero = a.0.step.nine x
  at_most ks p (n ∷ l) x a (suc i) = at_most ks p l x a.1 i

  pub back_nine : {css : List (List Cand)} {ls : List (List Node)} → C → Chain C s css ls → (i : ℕ) (acc : List ℕ) → length (back ls i acc) ≤ 9 * length css + length acc
  unfolding back
  back_nine x begins zero acc = omega arith
  back_nine x begins (suc i) acc = omega arith
  back_nine x (grows {ks = ks} {l = l} {ls = ls} a c) i acc =
      let m = at l i in
      rw node_at_lem (omega (arith, back_nine x c m.prev (m.bytes ++ acc), length-append m.bytes acc, at_most ks (newest ls) l x a i))

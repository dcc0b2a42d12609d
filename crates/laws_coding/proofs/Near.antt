-- A node near a state of another coding leads, when the coding writes a character, to a node of the next layer near it. Assumes nothing.
use mathlib.Core.Path.{◌≡◌}
use mathlib.Core.Bool.{true, cond}
use mathlib.Core.Logic.{◌⊎◌, inl, inr}
use mathlib.Core.List.{List, [], ◌∷◌, ◌++◌, map}
use Prim.Native.Nat.{ℕ, suc, ◌+◌, ◌≤◌, ◌<◌}
use native.Mathlib.Omega.{arith}
use lib.Dec.{eqb, leb}
use lib.ListN.{length, length-append, length-map}
use borrow.Author.Tests.{eqb-true, leb-true, leb-false}
use Rattle.coding.specs.Admissible.{Some, here, there}
use Rattle.coding.specs.State.{State, same_state, resize}
use Rattle.coding.specs.Candidates.{Size, either, narrow, wide, Cand}
use Rattle.coding.specs.Ways.{Way}
use Rattle.coding.specs.Search.{Node, node, size_bytes, sized, by_ways, by_cand, reach}
use Rattle.coding.specs.Admissible.{Sized, Shows, left, right, shifted, direct}
use Rattle.base.proofs.Tests.{by_test}
use Rattle.laws_coding.proofs.Somewhere.{some_map, some_left, some_right}
use Rattle.laws_coding.proofs.Distance.{distance, distance_same, resized, sized_closer}
use Rattle.laws_coding.proofs.WaysNear.{Within, single_one, ways_gl, ways_gr, ways_single}
use Rattle.laws_coding.proofs.Layers.{by_each, reached, reach_flat, all_some}

-- a node that, with the distance left, costs at most c
abbrev pub Near : State → ℕ → Node → Type 0
Near a c n = n.cost + distance n.state a ≤ c

-- the code elements of a state that a coding can be in
pub record Invokes (a : State) : Type 0 where
  pub gl_most : a.gl < 4
  pub gr_least : 1 ≤ a.gr
  pub gr_most : a.gr < 4

-- a size control is as long as the way that it saves
sized_near : (s a : State) (size : Size) → Sized a size → length (size_bytes s size) + distance (sized s size) a ≤ distance s a
unfolding size_bytes sized
sized_near s a either z = omega arith
sized_near s a narrow e =
    by_test (λ (l : List ℕ). length l + distance (resize s 1) a ≤ distance s a) (eqb s.narrow 0)
    (λ t. rw (← e) (omega (arith, eqb-true s.narrow 0 t, resized s a (λ q. omega (arith, eqb-true s.narrow 0 t)))))
    (λ t. rw (← e) (omega (arith, sized_closer s a)))
sized_near s a wide e =
    by_test (λ (l : List ℕ). length l + distance (resize s 0) a ≤ distance s a) (eqb s.narrow 1)
    (λ t. rw (← e) (omega (arith, resized s a (λ q. omega (arith, eqb-true s.narrow 1 t)))))
    (λ t. rw (← e) (omega (arith, sized_closer s a)))

-- the nodes by ways, by a candidate that a shows, by all candidates, from all nodes
pub ways_near : (a : State) (base i : ℕ) (pre code : List ℕ) (c : ℕ) {ws : List Way} → Some (Within a c) ws → Some (Near a (base + length pre + c + length code)) (by_ways base i pre code ws)
unfolding by_ways
ways_near a base i pre code c (here {x = w} h) =
    let q : Near a (base + length pre + c + length code) (node base i w.to (pre ++ (w.pre ++ map (λ b. b + w.hi) code))) = simp (length-append, length-map) (omega arith) in
    here q
ways_near a base i pre code c (there r) = there (ways_near a base i pre code c r)

module _ (a : State) (ok : Invokes a) (c : ℕ) where
  cand_near : (n : Node) (i : ℕ) → Near a c n → {k : Cand} {bs : List ℕ} → Shows a k bs → Some (Near a (c + length bs)) (by_cand n i k)
  unfolding by_cand
  cand_near n i h (left code size z) =
      some_map (ways_near a n.cost i (size_bytes n.state size) code _ (ways_gl (sized n.state size) a ok.gl_most)) (λ m q. omega (arith, sized_near n.state a size z))
  cand_near n i h (right code size z) =
      some_map (ways_near a n.cost i (size_bytes n.state size) code _ (ways_gr (sized n.state size) a ok.gr_least ok.gr_most))
      (λ m q. rw length-map (omega (arith, sized_near n.state a size z)))
  cand_near n i h (shifted code size e hi half z two four) =
      some_map (ways_near a n.cost i (size_bytes n.state size) code _ (ways_single (sized n.state size) a e two four))
      (λ m q. rw (length-append, length-map) (omega (arith, single_one e, sized_near n.state a size z)))
  cand_near n i h (direct b size z) =
      let q : Near a (c + 1) (node n.cost i (sized n.state size) (size_bytes n.state size ++ (b ∷ []))) = rw length-append (omega (arith, sized_near n.state a size z)) in
      here q

  each_near : (bs : List ℕ) (n : Node) (i : ℕ) → Near a c n → {ks : List Cand} → Some (λ k. Shows a k bs) ks → Some (Near a (c + length bs)) (by_each n i ks)
  unfolding by_each
  each_near bs n i h (here s) = some_left _ (cand_near n i h s)
  each_near bs n i h (there {x = k} r) = some_right (by_cand n i k) (each_near bs n i h r)

  reached_near : (bs : List ℕ) (ks : List Cand) → Some (λ k. Shows a k bs) ks → (i : ℕ) {ns : List Node} → Some (Near a c) ns → Some (Near a (c + length bs)) (reached ks ns i)
  unfolding reached
  reached_near bs ks s i (here {x = n} h) = some_left _ (each_near bs n i h s)
  reached_near bs ks s i (there {x = n} r) = some_right (by_each n i ks) (reached_near bs ks s (suc i) r)

cheaper : (a : State) (c : ℕ) (m n : Node) → same_state m.state n.state ≡ true → Near a c m ⊎ Near a c n → Near a c (cond (leb m.cost n.cost) m n)
cheaper a c m n e (inl h) = by_test (Near a c) (leb m.cost n.cost) (λ t. h) (λ t. omega (arith, leb-false m.cost n.cost t, distance_same m.state n.state a e))
cheaper a c m n e (inr h) = by_test (Near a c) (leb m.cost n.cost) (λ t. omega (arith, leb-true m.cost n.cost t, distance_same m.state n.state a e)) (λ t. h)

pub reach_near : (a : State) → Invokes a → (c : ℕ) (bs : List ℕ) (ks : List Cand) → Some (λ k. Shows a k bs) ks → (ns : List Node) → Some (Near a c) ns →
    Some (Near a (c + length bs)) (reach ks ns 0 [])
reach_near a ok c bs ks s ns r = rw reach_flat (all_some (Near a (c + length bs)) (cheaper a (c + length bs)) [] (reached ks ns 0) (inr (reached_near a ok c bs ks s 0 r)))

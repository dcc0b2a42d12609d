-- A push among nodes, by the place of the node's state. Assumes nothing.
use mathlib.Core.Path.{◌≡◌, refl, ap, ◌∙◌}
use mathlib.Core.Bool.{Bool, true, false, cond}
use mathlib.Core.List.{List, [], ◌∷◌, ◌++◌, map}
use Prim.Native.Nat.{ℕ, zero, suc, ◌≤◌, ◌<◌}
use native.Mathlib.Omega.{arith}
use lib.Dec.{leb}
use lib.ListN.{length, get_or, set}
use borrow.Author.Tests.{le-leb, lt-leb}
use Rattle.coding.specs.State.{same_state}
use Rattle.coding.specs.Candidates.{Cand}
use Rattle.coding.specs.Search.{Node, push}
use Rattle.encode_states.proofs.Same.{same_of, differ}
use Rattle.encode_layer.specs.declared.Entry.{Entry}
use Rattle.encode_layer.specs.Entries.{entry, node_of}

push_same : (m : Node) (ms : List Node) (n : Node) → same_state m.state n.state ≡ true → push (m ∷ ms) n ≡ cond (leb m.cost n.cost) m n ∷ ms
unfolding push
push_same m ms n e = rw (e, push)

push_other : (m : Node) (ms : List Node) (n : Node) → same_state m.state n.state ≡ false → push (m ∷ ms) n ≡ m ∷ push ms n
unfolding push
push_other m ms n e = rw (e, push)

-- a push never shortens a layer
pub push_grows : (l : List Node) (n : Node) → length l ≤ length (push l n)
unfolding push
push_grows [] n = omega arith
push_grows (m ∷ ms) n = go (same_state m.state n.state) refl (push_grows ms n)
  where
    go : (b : Bool) → same_state m.state n.state ≡ b → length ms ≤ length (push ms n) → length (m ∷ ms) ≤ length (push (m ∷ ms) n)
    go true e r = rw (push_same m ms n e) (omega arith)
    go false e r = rw (push_other m ms n e) (omega arith)

abbrev pub blank : Entry
blank = entry 0 0 0

module _ (cs : List Cand) where
  same_node : (m e : Entry) → m.state ≡ e.state → same_state (node_of cs m).state (node_of cs e).state ≡ true
  unfolding node_of
  same_node m e q = same_of m.state e.state q

  other_node : (m e : Entry) → (m.state ≡ e.state → ⊥) → same_state (node_of cs m).state (node_of cs e).state ≡ false
  unfolding node_of
  other_node m e q = differ m.state e.state q

  first_kept : (m e : Entry) (ms : List Node) → m.state ≡ e.state → m.cost ≤ e.cost → push (node_of cs m ∷ ms) (node_of cs e) ≡ node_of cs m ∷ ms
  unfolding node_of
  first_kept m e ms q h = push_same (node_of cs m) ms (node_of cs e) (same_node m e q) ∙ rw (le-leb m.cost e.cost h)

  first_replaced : (m e : Entry) (ms : List Node) → m.state ≡ e.state → e.cost < m.cost → push (node_of cs m ∷ ms) (node_of cs e) ≡ node_of cs e ∷ ms
  unfolding node_of
  first_replaced m e ms q h = push_same (node_of cs m) ms (node_of cs e) (same_node m e q) ∙ rw (lt-leb m.cost e.cost h)

  -- the state stands at the place p, at no greater cost; at a greater one; nowhere
  pub push_kept : (q : List Entry) (e : Entry) (p : ℕ) → p < length q → (get_or q p blank).state ≡ e.state → ((j : ℕ) → j < p → (get_or q j blank).state ≡ e.state → ⊥) →
      (get_or q p blank).cost ≤ e.cost → push (map (node_of cs) q) (node_of cs e) ≡ map (node_of cs) q
  push_kept [] e p l h n k = absurd (omega arith)
  push_kept (m ∷ ms) e zero l h n k = first_kept m e (map (node_of cs) ms) h k
  push_kept (m ∷ ms) e (suc p) l h n k =
      push_other (node_of cs m) (map (node_of cs) ms) (node_of cs e) (other_node m e (n 0 (omega arith))) ∙
      ap (λ (x : List Node). node_of cs m ∷ x) (push_kept ms e p (omega arith) h (λ j i. n (suc j) (omega arith)) k)

  pub push_replaced : (q : List Entry) (e : Entry) (p : ℕ) → p < length q → (get_or q p blank).state ≡ e.state → ((j : ℕ) → j < p → (get_or q j blank).state ≡ e.state → ⊥) →
      e.cost < (get_or q p blank).cost → push (map (node_of cs) q) (node_of cs e) ≡ map (node_of cs) (set q p e)
  push_replaced [] e p l h n k = absurd (omega arith)
  push_replaced (m ∷ ms) e zero l h n k = first_replaced m e (map (node_of cs) ms) h k
  push_replaced (m ∷ ms) e (suc p) l h n k =
      push_other (node_of cs m) (map (node_of cs) ms) (node_of cs e) (other_node m e (n 0 (omega arith))) ∙
      ap (λ (x : List Node). node_of cs m ∷ x) (push_replaced ms e p (omega arith) h (λ j i. n (suc j) (omega arith)) k)

  pub push_new : (q : List Entry) (e : Entry) → ((j : ℕ) → j < length q → (get_or q j blank).state ≡ e.state → ⊥) →
      push (map (node_of cs) q) (node_of cs e) ≡ map (node_of cs) (q ++ (e ∷ []))
  unfolding push
  push_new [] e n = refl
  push_new (m ∷ ms) e n =
      push_other (node_of cs m) (map (node_of cs) ms) (node_of cs e) (other_node m e (n 0 (omega arith))) ∙
      ap (λ (x : List Node). node_of cs m ∷ x) (push_new ms e (λ j i. n (suc j) (omega arith)))

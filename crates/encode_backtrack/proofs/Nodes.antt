-- The nodes of the layers in the store. Assumes nothing.
use mathlib.Core.Path.{◌≡◌, refl, ap, subst, ◌∙◌}
use mathlib.Core.List.{List, [], ◌∷◌, map}
use Prim.Native.Nat.{ℕ, zero, suc, ◌+◌, ◌*◌, ◌≤◌, ◌<◌}
use native.Mathlib.Omega.{arith}
use native.Mathlib.Numerals.{add-one}
use lib.ListN.{length, get_or, drop, length-map, drop_of_length-le}
use lib.Seq.{drop-cons}
use borrow.Author.Tests.{eq-eqb, ne_eqb}
use Rattle.coding.specs.State.{State}
use Rattle.coding.specs.Candidates.{Cand}
use Rattle.coding.specs.Search.{Node, node, newest, first_of, node_at}
use Rattle.encode_layer.specs.Entries.{entry, node_of, entries_of, layer_of, entry_at}
use Rattle.encode_search.specs.Layers.{last_of, OneNumber, Older, none, behind}
use Rattle.encode_layer.proofs.Entries.{length_of_lem, entry_of}
use Rattle.base.proofs.Every.{all_map}
use Rattle.laws_coding.proofs.Chains.{Link, Chain, begins, grows, at}
use Rattle.base.specs.Lists.{All}

get_map : {A B : Type 0} (f : A → B) (l : List A) (i : ℕ) (y : B) (x : A) → i < length l → get_or (map f l) i y ≡ f (get_or l i x)
get_map f [] i y x h = absurd (omega arith)
get_map f (a ∷ l) zero y x h = refl
get_map f (a ∷ l) (suc i) y x h = get_map f l i y x (omega arith)

pub node_at_lem : (l : List Node) (i : ℕ) → node_at l i ≡ ((at l i).bytes, (at l i).prev)
unfolding node_at
node_at_lem [] i = refl
node_at_lem (n ∷ ns) zero = refl
node_at_lem (n ∷ ns) (suc i) = node_at_lem ns i

module _ (s : List ℕ) (from count : ℕ) (fits : (from + count) * 4 ≤ length s) where
  pub length_layer : (cs : List Cand) → length (layer_of cs s from count) ≡ count
  unfolding layer_of
  length_layer cs = length-map (entries_of s from count) (node_of cs) ∙ length_of_lem s from count fits

  pub at_layer : (cs : List Cand) (i : ℕ) → i < count → at (layer_of cs s from count) i ≡ node_of cs (entry_at s (from + i))
  unfolding layer_of
  at_layer cs i h =
      let e = length_of_lem s from count fits in
      get_map (node_of cs) (entries_of s from count) i _ (entry 0 0 0) (omega arith) ∙ ap (node_of cs) (entry_of s from count fits i (entry 0 0 0) h)

-- layers, the newest first, from a start on: each node was reached from one of the layer before
pub data Linked (t : State) : List (List Node) → Type 0 where
  starts : Linked t ((node 0 0 t [] ∷ []) ∷ [])
  follows : {l : List Node} {ls : List (List Node)} → All (λ m. m.prev < length (newest ls)) l → Linked t ls → Linked t (l ∷ ls)

pub linked_of : {C : Type 0} {t : State} {css : List (List Cand)} {ls : List (List Node)} → Chain C t css ls → Linked t ls
linked_of begins = starts
linked_of (grows {l = l} {ls = ls} a c) = follows (all_map (Link _ _ (newest ls)) (λ m. m.prev < length (newest ls)) l (λ m k. k.from) a) (linked_of c)

linked_some : {t : State} {ls : List (List Node)} → Linked t ls → 1 ≤ length ls
linked_some starts = omega arith
linked_some (follows a c) = omega arith

pub linked_link : {t : State} {l : List Node} {ls : List (List Node)} → 1 ≤ length ls → Linked t (l ∷ ls) → All (λ m. m.prev < length (newest ls)) l
linked_link h starts = absurd (omega arith)
linked_link h (follows a c) = a

pub linked_rest : {t : State} {l : List Node} {ls : List (List Node)} → 1 ≤ length ls → Linked t (l ∷ ls) → Linked t ls
linked_rest h starts = absurd (omega arith)
linked_rest h (follows a c) = c

pub linked_start : {t : State} {l : List Node} → Linked t (l ∷ []) → l ≡ node 0 0 t [] ∷ []
linked_start starts = refl
linked_start (follows a c) = absurd (omega (arith, linked_some c))

-- the newest of the older layers: where it is, and what is before it
pub record Newest (css : List (List Cand)) (s : List ℕ) (j end count : ℕ) (ls : List (List Node)) : Type 0 where
  pub from : ℕ
  pub before : ℕ
  pub layer : List Node
  pub rest : List (List Node)
  pub older : Older css s j from before rest
  pub ends : end ≡ from + count
  pub long : count ≡ length layer
  pub whole : ls ≡ layer ∷ rest
  pub each : (i : ℕ) → i < count → OneNumber (last_of css j) s from before layer i

pub newest_of : {css : List (List Cand)} {s : List ℕ} {k end count : ℕ} {ls : List (List Node)} (j : ℕ) → k ≡ suc j → Older css s k end count ls → Newest css s j end count ls
newest_of j e none = absurd (omega arith)
newest_of {css} {s} j e (behind {j = i} {from = from} {before = before} {ls = ls} end count l x ee el o) =
    let q : i ≡ j = omega arith in
    record {
      from = from;
      before = before;
      layer = l;
      rest = ls;
      older = subst (λ (x : ℕ). Older css s x from before ls) q x;
      ends = ee;
      long = el;
      whole = refl;
      each = λ i h. subst (λ (x : ℕ). OneNumber (last_of css x) s from before l i) q (o i h);
    }

pub alone_of : {css : List (List Cand)} {s : List ℕ} {end count : ℕ} {ls : List (List Node)} → Older css s 0 end count ls → ls ≡ []
alone_of x = go refl x
  where
    go : {css : List (List Cand)} {s : List ℕ} {j end count : ℕ} {ls : List (List Node)} → j ≡ 0 → Older css s j end count ls → ls ≡ []
    go e none = refl
    go e (behind end count l x ee el o) = absurd (omega arith)

-- the first node of a cost, where none before the i-th has it
first_yes : (cost : ℕ) (n : Node) (l : List Node) → n.cost ≡ cost → first_of cost (n ∷ l) ≡ 0
unfolding first_of
first_yes cost n l e = rw (eq-eqb n.cost cost e, first_of) refl

first_no : (cost : ℕ) (n : Node) (l : List Node) → (n.cost ≡ cost → ⊥) → first_of cost (n ∷ l) ≡ suc (first_of cost l)
unfolding first_of
first_no cost n l e = rw (ne_eqb n.cost cost e, first_of) refl

first_nil : (cost : ℕ) → first_of cost [] ≡ 0
unfolding first_of
first_nil cost = refl

abbrev pub Passed : ℕ → List Node → ℕ → Type 0
Passed cost l i = first_of cost l ≡ i + first_of cost (drop i l)

pub passed_on : (cost : ℕ) (l : List Node) (i : ℕ) → i < length l → ((at l i).cost ≡ cost → ⊥) → Passed cost l i → Passed cost l (i + 1)
passed_on cost l i h ne e =
    let d : drop i l ≡ at l i ∷ drop (suc i) l = drop-cons l i _ h in
    let f = ap (first_of cost) d ∙ first_no cost (at l i) (drop (suc i) l) ne in
    let g : drop (i + 1) l ≡ drop (suc i) l = ap (λ (k : ℕ). drop k l) (add-one i) in
    rw g (omega (arith, e, f))

pub passed_here : (cost : ℕ) (l : List Node) (i : ℕ) → i < length l → (at l i).cost ≡ cost → Passed cost l i → i ≡ first_of cost l
passed_here cost l i h eq e =
    let d : drop i l ≡ at l i ∷ drop (suc i) l = drop-cons l i _ h in
    let f = ap (first_of cost) d ∙ first_yes cost (at l i) (drop (suc i) l) eq in
    omega (arith, e, f)

pub passed_all : (cost : ℕ) (l : List Node) (i : ℕ) → length l ≤ i → Passed cost l i → i ≡ first_of cost l
passed_all cost l i h e =
    let d : drop i l ≡ [] = drop_of_length-le l h in
    let f = ap (first_of cost) d ∙ first_nil cost in
    omega (arith, e, f)

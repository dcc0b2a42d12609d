-- A layer whose characters have candidates holds a node, and the first cheapest node is in it. Assumes nothing.
use mathlib.Core.Path.{◌≡◌, refl}
use mathlib.Core.Bool.{Bool, true, false}
use mathlib.Core.Logic.{inr}
use mathlib.Core.List.{List, [], ◌∷◌}
use Prim.Native.Nat.{ℕ, ◌+◌, ◌≤◌, ◌<◌, min}
use native.Mathlib.Omega.{arith}
use lib.Dec.{eqb, leb}
use lib.ListN.{length}
use borrow.Author.Tests.{eq-eqb, eqb-true, le-leb, leb-true, leb-false}
use Rattle.coding.specs.State.{set_in, designate}
use Rattle.coding.specs.Candidates.{Cand, graphic, plain}
use Rattle.coding.specs.Search.{Node, size_bytes, sized, by_cand, reach, newest, least, keep, Run, layer, run, first_of}
use Rattle.base.specs.Lists.{All}
use Rattle.coding.specs.Admissible.{Some, here, there}
use Rattle.laws_coding.proofs.Somewhere.{some_map, some_left}
use Rattle.laws_coding.proofs.WaysNear.{ways_single}
use Rattle.laws_coding.proofs.Near.{ways_near}
use Rattle.laws_coding.proofs.Layers.{by_each, reached, reach_flat, all_some}
use Rattle.laws_coding.proofs.Chains.{at}

-- a list is not empty
abbrev pub Filled : {A : Type 0} → List A → Type 0
Filled l = Some (λ x. Unit {0}) l

-- the least cost is that of a node, and no node costs less
least_some : (n : Node) (l : List Node) → Some (λ k. k.cost ≡ least (n ∷ l)) (n ∷ l)
unfolding least
least_some n [] = here refl
least_some n (m ∷ l) = go (leb n.cost (least (m ∷ l))) refl (least_some m l)
  where
    go : (b : Bool) → leb n.cost (least (m ∷ l)) ≡ b → Some (λ k. k.cost ≡ least (m ∷ l)) (m ∷ l) → Some (λ k. k.cost ≡ min n.cost (least (m ∷ l))) (n ∷ m ∷ l)
    go true e r = let q : n.cost ≡ min n.cost (least (m ∷ l)) = omega (arith, leb-true n.cost (least (m ∷ l)) e) in here q
    go false e r = there (some_map r (λ k h. omega (arith, leb-false n.cost (least (m ∷ l)) e)))

filled_least : (l : List Node) → Filled l → Some (λ k. k.cost ≡ least l) l
filled_least [] f = elim f [ ]
filled_least (n ∷ l) f = least_some n l

pub least_most : (c : ℕ) {l : List Node} → Some (λ n. n.cost ≤ c) l → least l ≤ c
unfolding least
least_most c (here {xs = []} h) = h
least_most c (here {xs = m ∷ l} h) = omega arith
least_most c (there {xs = []} r) = elim r [ ]
least_most c (there {xs = m ∷ l} r) = omega (arith, least_most c r)

-- the first node of that cost
first_at_lem : (c : ℕ) {l : List Node} → Some (λ n. n.cost ≡ c) l → (first_of c l < length l) × ((at l (first_of c l)).cost ≡ c)
unfolding first_of
first_at_lem c (here {x = n} {xs = l} h) = rw (eq-eqb n.cost c h, first_of) (omega arith, h)
first_at_lem c (there {x = n} {xs = l} r) = go (eqb n.cost c) refl (first_at_lem c r)
  where
    go : (b : Bool) → eqb n.cost c ≡ b → (first_of c l < length l) × ((at l (first_of c l)).cost ≡ c) → (first_of c (n ∷ l) < length (n ∷ l)) × ((at (n ∷ l) (first_of c (n ∷ l))).cost ≡ c)
    go true e q = rw (e, first_of) (omega arith, eqb-true n.cost c e)
    go false e q = rw (e, first_of) (omega arith, q.1)

pub cheapest : (l : List Node) → Filled l → (first_of (least l) l < length l) × ((at l (first_of (least l) l)).cost ≡ least l)
cheapest l f = first_at_lem (least l) (filled_least l f)

-- every state reaches a state by every candidate
cand_filled : (n : Node) (i : ℕ) (k : Cand) → Filled (by_cand n i k)
unfolding by_cand set_in designate
cand_filled n i (graphic x code size) =
    let s = sized n.state size in
    some_map (ways_near (designate s 2 x) n.cost i (size_bytes n.state size) code _ (ways_single s (designate s 2 x) 2 (omega arith) (omega arith))) (λ m h. tt)
cand_filled n i (plain b size) = here tt

reached_filled : (ks : List Cand) → Filled ks → (ns : List Node) → Filled ns → Filled (reached ks ns 0)
unfolding reached by_each
reached_filled [] f ns g = elim f [ ]
reached_filled (k ∷ ks) f [] g = elim g [ ]
reached_filled (k ∷ ks) f (n ∷ ns) g = some_left _ (some_left _ (cand_filled n 0 k))

keep_filled : (top : ℕ) {l : List Node} → Some (λ n. n.cost ≤ top) l → Filled (keep top l)
unfolding keep
keep_filled top (here {x = n} h) = rw (le-leb n.cost top h, keep) (here tt)
keep_filled top (there {x = n} {xs = l} r) = go (leb n.cost top) refl (keep_filled top r)
  where
    go : (b : Bool) → leb n.cost top ≡ b → Filled (keep top l) → Filled (keep top (n ∷ l))
    go true e f = rw (e, keep) (here tt)
    go false e f = rw (e, keep) f

pub run_filled : (css : List (List Cand)) → All Filled css → (r : Run) → Filled (newest r.layers) → Filled (newest (run css r).layers)
unfolding run layer newest
run_filled [] a r f = f
run_filled (ks ∷ css) a r f =
    let full = reach ks (newest r.layers) 0 [] in
    let filled : Filled full = rw reach_flat (all_some (λ n. Unit {0}) (λ m n e q. tt) [] (reached ks (newest r.layers) 0) (inr (reached_filled ks a.0 (newest r.layers) f))) in
    run_filled css a.1 (layer r full css) (keep_filled (least full + 10) (some_map (filled_least full filled) (λ n h. omega arith)))

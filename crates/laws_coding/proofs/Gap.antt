-- The floor is the least of what was dropped, and an admissible coding ends no shorter than a kept node or a dropped one. Assumes nothing.
use mathlib.Core.Path.{◌≡◌, refl}
use mathlib.Core.Bool.{Bool, true, false, cond}
use mathlib.Core.Logic.{◌⊎◌, inl, inr, ⊎_elim, ⊎_map}
use mathlib.Core.List.{List, [], ◌∷◌, ◌++◌}
use Prim.Native.Nat.{ℕ, zero, suc, ◌+◌, ◌≤◌, min}
use native.Mathlib.Nat.{add_assoc}
use native.Mathlib.Omega.{arith}
use lib.Dec.{leb}
use lib.ListN.{length, length-append, length-map}
use borrow.Author.Tests.{leb-true, leb-false}
use Rattle.coding.specs.Admissible.{Some, here, there}
use Rattle.coding.specs.State.{State, designate}
use Rattle.coding.specs.Candidates.{Cand, code_length, shortest, rest_of}
use Rattle.coding.specs.Search.{Node, reach, least, keep, lower, floor_of, Run, newest, layer, run}
use Rattle.coding.specs.Admissible.{Shows, left, right, shifted, direct, Control, designates, locks_gl, locks_gr, msz, nsz, Admissible, done, control, write}
use Rattle.laws_coding.specs.Coding.{overs, dropped, Least}
use Rattle.laws_coding.proofs.Somewhere.{some_map, some_left, some_right}
use Rattle.laws_coding.proofs.Distance.{controlled}
use Rattle.laws_coding.proofs.Near.{Near, Invokes, reach_near}

-- the floor after the sums of a list
unfoldable pub lowered : ℕ → List ℕ → ℕ
unfolding lower
lowered f [] = f
lowered f (x ∷ l) = lowered (lower f x) l

lowered_append : (f : ℕ) (l m : List ℕ) → lowered f (l ++ m) ≡ lowered (lowered f l) m
unfolding lowered
lowered_append f [] m = refl
lowered_append f (x ∷ l) m = lowered_append (lower f x) l m

layer_floor : (top rest f : ℕ) (ns : List Node) → floor_of top rest f ns ≡ lowered f (overs top rest ns)
unfolding floor_of overs lowered
layer_floor top rest f [] = refl
layer_floor top rest f (n ∷ ns) = go (leb n.cost top) (λ g. layer_floor top rest g ns)
  where
    go : (b : Bool) → ((g : ℕ) → floor_of top rest g ns ≡ lowered g (overs top rest ns)) →
        floor_of top rest (cond b f (lower f (n.cost + rest))) ns ≡ lowered f (cond b [] ((n.cost + rest) ∷ []) ++ overs top rest ns)
    go true h = h f
    go false h = h (lower f (n.cost + rest))

pub run_floor : (css : List (List Cand)) (r : Run) → (run css r).floor ≡ lowered r.floor (dropped css (newest r.layers))
unfolding run dropped lowered newest
run_floor [] r = refl
run_floor (ks ∷ css) r =
    let full = reach ks (newest r.layers) 0 [] in
    cc (
      run_floor css (layer r full css),
      layer_floor (least full + 10) (rest_of css) r.floor full,
      lowered_append r.floor (overs (least full + 10) (rest_of css) full) (dropped css (keep (least full + 10) full)),
    )

-- it is their least, and one more
pub record Floor (f : ℕ) (l : List ℕ) : Type 0 where
  pub value : ℕ
  pub is : f ≡ suc value
  pub least : Least value l

lowest : (a : ℕ) (l : List ℕ) → Floor (lowered (suc a) l) (a ∷ l)
unfolding lowered
lowest a [] = record { value = a; is = refl; least = record { among = here refl; none_less = (omega arith, tt) } }
lowest a (x ∷ l) =
    let f = lowest (min a x) l in
    let q = f.least.none_less in
    record { value = f.value; is = f.is; least = record { among = go (leb a x) refl f.least.among; none_less = (omega (arith, q.0), (omega (arith, q.0), q.1)) } }
  where
    go : (b : Bool) → leb a x ≡ b → {m : ℕ} → Some (λ y. y ≡ m) (min a x ∷ l) → Some (λ y. y ≡ m) (a ∷ x ∷ l)
    go true e {m} (here h) = let q : a ≡ m = omega (arith, leb-true a x e) in here q
    go false e {m} (here h) = let q : x ≡ m = omega (arith, leb-false a x e) in there (here q)
    go true e (there r) = there (there r)
    go false e (there r) = there (there r)

pub floor_least : (x : ℕ) (l : List ℕ) → Floor (lowered 0 (x ∷ l)) (x ∷ l)
unfolding lowered
floor_least x l = lowest x l

-- a coding is no shorter than the shortest codes of its characters
shown : {a : State} {k : Cand} {bs : List ℕ} → Shows a k bs → code_length k ≤ length bs
unfolding code_length
shown (left code size z) = omega arith
shown (right code size z) = rw length-map (omega arith)
shown (shifted code size n h half z two four) = rw (length-append, length-map) (omega arith)
shown (direct b size z) = omega arith

shortest_most : {a : State} (bs : List ℕ) {ks : List Cand} → Some (λ k. Shows a k bs) ks → shortest ks ≤ length bs
unfolding shortest
shortest_most bs (here {xs = []} s) = shown s
shortest_most bs (here {xs = k ∷ ks} s) = omega (arith, shown s)
shortest_most bs (there {xs = []} r) = elim r [ ]
shortest_most bs (there {xs = k ∷ ks} r) = omega (arith, shortest_most bs r)

rest_most : {a : State} {css : List (List Cand)} {bs : List ℕ} → Admissible a css bs → rest_of css ≤ length bs
unfolding rest_of
rest_most (done s) = omega arith
rest_most (control {bs = bs} {cs = cs} k d) = rw length-append (omega (arith, rest_most d))
rest_most (write {bs = bs} {cs = cs} w d) = rw length-append (omega (arith, shortest_most bs w, rest_most d))

-- its controls leave the code elements in place
invokes : {a t : State} {bs : List ℕ} → Control a bs t → Invokes a → Invokes t
unfolding designate
invokes (designates x zero l h) ok = record { gl_most = ok.gl_most; gr_least = ok.gr_least; gr_most = ok.gr_most }
invokes (designates x (suc zero) l h) ok = record { gl_most = ok.gl_most; gr_least = ok.gr_least; gr_most = ok.gr_most }
invokes (designates x (suc (suc zero)) l h) ok = record { gl_most = ok.gl_most; gr_least = ok.gr_least; gr_most = ok.gr_most }
invokes (designates x (suc (suc (suc n))) l h) ok = record { gl_most = ok.gl_most; gr_least = ok.gr_least; gr_most = ok.gr_most }
invokes (locks_gl n h) ok = record { gl_most = h; gr_least = ok.gr_least; gr_most = ok.gr_most }
invokes (locks_gr n l h) ok = record { gl_most = ok.gl_most; gr_least = l; gr_most = h }
invokes msz ok = record { gl_most = ok.gl_most; gr_least = ok.gr_least; gr_most = ok.gr_most }
invokes nsz ok = record { gl_most = ok.gl_most; gr_least = ok.gr_least; gr_most = ok.gr_most }

-- a node near it is kept, or dropped with a sum
kept_or_dropped : (a : State) (top rest c : ℕ) {ns : List Node} → Some (Near a c) ns → Some (Near a c) (keep top ns) ⊎ Some (λ x. x ≤ c + rest) (overs top rest ns)
unfolding keep overs
kept_or_dropped a top rest c (here {x = n} {xs = ns} h) = go (leb n.cost top) refl
  where
    go : (b : Bool) → leb n.cost top ≡ b → Some (Near a c) (keep top (n ∷ ns)) ⊎ Some (λ x. x ≤ c + rest) (overs top rest (n ∷ ns))
    go true e = inl (rw (e, keep) (here h))
    go false e = let q : n.cost + rest ≤ c + rest = omega arith in inr (rw e (here q))
kept_or_dropped a top rest c (there {x = n} {xs = ns} r) = go (leb n.cost top) refl (kept_or_dropped a top rest c r)
  where
    go : (b : Bool) → leb n.cost top ≡ b → Some (Near a c) (keep top ns) ⊎ Some (λ x. x ≤ c + rest) (overs top rest ns) →
        Some (Near a c) (keep top (n ∷ ns)) ⊎ Some (λ x. x ≤ c + rest) (overs top rest (n ∷ ns))
    go true e (inl q) = inl (rw (e, keep) (there q))
    go false e (inl q) = inl (rw (e, keep) q)
    go true e (inr q) = inr (some_right (cond (leb n.cost top) [] ((n.cost + rest) ∷ [])) q)
    go false e (inr q) = inr (some_right (cond (leb n.cost top) [] ((n.cost + rest) ∷ [])) q)

-- from a state near a kept node it ends no shorter than a node kept last or a sum
pub ends : {a : State} {css : List (List Cand)} {bs : List ℕ} → Admissible a css bs → (r : Run) (c : ℕ) → Invokes a → Some (Near a c) (newest r.layers) →
    Some (λ n. n.cost ≤ c + length bs) (newest (run css r).layers) ⊎ Some (λ x. x ≤ c + length bs) (dropped css (newest r.layers))
unfolding run dropped newest
ends (done s) r c ok q = inl (some_map q (λ n h. omega arith))
ends (control {bs = bs} {cs = cs} k d) r c ok q = rw (length-append bs cs, ← add_assoc) (ends d r (c + length bs) (invokes k ok) (some_map q (λ n h. omega (arith, controlled n.state k))))
ends (write {s = s} {ks = ks} {css = css} {bs = bs} {cs = cs} w d) r c ok q =
    let full = reach ks (newest r.layers) 0 [] in
    rw (length-append bs cs, ← add_assoc) (
    ⊎_elim (λ k. ⊎_map (λ x. x) (some_right (overs (least full + 10) (rest_of css) full)) (ends d (layer r full css) (c + length bs) ok k))
    (λ x. inr (some_left _ (some_map x (λ y h. omega (arith, rest_most d)))))
    (kept_or_dropped s (least full + 10) (rest_of css) (c + length bs) (reach_near s ok c bs ks w (newest r.layers) q))
    )

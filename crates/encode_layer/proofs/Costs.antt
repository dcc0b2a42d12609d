-- The costs of a layer: the least, and the floor. Assumes nothing.
use mathlib.Core.Path.{◌≡◌, refl, sym, ap, ◌∙◌}
use mathlib.Core.List.{List, [], ◌∷◌}
use Prim.Native.Nat.{ℕ, zero, suc, ◌+◌, ◌*◌, ◌≤◌, ◌<◌, min}
use native.Mathlib.Numerals.{add-one}
use native.Mathlib.Omega.{arith}
use lib.ListN.{length, get_or, drop, drop_of_length-le, length-map, get_or-map}
use lib.Seq.{drop-cons}
use borrow.Author.Tests.{le-leb, lt-leb}
use Rattle.base.specs.Lists.{All}
use Rattle.base.proofs.Every.{all_at}
use Rattle.coding.specs.Candidates.{Cand}
use Rattle.coding.specs.Search.{Node, least, lower, floor_of}
use Rattle.encode_layer.specs.declared.Entry.{Entry}
use Rattle.encode_layer.specs.Entries.{node_of, entries_of, layer_of}
use Rattle.encode_layer.proofs.Entries.{length_of_lem, entry_of}
use Rattle.encode_layer.proofs.Pushing.{blank}

module _ (cs : List Cand) (s : List ℕ) (from count : ℕ) (fits : (from + count) * 4 ≤ length s) where
  pub length_layer : length (layer_of cs s from count) ≡ count
  unfolding layer_of
  length_layer = length-map (entries_of s from count) (node_of cs) ∙ length_of_lem s from count fits

  pub layer_cost : (i : ℕ) → i < count → (get_or (layer_of cs s from count) i (node_of cs blank)).cost ≡ get_or s ((from + i) * 4 + 1) 0
  unfolding layer_of node_of
  layer_cost i h = ap (λ (n : Node). n.cost) (get_or-map (node_of cs) (entries_of s from count) i blank) ∙ ap (λ (e : Entry). e.cost) (entry_of s from count fits i blank h)

split : (l : List Node) (i : ℕ) (z : Node) → i < length l → drop i l ≡ get_or l i z ∷ drop (i + 1) l
split l i z h = rw add-one (drop-cons l i z h)

least_last : (l : List Node) (i : ℕ) (z : Node) → i + 1 ≡ length l → least (drop i l) ≡ (get_or l i z).cost
unfolding least
least_last l i z h =
    let e : drop (i + 1) l ≡ [] = drop_of_length-le l {i = i + 1} (omega arith) in
    rw (split l i z (omega arith), e)

least_more : (l : List Node) (i : ℕ) (z : Node) → i + 1 < length l → least (drop i l) ≡ min (get_or l i z).cost (least (drop (i + 1) l))
unfolding least
least_more l i z h = rw (split l i z (omega arith), split l (i + 1) z h)

module _ (s : List ℕ) (from count : ℕ) (fits : (from + count) * 4 ≤ length s) where
  -- the least of no nodes, of the last, and of one more
  pub least_none : count ≡ 0 → (cs : List Cand) → 0 ≡ least (layer_of cs s from count)
  unfolding least layer_of entries_of
  least_none e cs = rw e

  pub least_first : (i : ℕ) → i + 1 ≡ count → (cs : List Cand) → get_or s ((from + i) * 4 + 1) 0 ≡ least (drop i (layer_of cs s from count))
  least_first i h cs =
      let n = length_layer cs s from count fits in
      sym (layer_cost cs s from count fits i (omega arith)) ∙ sym (least_last (layer_of cs s from count) i (node_of cs blank) (omega arith))

  module _ (m i best : ℕ) (e : i + 1 ≡ m) (h : m < count) (k : (cs : List Cand) → best ≡ least (drop m (layer_of cs s from count))) where
    more : (cs : List Cand) → least (drop i (layer_of cs s from count)) ≡ min (get_or s ((from + i) * 4 + 1) 0) best
    more cs =
        let n = length_layer cs s from count fits in
        let b : best ≡ least (drop (i + 1) (layer_of cs s from count)) = k cs ∙ ap (λ (x : ℕ). least (drop x (layer_of cs s from count))) (sym e) in
        rw (b, ← layer_cost cs s from count fits i (omega arith)) (least_more (layer_of cs s from count) i (node_of cs blank) (omega arith))

    pub least_less : get_or s ((from + i) * 4 + 1) 0 ≤ best → (cs : List Cand) → get_or s ((from + i) * 4 + 1) 0 ≡ least (drop i (layer_of cs s from count))
    least_less l cs = omega (arith, more cs)

    pub least_same : best < get_or s ((from + i) * 4 + 1) 0 → (cs : List Cand) → best ≡ least (drop i (layer_of cs s from count))
    least_same l cs = omega (arith, more cs)

-- the floor lowered
pub lower_none : (f b : ℕ) → f ≡ 0 → b + 1 ≡ lower f b
unfolding lower
lower_none f b e = rw e (omega arith)

pub lower_less : (f b : ℕ) → (f ≡ 0 → ⊥) → b < f → b + 1 ≡ lower f b
unfolding lower
lower_less zero b n h = absurd (n refl)
lower_less (suc f) b n h = omega arith

pub lower_same : (f b : ℕ) → (f ≡ 0 → ⊥) → f ≤ b → f ≡ lower f b
unfolding lower
lower_same zero b n h = absurd (n refl)
lower_same (suc f) b n h = omega arith

floor_kept : (most rest f : ℕ) (n : Node) (ns : List Node) → n.cost ≤ most → floor_of most rest f (n ∷ ns) ≡ floor_of most rest f ns
unfolding floor_of
floor_kept most rest f n ns h = rw (le-leb n.cost most h)

floor_dropped : (most rest f : ℕ) (n : Node) (ns : List Node) → most < n.cost → floor_of most rest f (n ∷ ns) ≡ floor_of most rest (lower f (n.cost + rest)) ns
unfolding floor_of
floor_dropped most rest f n ns h = rw (lt-leb n.cost most h)

-- the floor so far, f, gives with what is left from i on the layer's
abbrev pub Floored : List ℕ → ℕ → ℕ → ℕ → ℕ → ℕ → ℕ → ℕ → Type 0
Floored s from count most rest low f i = (cs : List Cand) → floor_of most rest f (drop i (layer_of cs s from count)) ≡ floor_of most rest low (layer_of cs s from count)

module _ (s : List ℕ) (from count : ℕ) (fits : (from + count) * 4 ≤ length s) (most rest low f i : ℕ) (g : Floored s from count most rest low f i) where
  pub floored_kept : i < count → get_or s ((from + i) * 4 + 1) 0 ≤ most → Floored s from count most rest low f (i + 1)
  floored_kept h k cs =
      let n = length_layer cs s from count fits in
      let c = layer_cost cs s from count fits i h in
      let l = layer_of cs s from count in
      let z = node_of cs blank in
      sym (floor_kept most rest f (get_or l i z) (drop (i + 1) l) (omega arith)) ∙ (ap (floor_of most rest f) (sym (split l i z (omega arith))) ∙ g cs)

  pub floored_dropped : i < count → most < get_or s ((from + i) * 4 + 1) 0 → Floored s from count most rest low (lower f (get_or s ((from + i) * 4 + 1) 0 + rest)) (i + 1)
  floored_dropped h k cs =
      let n = length_layer cs s from count fits in
      let c = layer_cost cs s from count fits i h in
      let l = layer_of cs s from count in
      let z = node_of cs blank in
      ap (λ (x : ℕ). floor_of most rest (lower f (x + rest)) (drop (i + 1) l)) (sym c) ∙
      (sym (floor_dropped most rest f (get_or l i z) (drop (i + 1) l) (omega arith)) ∙ (ap (floor_of most rest f) (sym (split l i z (omega arith))) ∙ g cs))

  pub floored_end : count ≤ i → (cs : List Cand) → f ≡ floor_of most rest low (layer_of cs s from count)
  unfolding floor_of
  floored_end h cs =
      let n = length_layer cs s from count fits in
      let e : drop i (layer_of cs s from count) ≡ [] = drop_of_length-le (layer_of cs s from count) {i = i} (omega arith) in
      rw e at (g cs)

pub cost_bound : (s : List ℕ) (from count : ℕ) → (from + count) * 4 ≤ length s → All (λ e. e.cost ≤ 65535) (entries_of s from count) → (i : ℕ) → i < count →
    get_or s ((from + i) * 4 + 1) 0 ≤ 65535
cost_bound s from count fits a i h =
    rw (entry_of s from count fits i blank h) at (all_at (λ e. e.cost ≤ 65535) blank (entries_of s from count) a i (omega (arith, length_of_lem s from count fits)))

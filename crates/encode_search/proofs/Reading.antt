-- The nodes of a layer that is read while the next is written. Assumes nothing.
use mathlib.Core.Path.{◌≡◌, refl, sym, ap, ◌∙◌, subst}
use mathlib.Core.List.{List, [], ◌∷◌, ◌++◌}
use Prim.Native.Nat.{ℕ, suc, ◌+◌, ◌*◌, ◌≤◌, ◌<◌}
use native.Mathlib.Numerals.{add-one}
use native.Mathlib.Omega.{arith}
use lib.ListN.{length, get_or, take, get_or-map}
use lib.Seq.{take-suc, take_all, length-take-le}
use Rattle.base.specs.Lists.{All}
use Rattle.base.proofs.Every.{all_at}
use Rattle.coding.specs.Candidates.{Cand}
use Rattle.coding.specs.Search.{Node, by_cands, reach}
use Rattle.encode_layer.specs.declared.Entry.{Entry}
use Rattle.encode_layer.specs.Entries.{node_of, entries_of, layer_of, entry_at}
use Rattle.encode_layer.specs.Layer.{Sound, bounds, Represents, held}
use Rattle.encode_layer.proofs.Entries.{length_of_lem, entry_first}
use Rattle.encode_layer.proofs.Pushing.{blank}
use Rattle.encode_ways.specs.Turn.{Is}

module _ (s₀ s : List ℕ) (pcount i : ℕ) (fits : pcount * 4 ≤ length s₀) (m : length s ≡ length s₀) (e : entries_of s 0 pcount ≡ entries_of s₀ 0 pcount) (h : i < pcount) where
  same_entry : entry_at s₀ i ≡ entry_at s i
  same_entry =
      sym (entry_first s₀ pcount fits i blank h) ∙ (ap (λ (l : List Entry). get_or l i blank) (sym e) ∙ entry_first s pcount (omega arith) i blank h)

  pub sound_at : (b : ℕ) → All (Sound b) (entries_of s₀ 0 pcount) → Sound b (entry_at s i)
  sound_at b a =
      subst (Sound b) (entry_first s₀ pcount fits i blank h ∙ same_entry)
      (all_at (Sound b) blank (entries_of s₀ 0 pcount) a i (omega (arith, length_of_lem s₀ 0 pcount (omega arith))))

  -- the i-th node
  abbrev pub node_at : List Cand → Node
  node_at cs₀ = get_or (layer_of cs₀ s₀ 0 pcount) i (node_of cs₀ blank)

  pub is_node : (cs₀ : List Cand) → Is (node_at cs₀) (get_or s (i * 4) 0) (get_or s (i * 4 + 1) 0)
  unfolding layer_of node_of
  is_node cs₀ =
      let n : node_at cs₀ ≡ node_of cs₀ (entry_at s i) = get_or-map (node_of cs₀) (entries_of s₀ 0 pcount) i blank ∙
      ap (node_of cs₀) (entry_first s₀ pcount fits i blank h ∙ same_entry) in
      record { state = ap (λ (x : Node). x.state) n; costs = ap (λ (x : Node). x.cost) n }

-- one node more
reach_snoc : (cs : List Cand) (ns : List Node) (n : Node) (i : ℕ) (l : List Node) → reach cs (ns ++ (n ∷ [])) i l ≡ by_cands n (i + length ns) (reach cs ns i l) cs
unfolding reach
reach_snoc cs [] n i l = let e : i ≡ i + 0 = omega arith in ap (λ (j : ℕ). by_cands n j l cs) e
reach_snoc cs (m ∷ ns) n i l = reach_snoc cs ns n (suc i) (by_cands m i l cs) ∙ ap (λ (j : ℕ). by_cands n j (reach cs ns (suc i) (by_cands m i l cs)) cs) (omega arith)

pub reach_more : (cs : List Cand) (ns : List Node) (i : ℕ) (z : Node) → i < length ns → by_cands (get_or ns i z) i (reach cs (take i ns) 0 []) cs ≡ reach cs (take (i + 1) ns) 0 []
reach_more cs ns i z h =
    let e : take (i + 1) ns ≡ take i ns ++ (get_or ns i z ∷ []) = rw add-one (take-suc ns i z h) in
    let k : 0 + length (take i ns) ≡ i = omega (arith, length-take-le i ns (omega arith)) in
    sym (ap (λ (m : List Node). reach cs m 0 []) e ∙ (reach_snoc cs (take i ns) (get_or ns i z) 0 [] ∙ ap (λ (j : ℕ). by_cands (get_or ns i z) j (reach cs (take i ns) 0 []) cs) k))

-- an empty layer, and the whole one
pub reach_none : (cs : List Cand) (from cap buckets most : ℕ) (s : List ℕ) (ns : List Node) → Represents cs (bounds from cap buckets most) s 0 (reach cs (take 0 ns) 0 [])
unfolding reach layer_of entries_of
reach_none cs from cap buckets most s ns =
    held (record { fits = omega arith; layer = refl; distinct = λ i j h. absurd (omega arith); indexed = λ i h. absurd (omega arith); sound = tt })

pub reach_all : (cs : List Cand) (ns : List Node) (i : ℕ) → length ns ≤ i → reach cs (take i ns) 0 [] ≡ reach cs ns 0 []
reach_all cs ns i h = ap (λ (m : List Node). reach cs m 0 []) (take_all i ns h)

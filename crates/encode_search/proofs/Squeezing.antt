-- The newest layer among those of one number a node, once it is squeezed. Assumes nothing.
use mathlib.Core.Path.{◌≡◌, refl, sym, ap, ◌∙◌}
use mathlib.Core.List.{List, [], ◌∷◌, map}
use Prim.Native.Nat.{ℕ, zero, suc, ◌+◌, ◌-◌, ◌*◌, ◌/◌, ◌%◌, ◌≤◌, ◌<◌}
use native.Mathlib.Omega.{arith}
use lib.ListN.{length, get_or, drop, length-drop}
use Rattle.coding.specs.Candidates.{Cand}
use Rattle.coding.specs.Search.{Node, node_at}
use Rattle.encode_states.specs.Written.{written}
use Rattle.encode_layer.specs.declared.Entry.{Entry}
use Rattle.encode_layer.specs.Entries.{node_of, entries_of, layer_of}
use Rattle.encode_layer.specs.Kept.{older}
use Rattle.encode_layer.proofs.Entries.{length_of_lem, entry_first}
use Rattle.encode_layer.proofs.Pushing.{blank}
use Rattle.encode_layer.proofs.Costs.{length_layer}
use Rattle.encode_search.specs.Layers.{last_of, OneNumber, Older, none, behind, Layers}

-- the older layers stay where the numbers before a place stay
older_stay : (css : List (List Cand)) (s s' : List ℕ) (j end count : ℕ) (ls : List (List Node)) → ((k : ℕ) → k < end → get_or s' k 0 ≡ get_or s k 0) →
    Older css s j end count ls → Older css s' j end count ls
older_stay css s s' j end count ls e none = none
older_stay css s s' j end count ls e (behind {j = i} {from} {before} {ls = ks} f c l x ef el o) =
    behind end count l (older_stay css s s' i from before ks (λ k h. e k (omega arith)) x) ef el (λ k h.
    let q = e (from + k) (omega arith) in
    record { how = ap (λ (y : ℕ). written (last_of css i) (y / 131072)) q ∙ (o k h).how; far = ap (λ (y : ℕ). y % 131072) q ∙ (o k h).far })

-- what a node of a layer in the store wrote, and the place before it
node_of_lem : (cs : List Cand) (q : List Entry) (i : ℕ) → i < length q → node_at (map (node_of cs) q) i ≡ (written cs ((get_or q i blank).link / 131072), (get_or q i blank).link % 131072)
unfolding node_at node_of
node_of_lem cs [] i h = absurd (omega arith)
node_of_lem cs (e ∷ q) zero h = refl
node_of_lem cs (e ∷ q) (suc i) h = node_of_lem cs q i (omega arith)

-- the parts of the one number
how_older : (link place : ℕ) → place < 131072 → older link place / 131072 ≡ link / 131072
how_older link place h = omega arith

far_older : (link place : ℕ) → place < 131072 → older link place % 131072 ≡ place - link % 131072
far_older link place h = omega arith

module _ (css : List (List Cand)) (s s' : List ℕ) (j from count before : ℕ) (ls : List (List Node)) (fits : from + count * 4 ≤ length s) (few : count ≤ 48384) (few' : before ≤ 48384)
    (x : Layers css s j from count before ls) (stay : (k : ℕ) → k < from → get_or s' k 0 ≡ get_or s k 0)
    (each : (i : ℕ) → i < count → get_or s' (from + i) 0 ≡ older (get_or (drop from s) (i * 4 + 2) 0) (before + i)) where
  abbrev part : List ℕ
  part = drop from s

  abbrev cs : List Cand
  cs = last_of css j

  inside : count * 4 ≤ length part
  inside = rw length-drop (omega arith)

  inside' : (0 + count) * 4 ≤ length part
  inside' = omega (arith, inside)

  link : ℕ → ℕ
  link i = get_or part (i * 4 + 2) 0

  node : (i : ℕ) → i < count → node_at (layer_of cs part 0 count) i ≡ (written cs (link i / 131072), link i % 131072)
  unfolding layer_of link
  node i h =
      node_of_lem cs (entries_of part 0 count) i (omega (arith, length_of_lem part 0 count inside')) ∙
      ap (λ (e : Entry). (written cs (e.link / 131072), e.link % 131072)) (entry_first part count inside i blank h)

  one : (i : ℕ) → i < count → OneNumber cs s' from before (layer_of cs part 0 count) i
  unfolding link
  one i h =
      let p : before + i < 131072 = omega arith in
      record {
        how = ap (λ (y : ℕ). written cs (y / 131072)) (each i h) ∙ (ap (written cs) (how_older (link i) (before + i) p) ∙ sym (ap (λ (y : List ℕ × ℕ). y.0) (node i h)));
        far = ap (λ (y : ℕ). y % 131072) (each i h) ∙ (far_older (link i) (before + i) p ∙ sym (ap (λ (y : List ℕ × ℕ). before + i - y.1) (node i h)));
      }

  pub newest_older : Older css s' (suc j) (from + count) count ls
  newest_older =
      rw x.whole (behind (from + count) count (layer_of cs part 0 count) (older_stay css s s' j from before x.rest stay x.others) refl
      (sym (length_layer cs part 0 count inside')) one)

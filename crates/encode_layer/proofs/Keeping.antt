-- A layer whose dear nodes are being dropped, the others moved down. Assumes nothing.
use mathlib.Core.Path.{◌≡◌, refl, sym, ap, ◌∙◌}
use mathlib.Core.Bool.{Bool, true, false}
use mathlib.Core.List.{List, [], ◌∷◌, ◌++◌, map, append-nil}
use Prim.Native.Nat.{ℕ, suc, ◌+◌, ◌-◌, ◌*◌, ◌≤◌, ◌<◌}
use native.Mathlib.Nat.{add-zero, zero-add}
use native.Mathlib.Numerals.{add-one}
use native.Mathlib.Omega.{arith}
use lib.Dec.{leb}
use lib.ListN.{length, get_or, take, drop, drop_of_length-le, length-drop}
use lib.Seq.{drop-cons, append_snoc, drop-set-add, drop-set-lt, take-set-le, get_or-drop, drop-drop}
use borrow.Author.Tests.{le-leb, lt-leb}
use Rattle.base.specs.Lists.{All}
use Rattle.coding.specs.Candidates.{Cand}
use Rattle.coding.specs.Search.{Node, keep}
use Rattle.encode_layer.specs.declared.Entry.{Entry}
use Rattle.encode_layer.specs.Entries.{node_of, entries_of, layer_of, entry_at, set_entry}
use Rattle.encode_layer.specs.Layer.{Sound}
use Rattle.encode_layer.specs.Kept.{Kept}
use Rattle.encode_layer.proofs.Entries.{length_of_lem, entry_of, length_set_entry, same_entries, entries_behind}
use Rattle.encode_layer.proofs.Standing.{of_new}
use Rattle.encode_layer.proofs.Pushing.{blank}

-- `keep` on the numbers of the store
pub kept : ℕ → List Entry → List Entry
kept most [] = []
kept most (e ∷ es) = elim (leb e.cost most) [ true ↦ e ∷ kept most es | false ↦ kept most es ]

kept_yes : (most : ℕ) (e : Entry) (es : List Entry) → e.cost ≤ most → kept most (e ∷ es) ≡ e ∷ kept most es
unfolding kept
kept_yes most e es h = rw (le-leb e.cost most h, kept)

kept_no : (most : ℕ) (e : Entry) (es : List Entry) → most < e.cost → kept most (e ∷ es) ≡ kept most es
unfolding kept
kept_no most e es h = rw (lt-leb e.cost most h, kept)

kept_nodes : (cs : List Cand) (most : ℕ) (q : List Entry) → map (node_of cs) (kept most q) ≡ keep most (map (node_of cs) q)
unfolding kept keep node_of
kept_nodes cs most [] = refl
kept_nodes cs most (e ∷ es) = go (leb e.cost most) refl (kept_nodes cs most es)
  where
    go : (b : Bool) → leb e.cost most ≡ b → map (node_of cs) (kept most es) ≡ keep most (map (node_of cs) es) →
        map (node_of cs) (kept most (e ∷ es)) ≡ keep most (map (node_of cs) (e ∷ es))
    go true h r = rw (h, kept, keep) (ap (λ (l : List Node). node_of cs e ∷ l) r)
    go false h r = rw (h, kept, keep) r

kept_all : (P : Entry → Type 0) (most : ℕ) (q : List Entry) → All P q → All P (kept most q)
unfolding kept
kept_all P most [] a = tt
kept_all P most (e ∷ es) a = go (leb e.cost most) refl (kept_all P most es a.1)
  where
    go : (b : Bool) → leb e.cost most ≡ b → All P (kept most es) → All P (kept most (e ∷ es))
    go true h r = rw (h, kept) (a.0, r)
    go false h r = rw (h, kept) r

-- the layer after i of its nodes, of which w are kept and stand from the number from on
pub record Going (s₀ s : List ℕ) (from count most i w : ℕ) : Type 0 where
  pub same : length s ≡ length s₀
  pub w_le : w ≤ i
  pub i_le : i ≤ count
  pub rest : entries_of (drop from s) 0 w ++ kept most (drop i (entries_of s from count)) ≡ kept most (entries_of s₀ from count)
  pub left : drop i (entries_of s from count) ≡ drop i (entries_of s₀ from count)
  pub before : take from s ≡ take from s₀

split : (q : List Entry) (i : ℕ) (e : Entry) → i < length q → get_or q i blank ≡ e → drop i q ≡ e ∷ drop (i + 1) q
split q i e h k = rw add-one (drop-cons q i blank h ∙ ap (λ (x : Entry). x ∷ drop (suc i) q) k)

-- a node written before a place, and from a place on
drop_before : (n : ℕ) (s : List ℕ) (at : ℕ) (e : Entry) → at + 2 < n → drop n (set_entry s at e) ≡ drop n s
drop_before n s at e h =
    drop-set-lt n _ (at + 2) e.link h ∙ (drop-set-lt n _ (at + 1) e.cost (omega arith) ∙ drop-set-lt n s at e.state (omega arith))

drop_at : (n : ℕ) (s : List ℕ) (k : ℕ) (e : Entry) → drop n (set_entry s (n + k) e) ≡ set_entry (drop n s) k e
drop_at n s k e =
    let a : n + k + 1 ≡ n + (k + 1) = omega arith in
    let b : n + k + 2 ≡ n + (k + 2) = omega arith in
    rw (b, a, drop-set-add n _ (k + 2) e.link, drop-set-add n _ (k + 1) e.cost, drop-set-add n s k e.state)

take_before : (n : ℕ) (s : List ℕ) (at : ℕ) (e : Entry) → n ≤ at → take n (set_entry s at e) ≡ take n s
take_before n s at e h =
    take-set-le n _ (at + 2) e.link (omega arith) ∙ (take-set-le n _ (at + 1) e.cost (omega arith) ∙ take-set-le n s at e.state h)

module _ (s₀ : List ℕ) (from count most : ℕ) (fits : (from + count) * 4 ≤ length s₀) where
  pub going_start : Going s₀ s₀ from count most 0 0
  unfolding entries_of
  going_start = record { same = refl; w_le = omega arith; i_le = omega arith; rest = refl; left = refl; before = refl }

  module _ (s : List ℕ) (i w : ℕ) (g : Going s₀ s from count most i w) where
    held : (from + count) * 4 ≤ length s
    held = omega (arith, g.same)

    next : i < count → drop i (entries_of s from count) ≡ entry_at s (from + i) ∷ drop (i + 1) (entries_of s from count)
    next h = split (entries_of s from count) i (entry_at s (from + i)) (omega (arith, length_of_lem s from count held)) (entry_of s from count held i blank h)

    -- the nodes behind it are those of the layer
    left_on : drop (i + 1) (entries_of s from count) ≡ drop (i + 1) (entries_of s₀ from count)
    left_on = sym (drop-drop 1 i (entries_of s from count)) ∙ (ap (drop 1) g.left ∙ drop-drop 1 i (entries_of s₀ from count))

    pub same_cost : i < count → get_or s ((from + i) * 4 + 1) 0 ≡ get_or s₀ ((from + i) * 4 + 1) 0
    same_cost h =
        let at : (l : List Entry) → get_or (drop i l) 0 blank ≡ get_or l i blank = λ l. get_or-drop i l 0 blank ∙ ap (λ (k : ℕ). get_or l k blank) (add-zero i) in
        ap (λ (e : Entry). e.cost) (sym (entry_of s from count held i blank h) ∙ (sym (at (entries_of s from count)) ∙ (ap (λ (l : List Entry). get_or l 0 blank) g.left ∙
        (at (entries_of s₀ from count) ∙ entry_of s₀ from count fits i blank h))))

    pub going_drop : i < count → most < get_or s ((from + i) * 4 + 1) 0 → Going s₀ s from count most (i + 1) w
    going_drop h k =
        let e : kept most (drop i (entries_of s from count)) ≡ kept most (drop (i + 1) (entries_of s from count)) = ap (kept most) (next h) ∙ kept_no most _ _ k in
        record { same = g.same; w_le = omega (arith, g.w_le); i_le = omega arith; rest = rw (← e) g.rest; left = left_on; before = g.before }

    -- the nodes behind the i-th are as they were
    behind : (s' : List ℕ) → i < count → drop ((from + (i + 1)) * 4) s' ≡ drop ((from + (i + 1)) * 4) s →
        drop (i + 1) (entries_of s' from count) ≡ drop (i + 1) (entries_of s from count)
    behind s' h q =
        let n : count ≡ (i + 1) + (count - (i + 1)) = omega arith in
        let d : entries_of s' (from + (i + 1)) (count - (i + 1)) ≡ entries_of s (from + (i + 1)) (count - (i + 1)) =
        same_entries s s' ((from + (i + 1)) * 4) (from + (i + 1)) (count - (i + 1)) (omega arith) q in
        entries_behind s' from count (i + 1) n ∙ (d ∙ sym (entries_behind s from count (i + 1) n))

    pub going_keep : (s' : List ℕ) → i < count → get_or s ((from + i) * 4 + 1) 0 ≤ most → s' ≡ set_entry s (from + w * 4) (entry_at s (from + i)) →
        Going s₀ s' from count most (i + 1) (w + 1)
    going_keep s' h k q =
        let n : Entry = entry_at s (from + i) in
        let m : length s' ≡ length s = ap length q ∙ length_set_entry s (from + w * 4) n in
        let y : kept most (drop i (entries_of s from count)) ≡ n ∷ kept most (drop (i + 1) (entries_of s from count)) = ap (kept most) (next h) ∙ kept_yes most _ _ k in
        let a : entries_of (drop from s') 0 (w + 1) ≡ entries_of (drop from s) 0 w ++ (n ∷ []) =
        ap (λ (x : List ℕ). entries_of x 0 (w + 1)) (ap (drop from) q ∙ (drop_at from s (w * 4) n ∙ ap (λ (k : ℕ). set_entry (drop from s) (k * 4) n) (sym (zero-add w)))) ∙
        of_new (drop from s) 0 w n (rw length-drop (omega (arith, held, g.w_le))) in
        let b : drop (i + 1) (entries_of s' from count) ≡ drop (i + 1) (entries_of s from count) =
        behind s' h (ap (drop ((from + (i + 1)) * 4)) q ∙ drop_before ((from + (i + 1)) * 4) s (from + w * 4) n (omega (arith, g.w_le))) in
        record {
          same = m ∙ g.same;
          w_le = omega (arith, g.w_le);
          i_le = omega arith;
          rest = rw (a, b, append_snoc, ← y) g.rest;
          left = b ∙ left_on;
          before = ap (take from) q ∙ (take_before from s (from + w * 4) n (omega arith) ∙ g.before);
        }

    pub going_end : count ≤ i → Kept s₀ s from count most w
    unfolding layer_of kept
    going_end h =
        let e : drop i (entries_of s from count) ≡ [] = drop_of_length-le (entries_of s from count) {i = i} (omega (arith, length_of_lem s from count held)) in
        let q : entries_of (drop from s) 0 w ≡ kept most (entries_of s₀ from count) = sym (append-nil (entries_of (drop from s) 0 w)) ∙ (rw e at g.rest) in
        record {
          layer = λ cs. ap (map (node_of cs)) q ∙ kept_nodes cs most (entries_of s₀ from count);
          sound = λ top a. rw q (kept_all (Sound top) most (entries_of s₀ from count) a);
          fewer = omega (arith, g.w_le, g.i_le);
          before = g.before;
        }

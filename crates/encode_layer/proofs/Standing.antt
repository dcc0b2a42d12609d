-- What a layer stands for after a push, by the index. Assumes nothing.
use mathlib.Core.Path.{◌≡◌, refl, sym, ap, ◌∙◌, subst}
use mathlib.Core.Bool.{true, false}
use mathlib.Core.List.{List, [], ◌∷◌, ◌++◌, map}
use Prim.Native.Nat.{ℕ, zero, suc, ◌+◌, ◌*◌, ◌≤◌, ◌<◌}
use native.Mathlib.Decide.{ℕ_discrete, dec_lt}
use native.Mathlib.Numerals.{add-one}
use native.Mathlib.Omega.{arith}
use lib.Dec.{eqb}
use lib.ListN.{length, get_or, set, take, drop, length-set, length-append, length-drop, length-map, get_or-append}
use lib.Seq.{get_or-set_same, get_or-set_other, get_or-append_seam, drop-set-add, take-set-lt, take-suc-set}
use borrow.Author.Tests.{eq-eqb, ne_eqb}
use Rattle.base.specs.Lists.{All}
use Rattle.base.proofs.Every.{all_append, all_at, all_set}
use Rattle.coding.specs.Candidates.{Cand}
use Rattle.coding.specs.Search.{Node, push, push_all}
use Rattle.encode_states.proofs.Dense.{dense, spread, spread_dense, dense_small}
use Rattle.encode_layer.specs.declared.Entry.{Entry}
use Rattle.encode_layer.specs.Entries.{node_of, entries, entries_of, layer_of, entry_at, set_entry}
use Rattle.encode_layer.specs.Layer.{Sound, Distinct, bucket_of, head_at, Chained, Indexed, Finds, Entered, bounds, Held, Represents, held, over, Pushes}
use Rattle.encode_layer.proofs.Entries.{length_entries, entries_set, length_of_lem, entry_of, before_set}
use Rattle.encode_layer.proofs.Pigeonhole.{pigeonhole}
use Rattle.encode_layer.proofs.Pushing.{blank, push_grows, push_kept, push_replaced, push_new}
use Rattle.encode_layer.proofs.Chains.{indexed_set, indexed_new}

-- the place of the first node of a state
place_of : List Entry → ℕ → ℕ
place_of [] k = 0
place_of (e ∷ es) k = elim (eqb e.state k) [ true ↦ 0 | false ↦ suc (place_of es k) ]

place_yes : (e : Entry) (es : List Entry) (k : ℕ) → e.state ≡ k → place_of (e ∷ es) k ≡ 0
unfolding place_of
place_yes e es k q = rw (eq-eqb e.state k q, place_of)

place_no : (e : Entry) (es : List Entry) (k : ℕ) → (e.state ≡ k → ⊥) → place_of (e ∷ es) k ≡ suc (place_of es k)
unfolding place_of
place_no e es k q = rw (ne_eqb e.state k q, place_of)

record Has (q : List Entry) (k p : ℕ) : Type 0 where
  pub inside : p < length q
  pub is : (get_or q p blank).state ≡ k

place_has : (q : List Entry) (k i : ℕ) → i < length q → (get_or q i blank).state ≡ k → Has q k (place_of q k)
place_has [] k i h e = absurd (omega arith)
place_has (x ∷ xs) k zero h e = rw (place_yes x xs k e) (record { inside = omega arith; is = e })
place_has (x ∷ xs) k (suc i) h e = go (ℕ_discrete x.state k) (place_has xs k i (omega arith) e)
  where
    go : Dec (x.state ≡ k) → Has xs k (place_of xs k) → Has (x ∷ xs) k (place_of (x ∷ xs) k)
    go (yes y) r = rw (place_yes x xs k y) (record { inside = omega arith; is = y })
    go (no y) r = rw (place_no x xs k y) (record { inside = omega (arith, r.inside); is = r.is })

-- no more nodes than states that the coder can reach
pub few : (q : List Entry) (most : ℕ) → Distinct q → All (Sound most) q → length q ≤ 48384
few q most d a =
    pigeonhole 48384 (length q) (λ k. place_of q (spread k)) (λ i l.
    let k = (get_or q i blank).state in
    let p = (all_at (Sound most) blank q a i l).proper in
    let h = place_has q k i l refl in
    record { at = dense k; small = dense_small k p; is = ap (place_of q) (spread_dense k p) ∙ d (place_of q k) i h.inside l h.is })

-- a node replaced by one of its state, and one of another state than all
module _ (q : List Entry) (e : Entry) (d : Distinct q) where
  distinct_set : (p : ℕ) → p < length q → (get_or q p blank).state ≡ e.state → Distinct (set q p e)
  distinct_set p h same i j hi hj k = d i j (rw length-set at hi) (rw length-set at hj) (sym (at i) ∙ (k ∙ at j))
    where
      at : (i : ℕ) → (get_or (set q p e) i blank).state ≡ (get_or q i blank).state
      at i = go (ℕ_discrete i p)
        where
          go : Dec (i ≡ p) → (get_or (set q p e) i blank).state ≡ (get_or q i blank).state
          go (yes y) = rw (y, get_or-set_same q p e blank h) (sym same)
          go (no y) = ap (λ (x : Entry). x.state) (get_or-set_other q p i e blank y)

  distinct_new : ((j : ℕ) → j < length q → (get_or q j blank).state ≡ e.state → ⊥) → Distinct (q ++ (e ∷ []))
  distinct_new n i j hi hj k = go (dec_lt i (length q)) (dec_lt j (length q))
    where
      old : (i : ℕ) → i < length q → (get_or (q ++ (e ∷ [])) i blank).state ≡ (get_or q i blank).state
      old i h = ap (λ (x : Entry). x.state) (get_or-append q (e ∷ []) blank i h)

      new : (i : ℕ) → i ≡ length q → (get_or (q ++ (e ∷ [])) i blank).state ≡ e.state
      new i h = rw h (ap (λ (x : Entry). x.state) (get_or-append_seam q e [] blank))

      last : (i : ℕ) → i < length (q ++ (e ∷ [])) → (i < length q → ⊥) → i ≡ length q
      last i h m = omega (arith, length-append q (e ∷ []), m)

      go : Dec (i < length q) → Dec (j < length q) → i ≡ j
      go (yes a) (yes b) = d i j a b (sym (old i a) ∙ (k ∙ old j b))
      go (yes a) (no b) = absurd (n i a (sym (old i a) ∙ (k ∙ new j (last j hj b))))
      go (no a) (yes b) = absurd (n j b (sym (old j b) ∙ (sym k ∙ new i (last i hi a))))
      go (no a) (no b) = last i hi a ∙ sym (last j hj b)

-- the nodes after a node of the layer is replaced, and after one is added
module _ (s : List ℕ) (from count : ℕ) (e : Entry) where
  pub of_set : (p : ℕ) → (from + count) * 4 ≤ length s → p < count → entries_of (set_entry s ((from + p) * 4) e) from count ≡ set (entries_of s from count) p e
  unfolding entries_of
  of_set p fits h = rw (entries_set s (from + p) (omega arith) e, drop-set-add) (take-set-lt count (drop from (entries s)) p e h)

  pub of_new : (from + count) * 4 + 4 ≤ length s → entries_of (set_entry s ((from + count) * 4) e) from (count + 1) ≡ entries_of s from count ++ (e ∷ [])
  unfolding entries_of
  of_new fits =
      let k = length_entries s in
      rw (entries_set s (from + count) (omega arith) e, drop-set-add, add-one) (take-suc-set (drop from (entries s)) count e (rw length-drop (omega arith)))

module _ (cs : List Cand) (from cap buckets most : ℕ) (s : List ℕ) (count : ℕ) (e : Entry) (fits : (from + cap) * 4 ≤ length s) (sound : Sound most e) where
  -- the pushes of one node
  pushes : (s' : List ℕ) (count' : ℕ) → ((l : List Node) → Represents cs (bounds from cap buckets most) s count l →
      Represents cs (bounds from cap buckets most) s' count' (push l (node_of cs e))) → entries_of s' 0 from ≡ entries_of s 0 from →
      Pushes cs (bounds from cap buckets most) s count s' count' (node_of cs e ∷ [])
  unfolding push_all
  pushes s' count' f b = record { stands = f; before = b }

  -- the layer is full already
  pub full : cap < count → Pushes cs (bounds from cap buckets most) s count s count (node_of cs e ∷ [])
  full h = pushes s count go refl
    where
      go : (l : List Node) → Represents cs (bounds from cap buckets most) s count l → Represents cs (bounds from cap buckets most) s count (push l (node_of cs e))
      go l (held x) = absurd (omega (arith, x.fits))
      go l (over x) = over (record { full = x.full; more = omega (arith, x.more, push_grows l (node_of cs e)); small = x.small })

  -- the chain of the state's bucket tells where it stands
  module _ (first p : ℕ) (le : count ≤ cap) (is : first ≡ head_at s (bucket_of buckets e.state)) (finds : Finds s from count first e.state p) where
    inside : (from + count) * 4 ≤ length s
    inside = omega arith

    long : length (entries_of s from count) ≡ count
    long = length_of_lem s from count inside

    state_at : (j : ℕ) → j < count → (get_or (entries_of s from count) j blank).state ≡ get_or s ((from + j) * 4) 0
    state_at j h = ap (λ (y : Entry). y.state) (entry_of s from count inside j blank h)

    module _ (lt : p < count) where
      there : get_or (entries_of s from count) p blank ≡ entry_at s (from + p)
      there = entry_of s from count inside p blank lt

      same : (get_or (entries_of s from count) p blank).state ≡ e.state
      same = ap (λ (y : Entry). y.state) there ∙ finds.has lt

      alone : (l : List Node) → Held cs (bounds from cap buckets most) s count l → (j : ℕ) → j < p → (get_or (entries_of s from count) j blank).state ≡ e.state → ⊥
      alone l x j h q = absurd (omega (arith, x.distinct j p (omega (arith, long)) (omega (arith, long)) (q ∙ sym same)))

      pub stays : get_or s ((from + p) * 4 + 1) 0 ≤ e.cost → Pushes cs (bounds from cap buckets most) s count s count (node_of cs e ∷ [])
      unfolding layer_of
      stays k = pushes s count go refl
        where
          go : (l : List Node) → Represents cs (bounds from cap buckets most) s count l → Represents cs (bounds from cap buckets most) s count (push l (node_of cs e))
          go l (over x) = absurd (omega (arith, x.full))
          go l (held x) =
              let q = push_kept cs (entries_of s from count) e p (omega (arith, long)) same (alone l x) (rw there k) in
              held (record {
                fits = x.fits;
                layer = sym q ∙ ap (λ (y : List Node). push y (node_of cs e)) x.layer;
                distinct = x.distinct;
                indexed = x.indexed;
                sound = x.sound;
              })

      pub replaces : (s' : List ℕ) → s' ≡ set_entry s ((from + p) * 4) e → e.cost < get_or s ((from + p) * 4 + 1) 0 →
          Pushes cs (bounds from cap buckets most) s count s' count (node_of cs e ∷ [])
      unfolding layer_of
      replaces s' w k = pushes s' count go (ap (λ (y : List ℕ). entries_of y 0 from) w ∙ before_set s from (from + p) e (omega arith) (omega arith))
        where
          after : entries_of s' from count ≡ set (entries_of s from count) p e
          after = ap (λ (y : List ℕ). entries_of y from count) w ∙ of_set s from count e p inside lt

          go : (l : List Node) → Represents cs (bounds from cap buckets most) s count l → Represents cs (bounds from cap buckets most) s' count (push l (node_of cs e))
          go l (over x) = absurd (omega (arith, x.full))
          go l (held x) =
              let q = push_replaced cs (entries_of s from count) e p (omega (arith, long)) same (alone l x) (rw there k) in
              held (record {
                fits = x.fits;
                layer = ap (map (node_of cs)) after ∙ (sym q ∙ ap (λ (y : List Node). push y (node_of cs e)) x.layer);
                distinct = rw after (distinct_set (entries_of s from count) e x.distinct p (omega (arith, long)) same);
                indexed = subst (λ (y : List ℕ). Indexed y from buckets count) (sym w) (indexed_set s from buckets count p e inside lt (finds.has lt) x.indexed);
                sound = rw after (all_set (Sound most) (entries_of s from count) p e x.sound sound);
              })

    -- or that it stands nowhere
    module _ (miss : count ≤ p) where
      nowhere : (l : List Node) → Held cs (bounds from cap buckets most) s count l → (j : ℕ) → j < length (entries_of s from count) →
          (get_or (entries_of s from count) j blank).state ≡ e.state → ⊥
      nowhere l x j h q =
          let hj : j < count = omega (arith, long) in
          let st : get_or s ((from + j) * 4) 0 ≡ e.state = sym (state_at j hj) ∙ q in
          let ch : Chained s from count (head_at s (bucket_of buckets e.state)) j =
          subst (λ (y : ℕ). Chained s from count (head_at s (bucket_of buckets y)) j) st (x.indexed j hj) in
          finds.none miss j hj st (subst (λ (y : ℕ). Chained s from count y j) (sym is) ch)

      grown : (l : List Node) → Held cs (bounds from cap buckets most) s count l → push l (node_of cs e) ≡ map (node_of cs) (entries_of s from count ++ (e ∷ []))
      unfolding layer_of
      grown l x = ap (λ (y : List Node). push y (node_of cs e)) (sym x.layer) ∙ push_new cs (entries_of s from count) e (nowhere l x)

      pub overflows : count ≡ cap → Pushes cs (bounds from cap buckets most) s count s (count + 1) (node_of cs e ∷ [])
      overflows q = pushes s (count + 1) go refl
        where
          go : (l : List Node) → Represents cs (bounds from cap buckets most) s count l → Represents cs (bounds from cap buckets most) s (count + 1) (push l (node_of cs e))
          go l (over x) = absurd (omega (arith, x.full))
          go l (held x) =
              let y : length (push l (node_of cs e)) ≡ count + 1 = ap length (grown l x) ∙
              (length-map (entries_of s from count ++ (e ∷ [])) (node_of cs) ∙ (length-append (entries_of s from count) (e ∷ []) ∙ omega (arith, long))) in
              over (record { full = omega arith; more = omega arith; small = omega (arith, long, few (entries_of s from count) most x.distinct x.sound) })

      pub adds : (s₁ s' : List ℕ) → count < cap → length s₁ ≡ length s → Entered s s₁ from count (bucket_of buckets e.state) first →
          s' ≡ set_entry s₁ ((from + count) * 4) e → Pushes cs (bounds from cap buckets most) s count s' (count + 1) (node_of cs e ∷ [])
      unfolding layer_of entries_of
      adds s₁ s' k m v w =
          pushes s' (count + 1) go (ap (λ (y : List ℕ). entries_of y 0 from) w ∙
          (before_set s₁ from (from + count) e (omega arith) (omega arith) ∙ ap (λ (y : List Entry). take from (drop 0 y)) v.nodes))
        where
          after : entries_of s' from (count + 1) ≡ entries_of s from count ++ (e ∷ [])
          after = ap (λ (y : List ℕ). entries_of y from (count + 1)) w ∙
              (of_new s₁ from count e (omega arith) ∙ ap (λ (y : List Entry). take count (drop from y) ++ (e ∷ [])) v.nodes)

          go : (l : List Node) → Represents cs (bounds from cap buckets most) s count l → Represents cs (bounds from cap buckets most) s' (count + 1) (push l (node_of cs e))
          go l (over x) = absurd (omega (arith, x.full))
          go l (held x) =
              held (record {
                fits = omega arith;
                layer = ap (map (node_of cs)) after ∙ sym (grown l x);
                distinct = rw after (distinct_new (entries_of s from count) e x.distinct (nowhere l x));
                indexed = subst (λ (y : List ℕ). Indexed y from buckets (count + 1)) (sym w) (indexed_new s s₁ from buckets count first e (omega arith) m is v x.indexed);
                sound = rw after (all_append (Sound most) (entries_of s from count) (e ∷ []) x.sound (sound, tt));
              })

-- The index: the chains of the buckets, searched and grown. Assumes nothing.
use mathlib.Core.Path.{◌≡◌, sym, ap, ◌∙◌, subst}
use mathlib.Core.List.{List}
use Prim.Native.Nat.{ℕ, ◌+◌, ◌-◌, ◌*◌, ◌/◌, ◌%◌, ◌≤◌, ◌<◌}
use native.Mathlib.Decide.{ℕ_discrete, dec_lt}
use native.Mathlib.Nat.{mul-le-mul_right}
use native.Mathlib.Omega.{arith}
use lib.ListN.{length, get_or, set, length-set}
use lib.Seq.{get_or-set_same, get_or-set_other}
use Rattle.encode_layer.specs.declared.Entry.{Entry}
use Rattle.encode_layer.specs.Entries.{entries, set_entry}
use Rattle.encode_layer.specs.Layer.{bucket_of, head_at, next_at, Leads, here, further, Chained, Indexed, Finds, Entered}
use Rattle.encode_layer.proofs.Entries.{entries_at, entries_chain, other_set, chain_set}
use Rattle.encode_layer.proofs.Pushing.{blank}

-- a bucket is one of so many
pub spread_most : (x buckets : ℕ) → x < 131072 → x * buckets ≤ 131071 * buckets
spread_most x buckets h = mul-le-mul_right buckets (omega arith)

pub bucket_small : (x buckets : ℕ) → x < 131072 → 1 ≤ buckets → x * buckets / 131072 < buckets
bucket_small x buckets h k = omega (arith, spread_most x buckets h)

-- a chain searched: all from its first on, none of those passed having the state
abbrev pub Sought : List ℕ → ℕ → ℕ → ℕ → ℕ → ℕ → ℕ → Type 0
Sought s from count first state last p =
    (i : ℕ) → i < count → get_or s ((from + i) * 4) 0 ≡ state → Chained s from count first i → (p < last) × Leads (next_at s from) i p

onwards : (next : ℕ → ℕ) (i p : ℕ) → (p ≡ i → ⊥) → Leads next i p → (next p < p) × Leads next i (next p)
onwards next i p n (here e) = absurd (n e)
onwards next i p n (further h l) = (h, l)

module _ (s : List ℕ) (from count first state : ℕ) where
  pub sought_start : Sought s from count first state count first
  sought_start i h q c = (c.begins, c.leads)

  pub sought_on : (last p : ℕ) → (get_or s ((from + p) * 4) 0 ≡ state → ⊥) → Sought s from count first state last p → Sought s from count first state p (next_at s from p)
  sought_on last p n g i h q c = onwards (next_at s from) i p (λ e. n (ap (λ (j : ℕ). get_or s ((from + j) * 4) 0) e ∙ q)) (g i h q c).1

  pub found : (p : ℕ) → p < count → get_or s ((from + p) * 4) 0 ≡ state → Finds s from count first state p
  found p h q = record { has = λ x. q; none = λ x. absurd (omega arith) }

  pub not_found : (last p : ℕ) → last ≤ p → Sought s from count first state last p → Finds s from count first state count
  not_found last p h g = record { has = λ x. absurd (omega arith); none = λ x i k q c. absurd (omega (arith, (g i k q c).0)) }

-- a node put at the head of a bucket
module _ (s : List ℕ) (from count b first : ℕ) (hb : b * 4 + 4 ≤ length s) (hc : (from + count) * 4 + 4 ≤ length s) (small : count ≤ 65535) (low : first ≤ 65535) where
  abbrev pub headed : List ℕ
  headed = set s (b * 4 + 3) ((65535 - count) * 65536 + get_or s (b * 4 + 3) 0 % 65536)

  abbrev pub nexted : List ℕ
  nexted = set headed ((from + count) * 4 + 3) (get_or headed ((from + count) * 4 + 3) 0 / 65536 * 65536 + first)

  -- the upper half of a number is the first change's, the lower one the second's
  headed_here : get_or headed (b * 4 + 3) 0 ≡ (65535 - count) * 65536 + get_or s (b * 4 + 3) 0 % 65536
  headed_here = get_or-set_same s (b * 4 + 3) _ 0 (omega arith)

  headed_lower : (v : ℕ) → get_or headed (v * 4 + 3) 0 % 65536 ≡ get_or s (v * 4 + 3) 0 % 65536
  headed_lower v = go (ℕ_discrete v b)
    where
      go : Dec (v ≡ b) → get_or headed (v * 4 + 3) 0 % 65536 ≡ get_or s (v * 4 + 3) 0 % 65536
      go (yes e) = rw e (omega (arith, headed_here))
      go (no e) = ap (λ (x : ℕ). x % 65536) (get_or-set_other s (b * 4 + 3) (v * 4 + 3) _ 0 (λ q. e (omega arith)))

  nexted_here : get_or nexted ((from + count) * 4 + 3) 0 ≡ get_or headed ((from + count) * 4 + 3) 0 / 65536 * 65536 + first
  nexted_here = get_or-set_same headed ((from + count) * 4 + 3) _ 0 (rw length-set (omega arith))

  nexted_upper : (v : ℕ) → get_or nexted (v * 4 + 3) 0 / 65536 ≡ get_or headed (v * 4 + 3) 0 / 65536
  nexted_upper v = go (ℕ_discrete v (from + count))
    where
      go : Dec (v ≡ from + count) → get_or nexted (v * 4 + 3) 0 / 65536 ≡ get_or headed (v * 4 + 3) 0 / 65536
      go (yes e) = rw e (omega (arith, nexted_here))
      go (no e) = ap (λ (x : ℕ). x / 65536) (get_or-set_other headed ((from + count) * 4 + 3) (v * 4 + 3) _ 0 (λ q. e (omega arith)))

  nodes_stay : entries nexted ≡ entries s
  nodes_stay = entries_chain headed (from + count) (rw length-set (omega arith)) _ ∙ entries_chain s b hb _

  pub entered : Entered s nexted from count b first
  entered =
      record {
        nodes = nodes_stay;
        head = omega (arith, nexted_upper b, headed_here);
        heads = λ v n. ap (λ (x : ℕ). 65535 - x) (nexted_upper v ∙ ap (λ (x : ℕ). x / 65536) (get_or-set_other s (b * 4 + 3) (v * 4 + 3) _ 0 (λ q. n (omega arith))));
        next = omega (arith, nexted_here);
        nexts = λ i n. ap (λ (x : ℕ). x % 65536) (get_or-set_other headed ((from + count) * 4 + 3) ((from + i) * 4 + 3) _ 0 (λ q. n (omega arith))) ∙ headed_lower (from + i);
      }

-- chains depend on the numbers of their nodes alone
leads_same : (next next' : ℕ → ℕ) (count : ℕ) → ((v : ℕ) → v < count → next' v ≡ next v) → (i p : ℕ) → p < count → Leads next i p → Leads next' i p
leads_same next next' count same i p h (here e) = here e
leads_same next next' count same i p h (further k l) =
    further {p = p} (omega (arith, same p h)) (subst (Leads next' i) (sym (same p h)) (leads_same next next' count same i (next p) (omega arith) l))

-- the state of a node, where nodes are as they were, or one is written
state_same : (s s' : List ℕ) (p : ℕ) → p * 4 + 4 ≤ length s → length s' ≡ length s → entries s' ≡ entries s → get_or s' (p * 4) 0 ≡ get_or s (p * 4) 0
state_same s s' p h m e =
    ap (λ (x : Entry). x.state) (sym (entries_at s' p (omega arith) blank) ∙ (ap (λ (l : List Entry). get_or l p blank) e ∙ entries_at s p h blank))

state_set : (s : List ℕ) (p : ℕ) (e : Entry) → p * 4 + 4 ≤ length s → get_or (set_entry s (p * 4) e) (p * 4) 0 ≡ e.state
state_set s p e h =
    get_or-set_other (set (set s (p * 4) e.state) (p * 4 + 1) e.cost) (p * 4 + 2) (p * 4) e.link 0 (λ q. omega arith) ∙
    (get_or-set_other (set s (p * 4) e.state) (p * 4 + 1) (p * 4) e.cost 0 (λ q. omega arith) ∙ get_or-set_same s (p * 4) e.state 0 (omega arith))

state_other : (s : List ℕ) (p v : ℕ) (e : Entry) → (v ≡ p → ⊥) → get_or (set_entry s (p * 4) e) (v * 4) 0 ≡ get_or s (v * 4) 0
state_other s p v e n = other_set s (p * 4) (v * 4) e (λ q. n (omega arith)) (λ q. omega arith) (λ q. omega arith)

-- a node replaced by one of its state
pub indexed_set : (s : List ℕ) (from buckets count p : ℕ) (e : Entry) → (from + count) * 4 ≤ length s → p < count → get_or s ((from + p) * 4) 0 ≡ e.state →
    Indexed s from buckets count → Indexed (set_entry s ((from + p) * 4) e) from buckets count
indexed_set s from buckets count p e fits lt same x i h =
    subst (λ (k : ℕ). Chained s' from count (head_at s' (bucket_of buckets k)) i) (sym (state (ℕ_discrete i p)))
    (subst (λ (k : ℕ). Chained s' from count (65535 - k / 65536) i) (sym (chain_set s (from + p) (bucket_of buckets (get_or s ((from + i) * 4) 0)) e))
    (record {
      begins = c.begins;
      leads = leads_same (next_at s from) (next_at s' from) count (λ v k. ap (λ (y : ℕ). y % 65536) (chain_set s (from + p) (from + v) e)) i _ c.begins c.leads;
    }))
  where
    s' : List ℕ
    s' = set_entry s ((from + p) * 4) e

    c : Chained s from count (head_at s (bucket_of buckets (get_or s ((from + i) * 4) 0))) i
    c = x i h

    state : Dec (i ≡ p) → get_or s' ((from + i) * 4) 0 ≡ get_or s ((from + i) * 4) 0
    state (yes y) = rw y (state_set s (from + p) e (omega arith) ∙ sym same)
    state (no y) = state_other s (from + p) (from + i) e (λ q. y (omega arith))

-- a node more, at the head of its bucket
module _ (s s₁ : List ℕ) (from buckets count first : ℕ) (e : Entry) (fits : (from + count) * 4 + 4 ≤ length s) (m : length s₁ ≡ length s)
    (is : first ≡ head_at s (bucket_of buckets e.state)) (v : Entered s s₁ from count (bucket_of buckets e.state) first) (x : Indexed s from buckets count) where
  abbrev s₂ : List ℕ
  s₂ = set_entry s₁ ((from + count) * 4) e

  abbrev bucket : ℕ
  bucket = bucket_of buckets e.state

  head_of : (b : ℕ) → head_at s₂ b ≡ head_at s₁ b
  head_of b = ap (λ (y : ℕ). 65535 - y / 65536) (chain_set s₁ (from + count) b e)

  next_of : (i : ℕ) → next_at s₂ from i ≡ next_at s₁ from i
  next_of i = ap (λ (y : ℕ). y % 65536) (chain_set s₁ (from + count) (from + i) e)

  next_old : (i : ℕ) → i < count → next_at s₂ from i ≡ next_at s from i
  next_old i h = next_of i ∙ v.nexts i (λ q. omega arith)

  state_new : get_or s₂ ((from + count) * 4) 0 ≡ e.state
  state_new = state_set s₁ (from + count) e (omega arith)

  state_old : (i : ℕ) → i < count → get_or s₂ ((from + i) * 4) 0 ≡ get_or s ((from + i) * 4) 0
  state_old i h = state_other s₁ (from + count) (from + i) e (λ q. omega arith) ∙ state_same s s₁ (from + i) (omega arith) m v.nodes

  -- the new node itself; one of its bucket, behind it; one of another bucket
  itself : Chained s₂ from (count + 1) (head_at s₂ bucket) count
  itself = let q = head_of bucket ∙ v.head in record { begins = omega arith; leads = here q }

  behind : (i : ℕ) → Chained s from count first i → Chained s₂ from (count + 1) (head_at s₂ bucket) i
  behind i c =
      let q = head_of bucket ∙ v.head in
      let n : next_at s₂ from count ≡ first = next_of count ∙ v.next in
      subst (λ (y : ℕ). Chained s₂ from (count + 1) y i) (sym q)
      (record {
        begins = omega arith;
        leads = further {p = count} (omega (arith, n, c.begins))
            (subst (Leads (next_at s₂ from) i) (sym n) (leads_same (next_at s from) (next_at s₂ from) count next_old i first c.begins c.leads));
      })

  elsewhere : (i b : ℕ) → (b ≡ bucket → ⊥) → Chained s from count (head_at s b) i → Chained s₂ from (count + 1) (head_at s₂ b) i
  elsewhere i b n c =
      subst (λ (y : ℕ). Chained s₂ from (count + 1) y i) (sym (head_of b ∙ v.heads b n))
      (record { begins = omega (arith, c.begins); leads = leads_same (next_at s from) (next_at s₂ from) count next_old i (head_at s b) c.begins c.leads })

  pub indexed_new : Indexed s₂ from buckets (count + 1)
  indexed_new i h = go (dec_lt i count)
    where
      old : (k : i < count) → Dec (bucket_of buckets (get_or s ((from + i) * 4) 0) ≡ bucket) →
          Chained s₂ from (count + 1) (head_at s₂ (bucket_of buckets (get_or s ((from + i) * 4) 0))) i
      old k (yes q) =
          subst (λ (y : ℕ). Chained s₂ from (count + 1) (head_at s₂ y) i) (sym q)
          (behind i (subst (λ (y : ℕ). Chained s from count y i) (ap (head_at s) q ∙ sym is) (x i k)))
      old k (no q) = elsewhere i _ q (x i k)

      go : Dec (i < count) → Chained s₂ from (count + 1) (head_at s₂ (bucket_of buckets (get_or s₂ ((from + i) * 4) 0))) i
      go (yes k) =
          subst (λ (y : ℕ). Chained s₂ from (count + 1) (head_at s₂ (bucket_of buckets y)) i) (sym (state_old i k))
          (old k (ℕ_discrete (bucket_of buckets (get_or s ((from + i) * 4) 0)) bucket))
      go (no k) =
          let q : i ≡ count = omega arith in
          subst (λ (j : ℕ). Chained s₂ from (count + 1) (head_at s₂ (bucket_of buckets (get_or s₂ ((from + j) * 4) 0))) j) (sym q)
          (subst (λ (y : ℕ). Chained s₂ from (count + 1) (head_at s₂ (bucket_of buckets y)) count) (sym state_new) itself)

-- The next layer, once it is reached: too large, or kept. Assumes nothing.
use mathlib.Core.Path.{◌≡◌, refl, sym, ap, ◌∙◌}
use mathlib.Core.List.{List, [], ◌∷◌, map}
use Prim.Native.Nat.{ℕ, ◌+◌, ◌*◌, ◌≤◌, ◌<◌}
use native.Mathlib.Omega.{arith}
use lib.ListN.{length, get_or}
use lib.Seq.{get_or-take}
use Rattle.base.specs.Lists.{All}
use Rattle.base.proofs.Every.{all_map}
use Rattle.coding.specs.Candidates.{Cand}
use Rattle.coding.specs.Search.{reach, least, keep, floor_of}
use Rattle.encode_layer.specs.declared.Entry.{Entry}
use Rattle.encode_layer.specs.Entries.{node_of, entries_of, layer_of}
use Rattle.encode_layer.specs.Layer.{Sound, bounds, Held, Represents, held, over}
use Rattle.encode_layer.specs.Kept.{Kept, older, Squeezed}
use Rattle.encode_layer.proofs.Entries.{length_of_lem, entry_first, same_entries}
use Rattle.encode_layer.proofs.Pushing.{blank}
use Rattle.encode_layer.proofs.Standing.{few}
use Rattle.encode_layer.proofs.Costs.{length_layer}
use Rattle.encode_ways.specs.Turn.{MatchAll}
use Rattle.encode_candidates.specs.declared.candidate.Candidate.{Candidate}
use Rattle.encode_candidates.specs.Packed.{cands_of}
use Rattle.encode_search.specs.Layers.{Reached, Capped, Next, Stepped}
use Rattle.encode_search.proofs.Matching.{matched}

least_of : (cs : List Cand) (most : ℕ) (q : List Entry) → All (λ e. e.cost ≤ most) q → least (map (node_of cs) q) ≤ most
unfolding least node_of
least_of cs most [] a = omega arith
least_of cs most (d ∷ []) a = a.0
least_of cs most (d ∷ (e ∷ es)) a = omega (arith, a.0, least_of cs most (e ∷ es) a.1)

pub sounder : (b c : ℕ) (q : List Entry) → b ≤ c → All (Sound b) q → All (Sound c) q
sounder b c q h a = all_map (Sound b) (Sound c) q (λ e p. record { proper = p.proper; cheap = omega (arith, p.cheap) }) a

module _ (s s₁ : List ℕ) (pcount cap buckets n : ℕ) (ks : List Candidate) (q : Reached s s₁ pcount cap buckets ks n)
    (k : Capped (length s) pcount cap) (same : length s₁ ≡ length s) (a : All (Sound 65526) (entries_of s 0 pcount)) where
  -- there are more states than have room
  pub too_many : cap < n → (cs cs₀ : List Cand) → MatchAll cs ks → length s < (pcount + length (reach cs (layer_of cs₀ s 0 pcount) 0 [])) * 4
  too_many h cs cs₀ c = go (q.stands cs cs₀ 65526 65535 c a (omega arith))
    where
      go : Represents cs (bounds pcount cap buckets 65535) s₁ n (reach cs (layer_of cs₀ s 0 pcount) 0 []) → length s < (pcount + length (reach cs (layer_of cs₀ s 0 pcount) 0 [])) * 4
      go (held x) = absurd (omega (arith, x.fits))
      go (over x) = omega (arith, x.more, k.exact x.small)

  -- there are not
  module _ (le : n ≤ cap) where
    holds : (cs cs₀ : List Cand) (b : ℕ) → MatchAll cs ks → All (Sound b) (entries_of s 0 pcount) →
        Held cs (bounds pcount cap buckets (b + 9)) s₁ n (reach cs (layer_of cs₀ s 0 pcount) 0 [])
    holds cs cs₀ b c x = go (q.stands cs cs₀ b (b + 9) c x (omega arith))
      where
        go : Represents cs (bounds pcount cap buckets (b + 9)) s₁ n (reach cs (layer_of cs₀ s 0 pcount) 0 []) →
            Held cs (bounds pcount cap buckets (b + 9)) s₁ n (reach cs (layer_of cs₀ s 0 pcount) 0 [])
        go (held y) = y
        go (over y) = absurd (omega (arith, y.full))

    pub reached_sound : (b : ℕ) → All (Sound b) (entries_of s 0 pcount) → All (Sound (b + 9)) (entries_of s₁ pcount n)
    reached_sound b x = (holds (cands_of ks) [] b (matched ks) x).sound

    reached_cheap : All (λ e. e.cost ≤ 65535) (entries_of s₁ pcount n)
    reached_cheap = all_map (Sound 65535) (λ e. e.cost ≤ 65535) (entries_of s₁ pcount n) (λ e p. p.cheap) (reached_sound 65526 a)

    pub reached_few : n ≤ 48384
    reached_few =
        let x = holds (cands_of ks) [] 65526 (matched ks) a in
        omega (arith, few (entries_of s₁ pcount n) 65535 x.distinct x.sound, length_of_lem s₁ pcount n (omega (arith, k.inside)))

    pub least_small : (r : ℕ) → ((cs : List Cand) → r ≡ least (layer_of cs s₁ pcount n)) → r ≤ 65535
    unfolding layer_of
    least_small r e = omega (arith, e [], least_of [] 65535 (entries_of s₁ pcount n) reached_cheap)

    -- the layer before is squeezed
    module _ (s₂ : List ℕ) (before : ℕ) (es : Squeezed s₁ s₂ pcount before) where
      nodes : entries_of s₂ pcount n ≡ entries_of s₁ pcount n
      nodes = same_entries s₁ s₂ pcount pcount n (omega arith) es.behind

      pub still_cheap : All (λ e. e.cost ≤ 65535) (entries_of s₂ pcount n)
      still_cheap = rw nodes reached_cheap

    -- and the others are dropped
    module _ (s₂ s₃ : List ℕ) (before best rest floor low kept : ℕ) (es : Squeezed s₁ s₂ pcount before) (el : (cs : List Cand) → best ≡ least (layer_of cs s₁ pcount n))
        (ef : (cs : List Cand) → low ≡ floor_of (best + 10) rest floor (layer_of cs s₂ pcount n)) (ek : Kept s₂ s₃ pcount n (best + 10) kept) where
      same_nodes : entries_of s₂ pcount n ≡ entries_of s₁ pcount n
      same_nodes = nodes s₂ before es

      pub next : (cs cs₀ : List Cand) → MatchAll cs ks → Next s s₃ cs pcount kept rest floor low (reach cs (layer_of cs₀ s 0 pcount) 0 [])
      unfolding layer_of
      next cs cs₀ c =
          let x = holds cs cs₀ 65526 c a in
          let l = length_layer cs s₁ pcount n (omega (arith, k.inside)) in
          let e : best ≡ least (reach cs (layer_of cs₀ s 0 pcount) 0 []) = el cs ∙ ap least x.layer in
          record {
            room = omega (arith, k.inside, ap length x.layer);
            layer = ek.layer cs ∙ (ap (λ (y : List Entry). keep (best + 10) (map (node_of cs) y)) same_nodes ∙ (λ i. keep (e i + 10) (x.layer i)));
            lowers = ef cs ∙ (ap (λ (y : List Entry). floor_of (best + 10) rest floor (map (node_of cs) y)) same_nodes ∙ (λ i. floor_of (e i + 10) rest floor (x.layer i)));
          }

      link : (i : ℕ) → i < pcount → get_or s₁ (i * 4 + 2) 0 ≡ get_or s (i * 4 + 2) 0
      link i h =
          ap (λ (e : Entry). e.link) (sym (entry_first s₁ pcount (omega (arith, k.inside)) i blank h) ∙
          (ap (λ (l : List Entry). get_or l i blank) q.before ∙ entry_first s pcount (omega (arith, k.inside)) i blank h))

      squeezed : (i : ℕ) → i < pcount → get_or s₃ i 0 ≡ older (get_or s (i * 4 + 2) 0) (before + i)
      squeezed i h =
          sym (get_or-take pcount s₃ i 0 h) ∙ (ap (λ (l : List ℕ). get_or l i 0) ek.before ∙
          (get_or-take pcount s₂ i 0 h ∙ (es.each i h ∙ ap (λ (x : ℕ). older x (before + i)) (link i h))))

      pub advanced : Stepped s s₃ (record { count = pcount; before = before; rest = rest; floor = floor }) ks (record { count = kept; before = pcount; rest = rest; floor = low })
      advanced =
          record {
            few = omega (arith, ek.fewer, reached_few);
            inside = omega (arith, k.inside, ek.fewer);
            behind = refl;
            rest = refl;
            sound = λ b x. ek.sound (b + 9) (rw same_nodes (reached_sound b x));
            squeezed = squeezed;
            kept = next;
          }

-- Pushes one after the other, and the nodes that they push. Assumes nothing.
use mathlib.Core.Path.{◌≡◌, refl, sym, ap, ◌∙◌, subst}
use mathlib.Core.List.{List, [], ◌∷◌, ◌++◌, map, append-nil}
use Prim.Native.Nat.{ℕ, ◌+◌, ◌*◌, ◌/◌, ◌%◌, ◌≤◌, ◌<◌}
use native.Mathlib.Omega.{arith}
use lib.ListN.{length, length-append, length-map}
use borrow.Author.Tests.{eq-eqb, ne_eqb, lt-ltb, le-ltb, le-leb, lt-leb}
use Rattle.coding.specs.State.{State, invoke_gl, invoke_gr, lock_gl, lock_gr, single}
use Rattle.coding.specs.Candidates.{Cand}
use Rattle.coding.specs.Ways.{through}
use Rattle.coding.specs.Search.{Node, node, push, push_all, by_ways}
use Rattle.encode_states.specs.Packed.{unpack}
use Rattle.encode_states.specs.Written.{written, invocation, half}
use Rattle.encode_states.proofs.Elements.{lock_right, single_one}
use Rattle.encode_layer.specs.Entries.{entry, node_of}
use Rattle.encode_layer.specs.Layer.{Bounds, Pushes}
use Rattle.encode_ways.specs.Turn.{Turn, bytes_of, Through}

-- nothing is pushed; more is pushed
pub none : (cs : List Cand) (r : Bounds) (s : List ℕ) (count : ℕ) → Pushes cs r s count s count []
unfolding push_all
none cs r s count = record { stands = λ l x. x; before = refl }

pub push_append : (l ns ms : List Node) → push_all l (ns ++ ms) ≡ push_all (push_all l ns) ms
unfolding push_all
push_append l [] ms = refl
push_append l (n ∷ ns) ms = push_append (push l n) ns ms

module _ {cs : List Cand} {r : Bounds} {s s₁ s₂ : List ℕ} {count count₁ count₂ : ℕ} where
  pub and : (ns ms : List Node) → Pushes cs r s count s₁ count₁ ns → Pushes cs r s₁ count₁ s₂ count₂ ms → Pushes cs r s count s₂ count₂ (ns ++ ms)
  and ns ms a b = record { stands = λ l x. rw (push_append l ns ms) (b.stands (push_all l ns) (a.stands l x)); before = b.before ∙ a.before }

module _ {cs : List Cand} {r : Bounds} {s s' : List ℕ} {count count' : ℕ} where
  pub pushes_as : (ns ms : List Node) → ns ≡ ms → Pushes cs r s count s' count' ns → Pushes cs r s count s' count' ms
  pushes_as ns ms e a = subst (λ (x : List Node). Pushes cs r s count s' count' x) e a

  pub renamed : (n m : Node) → n ≡ m → Pushes cs r s count s' count' (n ∷ []) → Pushes cs r s count s' count' (m ∷ [])
  renamed n m e a = pushes_as (n ∷ []) (m ∷ []) (ap (λ (x : Node). x ∷ []) e) a

-- the node that a way reaches
abbrev pub reached : Turn → List ℕ → State → ℕ → Node
reached t q to hi = node t.base t.place to (t.pre ++ (q ++ map (λ b. b + hi) t.code))

module _ (cs : List Cand) (t : Turn) (p : List ℕ) (n cost link : ℕ) (w : Through cs t p n cost link) where
  pub node_as : (v a c l : ℕ) (to : State) (q : List ℕ) (hi : ℕ) → unpack a ≡ to → l ≡ link + v * 67108864 → p ++ invocation v n ≡ q → half v ≡ hi →
      c ≡ cost + length (invocation v n) → node_of cs (entry a c l) ≡ reached t q to hi
  unfolding node_of
  node_as v a c l to q hi es el eq eh ec =
      let g : bytes_of t p n v ≡ t.pre ++ (q ++ map (λ b. b + hi) t.code) = λ i. t.pre ++ (eq i ++ map (λ b. b + eh i) t.code) in
      let b : written cs (l / 131072) ≡ t.pre ++ (q ++ map (λ b. b + hi) t.code) = ap (λ (x : ℕ). written cs (x / 131072)) el ∙ (w.bytes v ∙ g) in
      let m : l % 131072 ≡ t.place = ap (λ (x : ℕ). x % 131072) el ∙ w.prev v in
      let k : length (t.pre ++ (q ++ map (λ b. b + hi) t.code)) ≡ length t.pre + (length q + length t.code) = simp (length-append, length-map) in
      let j : length q ≡ length p + length (invocation v n) = ap length (sym eq) ∙ length-append p (invocation v n) in
      let d : c ≡ t.base + length (t.pre ++ (q ++ map (λ b. b + hi) t.code)) = omega (arith, w.costs) in
      λ i. record { state = es i; cost = d i; prev = m i; bytes = b i }

  -- the five invocations
  pub stands : (a : ℕ) → node_of cs (entry a cost link) ≡ reached t p (unpack a) 0
  unfolding invocation half
  stands a = node_as 0 a cost link (unpack a) p 0 refl (omega arith) (append-nil p) refl (omega arith)

  pub stands_right : (a : ℕ) → node_of cs (entry a cost (link + 67108864)) ≡ reached t p (unpack a) 128
  unfolding invocation half
  stands_right a = node_as 1 a cost (link + 67108864) (unpack a) p 128 refl (omega arith) (append-nil p) refl (omega arith)

  pub locks : (a c : ℕ) (to : State) → unpack a ≡ to → c ≡ length (lock_gl n) → node_of cs (entry a (cost + c) (link + 134217728)) ≡ reached t (p ++ lock_gl n) to 0
  unfolding invocation half
  locks a c to e f = node_as 2 a (cost + c) (link + 134217728) to (p ++ lock_gl n) 0 e (omega arith) refl refl (ap (λ (x : ℕ). cost + x) f)

  pub locks_right : (a : ℕ) (to : State) → unpack a ≡ to → node_of cs (entry a (cost + 2) (link + 201326592)) ≡ reached t (p ++ lock_gr n) to 128
  unfolding invocation half
  locks_right a to e = node_as 3 a (cost + 2) (link + 201326592) to (p ++ lock_gr n) 128 e (omega arith) refl refl (ap (λ (x : ℕ). cost + x) (sym (lock_right n)))

  pub shifts : (a : ℕ) → node_of cs (entry a (cost + 1) (link + 268435456)) ≡ reached t (p ++ single n) (unpack a) 0
  unfolding invocation half
  shifts a = node_as 4 a (cost + 1) (link + 268435456) (unpack a) (p ++ single n) 0 refl (omega arith) refl refl (ap (λ (x : ℕ). cost + x) (sym (single_one n)))

-- the nodes of `through`, by its tests
module _ (t : Turn) (p : List ℕ) (s : State) (n : ℕ) where
  abbrev pub nodes : List Node
  nodes = by_ways t.base t.place t.pre t.code (through p s n)

  pub in_both : s.gl ≡ n → s.gr ≡ n → nodes ≡ reached t p s 0 ∷ reached t p s 128 ∷ []
  unfolding by_ways through
  in_both l r = rw (eq-eqb _ _ l, eq-eqb _ _ r)

  pub in_left : s.gl ≡ n → (s.gr ≡ n → ⊥) → nodes ≡ reached t p s 0 ∷ []
  unfolding by_ways through
  in_left l r = rw (eq-eqb _ _ l, ne_eqb _ _ r)

  pub in_right : (s.gl ≡ n → ⊥) → s.gr ≡ n → nodes ≡ reached t p s 128 ∷ []
  unfolding by_ways through
  in_right l r = rw (ne_eqb _ _ l, eq-eqb _ _ r)

  pub by_one : (s.gl ≡ n → ⊥) → (s.gr ≡ n → ⊥) → n ≡ 0 → nodes ≡ reached t (p ++ lock_gl n) (invoke_gl s n) 0 ∷ []
  unfolding by_ways through
  by_one l r h = rw (ne_eqb _ _ l, ne_eqb _ _ r, le-ltb 0 n (omega arith), lt-leb 2 n (omega arith))

  pub by_two : (s.gl ≡ n → ⊥) → (s.gr ≡ n → ⊥) → (n ≡ 0 → ⊥) → n < 2 →
      nodes ≡ reached t (p ++ lock_gl n) (invoke_gl s n) 0 ∷ reached t (p ++ lock_gr n) (invoke_gr s n) 128 ∷ []
  unfolding by_ways through
  by_two l r h k = rw (ne_eqb _ _ l, ne_eqb _ _ r, lt-ltb 0 n (omega arith), lt-leb 2 n k)

  pub by_three : (s.gl ≡ n → ⊥) → (s.gr ≡ n → ⊥) → 2 ≤ n → nodes ≡ reached t (p ++ lock_gl n) (invoke_gl s n) 0 ∷ reached t (p ++ lock_gr n) (invoke_gr s n) 128 ∷
      reached t (p ++ single n) s 0 ∷ []
  unfolding by_ways through
  by_three l r k = rw (ne_eqb _ _ l, ne_eqb _ _ r, lt-ltb 0 n (omega arith), le-leb 2 n k)

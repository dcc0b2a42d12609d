-- Each node of the search writes its character admissibly, by at most nine bytes. Assumes nothing.
use mathlib.Core.Path.{◌≡◌, refl, sym, subst}
use mathlib.Core.List.{List, [], ◌∷◌, ◌++◌, map, append_assoc}
use Prim.Native.Nat.{ℕ, ◌+◌, ◌≤◌, ◌<◌}
use native.Mathlib.Omega.{arith}
use lib.Dec.{eqb}
use lib.ListN.{length, length-append, length-map}
use borrow.Author.Tests.{eqb-false}
use Rattle.coding.specs.State.{State, resize}
use Rattle.coding.specs.Candidates.{Size, either, narrow, wide, Cand, graphic, plain}
use Rattle.coding.specs.Ways.{Way, ways}
use Rattle.coding.specs.Search.{Node, size_bytes, sized, by_ways, by_cand}
use Rattle.coding.specs.Admissible.{Sized, direct, msz, nsz, Admissible, control, write}
use Rattle.base.specs.Lists.{All}
use Rattle.coding.specs.Admissible.{Some, here, there}
use Rattle.base.proofs.Every.{all_append}
use Rattle.base.proofs.Tests.{by_test}
use Rattle.laws_coding.proofs.WaysWrite.{Leads, Writes, shown, ways_write}
use Rattle.laws_coding.proofs.Layers.{by_each}

-- a candidate as the coder has them: of a set that is neither the macro set nor a DRCS, of one or two bytes
abbrev pub OfTables : Cand → Type 0
OfTables (graphic x code size) = (x < 15) × (length code ≤ 2)
OfTables (plain b size) = Unit {0}

-- the size control before a candidate, from a state that is narrow or wide
pub record Sizes (s : State) (size : Size) : Type 0 where
  pub one : length (size_bytes s size) ≤ 1
  pub fits : Sized (sized s size) size
  pub small : s.narrow ≤ 1 → (sized s size).narrow ≤ 1
  pub leads : s.narrow ≤ 1 → Leads s (size_bytes s size) (sized s size)

has_size : (s : State) (n : ℕ) → s.narrow ≡ n → Leads s [] (resize s n)
has_size s n e css bs d = subst (λ (m : ℕ). Admissible (resize s m) css bs) (sym e) d

sizes : (s : State) (size : Size) → Sizes s size
unfolding size_bytes sized
sizes s either = record { one = omega arith; fits = tt; small = λ k. k; leads = λ k css bs d. d }
sizes s narrow =
    record {
      one = by_test (λ (l : List ℕ). length l ≤ 1) (eqb s.narrow 0) (λ e. omega arith) (λ e. omega arith);
      fits = refl;
      small = λ k. omega arith;
      leads = λ k. by_test (λ (l : List ℕ). Leads s l (resize s 1)) (eqb s.narrow 0) (λ e css bs d. control msz d) (λ e. has_size s 1 (one (eqb-false s.narrow 0 e) k));
    }
  where
    one : (s.narrow ≡ 0 → ⊥) → s.narrow ≤ 1 → s.narrow ≡ 1
    one ne k = omega arith
sizes s wide =
    record {
      one = by_test (λ (l : List ℕ). length l ≤ 1) (eqb s.narrow 1) (λ e. omega arith) (λ e. omega arith);
      fits = refl;
      small = λ k. omega arith;
      leads = λ k. by_test (λ (l : List ℕ). Leads s l (resize s 0)) (eqb s.narrow 1) (λ e css bs d. control nsz d) (λ e. has_size s 0 (none (eqb-false s.narrow 1 e) k));
    }
  where
    none : (s.narrow ≡ 1 → ⊥) → s.narrow ≤ 1 → s.narrow ≡ 0
    none ne k = omega arith

-- m is reached from n, the i-th, by a candidate of ks; by C the candidates are fine
pub record Step (C : Type 0) (ks : List Cand) (n : Node) (i : ℕ) (m : Node) : Type 0 where
  pub prev : m.prev ≡ i
  pub cost : m.cost ≡ n.cost + length m.bytes
  pub nine : C → length m.bytes ≤ 9
  pub small : C → n.state.narrow ≤ 1 → m.state.narrow ≤ 1
  pub writes : C → n.state.narrow ≤ 1 → (css : List (List Cand)) (bs : List ℕ) → Admissible m.state css bs → Admissible n.state (ks ∷ css) (m.bytes ++ bs)

module _ (C : Type 0) (ks : List Cand) (n : Node) (i : ℕ) where
  ways_steps : (x : ℕ) (code : List ℕ) (size : Size) → (C → OfTables (graphic x code size)) → Some (λ k. k ≡ graphic x code size) ks → (ws : List Way) →
      (C → All (Writes x (sized n.state size)) ws) → All (Step C ks n i) (by_ways n.cost i (size_bytes n.state size) code ws)
  unfolding by_ways
  ways_steps x code size fine k [] a = tt
  ways_steps x code size fine k (w ∷ ws) a = (
    record {
      prev = refl;
      cost = refl;
      nine = λ c. simp (length-append, length-map) (omega (arith, (sizes n.state size).one, (a c).0.few, (fine c).1));
      small = λ c h. rw (a c).0.size ((sizes n.state size).small h);
      writes = λ c h css bs d.
          rw (append_assoc (size_bytes n.state size), append_assoc w.pre)
          ((sizes n.state size).leads h (ks ∷ css) (w.pre ++ (map (λ b. b + w.hi) code ++ bs))
          ((a c).0.write ks code size k (sizes n.state size).fits css bs d));
    },
    ways_steps x code size fine k ws (λ c. (a c).1),
  )

  pub cand_steps : (k : Cand) → (C → OfTables k) → Some (λ j. j ≡ k) ks → All (Step C ks n i) (by_cand n i k)
  unfolding by_cand
  cand_steps (graphic x code size) fine k = ways_steps x code size fine k (ways (sized n.state size) x) (λ c. ways_write (sized n.state size) x (fine c).0)
  cand_steps (plain b size) fine k = (
    record {
      prev = refl;
      cost = refl;
      nine = λ c. rw length-append (omega (arith, (sizes n.state size).one));
      small = λ c h. (sizes n.state size).small h;
      writes = λ c h css bs d.
          rw (append_assoc (size_bytes n.state size)) ((sizes n.state size).leads h (ks ∷ css) (b ∷ bs)
          (write (shown (sized n.state size) (plain b size) (b ∷ []) k (direct b size (sizes n.state size).fits)) d));
    },
    tt,
  )

  pub each_steps : (js : List Cand) → (C → All OfTables js) → ((k : Cand) → Some (λ j. j ≡ k) js → Some (λ j. j ≡ k) ks) → All (Step C ks n i) (by_each n i js)
  unfolding by_each
  each_steps [] fine f = tt
  each_steps (k ∷ js) fine f = all_append (Step C ks n i) (by_cand n i k) _ (cand_steps k (λ c. (fine c).0) (f k (here refl))) (each_steps js (λ c. (fine c).1) (λ j m. f j (there m)))

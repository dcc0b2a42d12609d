-- The shortest code: one byte where some candidate has one, else two. Assumes nothing.
use mathlib.Core.Path.{◌≡◌, refl, sym, ap, ◌∙◌}
use mathlib.Core.Bool.{Bool, true, false}
use mathlib.Core.List.{List, [], ◌∷◌}
use Prim.Native.Nat.{ℕ, zero, suc, ◌+◌, ◌<◌, ◌≤◌}
use native.Mathlib.Decide.{ℕ_discrete}
use native.Mathlib.Omega.{arith}
use lib.Dec.{eqb, ltb}
use lib.ListN.{length, get_or}
use Rattle.std.specs.Prelude.{map}
use Rattle.std.proofs.lemmas.List.{get_or_default}
use borrow.Author.Tests.{ltb-true, ltb-false, eq-eqb, ne_eqb, lt-ltb, le-ltb}
use Rattle.coding.specs.Candidates.{Size, Cand, code_length, shortest}
use Rattle.encode_candidates.specs.declared.candidate.Candidate.{Candidate}
use Rattle.encode_candidates.specs.Packed.{size_of, cand_of, cand, OneOrTwo, one_or_two, cands_of}

-- ---- a candidate's own length

module _ (x b : ℕ) (z : Size) where
  pub without_set : x ≡ 7 → code_length (cand_of x b z) ≡ 1
  unfolding cand_of code_length
  without_set e = rw (eq-eqb x 7 e)

  pub of_byte : b < 256 → code_length (cand_of x b z) ≡ 1
  unfolding cand_of code_length
  of_byte h = go (eqb x 7) refl
    where
      go : (d : Bool) → eqb x 7 ≡ d → code_length (cand_of x b z) ≡ 1
      go true e = rw e
      go false e = rw (e, lt-ltb b 256 h)

  pub of_bytes : (x ≡ 7 → ⊥) → 256 ≤ b → code_length (cand_of x b z) ≡ 2
  unfolding cand_of code_length
  of_bytes n h = rw (ne_eqb x 7 n, le-ltb b 256 h)

pub few_length : (c : Candidate) → code_length (cand c) ≤ 2
few_length c = (one_or_two c).1

-- where there is no set
pub plain_length : (c : Candidate) → 6 ≤ c.set → code_length (cand c) ≡ 1
unfolding cand
plain_length c h = go (ℕ_discrete c.set 7)
  where
    go : Dec (c.set ≡ 7) → code_length (cand_of c.set c.code (size_of c.size)) ≡ 1
    go (yes e) = without_set c.set c.code (size_of c.size) e
    go (no e) = absurd (omega (arith, c.six e))

pub some_length : (c : Candidate) → 1 ≤ code_length (cand c)
some_length c = (one_or_two c).0

-- ---- the shortest of some, by what each stands for

module _ {X : Type 0} (f : X → Cand) where
  -- the first i have two bytes each
  abbrev pub Twos : List X → ℕ → Type 0
  Twos l i = (d : X) (j : ℕ) → j < i → code_length (f (get_or l j d)) ≡ 2

  pub more : (l : List X) (c : X) (i n : ℕ) → Twos l i → c ≡ get_or l i c → i < length l → n ≡ code_length (f c) → OneOrTwo (f c) → (n ≡ 1 → ⊥) → Twos l (i + 1)
  more l c i n t e h q b m d j k = go (ltb j i) refl
    where
      go : (b : Bool) → ltb j i ≡ b → code_length (f (get_or l j d)) ≡ 2
      go true u = t d j (ltb-true j i u)
      go false u =
          let v = ltb-false j i u in
          let z : i ≡ j = omega arith in
          let y : get_or l j d ≡ c = ap (λ (x : ℕ). get_or l x d) (sym z) ∙ (get_or_default l i d c h ∙ sym e) in
          ap (λ (x : X). code_length (f x)) y ∙ omega (arith, b.0, b.1)

  pub is_two : (c : X) (l : List X) → Twos (c ∷ l) (suc (length l)) → 2 ≡ shortest (map f (c ∷ l))
  unfolding shortest
  is_two c [] t = sym (t c 0 (omega arith))
  is_two c (b ∷ l) t = omega (arith, t c 0 (omega arith), is_two b l (λ d j h. t d (suc j) (omega arith)))

  pub all_two : (l : List X) (i : ℕ) → (length l ≡ 0 → ⊥) → length l ≤ i → Twos l i → 2 ≡ shortest (map f l)
  all_two [] i n h t = absurd (n refl)
  all_two (c ∷ l) i n h t = is_two c l (λ d j k. t d j (omega arith))

  pub none_short : (l : List X) → length l ≡ 0 → 0 ≡ shortest (map f l)
  unfolding shortest
  none_short [] e = refl
  none_short (c ∷ l) e = absurd (omega arith)

  module _ (law : (c : X) → OneOrTwo (f c)) where
    one_least : (c : X) (l : List X) → 1 ≤ shortest (map f (c ∷ l))
    unfolding shortest
    one_least c [] = (law c).0
    one_least c (d ∷ l) = omega (arith, (law c).0, one_least d l)

    pub is_one : (l : List X) (d : X) (j : ℕ) → j < length l → code_length (f (get_or l j d)) ≡ 1 → 1 ≡ shortest (map f l)
    unfolding shortest
    is_one [] d j h e = absurd (omega arith)
    is_one (c ∷ []) d zero h e = sym e
    is_one (c ∷ []) d (suc j) h e = absurd (omega arith)
    is_one (c ∷ b ∷ l) d zero h e = omega (arith, e, one_least b l)
    is_one (c ∷ b ∷ l) d (suc j) h e = omega (arith, (law c).0, is_one (b ∷ l) d j (omega arith) e)

-- ---- of candidates

-- none has more than two bytes, and where there is none there is no candidate
pub short : (l : List Candidate) → shortest (cands_of l) ≤ 2
unfolding shortest
short [] = omega arith
short (c ∷ []) = few_length c
short (c ∷ d ∷ l) = omega (arith, short (d ∷ l))

pub nothing : (l : List Candidate) → shortest (cands_of l) ≡ 0 → cands_of l ≡ []
nothing [] e = refl
nothing (c ∷ l) e = absurd (omega (arith, one_least cand one_or_two c l))

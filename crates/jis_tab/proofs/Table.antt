-- `jis.tab` as numbers. Assumes nothing.
use Prim.Native.Nat.{ℕ, zero, suc, ◌+◌, ◌*◌, ◌/◌, ◌≤◌, ◌<◌}
use mathlib.Core.Path.{◌≡◌, refl, sym, ap, ap₂, ◌∙◌}
use mathlib.Core.Bool.{true, false}
use mathlib.Core.List.{List, [], ◌∷◌, ◌++◌}
use native.Mathlib.Numerals.{add-one}
use native.Mathlib.Omega.{arith}
use borrow.Author.Tests.{eq-eqb, ne_eqb}
use lib.ListN.{length, get_or, take, set, replicate, length-set}
use lib.Seq.{take-suc, take-suc-set, take_all, take-length}
use Rattle.questions.specs.Buffer.{padded}
use Rattle.questions.proofs.Buffers.{length_padded, padded_none, take_padded}
use Rattle.jis_tab.specs.CellTable.{big_endian, cell_table}
use Rattle.jis_tab.specs.Promises.{Filled}

-- ---- one number

pub number_at : (bytes : List ℕ) (i : ℕ) → i < length bytes / 2 → get_or bytes (2 * i) 0 * 256 + get_or bytes (2 * i + 1) 0 ≡ get_or (big_endian bytes) i 0
unfolding big_endian
number_at [] i h = absurd (omega arith)
number_at (x ∷ []) i h = absurd (omega arith)
number_at (x ∷ (y ∷ rest)) zero h = refl
number_at (x ∷ (y ∷ rest)) (suc i) h =
    let e : 2 * suc i ≡ suc (suc (2 * i)) = omega arith in
    let f : 2 * suc i + 1 ≡ suc (suc (2 * i + 1)) = omega arith in
    rw (f, e) (number_at rest i (omega arith))

pub number_past : (bytes : List ℕ) (i : ℕ) → length bytes / 2 ≤ i → 0 ≡ get_or (big_endian bytes) i 0
unfolding big_endian
number_past [] i h = refl
number_past (x ∷ []) i h = refl
number_past (x ∷ (y ∷ rest)) zero h = absurd (omega arith)
number_past (x ∷ (y ∷ rest)) (suc i) h = number_past rest i (omega arith)

pub big_endian_long : (bytes : List ℕ) → length (big_endian bytes) ≡ length bytes / 2
unfolding big_endian
big_endian_long [] = refl
big_endian_long (x ∷ []) = refl
big_endian_long (x ∷ (y ∷ rest)) = omega (arith, big_endian_long rest)

-- ---- all of them

padded_at : (n : ℕ) (vs : List ℕ) (i : ℕ) → i < n → get_or (padded n vs) i 0 ≡ get_or vs i 0
unfolding padded
padded_at zero vs i h = absurd (omega arith)
padded_at (suc n) [] zero h = refl
padded_at (suc n) [] (suc i) h = padded_at n [] i (omega arith)
padded_at (suc n) (v ∷ vs) zero h = refl
padded_at (suc n) (v ∷ vs) (suc i) h = padded_at n vs i (omega arith)

-- the first i stand
pub record Part (bytes before cells : List ℕ) (i : ℕ) : Type 0 where
  pub long : length cells ≡ length before
  pub stands : take i cells ≡ take i (padded (length before) (big_endian bytes))

pub part_none : (bytes cells : List ℕ) → Part bytes cells cells 0
part_none bytes cells = record { long = refl; stands = refl }

pub part_turn : (bytes before cells : List ℕ) (i x : ℕ) → Part bytes before cells i → i < length cells → x ≡ get_or (big_endian bytes) i 0 → Part bytes before (set cells i x) (i + 1)
part_turn bytes before cells i x p h e =
    let q : i < length before = omega (arith, p.long) in
    record {
      long = length-set cells i x ∙ p.long;
      stands =
          rw add-one
          (take-suc-set cells i x h ∙ ap₂ (λ (a : List ℕ) (b : ℕ). a ++ (b ∷ [])) p.stands (e ∙ sym (padded_at (length before) (big_endian bytes) i q))
          ∙ sym (take-suc (padded (length before) (big_endian bytes)) i 0 (omega (arith, length_padded (length before) (big_endian bytes)))));
    }

pub part_all : (bytes before cells : List ℕ) (i : ℕ) → Part bytes before cells i → length cells ≤ i → cells ≡ padded (length before) (big_endian bytes)
part_all bytes before cells i p h =
    sym (take_all i cells h) ∙ p.stands
    ∙ take_all i (padded (length before) (big_endian bytes)) (omega (arith, p.long, length_padded (length before) (big_endian bytes)))

-- ---- the cases of `jis.tab`

module _ (bytes before cells : List ℕ) where
  -- there is none
  pub filled_absent : cells ≡ padded (length before) (big_endian []) → Filled false bytes before cells (length cells)
  unfolding big_endian cell_table
  filled_absent e =
      record {
        within = omega arith;
        counted = sym (ap length (take-length cells));
        table = λ h. take-length cells ∙ e ∙ padded_none (length before) ∙ ap (λ (n : ℕ). replicate n 0) h;
      }

  -- it is a table
  pub filled_whole : cells ≡ padded (length before) (big_endian bytes) → length bytes ≡ 17672 → Filled true bytes before cells (length cells)
  unfolding cell_table
  filled_whole e k =
      record {
        within = omega arith;
        counted = sym (ap length (take-length cells));
        table = λ h. rw (eq-eqb (length bytes) 17672 k) (go h);
      }
    where
      go : length before ≡ 8836 → take (length cells) cells ≡ big_endian bytes
      go h =
          let n : length (big_endian bytes) ≡ length before = omega (arith, big_endian_long bytes) in
          take-length cells ∙ e ∙ ap (λ (m : ℕ). padded m (big_endian bytes)) (sym n) ∙
          sym (take_all (length (big_endian bytes)) (padded (length (big_endian bytes)) (big_endian bytes))
          (omega (arith, length_padded (length (big_endian bytes)) (big_endian bytes))))
          ∙ take_padded (length (big_endian bytes)) (big_endian bytes) (omega arith)

  -- it is none
  pub filled_not : (length bytes ≡ 17672 → ⊥) → Filled true bytes before cells 0
  unfolding cell_table
  filled_not k = record { within = omega arith; counted = refl; table = λ h. rw (ne_eqb (length bytes) 17672 k) }

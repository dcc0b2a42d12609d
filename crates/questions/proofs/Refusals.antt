-- Numbers of refusals, and what a call knows where none of questions 1, 2 and 3 refused it. Assumes nothing.
use Prim.Native.Nat.{ℕ, ◌≤◌, ◌<◌}
use mathlib.Core.Path.{◌≡◌, refl}
use mathlib.Core.Bool.{Bool, true, false, cond, ◌&&◌}
use mathlib.Core.List.{List}
use native.Mathlib.Omega.{arith}
use borrow.Author.Tests.{leb-true}
use lib.Dec.{leb}
use Rattle.questions.specs.declared.refusal.Refusal.{Refusal}
use Rattle.questions.specs.declared.refusal.Refusal.TheVariants as refusals
use Rattle.questions.specs.Refusal.{number_of}
use Rattle.questions.specs.Questions.{cells_hold, first_refusal}

-- a refusal has a number
pub some_number : (e : Refusal) → 0 < number_of e
some_number refusals.CellTable = omega arith
some_number refusals.Options = omega arith
some_number refusals.TooLong = omega arith
some_number (refusals.IllFormed place) = omega arith
some_number (refusals.NoBase place) = omega arith
some_number (refusals.Unencodable place) = omega arith
some_number refusals.StoreTooSmall = omega arith
some_number refusals.BufferTooSmall = omega arith
some_number refusals.IssuesTooMany = omega arith
some_number refusals.HasIssues = omega arith
some_number refusals.PrivateUse = omega arith
some_number refusals.CatalogueMismatch = omega arith
some_number refusals.KeyTooLong = omega arith
some_number refusals.CatalogueFull = omega arith
some_number refusals.BookmarkMismatch = omega arith
some_number refusals.BookmarkPlace = omega arith

pub record Passed (t : List ℕ) (initial width limit len : ℕ) : Type 0 where
  pub table : cells_hold t ≡ true
  pub initial_option : initial ≤ 1
  pub width_option : width ≤ 1
  pub within : len ≤ limit

pub passed : (t : List ℕ) (initial width limit len : ℕ) → first_refusal t initial width limit len ≡ 0 → Passed t initial width limit len
unfolding first_refusal
passed t initial width limit len = go (cells_hold t) (leb initial 1) (leb width 1) (leb len limit) refl refl refl refl
  where
    go : (a b c d : Bool) → cells_hold t ≡ a → leb initial 1 ≡ b → leb width 1 ≡ c → leb len limit ≡ d → ◌≡◌ {A = ℕ} (cond a (cond (b && c) (cond d 0 3) 2) 1) 0 →
        Passed t initial width limit len
    go true true true true p q r s e =
        record {
          table = p;
          initial_option = leb-true initial 1 q;
          width_option = leb-true width 1 r;
          within = leb-true len limit s;
        }
    go true true true false p q r s e = absurd (omega arith)
    go true true false d p q r s e = absurd (omega arith)
    go true false c d p q r s e = absurd (omega arith)
    go false b c d p q r s e = absurd (omega arith)

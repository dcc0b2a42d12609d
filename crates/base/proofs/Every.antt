-- What holds of every element of a list. Assumes nothing.
use mathlib.Core.List.{List, [], ◌∷◌, ◌++◌}
use Prim.Native.Nat.{ℕ, zero, suc, ◌<◌}
use native.Mathlib.Omega.{arith}
use lib.ListN.{length, get_or, set}
use Rattle.base.specs.Lists.{All}

pub all_append : {A : Type 0} (P : A → Type 0) (l m : List A) → All P l → All P m → All P (l ++ m)
all_append P [] m a b = b
all_append P (x ∷ l) m a b = (a.0, all_append P l m a.1 b)

pub all_map : {A : Type 0} (P Q : A → Type 0) (l : List A) → ((x : A) → P x → Q x) → All P l → All Q l
all_map P Q [] f a = tt
all_map P Q (x ∷ l) f a = (f x a.0, all_map P Q l f a.1)

pub all_at : {A : Type 0} (P : A → Type 0) (d : A) (l : List A) → All P l → (k : ℕ) → k < length l → P (get_or l k d)
all_at P d [] a k h = absurd (omega arith)
all_at P d (x ∷ l) a zero h = a.0
all_at P d (x ∷ l) a (suc k) h = all_at P d l a.1 k (omega arith)

-- an element is replaced
pub all_set : {A : Type 0} (P : A → Type 0) (l : List A) (k : ℕ) (x : A) → All P l → P x → All P (set l k x)
all_set P [] k x a p = tt
all_set P (y ∷ l) zero x a p = (p, a.1)
all_set P (y ∷ l) (suc k) x a p = (a.0, all_set P l k x a.1 p)

-- What holds of some element of a list. Assumes nothing.
use mathlib.Core.List.{List, [], ◌∷◌, ◌++◌}
use Rattle.base.specs.Lists.{All}
use Rattle.coding.specs.Admissible.{Some, here, there}

pub some_map : {A : Type 0} {P Q : A → Type 0} {l : List A} → Some P l → ((x : A) → P x → Q x) → Some Q l
some_map (here {x = x} p) f = here (f x p)
some_map (there r) f = there (some_map r f)

pub some_left : {A : Type 0} {P : A → Type 0} {l : List A} (m : List A) → Some P l → Some P (l ++ m)
some_left m (here p) = here p
some_left m (there r) = there (some_left m r)

pub some_right : {A : Type 0} {P : A → Type 0} (l : List A) {m : List A} → Some P m → Some P (l ++ m)
some_right [] r = r
some_right (x ∷ l) r = there (some_right l r)

-- what follows at an element that has both
pub meet : {A : Type 0} (P Q : A → Type 0) (R : Type 0) (l : List A) → All P l → Some Q l → ((x : A) → P x → Q x → R) → R
meet {A = A} P Q R [] a x₃ f = elim x₃ [ ]
meet P Q R (x ∷ l) a (here q) f = f x a.0 q
meet P Q R (x ∷ l) a (there r) f = meet P Q R l a.1 r f

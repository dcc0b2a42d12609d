-- No key has a private-use character: specs/Laws.antt states it. Assumes nothing.
use Prim.Native.Nat.{ℕ, zero, suc}
use mathlib.Core.Path.{◌≡◌, refl}
use mathlib.Core.Bool.{Bool, true, false, cond, ◌||◌}
use mathlib.Core.List.{List, [], ◌∷◌}
use mathlib.Core.Option.{none, some}
use native.Mathlib.Omega.{arith}
use borrow.Author.Tests.{eqb-true}
use lib.Dec.{eqb}
use Rattle.base.proofs.Tests.{either}
use Rattle.private_use.specs.PrivateUse.{is_private_use, private_use}
use Rattle.private_use.proofs.Laws.{first_none, rest_none, none_more}
use Rattle.tables_onebyte.specs.OneByte.{alphanumeric_table, fullwidth_of}
use Rattle.key_text.specs.KeyText.{halfwidth_in, halfwidth_of, kept, key_text}
use Rattle.key.specs.Key.{reading, eleventh, refusal, outcome_of, outcome}
use Rattle.key.specs.Laws.{KeyOrdinary}
use Rattle.key.proofs.Calls.{decoded}

-- an ordinary character, or one of a list of them
half_in : (l : List ℕ) → private_use l ≡ 0 → (c : ℕ) → is_private_use c ≡ false → is_private_use (halfwidth_in l c) ≡ false
unfolding halfwidth_in
half_in [] h c e = e
half_in (a ∷ l) h c e = either (λ (x : ℕ). is_private_use x ≡ false) (eqb (fullwidth_of a) c) (first_none a l h) (half_in l (rest_none a l h) c e)

alphanumerics : private_use alphanumeric_table ≡ 0
unfolding private_use
alphanumerics = refl

half : (c : ℕ) → is_private_use c ≡ false → is_private_use (halfwidth_of c) ≡ false
unfolding halfwidth_of
half = half_in alphanumeric_table alphanumerics

key_of : (t : List ℕ) → private_use t ≡ 0 → private_use (key_text t) ≡ 0
unfolding key_text
key_of [] h = h
key_of (c ∷ t) h = go (eqb c 0x0A || eqb c 0x20 || eqb c 0x3000) (key_of t (rest_none c t h))
  where
    go : (u : Bool) → private_use (key_text t) ≡ 0 → private_use (kept (cond u none (some (halfwidth_of c))) (key_text t)) ≡ 0
    go true more = more
    go false more = none_more (halfwidth_of c) (key_text t) (half c (first_none c t h)) more

pub key_ordinary : KeyOrdinary
unfolding outcome outcome_of refusal eleventh
key_ordinary c e =
    let n = number (refusal c) e in
    key_of (reading c).out.text (none_is (private_use (reading c).out.text) (eqb (private_use (reading c).out.text) 0) refl (rw (decoded c n) at n))
  where
    number : (q : ℕ) → (outcome_of q c).refused ≡ 0 → q ≡ 0
    number zero f = refl
    number (suc q) f = absurd (omega arith)

    none_is : (n : ℕ) (u : Bool) → eqb n 0 ≡ u → ◌≡◌ {A = ℕ} (cond u 0 11) 0 → n ≡ 0
    none_is n true f h = eqb-true n 0 f
    none_is n false f h = absurd (omega arith)

-- No control but NSZ undoes MSZ: specs/Laws.antt states it. Assumes nothing.
use Prim.Native.Nat.{ℕ, zero, suc}
use mathlib.Core.Path.{◌≡◌, refl, ◌∙◌}
use mathlib.Core.List.{List, ◌∷◌}
use native.Mathlib.Omega.{arith}
use Rattle.base.specs.Lists.{All}
use Rattle.coding.specs.Admissible.{Some, here, there}
use Rattle.laws_coding.proofs.Somewhere.{some_right}
use Rattle.control.specs.Codes.{NSZ}
use Rattle.sets.specs.Sets.{designation}
use Rattle.coding.specs.State.{State, designate, lock_gl, lock_gr}
use Rattle.coding.specs.Candidates.{Size, either, narrow, wide, Cand}
use Rattle.coding.specs.Admissible.{Sized, designates, locks_gl, locks_gr, msz, nsz}
use Rattle.coding.specs.Admissible.{Shows, left, right, shifted, direct, Admissible, control, write}
use Rattle.coding_admissible.specs.Laws.{lead, Wide, WideCand, MszUndone}

-- a designation leaves the size
designated : (s : State) (n x : ℕ) → (designate s n x).narrow ≡ s.narrow
unfolding designate
designated s zero x = refl
designated s (suc zero) x = refl
designated s (suc (suc zero)) x = refl
designated s (suc (suc (suc n))) x = refl

-- a wide candidate does not go under MSZ
not_sized : (s : State) (size : Size) → Wide size → s.narrow ≡ 1 → Sized s size → ⊥
not_sized s either w n h = w
not_sized s narrow w n h = w
not_sized s wide w n h = omega (arith, n, h)

not_shown : {s : State} {k : Cand} {bs : List ℕ} → Shows s k bs → s.narrow ≡ 1 → WideCand k → ⊥
not_shown {s = s} (left code size h) n w = not_sized s size w n h
not_shown {s = s} (right code size h) n w = not_sized s size w n h
not_shown {s = s} (shifted code size e b half h l m) n w = not_sized s size w n h
not_shown {s = s} (direct b size h) n w = not_sized s size w n h

none_shown : {s : State} {bs : List ℕ} {ks : List Cand} → Some (λ k. Shows s k bs) ks → s.narrow ≡ 1 → All WideCand ks → ⊥
none_shown (here p) n w = not_shown p n w.0
none_shown (there q) n w = none_shown q n w.1

undone : {s : State} {ks : List Cand} {css : List (List Cand)} {bs : List ℕ} (d : Admissible s (ks ∷ css) bs) → s.narrow ≡ 1 → All WideCand ks → Some (λ b. b ≡ NSZ) (lead d)
unfolding lead
undone (write q d) n w = absurd (none_shown q n w)
undone (control {s = s} (designates x e h l) d) n w = some_right (designation x e) (undone d (designated s e x ∙ n) w)
undone (control (locks_gl e h) d) n w = some_right (lock_gl e) (undone d n w)
undone (control (locks_gr e l h) d) n w = some_right (lock_gr e) (undone d n w)
undone (control msz d) n w = there (undone d refl w)
undone (control nsz d) n w = here refl

pub msz_undone : MszUndone
msz_undone s ks css bs d n w = undone d n w

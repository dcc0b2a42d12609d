-- The loop of `unpack`: it writes from the last mark down. Assumes nothing.
use Prim.Native.Nat.{ℕ, zero, suc, ◌+◌, ◌-◌, ◌/◌, ◌%◌, ◌≤◌, ◌<◌}
use mathlib.Core.Path.{◌≡◌, refl, sym, ap, subst, ◌∙◌}
use mathlib.Core.List.{List, [], ◌∷◌, ◌++◌}
use native.Mathlib.Omega.{arith}
use lib.ListN.{length, set, replicate, length-replicate, replicate-append-replicate}
use lib.Seq.{set_at}
use Rattle.questions.specs.Buffer.{padded}
use Rattle.questions.proofs.Buffers.{padded_none}
use Rattle.decode_output.specs.Waiting.{mark_of}
use Rattle.bookmark_marks.specs.Marks.{unpacked}
use Rattle.bookmark_marks.proofs.Digits.{digits_none, digits_some, digits_count, digits_enough}

-- w with its n digits is left, and those taken stand behind n places
pub record Taken (waiting : ℕ) (marks : List ℕ) (w n : ℕ) : Type 0 where
  pub taken : List ℕ
  pub same : unpacked 16 waiting [] ≡ unpacked n w taken
  pub full : length (unpacked n w []) ≡ n
  pub few : n ≤ 16
  pub held : marks ≡ replicate n 0 ++ padded (16 - n) taken

pub taken_none : (waiting n : ℕ) → n ≡ length (unpacked 16 waiting []) → n ≤ 16 → Taken waiting (replicate 16 0) waiting n
taken_none waiting n e h =
    let s : unpacked 16 waiting [] ≡ unpacked n waiting [] = digits_enough 16 waiting [] ∙ ap (λ (k : ℕ). unpacked k waiting []) (sym e) in
    let m : n + (16 - n) ≡ 16 = omega arith in
    record {
      taken = [];
      same = s;
      full = sym (ap length s) ∙ sym e;
      few = h;
      held = sym (ap (λ (r : List ℕ). replicate n 0 ++ r) (padded_none (16 - n)) ∙ replicate-append-replicate n (16 - n) 0 ∙ ap (λ (k : ℕ). replicate k 0) m);
    }

-- the place behind n more
last : (n : ℕ) (r : List ℕ) → replicate (suc n) 0 ++ r ≡ replicate n 0 ++ (0 ∷ r)
last zero r = refl
last (suc n) r = ap (λ (l : List ℕ). 0 ∷ l) (last n r)

-- one digit more
next : {waiting w n : ℕ} {marks : List ℕ} → Taken waiting marks w (suc n) → (x : ℕ) → x ≡ mark_of (w % 8) → Taken waiting (set marks n x) (w / 8) n
unfolding padded
next {waiting} {w} {n} {marks} t x e =
    let some : w ≡ 0 → ⊥ = λ z. absurd (omega (arith, t.full, ap length (digits_none (suc n) w [] z))) in
    let p : 16 - n ≡ suc (16 - suc n) = omega (arith, t.few) in
    let b = padded (16 - suc n) t.taken in
    record {
      taken = x ∷ t.taken;
      same = t.same ∙ digits_some n w t.taken some ∙ ap (λ (m : ℕ). unpacked n (w / 8) (m ∷ t.taken)) (sym e);
      full = omega (arith, t.full, digits_count n w some);
      few = omega (arith, t.few);
      held = ap (λ (l : List ℕ). set l n x) (t.held ∙ last n b) ∙ set_at (replicate n 0) 0 b x n (length-replicate n 0)
          ∙ ap (λ (k : ℕ). replicate n 0 ++ padded k (x ∷ t.taken)) (sym p);
    }

pub taken_more : {waiting w n : ℕ} {marks : List ℕ} → Taken waiting marks w n → 0 < n → (x : ℕ) → x ≡ mark_of (w % 8)
    → Taken waiting (set marks (n - 1) x) (w / 8) (n - 1)
taken_more {waiting} {w} {n} {marks} t h x e =
    let p : n ≡ suc (n - 1) = omega arith in
    next (subst (Taken waiting marks w) p t) x e

pub taken_all : {waiting w n : ℕ} {marks : List ℕ} → Taken waiting marks w n → n ≤ 0 → marks ≡ padded 16 (unpacked 16 waiting [])
unfolding unpacked
taken_all {waiting} {w} {n} {marks} t h =
    let e : n ≡ 0 = omega arith in
    let u : Taken waiting marks w 0 = subst (Taken waiting marks w) e t in
    u.held ∙ ap (padded 16) (sym u.same)

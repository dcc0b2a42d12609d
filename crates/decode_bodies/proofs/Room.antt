-- The room that is left as bytes are taken and bodies are charged.
use Prim.Native.Nat.{ℕ, suc, ◌+◌, ◌-◌, ◌*◌, ◌≤◌, ◌<◌}
use mathlib.Core.Path.{◌≡◌, refl, ◌∙◌}
use mathlib.Core.List.{List}
use native.Mathlib.Omega.{arith}
use lib.ListN.{length}
use Rattle.reading.specs.Macros.{limit}
use Rattle.decode_state.specs.declared.Core.{Core}
use Rattle.decode_state.specs.declared.Macros.{Macros}
use Rattle.decode_state.specs.Promises.{MayTake, Kept}
use Rattle.decode_state.proofs.Lift.{with_charged}
use Rattle.decode_bodies.specs.declared.Place.{Place}
use Rattle.decode_bodies.specs.Promises.{Ready, Opens, Grown}

pub limit_is : (input : List ℕ) → length input * 64 + 4096 ≡ limit input
unfolding limit
limit_is input = omega arith

-- room for the bytes alone
pub ready_good : {n e : ℕ} {c : Core} → Ready n e c → MayTake e c
ready_good h = record {
  gl = h.gl;
  gr = h.gr;
  room = record { ordered = h.room.ordered; repeat = h.room.repeat; text = omega (arith, h.room.text); issues = omega (arith, h.room.issues) };
}

-- after j of m bytes
pub ready_left : {n m j : ℕ} {c r : Core} → Ready n m c → j ≤ m → Grown n (j - 0) c r → Ready n (m - j) r
ready_left h k w = record {
  gl = w.gl;
  gr = w.gr;
  within = w.within;
  room = record { ordered = w.ordered; repeat = w.repeat; text = omega (arith, h.room.text, w.text, k); issues = omega (arith, h.room.issues, w.issues, k) };
}

-- the same, from the byte j to the byte i of m bytes
pub ready_after : {n m j i : ℕ} {c r : Core} → Ready n (m - j) c → j ≤ i → i ≤ m → Grown n (i - j) c r → Ready n (m - i) r
ready_after {m = m} {j} {i} h p k w = record {
  gl = w.gl;
  gr = w.gr;
  within = w.within;
  room = record { ordered = w.ordered; repeat = w.repeat; text = omega (arith, h.room.text, w.text, p, k); issues = omega (arith, h.room.issues, w.issues, p, k) };
}

-- for fewer bytes
pub ready_less : {n m e : ℕ} {c : Core} → Ready n m c → e ≤ m → Ready n e c
ready_less h k = record {
  gl = h.gl;
  gr = h.gr;
  within = h.within;
  room = record { ordered = h.room.ordered; repeat = h.room.repeat; text = omega (arith, h.room.text, k); issues = omega (arith, h.room.issues, k) };
}

-- for a body of m bytes, once it is charged
pub ready_body : {n e m : ℕ} {c : Core} → Ready n (suc e) c → c.charged + m ≤ n → Ready n m (with_charged c (c.charged + m))
ready_body h k = record {
  gl = h.gl;
  gr = h.gr;
  within = k;
  room = record { ordered = h.room.ordered; repeat = h.room.repeat; text = omega (arith, h.room.text, k); issues = omega (arith, h.room.issues, k) };
}

-- what a callee is given at q, with what room there is then
pub opens_to : {input : List ℕ} {macros : Macros} {p : Place} {e e' : ℕ} {c c' : Core} (q : Place) → q.base ≤ 65535 → q.at < 65535 → Ready (limit input) e' c'
    → Opens input macros p e c → Opens input macros q e' c'
opens_to q b a r h = record { input_short = h.input_short; base = b; at = a; inside = h.inside; ready = r }

-- nothing was written
pub grown_same : {n e : ℕ} {c : Core} → Ready n e c → (k : ℕ) → Grown n k c c
grown_same h k = record {
  gl = h.gl;
  gr = h.gr;
  enough = refl;
  within = h.within;
  ordered = h.room.ordered;
  repeat = h.room.repeat;
  text = omega arith;
  issues = omega arith;
}

-- what steps wrote that concern no macro
pub kept_grown : {n e : ℕ} {c r : Core} → c.charged ≤ n → Kept e c r → Grown n e c r
kept_grown h w = record {
  gl = w.gl;
  gr = w.gr;
  enough = w.enough;
  within = omega (arith, h, w.charged);
  ordered = w.grew.ordered;
  repeat = w.grew.repeat;
  text = omega (arith, w.charged, w.grew.text);
  issues = omega (arith, w.charged, w.grew.issues);
}

pub grown_on : {n e k : ℕ} {c r q : Core} → Grown n e c r → Grown n k r q → Grown n (e + k) c q
grown_on v w = record {
  gl = w.gl;
  gr = w.gr;
  enough = w.enough ∙ v.enough;
  within = w.within;
  ordered = w.ordered;
  repeat = w.repeat;
  text = omega (arith, v.text, w.text);
  issues = omega (arith, v.issues, w.issues);
}

pub grown_more : {n e : ℕ} {c r : Core} (k : ℕ) → e ≤ k → Grown n e c r → Grown n k c r
grown_more k h w = record {
  gl = w.gl;
  gr = w.gr;
  enough = w.enough;
  within = w.within;
  ordered = w.ordered;
  repeat = w.repeat;
  text = omega (arith, w.text, h);
  issues = omega (arith, w.issues, h);
}

-- a body's m bytes, which were charged before it ran
pub grown_body : {n m : ℕ} {c r : Core} → c.charged + m ≤ n → Grown n m (with_charged c (c.charged + m)) r → Grown n 1 c r
grown_body k w = record {
  gl = w.gl;
  gr = w.gr;
  enough = w.enough;
  within = w.within;
  ordered = w.ordered;
  repeat = w.repeat;
  text = omega (arith, w.text, k);
  issues = omega (arith, w.issues, k);
}

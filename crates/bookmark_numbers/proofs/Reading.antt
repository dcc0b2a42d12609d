-- The decoder at the state that a bookmark's numbers say. Assumes nothing.
use Prim.Native.Nat.{ℕ, suc, ◌+◌, ◌-◌, ◌≤◌, ◌<◌}
use mathlib.Core.Path.{◌≡◌, refl, sym, ap, ◌∙◌}
use mathlib.Core.Bool.{Bool, true, false}
use mathlib.Core.List.{List, [], ◌∷◌, map}
use native.Mathlib.Decide.{ℕ_discrete}
use native.Mathlib.Omega.{arith}
use lib.Dec.{eqb, ltb}
use borrow.Author.Tests.{ltb-true, ltb-false}
use lib.ListN.{get_or-eq_default, length, take, drop, get_or, set, length-set, length-drop, get_or-map}
use lib.Seq.{ext_get_or, get_or-take, get_or-drop, get_or-set_same, get_or-set_other, length-take-le}
use Rattle.decode_output.specs.declared.Out.{Out}
use Rattle.decode_output.specs.Promises as output
use Rattle.reading.specs.Macros.{end_of, limit}
use Rattle.decode_state.specs.declared.Core.{Core}
use Rattle.decode_state.specs.declared.Macros.{Macros}
use Rattle.decode_state.specs.Promises.{whole}
use Rattle.decode_bodies.specs.Promises.{body_at, Inside}
use Rattle.bookmark_form.specs.Numbers.{waits, state_of}
use Rattle.bookmark_form.specs.Form.{resumable}
use Rattle.bookmark_form.proofs.Resumes.{settings_known, counts_known, bodies_known, resumable_known}
use Rattle.bookmark_numbers.specs.Promises.{Restored}

-- ---- the bodies, read one by one

-- of 128 numbers the first n are those of w
pub record Read (w : List ℕ) (n : ℕ) (l : List ℕ) : Type 0 where
  pub long : length l ≡ 128
  pub same : (k : ℕ) → k < n → get_or l k 0 ≡ get_or w k 0

pub read_none : {w l : List ℕ} → length l ≡ 128 → Read w 0 l
read_none h = record { long = h; same = λ k p. absurd (omega (arith, p)) }

pub read_one : {w l : List ℕ} {n : ℕ} (x : ℕ) → n < 128 → x ≡ get_or w n 0 → Read w n l → Read w (n + 1) (set l n x)
read_one {w} {l} {n} x p e r = record { long = length-set l n x ∙ r.long; same = λ k q. at k q (ℕ_discrete k n) }
  where
    at : (k : ℕ) → k < n + 1 → Dec (k ≡ n) → get_or (set l n x) k 0 ≡ get_or w k 0
    at k q (yes z) = ap (λ (m : ℕ). get_or (set l n x) m 0) z ∙ get_or-set_same l n x 0 (omega (arith, p, r.long)) ∙ e ∙ ap (λ (m : ℕ). get_or w m 0) (sym z)
    at k q (no z) = get_or-set_other l n k x 0 z ∙ r.same k (omega (arith, q, z))

pub read_all : {w l : List ℕ} {n : ℕ} → 128 ≤ n → length w ≡ 128 → Read w n l → l ≡ w
read_all {w} {l} h q r = ext_get_or 0 l w (r.long ∙ sym q) (λ k p. r.same k (omega (arith, p, h, r.long)))

-- 128 numbers of 287, from a place on
module _ (l : List ℕ) (a : ℕ) (h : a + 128 ≤ length l) where
  pub length_part : length (take 128 (drop a l)) ≡ 128
  length_part = length-take-le 128 (drop a l) (omega (arith, h, length-drop a l))

  pub part_at : (k : ℕ) → k < 128 → get_or (take 128 (drop a l)) k 0 ≡ get_or l (a + k) 0
  part_at k p = get_or-take 128 (drop a l) k 0 p ∙ get_or-drop a l k 0

pub length_less : (s : List ℕ) → length (map (λ (n : ℕ). n - 1) s) ≡ length s
length_less [] = refl
length_less (x ∷ s) = ap suc (length_less s)

pub less_at : (s : List ℕ) (k : ℕ) → get_or (map (λ (n : ℕ). n - 1) s) k 0 ≡ get_or s k 0 - 1
less_at s k = get_or-map (λ (n : ℕ). n - 1) s k 0

-- ---- the decoder

-- what `restore` says of its result
pub record Waits (o : Out) : Type 0 where
  pub len : o.len ≡ 0
  pub end : o.end ≤ 4096
  pub issues : o.issues ≡ 0
  pub private_use : o.private_use ≡ 0
  pub repeat : o.repeat ≤ 63

-- the decoder's struct, from the numbers
abbrev pub core_of : List ℕ → ℕ → Out → Core
core_of l width o = record {
  sets = get_or l 2 0 ∷ get_or l 3 0 ∷ get_or l 4 0 ∷ get_or l 5 0 ∷ [];
  gl = get_or l 6 0;
  gr = get_or l 7 0;
  narrow = eqb (get_or l 8 0) 1;
  annex = eqb width 1;
  enough = 0xFFFFFFFF;
  charged = get_or l 284 0;
  out = o;
}

module _ (input l : List ℕ) (h : length input ≤ 65535) (e : length l ≡ 287) (r : resumable input l ≡ true) where
  starts_at : (code : ℕ) → code < 128 → get_or (map (λ (n : ℕ). n - 1) (take 128 (drop 28 l))) code 0 ≡ get_or l (28 + code) 0 - 1
  starts_at code p = less_at (take 128 (drop 28 l)) code ∙ ap (λ (n : ℕ). n - 1) (part_at l 28 (omega (arith, e)) code p)

  lens_at : (code : ℕ) → code < 128 → get_or (take 128 (drop 156 l)) code 0 ≡ get_or l (156 + code) 0
  lens_at code p = part_at l 156 (omega (arith, e)) code p

  -- the bodies lie in the input, and no definition ends in one
  pub inside_numbers : Inside input (map (λ (n : ℕ). n - 1) (take 128 (drop 28 l))) (take 128 (drop 156 l))
  unfolding end_of
  inside_numbers = record { starts_count = ns; lens_count = nl; within = λ code. near code (ltb code 128) refl; bare = λ code. far code (ltb code 128) refl }
    where
      ns : length (map (λ (n : ℕ). n - 1) (take 128 (drop 28 l))) ≡ 128
      ns = length_less (take 128 (drop 28 l)) ∙ length_part l 28 (omega (arith, e))

      nl : length (take 128 (drop 156 l)) ≡ 128
      nl = length_part l 156 (omega (arith, e))

      none : (code : ℕ) → ltb code 128 ≡ false → (get_or (map (λ (n : ℕ). n - 1) (take 128 (drop 28 l))) code 0 ≡ 0) × (get_or (take 128 (drop 156 l)) code 0 ≡ 0)
      none code q =
          let p = ltb-false code 128 q in
          (get_or-eq_default (map (λ (n : ℕ). n - 1) (take 128 (drop 28 l))) 0 (omega (arith, p, ns)), get_or-eq_default (take 128 (drop 156 l)) 0 (omega (arith, p, nl)))

      near : (code : ℕ) (b : Bool) → ltb code 128 ≡ b
          → get_or (map (λ (n : ℕ). n - 1) (take 128 (drop 28 l))) code 0 + get_or (take 128 (drop 156 l)) code 0 ≤ length input
      near code true q =
          let p = ltb-true code 128 q in
          omega (arith, starts_at code p, lens_at code p, (bodies_known input l (resumable_known input l r).3 code p).0)
      near code false q = omega (arith, (none code q).0, (none code q).1)

      far : (code : ℕ) (b : Bool) → ltb code 128 ≡ b
          → end_of (body_at input (map (λ (n : ℕ). n - 1) (take 128 (drop 28 l))) (take 128 (drop 156 l)) code)
          ≡ length (body_at input (map (λ (n : ℕ). n - 1) (take 128 (drop 28 l))) (take 128 (drop 156 l)) code)
      far code true q =
          let p = ltb-true code 128 q in
          let b = bodies_known input l (resumable_known input l r).3 code p in
          let start = get_or l (28 + code) 0 - 1 in
          let len = get_or l (156 + code) 0 in
          let n : length (take len (drop start input)) ≡ len = length-take-le len (drop start input) (omega (arith, b.0, length-drop start input)) in
          rw (starts_at code p, lens_at code p) (b.1 ∙ sym n)
      far code false q = rw ((none code q).0, (none code q).1) refl

  pub restored : (width : ℕ) {t : List ℕ} {o : Out} {t' : List ℕ} {macros : Macros} → ((i : List ℕ) → output.Holds t i (waits l) o t' i) → Waits o
      → macros.starts ≡ map (λ (n : ℕ). n - 1) (take 128 (drop 28 l)) → macros.lens ≡ take 128 (drop 156 l)
      → Restored input width l t (record { core = core_of l width o; macros = macros }) t'
  unfolding state_of limit
  restored width {o = o} w k p q =
      let s = settings_known l (resumable_known input l r).0 in
      let n = counts_known input l (resumable_known input l r).1 in
      record {
        holds = λ cells i. record { state = λ j. whole (core_of l width o) (p j) (q j); out = w i };
        outside =
            record {
              short = h;
              inside = rw (p, q) inside_numbers;
              ready =
                  record {
                    gl = omega (arith, s.4);
                    gr = omega (arith, s.5);
                    within = n.3;
                    room =
                        record {
                          ordered = (omega (arith, k.len), omega (arith, k.private_use));
                          repeat = k.repeat;
                          text = omega (arith, k.end, h);
                          issues = omega (arith, k.issues, h);
                        };
                  };
            };
        unbounded = refl;
        none = k.issues;
        short = k.end;
      }

-- The loop of `restore`: the first k of a bookmark's marks wait. Assumes nothing.
use Prim.Native.Nat.{ℕ, zero, suc, ◌+◌, ◌-◌, ◌*◌, ◌≤◌, ◌<◌}
use mathlib.Core.Path.{◌≡◌, refl, sym, ap, subst, ◌∙◌}
use mathlib.Core.Bool.{Bool, true, false, and-eq-true_iff}
use mathlib.Core.List.{List, [], ◌∷◌, ◌++◌}
use native.Mathlib.Numerals.{add-one}
use native.Mathlib.Omega.{arith}
use borrow.Author.Tests.{eqb-true, eqb-false}
use lib.Dec.{eqb}
use lib.ListN.{length, take, drop, get_or, length-drop}
use lib.Seq.{take-suc, get_or-take, get_or-drop, length-take-le, length-sets}
use Rattle.private_use.specs.PrivateUse.{is_private_use, private_use}
use Rattle.private_use.proofs.Laws.{count_append, count_ordinary}
use Rattle.tables.specs.Kanji.{non_spacing, has_character}
use Rattle.utf8.specs.Utf8.{utf8s}
use Rattle.decode_output.specs.declared.Out.{Out}
use Rattle.decode_output.specs.Output.{Output, nothing, first_at, mark}
use Rattle.decode_output.specs.Promises.{out_of, Holds, Ordered, Room, Wrote}
use Rattle.decode_output.proofs.Held.{held_len, held_repeat, held_issues, held_private}
use Rattle.decode_output.proofs.Callers.{holds_nothing}
use Rattle.bookmark_form.specs.Numbers.{waits}
use Rattle.bookmark_form.specs.Form.{all_below, marks_hold}
use Rattle.bookmark_marks.proofs.Packing.{of_each}

-- ---- the marks are of the seven

below : (n : ℕ) (f : ℕ → Bool) → all_below n f ≡ true → (k : ℕ) → k < n → f k ≡ true
unfolding all_below
below zero f h k l = absurd (omega arith)
below (suc n) f h k l = go (eqb k n) refl (below n f both.0 k)
  where
    both : (all_below n f ≡ true) × (f n ≡ true)
    both = (and-eq-true_iff (all_below n f) (f n)).0 h

    go : (t : Bool) → eqb k n ≡ t → (k < n → f k ≡ true) → f k ≡ true
    go true e g = ap f (eqb-true k n e) ∙ both.1
    go false e g = g (less (eqb-false k n e))
      where
        less : (k ≡ n → ⊥) → k < n
        less d = omega arith

pub mark_held : (l : List ℕ) → marks_hold l ≡ true → (k : ℕ) → k < get_or l 10 0 → has_character non_spacing (get_or l (12 + k) 0) ≡ true
unfolding marks_hold
mark_held l h = below (get_or l 10 0) (λ k. has_character non_spacing (get_or l (12 + k) 0)) h

pub mark_ordinary : (m : ℕ) → has_character non_spacing m ≡ true → is_private_use m ≡ false
unfolding is_private_use
mark_ordinary = of_each (λ m. is_private_use m ≡ false) non_spacing (refl, (refl, (refl, (refl, (refl, (refl, (refl, tt)))))))

-- the part of the numbers that has the marks
abbrev pub marks_of : List ℕ → List ℕ
marks_of l = take (12 + get_or l 10 0 - 12) (drop 12 l)

pub length_marks : (l : List ℕ) → length l ≡ 287 → get_or l 10 0 ≤ 16 → length (marks_of l) ≡ get_or l 10 0
length_marks l h k =
    let e : 12 + get_or l 10 0 - 12 ≡ get_or l 10 0 = omega arith in
    length-take-le (12 + get_or l 10 0 - 12) (drop 12 l) (omega (arith, length-drop 12 l)) ∙ e

pub mark_at : (l : List ℕ) (k : ℕ) → k < get_or l 10 0 → get_or (marks_of l) k 0 ≡ get_or l (12 + k) 0
mark_at l k h = get_or-take (12 + get_or l 10 0 - 12) (drop 12 l) k 0 (omega arith) ∙ get_or-drop 12 l k 0

pub mark_kept : (l : List ℕ) → marks_hold l ≡ true → (k : ℕ) → k < get_or l 10 0 → is_private_use (get_or (marks_of l) k 0) ≡ false
mark_kept l h k p = rw (mark_at l k p) (mark_ordinary (get_or l (12 + k) 0) (mark_held l h k p))

-- ---- the loop

-- what waits after k marks
abbrev pub firsts : ℕ → List ℕ → Output
firsts k l = record { text = []; marks = take k (drop 12 l); marks_at = 0; repeat = 0; issues = [] }

pub record Restored (t₀ l : List ℕ) (k : ℕ) (out : Out) (t : List ℕ) : Type 0 where
  pub holds : (i : List ℕ) → Holds t₀ i (firsts k l) out t i
  pub ordered : Ordered out
  pub most : out.end ≤ 256 * k
  pub none : private_use (take k (drop 12 l)) ≡ 0
  pub inside : k ≤ get_or l 10 0

pub restored_none : (t l : List ℕ) {out : Out} → out ≡ out_of nothing → Restored t l 0 out t
unfolding nothing utf8s private_use
restored_none t l {out} e =
    let n : out.len ≡ 0 = ap (λ (z : Out). z.len) e in
    let m : out.end ≡ 0 = ap (λ (z : Out). z.end) e in
    let p : out.private_use ≡ 0 = ap (λ (z : Out). z.private_use) e in
    record {
      holds = λ i. subst (λ (z : Out). Holds t i nothing z t i) (sym e) (holds_nothing t i);
      ordered = (omega arith, omega arith);
      most = omega arith;
      none = refl;
      inside = omega arith;
    }

module _ {t₀ l t : List ℕ} {k : ℕ} {out : Out} (h : Restored t₀ l k out t) where
  pub restored_len : out.len ≡ 0
  unfolding utf8s
  restored_len = held_len (h.holds [])

  pub restored_repeat : out.repeat ≡ 0
  restored_repeat = held_repeat (h.holds [])

  pub restored_issues : out.issues ≡ 0
  restored_issues = held_issues (h.holds [])

  pub restored_private : out.private_use ≡ 0
  restored_private = held_private (h.holds []) ∙ h.none

  pub restored_length : length t ≡ length t₀
  restored_length = ap length (h.holds []).text ∙ length-sets t₀ 0 (utf8s (take k (drop 12 l)))

  pub restored_room : k ≤ 16 → Room 1 0 out
  restored_room g =
      record {
        ordered = h.ordered;
        repeat = omega (arith, restored_repeat);
        text = omega (arith, h.most);
        issues = omega (arith, restored_issues);
      }

  -- the first one's offset comes at the end
  first_none : (ms : List ℕ) → first_at ms 0 0 ≡ 0
  unfolding first_at
  first_none [] = refl
  first_none (m ∷ ms) = refl

  pub restored_more : {m : ℕ} {r : Out} {t' : List ℕ} → length l ≡ 287 → k ≤ 16 → k < get_or l 10 0 → m ≡ get_or l (12 + k) 0 → is_private_use m ≡ false
      → ((i : List ℕ) → Wrote 1 0 (mark m 0) out t i r t' i) → Restored t₀ l (k + 1) r t'
  unfolding mark
  restored_more {m} {r} {t'} n g b e f w =
      let q : take k (drop 12 l) ++ (m ∷ []) ≡ take (k + 1) (drop 12 l) =
      ap (λ (x : ℕ). take k (drop 12 l) ++ (x ∷ [])) (e ∙ sym (get_or-drop 12 l k 0)) ∙ sym (take-suc (drop 12 l) k 0 (omega (arith, n, length-drop 12 l)))
      ∙ ap (λ (j : ℕ). take j (drop 12 l)) (sym (add-one k)) in
      let o : mark m 0 (firsts k l) ≡ firsts (k + 1) l =
      λ j. record { text = []; marks = q j; marks_at = first_none (take k (drop 12 l)) j; repeat = 0; issues = [] } in
      record {
        holds = λ i. subst (λ (z : Output). Holds t₀ i z r t' i) o ((w i).does t₀ i (firsts k l) (h.holds i));
        ordered = (w []).grew.ordered;
        most = omega (arith, h.most, (w []).grew.text);
        none = sym (ap private_use q) ∙ omega (arith, count_append (take k (drop 12 l)) (m ∷ []), count_ordinary 1 m f, h.none);
        inside = omega arith;
      }

  pub restored_all : get_or l 10 0 ≤ k → (i : List ℕ)
      → Holds t₀ i (waits l)
      (record { len = out.len; end = out.end; waiting = out.waiting; first = get_or l 11 0; repeat = get_or l 9 0; issues = out.issues; private_use = out.private_use }) t i
  restored_all g i =
      let e : k ≡ get_or l 10 0 = omega (arith, h.inside) in
      let u : Holds t₀ i (firsts (get_or l 10 0) l) out t i = subst (λ (n : ℕ). Holds t₀ i (firsts n l) out t i) e (h.holds i) in
      record {
        state = λ j. record {
          len = (u.state j).len;
          end = (u.state j).end;
          waiting = (u.state j).waiting;
          first = get_or l 11 0;
          repeat = get_or l 9 0;
          issues = (u.state j).issues;
          private_use = (u.state j).private_use;
        };
        text = u.text;
        issues = u.issues;
      }

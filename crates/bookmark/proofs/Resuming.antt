-- A return: from the rest as it is counted to the answer, with the positions in the whole text. Assumes nothing.
use Prim.Native.Nat.{ℕ, suc, ◌+◌, ◌*◌, ◌≤◌, ◌<◌}
use mathlib.Core.Path.{◌≡◌, refl, sym, ap, ◌∙◌, subst}
use mathlib.Core.List.{List, [], ◌∷◌, ◌++◌, map}
use native.Mathlib.Nat.{zero-add}
use native.Mathlib.Omega.{arith}
use borrow.Author.Tests.{lt-leb}
use mathlib.Core.Bool.{Bool, true, false, cond}
use lib.Dec.{leb}
use lib.ListN.{length, drop, get_or}
use lib.Seq.{sets, sets-eq}
use Rattle.base.specs.Lists.{All}
use Rattle.utf8.specs.Utf8.{utf8s}
use Rattle.issues.specs.Issue.{Issue, issues_numbers}
use Rattle.decode_output.proofs.Counts.{length_numbers}
use Rattle.decode_output.specs.Output.{release}
use Rattle.reading.specs.State.{Given, State, writes}
use Rattle.reading.specs.Steps.{steps, run}
use Rattle.reading.specs.Between.{rest}
use Rattle.laws_reading.specs.Positions.{Placed}
use Rattle.laws_reading.proofs.Placed.{placed_then}
use Rattle.laws_reading.proofs.Reading.{issues_only_grow}
use Rattle.laws_behind.specs.Behind.{later}
use Rattle.decode_read.specs.declared.Counts.{Counts}
use Rattle.decode_read.specs.Promises.{Counted}
use Rattle.decode.specs.Answers.{Answer, fits_in, Answers}
use Rattle.bookmark_form.specs.Numbers.{state_of, place_of}
use Rattle.bookmark_positions.specs.Positions.{moved}
use Rattle.bookmark_positions.proofs.Moved.{moved_numbers, numbers_as_many, position_at}
use Rattle.bookmark_positions.proofs.Bounds.{placed_most}
use Rattle.bookmark.specs.Bookmark.{positioned}

as_many : (n : ℕ) (is : List Issue) → length (map (later n) is) ≡ length is
as_many n [] = refl
as_many n (i ∷ is) = ap suc (as_many n is)

-- what fits stands in front
front : (i vs : List ℕ) → length vs ≤ length i → sets i 0 vs ≡ vs ++ drop (length vs) i
front i vs h = sets-eq vs i 0 (omega (arith, h)) ∙ ap (λ (k : ℕ). vs ++ drop k i) (zero-add (length vs))

module _ {s : State} {t₀ i₀ t i : List ℕ} {n : Counts} (by : ℕ) (h : Counted s t₀ i₀ n t i) where
  -- the issues do not fit: the answer is that of the rest
  pub answers_unfit : {r : Answer} {t' i' : List ℕ} → length i₀ < n.issues * 5 → Answers s (length t₀) (length i₀) r t' i'
      → Answers (writes (positioned by) s) (length t₀) (length i₀) r t' i'
  unfolding writes positioned fits_in
  answers_unfit {r} q v =
      let e = numbers_as_many by s.out.issues in
      let p : length i₀ < length (issues_numbers s.out.issues) = omega (arith, q, h.issues, length_numbers s.out.issues) in
      record {
        number = v.number ∙ ap (λ (k : ℕ). fits_in (length (utf8s s.out.text)) k (length t₀) (length i₀)) (sym e);
        place = v.place;
        case = v.case;
        accepted = λ z.
            let b = leb (length (utf8s s.out.text)) (length t₀) in
            absurd (never b (sym z ∙ v.number ∙ ap (λ (k : Bool). cond b (cond k 0 9) 8) (lt-leb _ _ p)));
        refused = v.refused;
      }
    where
      never : (b : Bool) → ◌≡◌ {A = ℕ} 0 (cond b 9 8) → ⊥
      never true z = omega (arith, z)
      never false z = omega (arith, z)

  -- they fit, and their positions are moved
  pub counted_moved : {i' : List ℕ} → n.issues * 5 ≤ length i₀ → i' ≡ moved n.issues by i → Counted (writes (positioned by) s) t₀ i₀ n t i'
  unfolding writes positioned
  counted_moved q m =
      let is = s.out.issues in
      let e = numbers_as_many by is in
      let p : length (issues_numbers is) ≤ length i₀ = omega (arith, q, h.issues, length_numbers is) in
      let w : i ≡ issues_numbers is ++ drop (length (issues_numbers is)) i₀ = h.listed ∙ front i₀ (issues_numbers is) p in
      record {
        text = h.text;
        issues = h.issues ∙ sym (as_many by is);
        charged = h.charged;
        private_use = h.private_use;
        written = h.written;
        listed =
            m
            ∙ ap (λ (k : ℕ). moved k by i) h.issues
            ∙ ap (moved (length is) by) w
            ∙ moved_numbers by is (drop (length (issues_numbers is)) i₀)
            ∙ ap (λ (k : ℕ). issues_numbers (map (later by) is) ++ drop k i₀) (sym e)
            ∙ sym (front i₀ (issues_numbers (map (later by) is)) (omega (arith, p, e)));
      }

  -- a position in the buffer, moved, is a number of 32 bits
  pub small_positions : n.issues * 5 ≤ length i₀ → All (λ x. by + x.position ≤ 0xFFFFFFFF) s.out.issues → (k : ℕ) → k < n.issues
      → by + get_or i (5 * k + 4) 0 ≤ 0xFFFFFFFF
  small_positions q a k p =
      let is = s.out.issues in
      let fits : length (issues_numbers is) ≤ length i₀ = omega (arith, q, h.issues, length_numbers is) in
      let w : i ≡ issues_numbers is ++ drop (length (issues_numbers is)) i₀ = h.listed ∙ front i₀ (issues_numbers is) fits in
      subst (λ (z : List ℕ). by + get_or z (5 * k + 4) 0 ≤ 0xFFFFFFFF) (sym w)
      (position_at is (drop (length (issues_numbers is)) i₀) k (omega (arith, p, h.issues)) (λ x. by + x ≤ 0xFFFFFFFF) a)

-- the issues of a rest stand in its text
pub rest_positions : (g : Given) (l : List ℕ) → let t = rest g (place_of l) (state_of l) in All (λ x. x.position ≤ length (utf8s t.out.text)) t.out.issues
unfolding rest state_of
rest_positions g l =
    let s = state_of l in
    let m = steps g 4 (run g 3) 0 0 (drop (place_of l) g.input) (place_of l) 0 s in
    let a = issues_only_grow.steps g 4 (run g 3) (issues_only_grow.run g 3) 0 0 (drop (place_of l) g.input) (place_of l) 0 s in
    let b = issues_only_grow.released m in
    let t = writes release m in
    let all : Placed [] (a.issues ++ b.issues) t.out.text = placed_then [] m.out.text t.out.text a.issues b.issues a.placed b.placed in
    let e : t.out.issues ≡ a.issues ++ b.issues = b.reported ∙ ap (λ (z : List Issue). z ++ b.issues) a.reported in
    subst (All (λ x. x.position ≤ length (utf8s t.out.text))) (sym e) (placed_most [] (a.issues ++ b.issues) t.out.text all)

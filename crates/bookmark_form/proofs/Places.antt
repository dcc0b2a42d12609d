-- Where a bookmark's numbers stand among the 287, and the state that they say. Assumes nothing.
use Prim.Native.Nat.{ℕ, zero, suc, ◌+◌, ◌-◌, ◌≤◌, ◌<◌}
use mathlib.Core.Path.{◌≡◌, refl, sym, ap, ◌∙◌}
use mathlib.Core.Bool.{Bool, true, false, cond}
use mathlib.Core.List.{List, [], ◌∷◌, ◌++◌, map}
use native.Mathlib.Omega.{arith}
use lib.Dec.{eqb}
use lib.ListN.{length, take, drop, get_or, length-append, get_or-append, get_or-map}
use lib.Seq.{take_at, drop_at, drop-drop, get_or-drop, get_or-take, take-append-le}
use Rattle.utf8.specs.Utf8.{utf8s}
use Rattle.questions.specs.Buffer.{padded}
use Rattle.questions.proofs.Buffers.{length_padded, take_padded}
use Rattle.reading.specs.State.{State}
use Rattle.bookmark_form.specs.Numbers.{front, plus_one, back, numbers, state_of}

-- ---- the first twelve

pub record Head (l : List ℕ) (place : ℕ) (sets : List ℕ) (gl gr narrow repeat count first : ℕ) : Type 0 where
  pub set : get_or l 0 0 ≡ 1
  pub at : get_or l 1 0 ≡ place
  pub sets_at : get_or l 2 0 ∷ get_or l 3 0 ∷ get_or l 4 0 ∷ get_or l 5 0 ∷ [] ≡ sets
  pub gl_at : get_or l 6 0 ≡ gl
  pub gr_at : get_or l 7 0 ≡ gr
  pub narrow_at : get_or l 8 0 ≡ narrow
  pub repeat_at : get_or l 9 0 ≡ repeat
  pub count_at : get_or l 10 0 ≡ count
  pub first_at_lem : get_or l 11 0 ≡ first

heads : (place : ℕ) (sets : List ℕ) (gl gr narrow repeat count first : ℕ) (rest : List ℕ) → length sets ≡ 4
    → Head ((1 ∷ place ∷ (sets ++ (gl ∷ gr ∷ narrow ∷ repeat ∷ count ∷ first ∷ []))) ++ rest) place sets gl gr narrow repeat count first
heads place [] gl gr n r k f rest q = absurd (omega arith)
heads place (a ∷ []) gl gr n r k f rest q = absurd (omega arith)
heads place (a ∷ b ∷ []) gl gr n r k f rest q = absurd (omega arith)
heads place (a ∷ b ∷ c ∷ []) gl gr n r k f rest q = absurd (omega arith)
heads place (a ∷ b ∷ c ∷ d ∷ []) gl gr n r k f rest q =
    record { set = refl; at = refl; sets_at = refl; gl_at = refl; gr_at = refl; narrow_at = refl; repeat_at = refl; count_at = refl; first_at_lem = refl }
heads place (a ∷ b ∷ c ∷ d ∷ e ∷ more) gl gr n r k f rest q = absurd (omega arith)

length-map : (f : ℕ → ℕ) (l : List ℕ) → length (map f l) ≡ length l
length-map f [] = refl
length-map f (x ∷ l) = ap suc (length-map f l)

-- ---- a start without its 1

pub minus_one : (n : ℕ) → plus_one n - 1 ≡ n
unfolding plus_one
minus_one zero = refl
minus_one (suc n) = omega arith

all_minus_one : (l : List ℕ) → map (λ (n : ℕ). n - 1) (map plus_one l) ≡ l
all_minus_one [] = refl
all_minus_one (x ∷ l) = λ k. minus_one x k ∷ all_minus_one l k

narrow_of : (b : Bool) → eqb (cond b 1 0) 1 ≡ b
narrow_of true = refl
narrow_of false = refl

-- ---- the parts behind them

module _ (place : ℕ) (s : State) (four : length s.sets ≡ 4) (n-starts : length s.starts ≡ 128) (n-lens : length s.lens ≡ 128) where
  abbrev behind_marks : List ℕ
  behind_marks = map plus_one s.starts ++ (s.lens ++ back s)

  abbrev behind_starts : List ℕ
  behind_starts = s.lens ++ back s

  pub head_of : Head (numbers place s) place s.sets s.gl s.gr (cond s.narrow 1 0) s.out.repeat (length s.out.marks) s.out.marks_at
  unfolding numbers
  head_of =
      heads place s.sets s.gl s.gr (cond s.narrow 1 0) s.out.repeat (length s.out.marks) s.out.marks_at
      (padded 16 s.out.marks ++ behind_marks) four

  length_front : length (front place s) ≡ 12
  length_front =
      let six : List ℕ = s.gl ∷ s.gr ∷ cond s.narrow 1 0 ∷ s.out.repeat ∷ length s.out.marks ∷ s.out.marks_at ∷ [] in
      omega (arith, length-append s.sets six, four)

  pub length_numbers : length (numbers place s) ≡ 287
  unfolding numbers
  length_numbers =
      omega (
        arith,
        length_front,
        four,
        n-starts,
        n-lens,
        length_padded 16 s.out.marks,
        length-map plus_one s.starts,
        length-append (front place s) (padded 16 s.out.marks ++ behind_marks),
        length-append (padded 16 s.out.marks) behind_marks,
        length-append (map plus_one s.starts) behind_starts,
        length-append s.lens (back s),
      )

  from_marks : drop 12 (numbers place s) ≡ padded 16 s.out.marks ++ behind_marks
  unfolding numbers
  from_marks = drop_at (front place s) (padded 16 s.out.marks ++ behind_marks) 12 length_front

  from_starts : drop 28 (numbers place s) ≡ behind_marks
  from_starts =
      sym (drop-drop 16 12 (numbers place s))
      ∙ (ap (λ (l : List ℕ). drop 16 l) from_marks ∙ drop_at (padded 16 s.out.marks) behind_marks 16 (length_padded 16 s.out.marks))

  from_lens : drop 156 (numbers place s) ≡ behind_starts
  from_lens =
      sym (drop-drop 128 28 (numbers place s))
      ∙ (ap (λ (l : List ℕ). drop 128 l) from_starts ∙ drop_at (map plus_one s.starts) behind_starts 128 (length-map plus_one s.starts ∙ n-starts))

  from_back : drop 284 (numbers place s) ≡ back s
  from_back =
      sym (drop-drop 128 156 (numbers place s))
      ∙ (ap (λ (l : List ℕ). drop 128 l) from_lens ∙ drop_at s.lens (back s) 128 n-lens)

  -- ---- one number

  pub mark_at : (k : ℕ) → k < length s.out.marks → length s.out.marks ≤ 16 → get_or (numbers place s) (12 + k) 0 ≡ get_or s.out.marks k 0
  mark_at k h m =
      let marks = s.out.marks in
      let long = length_padded 16 marks in
      sym (get_or-drop 12 (numbers place s) k 0)
      ∙ (ap (λ (l : List ℕ). get_or l k 0) from_marks
      ∙ (get_or-append (padded 16 marks) behind_marks 0 k (omega (arith, h, m, long))
      ∙ (sym (get_or-take (length marks) (padded 16 marks) k 0 h) ∙ ap (λ (l : List ℕ). get_or l k 0) (take_padded 16 marks m))))

  pub start_at : (code : ℕ) → code < 128 → get_or (numbers place s) (28 + code) 0 ≡ plus_one (get_or s.starts code 0)
  unfolding plus_one
  start_at code h =
      sym (get_or-drop 28 (numbers place s) code 0)
      ∙ (ap (λ (l : List ℕ). get_or l code 0) from_starts
      ∙ (get_or-append (map plus_one s.starts) behind_starts 0 code (omega (arith, h, length-map plus_one s.starts, n-starts))
      ∙ get_or-map plus_one s.starts code 0))

  pub len_at : (code : ℕ) → code < 128 → get_or (numbers place s) (156 + code) 0 ≡ get_or s.lens code 0
  len_at code h =
      sym (get_or-drop 156 (numbers place s) code 0)
      ∙ (ap (λ (l : List ℕ). get_or l code 0) from_lens ∙ get_or-append s.lens (back s) 0 code (omega (arith, h, n-lens)))

  pub charged_at : get_or (numbers place s) 284 0 ≡ s.charged
  charged_at = sym (get_or-drop 284 (numbers place s) 0 0) ∙ ap (λ (l : List ℕ). get_or l 0 0) from_back

  pub text_at : get_or (numbers place s) 285 0 ≡ length (utf8s s.out.text)
  text_at = sym (get_or-drop 284 (numbers place s) 1 0) ∙ ap (λ (l : List ℕ). get_or l 1 0) from_back

  pub issues_at : get_or (numbers place s) 286 0 ≡ length s.out.issues
  issues_at = sym (get_or-drop 284 (numbers place s) 2 0) ∙ ap (λ (l : List ℕ). get_or l 2 0) from_back

  -- ---- the state

  marks_of : length s.out.marks ≤ 16 → take (get_or (numbers place s) 10 0) (drop 12 (numbers place s)) ≡ s.out.marks
  marks_of m =
      let marks = s.out.marks in
      ap (λ (n : ℕ). take n (drop 12 (numbers place s))) head_of.count_at
      ∙ (ap (λ (l : List ℕ). take (length marks) l) from_marks
      ∙ (take-append-le (length marks) (padded 16 marks) behind_marks (omega (arith, m, length_padded 16 marks)) ∙ take_padded 16 marks m))

  starts_of : map (λ (n : ℕ). n - 1) (take 128 (drop 28 (numbers place s))) ≡ s.starts
  starts_of =
      ap (λ (l : List ℕ). map (λ (n : ℕ). n - 1) (take 128 l)) from_starts
      ∙ (ap (λ (l : List ℕ). map (λ (n : ℕ). n - 1) l) (take_at (map plus_one s.starts) behind_starts 128 (length-map plus_one s.starts ∙ n-starts))
      ∙ all_minus_one s.starts)

  lens_of : take 128 (drop 156 (numbers place s)) ≡ s.lens
  lens_of = ap (λ (l : List ℕ). take 128 l) from_lens ∙ take_at s.lens (back s) 128 n-lens

  pub state_of_numbers : length s.out.marks ≤ 16
      → state_of (numbers place s)
      ≡ record {
        sets = s.sets;
        gl = s.gl;
        gr = s.gr;
        narrow = s.narrow;
        starts = s.starts;
        lens = s.lens;
        charged = s.charged;
        out = record { text = []; marks = s.out.marks; marks_at = s.out.marks_at; repeat = s.out.repeat; issues = [] };
      }
  unfolding state_of
  state_of_numbers m =
      let h = head_of in
      λ k.
      record {
        sets = h.sets_at k;
        gl = h.gl_at k;
        gr = h.gr_at k;
        narrow = (ap (λ (n : ℕ). eqb n 1) h.narrow_at ∙ narrow_of s.narrow) k;
        starts = starts_of k;
        lens = lens_of k;
        charged = charged_at k;
        out = record { text = []; marks = marks_of m k; marks_at = h.first_at_lem k; repeat = h.repeat_at k; issues = [] };
      }

-- What the struct and the buffers hold after each step of the definition. Assumes nothing.
use Prim.Native.Nat.{ℕ, zero, suc, ◌+◌, ◌-◌, ◌*◌, ◌≤◌}
use mathlib.Core.Path.{◌≡◌, refl, sym, ap, subst, ◌∙◌}
use mathlib.Core.Bool.{false}
use mathlib.Core.List.{List, [], ◌∷◌, ◌++◌, append-nil, append_assoc}
use native.Mathlib.Omega.{arith}
use lib.ListN.{length, take, drop, set, replicate, length-append}
use lib.Seq.{sets, length-sets}
use Rattle.private_use.specs.PrivateUse.{is_private_use, private_use}
use Rattle.private_use.proofs.Laws.{below, count_append, count_ordinary}
use Rattle.utf8.specs.Utf8.{utf8, utf8s}
use Rattle.issues.specs.Issue.{Issue, numbers, issues_numbers, issue_numbers, numbers_of}
use Rattle.issues.specs.declared.IssueKind.{IssueKind}
use Rattle.issues.specs.declared.IssueKind.TheVariants.{DanglingNonSpacing}
use Rattle.utf8.proofs.Bytes.{utf8s_append, utf8s_snoc}
use Rattle.decode_output.specs.declared.Out.{Out}
use Rattle.decode_output.specs.Output.{Output, times, emit_times, emit, first_at, mark, position, report, release_of, release, newline}
use Rattle.decode_output.specs.Waiting.{pushed, packed}
use Rattle.decode_output.specs.Promises.{Holds}
use Rattle.decode_output.proofs.Sets.{sets_end, sets_past, moved_part}
use Rattle.decode_output.proofs.Counts.{utf8s_none, numbers_end, length_numbers}

-- ---- the waiting marks, by the struct

pub packed_more : (w : ℕ) (ms : List ℕ) (m : ℕ) → packed w (ms ++ (m ∷ [])) ≡ pushed (packed w ms) m
unfolding packed
packed_more w [] m = refl
packed_more w (x ∷ ms) m = packed_more (pushed w x) ms m

module _ {t₀ i₀ t i : List ℕ} {o : Output} {s : Out} (h : Holds t₀ i₀ o s t i) where
  pub held_len : s.len ≡ length (utf8s o.text)
  held_len = ap (λ (z : Out). z.len) h.state

  pub held_end : s.end ≡ length (utf8s (o.text ++ o.marks))
  held_end = ap (λ (z : Out). z.end) h.state

  pub held_waiting : s.waiting ≡ packed 0 o.marks
  held_waiting = ap (λ (z : Out). z.waiting) h.state

  pub held_repeat : s.repeat ≡ o.repeat
  held_repeat = ap (λ (z : Out). z.repeat) h.state

  pub held_issues : s.issues ≡ length o.issues
  held_issues = ap (λ (z : Out). z.issues) h.state

  pub held_private : s.private_use ≡ private_use (o.text ++ o.marks)
  held_private = ap (λ (z : Out). z.private_use) h.state

  pub held_marks : s.end ≡ s.len + length (utf8s o.marks)
  held_marks = omega (arith, held_len, held_end, ap length (utf8s_append o.text o.marks), length-append (utf8s o.text) (utf8s o.marks))

  -- no mark waits
  pub marks_none : s.len ≡ s.end → o.marks ≡ []
  marks_none e = utf8s_none o.marks (omega (arith, held_marks))

  pub waiting_none : s.len ≡ s.end → s.waiting ≡ 0
  unfolding packed
  waiting_none e = held_waiting ∙ ap (packed 0) (marks_none e)

  -- a mark waits
  pub marks_some : (s.len ≡ s.end → ⊥) → o.marks ≡ [] → ⊥
  marks_some f e =
      let q : o.text ++ o.marks ≡ o.text = ap (λ (r : List ℕ). o.text ++ r) e ∙ append-nil o.text in
      f (held_len ∙ ap (λ (r : List ℕ). length (utf8s r)) (sym q) ∙ sym held_end)

-- ---- a character

-- a text after which nothing waits
abbrev pub written : List ℕ → ℕ → List Issue → Output
written text repeat issues = record { text = text; marks = []; marks_at = 0; repeat = repeat; issues = issues }

abbrev pub out_at : ℕ → ℕ → ℕ → ℕ → Out
out_at n repeat issues private = record { len = n; end = n; waiting = 0; first = 0; repeat = repeat; issues = issues; private_use = private }

pub holds_written : {t₀ i₀ t i : List ℕ} {n r r' k p : ℕ} (x : List ℕ) (a : List Issue) → n ≡ length (utf8s x) → r ≡ r' → k ≡ length a → p ≡ private_use x
    → t ≡ sets t₀ 0 (utf8s x) → i ≡ sets i₀ 0 (issues_numbers a) → Holds t₀ i₀ (written x r' a) (out_at n r k p) t i
unfolding packed
holds_written {t₀ = t₀} x a d u q v f g =
    let y : x ≡ x ++ [] = sym (append-nil x) in
    record {
      state = λ j. record {
        len = d j;
        end = (d ∙ ap (λ (z : List ℕ). length (utf8s z)) y) j;
        waiting = 0;
        first = 0;
        repeat = u j;
        issues = q j;
        private_use = (v ∙ ap private_use y) j;
      };
      text = f ∙ ap (λ (z : List ℕ). sets t₀ 0 (utf8s z)) y;
      issues = g;
    }

-- its bytes
pub emitted : (n c : ℕ) (x ms : List ℕ) → utf8s (x ++ (replicate n c ++ ms)) ≡ utf8s x ++ (utf8s (replicate n c) ++ utf8s ms)
emitted n c x ms = utf8s_append x (replicate n c ++ ms) ∙ ap (λ (r : List ℕ). utf8s x ++ r) (utf8s_append (replicate n c) ms)

module _ {t₀ i₀ t i : List ℕ} {o : Output} {s : Out} (h : Holds t₀ i₀ o s t i) (n c : ℕ) {d : ℕ} (e : d ≡ length (utf8s (replicate n c))) where
  longer : s.end + d ≡ length (utf8s (o.text ++ (replicate n c ++ o.marks)))
  longer =
      let a = utf8s o.text in
      let u = utf8s (replicate n c) in
      let b = utf8s o.marks in
      omega (arith, e, held_len h, held_marks h, ap length (emitted n c o.text o.marks), length-append a (u ++ b), length-append u b)

  -- those that were counted, and it as often as it is written
  more : s.private_use + private_use (replicate n c) ≡ private_use (o.text ++ (replicate n c ++ o.marks))
  more =
      let u = replicate n c in
      omega (arith, held_private h, count_append o.text o.marks, count_append o.text (u ++ o.marks), count_append u o.marks)

  -- the marks move up past it
  pub holds_moved : {p ys : List ℕ} → s.len ≤ length t → p ≡ take (length t - s.len) (drop s.len t)
      → ys ≡ sets (sets p d (take (s.end - s.len) p)) 0 (utf8s (replicate n c))
      → Holds t₀ i₀ (emit_times n c o) (out_at (s.end + d) 0 s.issues (s.private_use + private_use (replicate n c))) (take s.len t ++ (ys ++ drop (length t - s.len) (drop s.len t))) i
  unfolding emit_times
  holds_moved {p} {ys} g ep ey =
      let m : s.end - s.len ≡ length (utf8s o.marks) = omega (arith, held_marks h) in
      let f : t ≡ sets t₀ 0 (utf8s o.text ++ utf8s o.marks) = h.text ∙ ap (sets t₀ 0) (utf8s_append o.text o.marks) in
      let w : take s.len t ++ (ys ++ drop (length t - s.len) (drop s.len t)) ≡ sets t₀ 0 (utf8s o.text ++ (utf8s (replicate n c) ++ utf8s o.marks)) =
      moved_part t₀ (utf8s o.text) (utf8s o.marks) (utf8s (replicate n c)) (held_len h) m e f g ep ey in
      holds_written _ o.issues longer refl (held_issues h) more (w ∙ ap (sets t₀ 0) (sym (emitted n c o.text o.marks))) h.issues

  -- the text ends past the buffer
  pub holds_counted : length t ≤ s.len → Holds t₀ i₀ (emit_times n c o) (out_at (s.end + d) 0 s.issues (s.private_use + private_use (replicate n c))) t i
  unfolding emit_times
  holds_counted g =
      let a = utf8s o.text in
      let f : t ≡ sets t₀ 0 (a ++ utf8s o.marks) = h.text ∙ ap (sets t₀ 0) (utf8s_append o.text o.marks) in
      let q : length t₀ ≤ length a = omega (arith, held_len h, ap length f, length-sets t₀ 0 (a ++ utf8s o.marks)) in
      let w : t ≡ sets t₀ 0 (a ++ (utf8s (replicate n c) ++ utf8s o.marks)) = f ∙ sets_past a t₀ (utf8s o.marks) (utf8s (replicate n c) ++ utf8s o.marks) q in
      holds_written _ o.issues longer refl (held_issues h) more (w ∙ ap (sets t₀ 0) (sym (emitted n c o.text o.marks))) h.issues

-- as often as the waiting repeat says
pub emit_times_lem : (o : Output) {n : ℕ} (c : ℕ) → n ≡ times o.repeat → emit_times n c o ≡ emit c o
unfolding emit
emit_times_lem o c e = ap (λ (k : ℕ). emit_times k c o) e

pub times_some : (n : ℕ) → (n ≡ 0 → ⊥) → n ≡ times n
unfolding times
times_some zero f = absurd (f refl)
times_some (suc n) f = refl

module _ {t₀ i₀ t i : List ℕ} {o : Output} {s : Out} (h : Holds t₀ i₀ o s t i) where
  -- nothing waits
  pub holds_plain : (c : ℕ) → s.len ≡ s.end → s.repeat ≡ 0
      → Holds t₀ i₀ (emit c o) (out_at (s.end + length (utf8 c)) 0 s.issues (s.private_use + private_use (c ∷ []))) (sets t s.end (utf8 c)) i
  unfolding emit
  holds_plain c e r =
      let z : o.marks ≡ [] = marks_none h e in
      let x : o.text ++ (c ∷ []) ≡ o.text ++ (replicate (times o.repeat) c ++ o.marks) =
      λ j. o.text ++ (replicate (times ((sym r ∙ held_repeat h) j)) c ++ sym z j) in
      let n : s.end ≡ length (utf8s o.text) = sym e ∙ held_len h in
      let f : t ≡ sets t₀ 0 (utf8s o.text) = h.text ∙ ap (λ (l : List ℕ). sets t₀ 0 (utf8s l)) (ap (λ (l : List ℕ). o.text ++ l) z ∙ append-nil o.text) in
      let b : utf8s o.text ++ utf8 c ≡ utf8s (o.text ++ (replicate (times o.repeat) c ++ o.marks)) = sym (utf8s_snoc o.text c) ∙ ap utf8s x in
      let p : s.private_use ≡ private_use o.text = held_private h ∙ ap private_use (ap (λ (l : List ℕ). o.text ++ l) z ∙ append-nil o.text) in
      holds_written
      _
      o.issues
      (omega (arith, n, ap length b, length-append (utf8s o.text) (utf8 c)))
      refl
      (held_issues h)
      (ap (λ (k : ℕ). k + private_use (c ∷ [])) p ∙ sym (count_append o.text (c ∷ [])) ∙ ap private_use x)
      (sets_end (utf8s o.text) (utf8 c) t₀ f n ∙ ap (sets t₀ 0) b)
      h.issues

  -- ---- a mark

  pub holds_mark : (m at : ℕ) {first : ℕ} → is_private_use m ≡ false → first ≡ first_at o.marks o.marks_at at
      → Holds t₀ i₀ (mark m at o)
      (record { len = s.len; end = s.end + length (utf8 m); waiting = pushed s.waiting m; first = first; repeat = s.repeat; issues = s.issues; private_use = s.private_use })
      (sets t s.end (utf8 m)) i
  unfolding mark
  holds_mark m at f e =
      let b : utf8s (o.text ++ o.marks) ++ utf8 m ≡ utf8s (o.text ++ (o.marks ++ (m ∷ []))) =
      sym (utf8s_snoc (o.text ++ o.marks) m) ∙ ap utf8s (append_assoc o.text o.marks (m ∷ [])) in
      let q : s.end + length (utf8 m) ≡ length (utf8s (o.text ++ (o.marks ++ (m ∷ [])))) =
      omega (arith, held_end h, ap length b, length-append (utf8s (o.text ++ o.marks)) (utf8 m)) in
      let p : s.private_use ≡ private_use (o.text ++ (o.marks ++ (m ∷ []))) =
      omega (arith, held_private h, count_append (o.text ++ o.marks) (m ∷ []), count_ordinary 1 m f)
      ∙ ap private_use (append_assoc o.text o.marks (m ∷ [])) in
      record {
        state = λ j. record {
          len = (h.state j).len;
          end = q j;
          waiting = (ap (λ (w : ℕ). pushed w m) (held_waiting h) ∙ sym (packed_more 0 o.marks m)) j;
          first = e j;
          repeat = (h.state j).repeat;
          issues = (h.state j).issues;
          private_use = p j;
        };
        text = sets_end (utf8s (o.text ++ o.marks)) (utf8 m) t₀ h.text (held_end h) ∙ ap (sets t₀ 0) b;
        issues = h.issues;
      }

  pub first_none : (at : ℕ) → s.len ≡ s.end → at ≡ first_at o.marks o.marks_at at
  unfolding first_at
  first_none at e = rw (marks_none h e)

  pub first_some : (at : ℕ) → (s.len ≡ s.end → ⊥) → s.first ≡ first_at o.marks o.marks_at at
  unfolding first_at
  first_some at f = ap (λ (z : Out). z.first) h.state ∙ go o.marks (marks_some h f)
    where
      go : (ms : List ℕ) → (ms ≡ [] → ⊥) → o.marks_at ≡ first_at ms o.marks_at at
      go [] g = absurd (g refl)
      go (m ∷ ms) g = refl

  -- ---- an issue

  -- the struct knows where the text ends
  held_position : s.len ≡ position o
  unfolding position
  held_position = held_len h

  pub holds_report : (at : ℕ) (kind : IssueKind) → let k = s.issues * numbers in let n = numbers_of kind in
      Holds t₀ i₀ (report at kind o)
      (record { len = s.len; end = s.end; waiting = s.waiting; first = s.first; repeat = s.repeat; issues = s.issues + 1; private_use = s.private_use }) t
      (set (set (set (set (set i k at) (k + 1) n.kind) (k + 2) n.first) (k + 3) n.second) (k + 4) s.len)
  unfolding report issue_numbers
  holds_report at kind =
      let k = s.issues * numbers in
      let n = numbers_of kind in
      let x : Issue = record { offset = at; kind = kind; position = position o } in
      let e₁ : k + 1 ≡ suc k = omega arith in
      let e₂ : k + 2 ≡ suc (suc k) = omega arith in
      let e₃ : k + 3 ≡ suc (suc (suc k)) = omega arith in
      let e₄ : k + 4 ≡ suc (suc (suc (suc k))) = omega arith in
      let p : set (set (set (set (set i k at) (k + 1) n.kind) (k + 2) n.first) (k + 3) n.second) (k + 4) s.len ≡ sets i k (issue_numbers x) =
      λ j. set (set (set (set (set i k at) (e₁ j) n.kind) (e₂ j) n.first) (e₃ j) n.second) (e₄ j) (held_position j) in
      let q : k ≡ length (issues_numbers o.issues) = omega (arith, held_issues h, length_numbers o.issues) in
      let c : s.issues + 1 ≡ length (o.issues ++ (x ∷ [])) = omega (arith, held_issues h, length-append o.issues (x ∷ [])) in
      record {
        state = λ j. record {
          len = (h.state j).len;
          end = (h.state j).end;
          waiting = (h.state j).waiting;
          first = (h.state j).first;
          repeat = (h.state j).repeat;
          issues = c j;
          private_use = (h.state j).private_use;
        };
        text = h.text;
        issues = p ∙ sets_end (issues_numbers o.issues) (issue_numbers x) i₀ h.issues q ∙ ap (sets i₀ 0) (sym (numbers_end o.issues x));
      }

-- ---- marks without a base

-- none waits
pub release_none : (o : Output) → o.marks ≡ [] → release o ≡ o
unfolding release
release_none o e = ap (λ (ms : List ℕ). release_of ms o) e

-- reported at the first one's offset, before the marks
abbrev pub dangling : ℕ → Output → Issue
dangling at o = record { offset = at; kind = DanglingNonSpacing; position = position o }

pub release_some : (o : Output) → (o.marks ≡ [] → ⊥) → release o ≡ written (o.text ++ o.marks) o.repeat (o.issues ++ (dangling o.marks_at o ∷ []))
unfolding release
release_some o f = go o.marks f
  where
    go : (ms : List ℕ) → (ms ≡ [] → ⊥) → release_of ms o ≡ written (o.text ++ ms) o.repeat (o.issues ++ (dangling o.marks_at o ∷ []))
    go [] g = absurd (g refl)
    go (m ∷ ms) g = refl

-- after it no mark waits
pub release_marks : (o : Output) → (release o).marks ≡ []
unfolding release
release_marks o = go o.marks refl
  where
    go : (ms : List ℕ) → o.marks ≡ ms → (release_of ms o).marks ≡ []
    go [] e = e
    go (m ∷ ms) e = refl

module _ {t₀ i₀ t i : List ℕ} {o : Output} {s : Out} (h : Holds t₀ i₀ o s t i) where
  pub holds_kept : s.len ≡ s.end → Holds t₀ i₀ (release o) s t i
  holds_kept e = rw (release_none o (marks_none h e)) h

  pub holds_released : (s.len ≡ s.end → ⊥) → {r : Out} {i' : List ℕ} → Holds t₀ i₀ (report s.first DanglingNonSpacing o) r t i'
      → Holds t₀ i₀ (release o) (out_at r.end r.repeat r.issues r.private_use) t i'
  unfolding report
  holds_released f {r} {i'} g =
      let p : s.first ≡ o.marks_at = ap (λ (z : Out). z.first) h.state in
      let e : written (o.text ++ o.marks) o.repeat (o.issues ++ (dangling s.first o ∷ [])) ≡ release o =
      (λ j. written (o.text ++ o.marks) o.repeat (o.issues ++ (dangling (p j) o ∷ []))) ∙ sym (release_some o (marks_some h f)) in
      subst
      (λ (z : Output). Holds t₀ i₀ z (out_at r.end r.repeat r.issues r.private_use) t i')
      e
      (holds_written (o.text ++ o.marks) _ (held_end g) (held_repeat g) (held_issues g) (held_private g) g.text g.issues)

-- ---- a newline

pub holds_newline : {t₀ i₀ t i : List ℕ} (o : Output) {s : Out} → Holds t₀ i₀ (release o) s t i → let n = s.end + length (utf8 0x0A) in
    Holds t₀ i₀ (newline o) (record { len = n; end = n; waiting = s.waiting; first = s.first; repeat = s.repeat; issues = s.issues; private_use = s.private_use })
    (sets t s.end (utf8 0x0A)) i
unfolding newline
holds_newline {t₀ = t₀} o {s} h =
    let r = release o in
    let z : r.marks ≡ [] = release_marks o in
    let x : r.text ++ r.marks ≡ r.text = ap (λ (l : List ℕ). r.text ++ l) z ∙ append-nil r.text in
    let b : utf8s (r.text ++ r.marks) ++ utf8 0x0A ≡ utf8s (r.text ++ (0x0A ∷ [])) = ap (λ (l : List ℕ). utf8s l ++ utf8 0x0A) x ∙ sym (utf8s_snoc r.text 0x0A) in
    let y : r.text ++ (0x0A ∷ []) ≡ (r.text ++ (0x0A ∷ [])) ++ r.marks = sym (append-nil (r.text ++ (0x0A ∷ []))) ∙ ap (λ (l : List ℕ). (r.text ++ (0x0A ∷ [])) ++ l) (sym z) in
    let p : s.end + length (utf8 0x0A) ≡ length (utf8s (r.text ++ (0x0A ∷ []))) = omega (arith, held_end h, ap length b, length-append (utf8s (r.text ++ r.marks)) (utf8 0x0A)) in
    let v : s.private_use ≡ private_use (r.text ++ (0x0A ∷ [])) =
    omega (arith, held_private h, ap private_use x, count_append r.text (0x0A ∷ []), count_ordinary 1 0x0A (below 0x0A (omega arith))) in
    record {
      state = λ j. record {
        len = p j;
        end = (p ∙ ap (λ (l : List ℕ). length (utf8s l)) y) j;
        waiting = (h.state j).waiting;
        first = (h.state j).first;
        repeat = (h.state j).repeat;
        issues = (h.state j).issues;
        private_use = (v ∙ ap private_use y) j;
      };
      text = sets_end (utf8s (r.text ++ r.marks)) (utf8 0x0A) t₀ h.text (held_end h) ∙ ap (sets t₀ 0) b ∙ ap (λ (l : List ℕ). sets t₀ 0 (utf8s l)) y;
      issues = h.issues;
    }

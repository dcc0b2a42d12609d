-- From a byte to the end, by all steps and the release of the marks, to the counts. Assumes nothing.
use Prim.Native.Nat.{ℕ, ◌-◌, ◌≤◌}
use mathlib.Core.Path.{◌≡◌, refl, sym, ap, ◌∙◌, subst}
use mathlib.Core.List.{List, [], ◌++◌, append-nil}
use mathlib.Core.Logic.{inl, inr}
use native.Mathlib.Omega.{arith}
use lib.ListN.{length, drop, length-drop}
use lib.Seq.{sets}
use Rattle.private_use.specs.PrivateUse.{private_use}
use Rattle.utf8.specs.Utf8.{utf8s}
use Rattle.decode_output.specs.declared.Out.{Out}
use Rattle.decode_output.specs.Output.{release}
use Rattle.decode_output.specs.Promises as output
use Rattle.decode_output.proofs.Held.{release_marks}
use Rattle.reading.specs.State.{Given, State, given, start, writes}
use Rattle.reading.specs.Macros.{limit}
use Rattle.reading.specs.Steps.{decode, steps, run}
use Rattle.reading.specs.Between.{rest}
use Rattle.decode_state.specs.declared.Core.{Core}
use Rattle.decode_state.specs.declared.Decoder.{Decoder}
use Rattle.decode_state.specs.Promises.{start_of, undefined, Whole, view, Holds}
use Rattle.decode_state.proofs.Begun.{holds_start}
use Rattle.decode_state.proofs.Steps.{until_all}
use Rattle.decode_outer.specs.declared.Reached.{Reached}
use Rattle.decode_outer.proofs.Start.{few_issues}
use Rattle.decode_outer.specs.Promises.{Outside, steps_from, ReachesOrCut, TopRan}
use Rattle.decode_read.specs.declared.Counts.{Counts}
use Rattle.decode_read.specs.Promises.{Counted, ReadOn, Read}

-- where no mark waits, the struct counts the text and the issues
counted : {t₀ i₀ t i : List ℕ} (s : State) (charge : ℕ) {o : Out} → s.out.marks ≡ [] → charge ≡ s.charged → output.Holds t₀ i₀ s.out o t i
    → Counted s t₀ i₀ (record { text = o.len; issues = o.issues; charged = charge; private_use = o.private_use }) t i
counted {t₀ = t₀} s charge m e h =
    let whole : s.out.text ++ s.out.marks ≡ s.out.text = rw m (append-nil s.out.text) in
    record {
      text = ap (λ (z : Out). z.len) h.state;
      issues = ap (λ (z : Out). z.issues) h.state;
      charged = e;
      private_use = ap (λ (z : Out). z.private_use) h.state ∙ ap private_use whole;
      written = h.text ∙ ap (λ (l : List ℕ). sets t₀ 0 (utf8s l)) whole;
      listed = h.issues;
    }

module _ (cells input : List ℕ) (from : ℕ) {d : Decoder} {t i : List ℕ} {r : Reached} {t₁ i₁ : List ℕ} {o : Out} {i₂ : List ℕ}
    (within : from ≤ length input) (outside : Outside input (length input - from) d) (unbounded : d.core.enough ≡ 0xFFFFFFFF) (none : d.core.out.issues ≡ 0) (little : d.core.out.end ≤ 4096)
    (top : TopRan cells input from (length input) d t i r t₁ i₁) (flush : output.Wrote 0 1 release r.decoder.core.out t₁ i₁ o t₁ i₂) where
  -- up to the end they are all steps; the reading is not cut, since there are not enough issues
  uncut : (g : Given) → g.input ≡ input → (t₀ i₀ : List ℕ) (s : State) → ReachesOrCut g t₀ i₀ (steps_from from (length input) g s) r.at r.decoder t₁ i₁
      → Holds g t₀ i₀ (steps g 4 (run g 3) 0 0 (drop from g.input) from 0 s) (view r.decoder) t₁ i₁
  uncut g y t₀ i₀ s (inl h) =
      let e = until_all g 4 (run g 3) 0 0 (length input) (drop from g.input) from 0 s (omega (arith, within, length-drop from g.input, ap length y)) in
      subst (λ (z : State). Holds g t₀ i₀ z (view r.decoder) t₁ i₁) e h.0
  uncut g y t₀ i₀ s (inr q) = absurd (omega (arith, top.grown.enough, unbounded, few_issues outside none top, q.ends))

  pub read_on : ReadOn cells input from d t i (record { text = o.len; issues = o.issues; charged = r.decoder.core.charged; private_use = o.private_use }) t₁ i₂
  unfolding rest writes limit
  read_on = record {
    counted = λ g x y t₀ i₀ s k.
        let ends : State = steps g 4 (run g 3) 0 0 (drop from g.input) from 0 s in
        let h = uncut g y t₀ i₀ s (top.does g x y t₀ i₀ s k) in
        let charge : r.decoder.core.charged ≡ ends.charged = ap (λ (x : Whole). x.core.charged) h.state in
        counted (rest g from s) r.decoder.core.charged (release_marks ends.out) charge (flush.does t₀ i₀ ends.out h.out);
    few = omega (arith, flush.grew.issues, few_issues outside none top);
    short = omega (arith, flush.grew.ordered.0, flush.grew.text, top.grown.text, top.grown.within, little, outside.short);
  }

-- from the start
pub read : (cells : List ℕ) (initial width : ℕ) (input : List ℕ) {t i : List ℕ} {c : Core} {d : Decoder} {r : Counts} {t₁ i₁ : List ℕ}
    → c ≡ start_of initial width 0xFFFFFFFF → d ≡ undefined c → ReadOn cells input 0 d t i r t₁ i₁ → Read cells initial width input t i r t₁ i₁
unfolding decode rest run
read cells initial width input {t} {i} {c} {d} e q v =
    let g : Given = given cells width input in
    let p : undefined (start_of initial width 0xFFFFFFFF) ≡ d = ap undefined (sym e) ∙ sym q in
    let begun = subst (λ (x : Decoder). Holds g t i (start initial) (view x) t i) p (holds_start cells input initial width 0xFFFFFFFF t i) in
    record { counted = v.counted g refl refl t i (start initial) begun; few = v.few }

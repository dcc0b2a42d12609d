-- From an issue, or a field that a step sets, to the step. Assumes nothing.
use Prim.Native.Nat.{ℕ, zero, suc, ◌+◌, ◌≤◌, ◌<◌}
use mathlib.Core.Path.{◌≡◌, refl, sym, subst}
use mathlib.Core.Bool.{Bool, false}
use mathlib.Core.List.{List, []}
use native.Mathlib.Omega.{arith}
use lib.ListN.{length, set}
use Rattle.issues.specs.declared.IssueKind.{IssueKind}
use Rattle.issues.specs.declared.IssueKind.TheVariants.{RepeatToEndOfLine}
use Rattle.decode_output.specs.declared.Out.{Out}
use Rattle.decode_output.specs.Output.{report, set_repeat}
use Rattle.decode_output.specs.Promises as output
use Rattle.decode_output.proofs.Callers.{wrote_repeat}
use Rattle.reading.specs.State.{Given, State, Step, took, issue, writes, designate, invoke_gl, invoke_gr, resize}
use Rattle.reading.specs.Controls.{repeat_by}
use Rattle.decode_state.specs.declared.Core.{Core}
use Rattle.decode_state.specs.declared.Stepped.{Stepped}
use Rattle.decode_state.specs.Promises.{whole, Holds, Moves, MayTake, Took}
use Rattle.decode_state.proofs.Lift.{with_sets, with_gl, with_gr, with_narrow, with_out, holds_writes, holds_gl, holds_gr, holds_narrow, holds_sets}
use Rattle.decode_controls.specs.declared.Effect.{Effect}
use Rattle.decode_controls.specs.Controls.{step_of}
use Rattle.decode_reports.specs.Promises.{Reported, Moved}

abbrev pub stepped : ℕ → Core → Stepped
stepped n c = record { used = n; core = c }

abbrev pub with_repeat : Core → ℕ → Core
with_repeat c n = with_out c (record { len = c.out.len; end = c.out.end; waiting = c.out.waiting; first = c.out.first; repeat = n; issues = c.out.issues; private_use = c.out.private_use })

grew_none : (o : Out) → output.Room 1 1 o → output.Grew 1 1 o o
grew_none o k = record { ordered = k.ordered; repeat = k.repeat; text = omega arith; issues = omega arith }

-- an issue
pub reported : (c : Core) (at : ℕ) (kind : IssueKind) (o : Out) (t i i' : List ℕ) → MayTake 1 c → output.Wrote 0 1 (report at kind) c.out t i o t i' →
    Reported at kind c t i (with_out c o) i'
unfolding issue
reported c at kind o t i i' k w =
    record {
      does = λ g starts lens t₀ i₀ s h. holds_writes g starts lens t₀ i₀ s c t i h (report at kind) o t i' (w.does t₀ i₀ s.out h.out);
      kept =
          record {
            gl = k.gl;
            gr = k.gr;
            enough = refl;
            charged = refl;
            grew =
                record { ordered = w.grew.ordered; repeat = w.grew.repeat; text = omega (arith, w.grew.text); issues = w.grew.issues };
          };
    }

pub moved_issue : {at : ℕ} {kind : IssueKind} {c : Core} {t i : List ℕ} {r : Core} {i' : List ℕ} (n : ℕ) → Reported at kind c t i r i'
    → Moved n (λ s. took n (issue at kind s)) c t i (stepped n r) t i'
moved_issue n w = record { moves = λ g. record { does = w.does g; used = λ starts lens t₀ i₀ s h. refl }; used = refl; kept = w.kept }

module _ (c : Core) (t i : List ℕ) (k : MayTake 1 c) where
  -- nothing but the bytes is used
  pub moved_same : (n : ℕ) → Moved n (λ s. took n s) c t i (stepped n c) t i
  moved_same n =
      record {
        moves = λ g. record { does = λ starts lens t₀ i₀ s h. h; used = λ starts lens t₀ i₀ s h. refl };
        used = refl;
        kept = record { gl = k.gl; gr = k.gr; enough = refl; charged = refl; grew = grew_none c.out k.room };
      }

  pub moved_narrow : (n : ℕ) (b : Bool) → Moved n (λ s. took n (resize b s)) c t i (stepped n (with_narrow c b)) t i
  moved_narrow n b =
      record {
        moves = λ g. record { does = λ starts lens t₀ i₀ s h. holds_narrow g starts lens t₀ i₀ s c t i h b; used = λ starts lens t₀ i₀ s h. refl };
        used = refl;
        kept = record { gl = k.gl; gr = k.gr; enough = refl; charged = refl; grew = grew_none c.out k.room };
      }

  pub moved_gl : (n e : ℕ) → e < 4 → Moved n (λ s. took n (invoke_gl e s)) c t i (stepped n (with_gl c e)) t i
  moved_gl n e p =
      record {
        moves = λ g. record { does = λ starts lens t₀ i₀ s h. holds_gl g starts lens t₀ i₀ s c t i h e; used = λ starts lens t₀ i₀ s h. refl };
        used = refl;
        kept = record { gl = p; gr = k.gr; enough = refl; charged = refl; grew = grew_none c.out k.room };
      }

  pub moved_gr : (n e : ℕ) → e < 4 → Moved n (λ s. took n (invoke_gr e s)) c t i (stepped n (with_gr c e)) t i
  moved_gr n e p =
      record {
        moves = λ g. record { does = λ starts lens t₀ i₀ s h. holds_gr g starts lens t₀ i₀ s c t i h e; used = λ starts lens t₀ i₀ s h. refl };
        used = refl;
        kept = record { gl = k.gl; gr = p; enough = refl; charged = refl; grew = grew_none c.out k.room };
      }

  pub moved_sets : (n e x : ℕ) → Moved n (λ s. took n (designate e x s)) c t i (stepped n (with_sets c (set c.sets e x))) t i
  moved_sets n e x =
      record {
        moves = λ g. record { does = λ starts lens t₀ i₀ s h. holds_sets g starts lens t₀ i₀ s c t i h e x; used = λ starts lens t₀ i₀ s h. refl };
        used = refl;
        kept = record { gl = k.gl; gr = k.gr; enough = refl; charged = refl; grew = grew_none c.out k.room };
      }

  pub moved_wait : (u n : ℕ) → n ≤ 63 → Moved u (λ s. took u (writes (set_repeat n) s)) c t i (stepped u (with_repeat c n)) t i
  moved_wait u n p =
      let w = wrote_repeat n t i k.room p in
      let v = k.room in
      record {
        moves =
            λ g. record {
              does = λ starts lens t₀ i₀ s h. holds_writes g starts lens t₀ i₀ s c t i h (set_repeat n) _ t i (w.does t₀ i₀ s.out h.out);
              used = λ starts lens t₀ i₀ s h. refl;
            };
        used = refl;
        kept = record { gl = k.gl; gr = k.gr; enough = refl; charged = refl; grew = record { ordered = v.ordered; repeat = p; text = omega (arith, v.text); issues = omega (arith, v.issues) } };
      }

-- a step that is another at every state
module _ {f f' : State → Step} {c : Core} {t i₁ : List ℕ} {r : Stepped} {t' i₂ : List ℕ} (e : (s : State) → f s ≡ f' s) where
  moves_as : (g : Given) → Moves g f' c t i₁ r.used r.core t' i₂ → Moves g f c t i₁ r.used r.core t' i₂
  moves_as g m =
      record {
        does = λ starts lens t₀ i₀ s h. subst (λ (w : Step). Holds g t₀ i₀ w.to (whole r.core starts lens) t' i₂) (sym (e s)) (m.does starts lens t₀ i₀ s h);
        used = λ starts lens t₀ i₀ s h. subst (λ (w : Step). r.used ≡ w.used) (sym (e s)) (m.used starts lens t₀ i₀ s h);
      }

  pub moved_as : {n : ℕ} → Moved n f' c t i₁ r t' i₂ → Moved n f c t i₁ r t' i₂
  moved_as m = record { moves = λ g. moves_as g (m.moves g); used = m.used; kept = m.kept }

  pub took_of : {b : List ℕ} {i n : ℕ} → Moved n f' c t i₁ r t' i₂ → 1 ≤ n → i + n ≤ length b → Took b i f c t i₁ r t' i₂
  took_of m p q = record { moves = λ g. moves_as g (m.moves g); some = omega (arith, m.used); within = omega (arith, m.used); kept = m.kept }

-- an effect that is another
pub moved_effect : {e e' : Effect} {n : ℕ} {c : Core} {t i : List ℕ} {r : Stepped} {t' i' : List ℕ} (place at : ℕ) → e ≡ e' → Moved n (step_of e' n place at) c t i r t' i'
    → Moved n (step_of e n place at) c t i r t' i'
moved_effect {n = n} {c} {t} {i} {r} {t'} {i'} place at q m = subst (λ (e : Effect). Moved n (step_of e n place at) c t i r t' i') (sym q) m

-- a reading of nothing
pub nowhere : Given
nowhere = record { cells = []; annex_e = false; input = [] }

-- ---- RPC

-- a count waits
pub repeat_some : (n at : ℕ) (s : State) → (n ≡ 0 → ⊥) → repeat_by n at s ≡ writes (set_repeat n) s
unfolding repeat_by
repeat_some zero at s h = absurd (h refl)
repeat_some (suc n) at s h = refl

-- 0: the issue, and no repeat waits
pub moved_line : {at : ℕ} {c : Core} {t i : List ℕ} {r : Core} {i' : List ℕ} (u : ℕ) → MayTake 1 c → Reported at RepeatToEndOfLine c t i r i'
    → Moved u (λ s. took u (repeat_by 0 at s)) c t i (stepped u (with_repeat r 0)) t i'
unfolding repeat_by
moved_line {at} {c} {t} {i} {r} {i'} u k w =
    let v = w.kept.grew in
    let p = k.room in
    let room : output.Room 0 0 r.out = record { ordered = v.ordered; repeat = v.repeat; text = omega arith; issues = omega arith } in
    let o = wrote_repeat 0 t i' room (omega arith) in
    record {
      moves = λ g. record {
        does = λ starts lens t₀ i₀ s h.
            let q = w.does g starts lens t₀ i₀ s h in
            holds_writes g starts lens t₀ i₀ (issue at RepeatToEndOfLine s) r t i' q (set_repeat 0) _ t i' (o.does t₀ i₀ (issue at RepeatToEndOfLine s).out q.out);
        used = λ starts lens t₀ i₀ s h. refl;
      };
      used = refl;
      kept =
          record {
            gl = w.kept.gl;
            gr = w.kept.gr;
            enough = w.kept.enough;
            charged = w.kept.charged;
            grew = record { ordered = v.ordered; repeat = omega arith; text = v.text; issues = v.issues };
          };
    }

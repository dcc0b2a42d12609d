-- From what a callee promises to a step over a cell table.
use Prim.Native.Nat.{ℕ, ◌≤◌, ◌<◌}
use mathlib.Core.Path.{◌≡◌, refl, ap, ◌∙◌, subst}
use mathlib.Core.Bool.{false}
use mathlib.Core.List.{List, []}
use native.Mathlib.Omega.{arith}
use lib.ListN.{length}
use Rattle.decode_output.specs.declared.Out.{Out}
use Rattle.decode_output.specs.Output.{Output}
use Rattle.decode_output.specs.Promises as output
use Rattle.reading.specs.State.{Given, State, Step, took, writes}
use Rattle.decode_state.specs.declared.Core.{Core}
use Rattle.decode_state.specs.declared.Stepped.{Stepped}
use Rattle.decode_state.specs.Promises.{whole, Holds, MayTake, Took, TookOver}
use Rattle.decode_state.proofs.Lift.{with_out, holds_writes}

-- a step that concerns no cell
pub took_over : {cells b : List ℕ} {j : ℕ} {f : Given → State → Step} {c : Core} {t i : List ℕ} {r : Stepped} {t' i' : List ℕ} → ((g : Given) → Took b j (f g) c t i r t' i')
    → TookOver cells b j f c t i r t' i'
took_over {cells} m =
    let w = m (record { cells = cells; annex_e = false; input = [] }) in
    record { moves = λ g e. (m g).moves g; some = w.some; within = w.within; kept = w.kept }

-- a step that is another at every state that the struct holds
pub took_as : {cells b : List ℕ} {j : ℕ} {f f' : Given → State → Step} {c : Core} {t i : List ℕ} {r : Stepped} {t' i' : List ℕ}
    → ((g : Given) (starts lens t₀ i₀ : List ℕ) (s : State) → Holds g t₀ i₀ s (whole c starts lens) t i → f g s ≡ f' g s) → TookOver cells b j f c t i r t' i'
    → TookOver cells b j f' c t i r t' i'
took_as {r = r} {t'} {i'} q m =
    record {
      moves = λ g e.
          record {
            does = λ starts lens t₀ i₀ s h.
                subst (λ (w : Step). Holds g t₀ i₀ w.to (whole r.core starts lens) t' i') (q g starts lens t₀ i₀ s h) ((m.moves g e).does starts lens t₀ i₀ s h);
            used = λ starts lens t₀ i₀ s h. (m.moves g e).used starts lens t₀ i₀ s h ∙ ap (λ (w : Step). w.used) (q g starts lens t₀ i₀ s h);
          };
      some = m.some;
      within = m.within;
      kept = m.kept;
    }

-- one byte is used, and something is written
pub took_writes : {n k : ℕ} {f : Output → Output} {c : Core} {t i : List ℕ} {o : Out} {t' i' : List ℕ} (b : List ℕ) (j : ℕ) → n ≤ 1 → k ≤ 1 → j < length b → MayTake 1 c
    → output.Wrote n k f c.out t i o t' i' → Took b j (λ s. took 1 (writes f s)) c t i (record { used = 1; core = with_out c o }) t' i'
took_writes {f = f} {c} {t} {i} {o} {t'} {i'} b j p q l h w =
    let v = w.grew in
    record {
      moves = λ g.
          record {
            does = λ starts lens t₀ i₀ s k. holds_writes g starts lens t₀ i₀ s c t i k f o t' i' (w.does t₀ i₀ s.out k.out);
            used = λ starts lens t₀ i₀ s k. refl;
          };
      some = omega arith;
      within = omega arith;
      kept = record { gl = h.gl; gr = h.gr; enough = refl; charged = refl; grew = record { ordered = v.ordered; repeat = v.repeat; text = omega arith; issues = omega arith } };
    }

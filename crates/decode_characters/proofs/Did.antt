-- Changes of the decoder's output, and the steps they make. Assumes nothing.
use Prim.Native.Nat.{ℕ, ◌+◌, ◌≤◌}
use mathlib.Core.Path.{◌≡◌, refl, sym, ap, subst, ◌∙◌}
use mathlib.Core.List.{List}
use native.Mathlib.Omega.{arith}
use lib.ListN.{length}
use Rattle.decode_output.specs.declared.Out.{Out}
use Rattle.decode_output.specs.Output.{Output}
use Rattle.decode_output.specs.Promises as output
use Rattle.reading.specs.State.{Given, State, Step, took, writes}
use Rattle.decode_state.specs.declared.Core.{Core}
use Rattle.decode_state.specs.declared.Stepped.{Stepped}
use Rattle.decode_state.specs.Promises.{Whole, whole, Holds, MayTake, TookOver}
use Rattle.decode_state.proofs.Lift.{with_out, holds_writes}
use Rattle.decode_characters.specs.Promises.{Did}

-- from what a function of `decode_output` writes
pub did_writes : {n k : ℕ} {f : Output → Output} {s : Core} {t i : List ℕ} {o : Out} {t' i' : List ℕ} (cells : List ℕ) → n ≤ 1 → k ≤ 1 → MayTake 1 s
    → output.Wrote n k f s.out t i o t' i' → Did cells (λ g. writes f) s t i (with_out s o) t' i'
did_writes {f = f} {s} {t} {i} {o} {t'} {i'} cells a b h w =
    let p = w.grew in
    record {
      does = λ g e starts lens t₀ i₀ x k. holds_writes g starts lens t₀ i₀ x s t i k f o t' i' (w.does t₀ i₀ x.out k.out);
      kept = record { gl = h.gl; gr = h.gr; enough = refl; charged = refl; grew = record { ordered = p.ordered; repeat = p.repeat; text = omega arith; issues = omega arith } };
    }

-- the same change in other words, over a state that the struct holds
pub did_as : {cells : List ℕ} {f f' : Given → State → State} {s : Core} {t i : List ℕ} {r : Core} {t' i' : List ℕ}
    → ((g : Given) → g.cells ≡ cells → (starts lens t₀ i₀ : List ℕ) (x : State) → Holds g t₀ i₀ x (whole s starts lens) t i → f g x ≡ f' g x)
    → Did cells f s t i r t' i' → Did cells f' s t i r t' i'
did_as {r = r} {t'} {i'} q d =
    record {
      does = λ g e starts lens t₀ i₀ x k.
          subst (λ (y : State). Holds g t₀ i₀ y (whole r starts lens) t' i') (q g e starts lens t₀ i₀ x k) (d.does g e starts lens t₀ i₀ x k);
      kept = d.kept;
    }

-- a step of u bytes that makes it
pub took_did : {cells b : List ℕ} {j : ℕ} {f : Given → State → State} {s : Core} {t i : List ℕ} {r : Core} {t' i' : List ℕ}
    (h : Given → State → Step) (u : ℕ) → 1 ≤ u → j + u ≤ length b
    → ((g : Given) (x : State) → h g x ≡ took u (f g x)) → Did cells f s t i r t' i' → TookOver cells b j h s t i (record { used = u; core = r }) t' i'
took_did {r = r} {t'} {i'} h u a b q d =
    record {
      moves = λ g e.
          record {
            does = λ starts lens t₀ i₀ x k. subst (λ (y : Step). Holds g t₀ i₀ y.to (whole r starts lens) t' i') (sym (q g x)) (d.does g e starts lens t₀ i₀ x k);
            used = λ starts lens t₀ i₀ x k. ap (λ (y : Step). y.used) (sym (q g x));
          };
      some = a;
      within = b;
      kept = d.kept;
    }

-- the same step in other words
pub took_as : {cells b : List ℕ} {j : ℕ} {f f' : Given → State → Step} {s : Core} {t i : List ℕ} {r : Stepped} {t' i' : List ℕ} → ((g : Given) (x : State) → f g x ≡ f' g x)
    → TookOver cells b j f s t i r t' i' → TookOver cells b j f' s t i r t' i'
took_as {r = r} {t'} {i'} q d =
    record {
      moves = λ g e.
          record {
            does = λ starts lens t₀ i₀ x k. subst (λ (y : Step). Holds g t₀ i₀ y.to (whole r.core starts lens) t' i') (q g x) ((d.moves g e).does starts lens t₀ i₀ x k);
            used = λ starts lens t₀ i₀ x k. (d.moves g e).used starts lens t₀ i₀ x k ∙ ap (λ (y : Step). y.used) (q g x);
          };
      some = d.some;
      within = d.within;
      kept = d.kept;
    }

-- a step after a shift
pub took_shifted : {cells b : List ℕ} {j : ℕ} {f f' : Given → State → Step} {s : Core} {t i : List ℕ} {r : Stepped} {t' i' : List ℕ}
    → ((g : Given) (x : State) → s.sets ≡ x.sets → f' g x ≡ took ((f g x).used + 1) (f g x).to)
    → TookOver cells b (j + 1) f s t i r t' i' → TookOver cells b j f' s t i (record { used = r.used + 1; core = r.core }) t' i'
took_shifted {s = s} {t} {i} {r} {t'} {i'} q d =
    let sets : (g : Given) (starts lens t₀ i₀ : List ℕ) (x : State) → Holds g t₀ i₀ x (whole s starts lens) t i → s.sets ≡ x.sets =
    λ g starts lens t₀ i₀ x k. ap (λ (y : Whole). y.core.sets) k.state in
    let a = d.some in
    let b = d.within in
    record {
      moves = λ g e.
          record {
            does = λ starts lens t₀ i₀ x k.
                subst (λ (y : Step). Holds g t₀ i₀ y.to (whole r.core starts lens) t' i') (sym (q g x (sets g starts lens t₀ i₀ x k)))
                ((d.moves g e).does starts lens t₀ i₀ x k);
            used = λ starts lens t₀ i₀ x k.
                ap (λ (n : ℕ). n + 1) ((d.moves g e).used starts lens t₀ i₀ x k) ∙ ap (λ (y : Step). y.used) (sym (q g x (sets g starts lens t₀ i₀ x k)));
          };
      some = omega arith;
      within = omega arith;
      kept = d.kept;
    }

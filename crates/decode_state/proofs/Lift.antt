-- From what a function of `decode_output` does, or a field that a step sets, to what the decoder does. Assumes nothing.
use Prim.Native.Nat.{ℕ, ◌+◌}
use mathlib.Core.Bool.{Bool}
use mathlib.Core.List.{List}
use lib.ListN.{set}
use Rattle.decode_output.specs.declared.Out.{Out}
use Rattle.decode_output.specs.Output.{Output}
use Rattle.decode_output.specs.Promises as output
use Rattle.reading.specs.State.{Given, State, writes, designate, invoke_gl, invoke_gr, resize, charge}
use Rattle.decode_state.specs.declared.Core.{Core}
use Rattle.decode_state.specs.Promises.{whole, Holds}

-- the struct with one field anew
abbrev pub with_sets : Core → List ℕ → Core
with_sets c x = record { sets = x; gl = c.gl; gr = c.gr; narrow = c.narrow; annex = c.annex; enough = c.enough; charged = c.charged; out = c.out }

abbrev pub with_gl : Core → ℕ → Core
with_gl c x = record { sets = c.sets; gl = x; gr = c.gr; narrow = c.narrow; annex = c.annex; enough = c.enough; charged = c.charged; out = c.out }

abbrev pub with_gr : Core → ℕ → Core
with_gr c x = record { sets = c.sets; gl = c.gl; gr = x; narrow = c.narrow; annex = c.annex; enough = c.enough; charged = c.charged; out = c.out }

abbrev pub with_narrow : Core → Bool → Core
with_narrow c x = record { sets = c.sets; gl = c.gl; gr = c.gr; narrow = x; annex = c.annex; enough = c.enough; charged = c.charged; out = c.out }

abbrev pub with_charged : Core → ℕ → Core
with_charged c x = record { sets = c.sets; gl = c.gl; gr = c.gr; narrow = c.narrow; annex = c.annex; enough = c.enough; charged = x; out = c.out }

abbrev pub with_out : Core → Out → Core
with_out c x = record { sets = c.sets; gl = c.gl; gr = c.gr; narrow = c.narrow; annex = c.annex; enough = c.enough; charged = c.charged; out = x }

-- Whatever the macros: d holds s, so d with a field anew holds s with it anew.
module _ (g : Given) (starts lens t₀ i₀ : List ℕ) (s : State) (c : Core) (t i : List ℕ) (h : Holds g t₀ i₀ s (whole c starts lens) t i) where
  pub holds_writes : (f : Output → Output) (o : Out) (t' i' : List ℕ) → output.Holds t₀ i₀ (f s.out) o t' i'
      → Holds g t₀ i₀ (writes f s) (whole (with_out c o) starts lens) t' i'
  unfolding writes
  holds_writes f o t' i' k =
      record {
        state = λ j. record {
          core = record {
            sets = (h.state j).core.sets;
            gl = (h.state j).core.gl;
            gr = (h.state j).core.gr;
            narrow = (h.state j).core.narrow;
            annex = (h.state j).core.annex;
            enough = c.enough;
            charged = (h.state j).core.charged;
            out = o;
          };
          starts = (h.state j).starts;
          lens = (h.state j).lens;
        };
        out = k;
      }

  pub holds_gl : (e : ℕ) → Holds g t₀ i₀ (invoke_gl e s) (whole (with_gl c e) starts lens) t i
  unfolding invoke_gl
  holds_gl e =
      record {
        state = λ j. record {
          core = record {
            sets = (h.state j).core.sets;
            gl = e;
            gr = (h.state j).core.gr;
            narrow = (h.state j).core.narrow;
            annex = (h.state j).core.annex;
            enough = c.enough;
            charged = (h.state j).core.charged;
            out = c.out;
          };
          starts = (h.state j).starts;
          lens = (h.state j).lens;
        };
        out = h.out;
      }

  pub holds_gr : (e : ℕ) → Holds g t₀ i₀ (invoke_gr e s) (whole (with_gr c e) starts lens) t i
  unfolding invoke_gr
  holds_gr e =
      record {
        state = λ j. record {
          core = record {
            sets = (h.state j).core.sets;
            gl = (h.state j).core.gl;
            gr = e;
            narrow = (h.state j).core.narrow;
            annex = (h.state j).core.annex;
            enough = c.enough;
            charged = (h.state j).core.charged;
            out = c.out;
          };
          starts = (h.state j).starts;
          lens = (h.state j).lens;
        };
        out = h.out;
      }

  pub holds_narrow : (b : Bool) → Holds g t₀ i₀ (resize b s) (whole (with_narrow c b) starts lens) t i
  unfolding resize
  holds_narrow b =
      record {
        state = λ j. record {
          core = record {
            sets = (h.state j).core.sets;
            gl = (h.state j).core.gl;
            gr = (h.state j).core.gr;
            narrow = b;
            annex = (h.state j).core.annex;
            enough = c.enough;
            charged = (h.state j).core.charged;
            out = c.out;
          };
          starts = (h.state j).starts;
          lens = (h.state j).lens;
        };
        out = h.out;
      }

  pub holds_sets : (e n : ℕ) → Holds g t₀ i₀ (designate e n s) (whole (with_sets c (set c.sets e n)) starts lens) t i
  unfolding designate
  holds_sets e n =
      record {
        state = λ j. record {
          core = record {
            sets = set (h.state j).core.sets e n;
            gl = (h.state j).core.gl;
            gr = (h.state j).core.gr;
            narrow = (h.state j).core.narrow;
            annex = (h.state j).core.annex;
            enough = c.enough;
            charged = (h.state j).core.charged;
            out = c.out;
          };
          starts = (h.state j).starts;
          lens = (h.state j).lens;
        };
        out = h.out;
      }

  pub holds_charged : (n : ℕ) → Holds g t₀ i₀ (charge n s) (whole (with_charged c (c.charged + n)) starts lens) t i
  unfolding charge
  holds_charged n =
      record {
        state = λ j. record {
          core = record {
            sets = (h.state j).core.sets;
            gl = (h.state j).core.gl;
            gr = (h.state j).core.gr;
            narrow = (h.state j).core.narrow;
            annex = (h.state j).core.annex;
            enough = c.enough;
            charged = (h.state j).core.charged + n;
            out = c.out;
          };
          starts = (h.state j).starts;
          lens = (h.state j).lens;
        };
        out = h.out;
      }

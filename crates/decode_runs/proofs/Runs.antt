-- Runs of characters and controls, one after the other. Assumes nothing.
use Prim.Native.Nat.{ℕ, ◌+◌, ◌-◌, ◌*◌, ◌^◌, ◌≤◌, ◌<◌}
use mathlib.Core.Path.{◌≡◌, refl, sym, ap, subst, ◌∙◌}
use mathlib.Core.Bool.{Bool, true, false, not, ◌||◌}
use lib.Dec.{eqb}
use mathlib.Core.List.{List, [], ◌∷◌}
use native.Mathlib.Omega.{arith}
use borrow.Author.Tests.{le-ltb, lt-ltb}
use lib.ListN.{length, take, drop, get_or}
use lib.Seq.{sets, length-sets, get_or-take}
use Rattle.private_use.specs.PrivateUse.{is_private_use, private_use}
use Rattle.private_use.proofs.Laws.{count_most, count_ordinary}
use Rattle.utf8.specs.Utf8.{utf8}
use Rattle.utf8.proofs.Bytes.{length_utf8}
use Rattle.decode_output.specs.Output.{emit}
use Rattle.decode_output.specs.declared.Out.{Out}
use Rattle.decode_output.proofs.Held.{held_repeat, marks_none, waiting_none, holds_plain}
use Rattle.reading.specs.State.{Given, State, Step, writes, is_narrow}
use Rattle.reading.specs.Steps.{offset}
use Rattle.reading.specs.Between.{until}
use Rattle.decode_state.specs.declared.Core.{Core}
use Rattle.decode_state.specs.Promises.{whole, Holds, Goes, MayTake, Stretch}
use Rattle.decode_state.proofs.Lift.{with_out, holds_writes}
use Rattle.decode_state.proofs.Steps.{goes_none, goes_on, goes_later, goes_step}
use Rattle.decode_settings.specs.Promises.{with_settings, Settings, Controls}
use Rattle.decode_letters.specs.declared.Invoked.{Invoked}
use Rattle.decode_letters.specs.Promises.{Sees, Spells, Reads}
use Rattle.decode_runs.specs.Promises.{Space, with_text, Plain, Letters, Behind, core_at, RunsTo, Begins}
use Rattle.decode_runs.specs.declared.Reached.{Reached}

-- a letter of two bytes
pub yen_bytes : (c : ℕ) → 0x80 ≤ c → c < 0x800 → 2 ≡ length (utf8 c)
unfolding utf8
yen_bytes c l h = simp (le-ltb c 0x80 l, lt-ltb c 0x800 h)

-- a const parameter as a clause has it
abbrev pub flag : ℕ → Bool
flag n = not (eqb n 0)

sees : {v : Invoked} {n p m q : ℕ} {g : Given} {c : Core} {starts lens t₀ i₀ t i : List ℕ} {s : State} → Plain v n p c
    → Holds g t₀ i₀ s (whole (with_text c m q) starts lens) t i → Sees v g s
unfolding is_narrow
sees p h =
    record {
      gl = p.gl ∙ (λ k. get_or (h.state k).core.sets (h.state k).core.gl 0);
      gr = p.gr ∙ (λ k. get_or (h.state k).core.sets (h.state k).core.gr 0);
      narrow = p.narrow ∙ (λ k. (h.state k).core.annex || (h.state k).core.narrow);
      marks = marks_none h.out refl;
      marks_at = sym (ap (λ (o : Out). o.first) h.out.state);
      repeat = sym (held_repeat h.out);
    }

-- the struct where something else waits, for the step of a character: the number of waiting marks is 0 where none waits
abbrev with_waiting : ℕ → ℕ → ℕ → Core → Core
with_waiting w n p c = with_out c (record { len = n; end = n; waiting = w; first = 0; repeat = 0; issues = c.out.issues; private_use = p })

-- the loop: what is spelt up to the byte j₁, the text as long as it was, and room for three bytes a byte before `to`, or none at all
pub record Spelt (fits : Bool) (cells b : List ℕ) (to j : ℕ) (v : Invoked) (n p : ℕ) (t : List ℕ) (j₁ n₁ : ℕ) (t₁ : List ℕ) : Type 0 where
  pub letters : Letters cells b to j v n p t j₁ n₁ p t₁
  pub as_long : length t₁ ≡ length t
  pub room : Space fits n₁ (to - j₁) (length t)

-- the space that is left when more is written, in a text that is as long as it was
pub space_on : {fits : Bool} {n m k n₁ m₁ k₁ : ℕ} → n ≤ n₁ → n₁ + 3 * m₁ ≤ n + 3 * m → k₁ ≡ k → Space fits n m k → Space fits n₁ m₁ k₁
space_on a b e h = record { inside = λ q. omega (arith, h.inside q, b, e); behind = λ q. omega (arith, h.behind q, a, e); small = λ q. omega (arith, h.small q, b) }

-- as a number of 64 bits
pub space_sum : {fits : Bool} {n m k : ℕ} → Space fits n m k → k < 2 ^ 63 → n + 3 * m < 2 ^ 63
space_sum {fits = true} h l = omega (arith, h.inside refl, l)
space_sum {fits = false} h l = omega (arith, h.small refl)

module _ {cells b : List ℕ} {to j : ℕ} {v : Invoked} {n p : ℕ} {t : List ℕ} where
  pub letters_none : j ≤ length b → Letters cells b to j v n p t j n p t
  letters_none h =
      record {
        past = omega arith;
        within = h;
        most = omega arith;
        few = omega arith;
        goes = λ g e left R base origin i starts lens c f.
            subst (λ (z : Core). Goes g left R base origin b to j (whole c starts lens) t i j (whole z starts lens) t i) f.text
            (goes_none g left R base origin b to j (whole c starts lens) t i);
      }

  -- a character more
  pub letters_more : {j₁ n₁ p₁ : ℕ} {t₁ : List ℕ} (u l : ℕ) {t₂ : List ℕ} {w p₂ : ℕ} → Letters cells b to j v n p t j₁ n₁ p₁ t₁ → 1 ≤ u → j₁ < to → j₁ + u ≤ length b
      → Spells cells b j₁ v u l → w ≡ length (utf8 l) → w ≤ 3 * u → p₂ ≡ p₁ + private_use (l ∷ []) → t₂ ≡ sets t₁ n₁ (utf8 l)
      → Letters cells b to j v n p t (j₁ + u) (n₁ + w) p₂ t₂
  letters_more {j₁} {n₁} {p₁} {t₁} u l {t₂} {w} {p₂} before a begins within k e m q d =
      let past = before.past in
      let most = before.most in
      let few = before.few in
      record {
        past = omega arith;
        within = within;
        most = omega arith;
        few = omega (arith, few, q, e, (length_utf8 l).least, count_most 1 l);
        goes = λ g ce left R base origin i starts lens c f.
            goes_on g left R base origin b to j (whole c starts lens) t i j₁ (whole (with_text c n₁ p₁) starts lens) t₁ i (j₁ + u)
            (whole (with_text c (n₁ + w) p₂) starts lens) t₂ i
            (before.goes g ce left R base origin i starts lens c f)
            (goes_step g left R base origin b to j₁ (with_text c n₁ p₁) t₁ i u (with_text c (n₁ + w) p₂) t₂ i starts lens begins (omega arith) a within
            record {
              does = λ starts lens t₀ i₀ x h.
                  subst
                  (λ (y : Step). Holds g t₀ i₀ y.to (whole (with_text c (n₁ + w) p₂) starts lens) t₂ i)
                  (k g ce left R (base + j₁) (offset origin j₁) x (sees f h))
                  (subst
                  (λ (y : List ℕ). Holds g t₀ i₀ (writes (emit l) x) (whole (with_text c (n₁ + w) p₂) starts lens) y i)
                  (sym d)
                  (subst
                  (λ (y : ℕ). Holds g t₀ i₀ (writes (emit l) x) (whole (with_text c (n₁ + y) p₂) starts lens) (sets t₁ n₁ (utf8 l)) i)
                  (sym e)
                  (subst
                  (λ (y : ℕ). Holds g t₀ i₀ (writes (emit l) x) (whole (with_text c (n₁ + length (utf8 l)) y) starts lens) (sets t₁ n₁ (utf8 l)) i)
                  (sym q)
                  (subst
                  (λ (y : ℕ).
                  Holds g t₀ i₀ (writes (emit l) x) (whole (with_waiting y (n₁ + length (utf8 l)) (p₁ + private_use (l ∷ [])) c) starts lens) (sets t₁ n₁ (utf8 l)) i)
                  (sym (waiting_none h.out refl))
                  (holds_writes g starts lens t₀ i₀ x (with_text c n₁ p₁) t₁ i h (emit l) _ _ i (holds_plain h.out l refl refl))))));
              used = λ starts lens t₀ i₀ x h. ap (λ (y : Step). y.used) (k g ce left R (base + j₁) (offset origin j₁) x (sees f h));
            });
      }

module _ {fits : Bool} {cells b : List ℕ} {to j : ℕ} {v : Invoked} {n p : ℕ} {t : List ℕ} where
  pub spelt_start : j ≤ length b → Space fits n (to - j) (length t) → Spelt fits cells b to j v n p t j n t
  spelt_start h r = record { letters = letters_none h; as_long = refl; room = r }

  -- an ordinary character more
  pub spelt_more : {j₁ n₁ : ℕ} {t₁ : List ℕ} (u l : ℕ) {t₂ : List ℕ} {w : ℕ} → Spelt fits cells b to j v n p t j₁ n₁ t₁ → 1 ≤ u → j₁ < to → j₁ + u ≤ length b
      → Spells cells b j₁ v u l → is_private_use l ≡ false → w ≡ length (utf8 l) → w ≤ 3 * u → w + 3 * (to - (j₁ + u)) ≤ 3 * (to - j₁)
      → t₂ ≡ sets t₁ n₁ (utf8 l) → Spelt fits cells b to j v n p t (j₁ + u) (n₁ + w) t₂
  spelt_more {j₁} {n₁} {t₁} u l s a begins v k o e m q d = record {
    letters = letters_more u l s.letters a begins v k e m (omega (arith, count_ordinary 1 l o)) d;
    as_long = ap length d ∙ length-sets t₁ n₁ (utf8 l) ∙ s.as_long;
    room = space_on (omega arith) (omega (arith, q)) refl s.room;
  }

-- one character behind what was reached, of which q are private-use
pub behind_letters : {cells b : List ℕ} {v : Invoked} {from r : Reached} {to c u q : ℕ} {t t' : List ℕ} → from.at ≤ length b → to ≤ length b
    → Reads cells b from.at to v u c → private_use (c ∷ []) ≡ q → Behind from c u q t r t' → Letters cells b to from.at v from.len from.private_use t r.at r.len r.private_use t'
behind_letters {from = from} {c = c} {u} within inside reads count w =
    rw (w.at, w.len, w.private_use)
    (letters_more u c (letters_none within) reads.some (omega (arith, reads.some, reads.within)) (omega (arith, reads.within, inside)) reads.spells refl reads.most
    (ap (λ (k : ℕ). from.private_use + k) (sym count)) w.text)

-- no step
pub stretch_none : {cells b : List ℕ} {to j : ℕ} {c : Core} {t i : List ℕ} (base origin : ℕ) → j ≤ length b → MayTake (length b - j) c → Stretch cells base origin b to j c t i j c t i
stretch_none {b = b} {to} {j} {c} {t} {i} base origin h p =
    let r = p.room in
    record {
      past = omega arith;
      within = h;
      kept = record { gl = p.gl; gr = p.gr; enough = refl; charged = refl; grew = record { ordered = r.ordered; repeat = r.repeat; text = omega arith; issues = omega arith } };
      goes = λ g e left R starts lens. goes_none g left R base origin b to j (whole c starts lens) t i;
    }

-- ---- characters and controls

module _ {cells b : List ℕ} {to j : ℕ} {annex : Bool} {l : List ℕ} {n p : ℕ} {t : List ℕ} where
  pub runs_none : j ≤ length b → Settings l → RunsTo cells b to j annex l n p t j l n p t
  runs_none h f =
      record {
        past = omega arith;
        within = h;
        most = omega arith;
        few = omega arith;
        settings = f;
        goes = λ g e left R base origin i starts lens c a. goes_none g left R base origin b to j (whole (core_at l n p c) starts lens) t i;
      }

  module _ {j₁ : ℕ} {l₁ : List ℕ} {n₁ p₁ : ℕ} {t₁ : List ℕ} (r : RunsTo cells b to j annex l n p t j₁ l₁ n₁ p₁ t₁) where
    -- characters more, by the sets in GL and GR
    pub runs_letters : {to' : ℕ} {v : Invoked} {j₂ n₂ p₂ : ℕ} {t₂ : List ℕ} → to' ≤ to → v.gl ≡ get_or (take 4 l₁) (get_or l₁ 4 0) 0 → v.gr ≡ get_or (take 4 l₁) (get_or l₁ 5 0) 0
        → v.narrow ≡ (annex || eqb (get_or l₁ 6 0) 1) → Letters cells b to' j₁ v n₁ p₁ t₁ j₂ n₂ p₂ t₂ → RunsTo cells b to j annex l n p t j₂ l₁ n₂ p₂ t₂
    runs_letters {to'} {j₂ = j₂} {n₂} {p₂} {t₂} before x y z w =
        let past = r.past in
        let most = r.most in
        record {
          past = omega (arith, w.past);
          within = w.within;
          most = omega (arith, w.past, w.most);
          few = omega (arith, r.few, w.few);
          settings = r.settings;
          goes = λ g e left R base origin i starts lens c a.
              goes_on g left R base origin b to j (whole (core_at l n p c) starts lens) t i j₁ (whole (core_at l₁ n₁ p₁ c) starts lens) t₁ i j₂
              (whole (core_at l₁ n₂ p₂ c) starts lens) t₂ i
              (r.goes g e left R base origin i starts lens c a)
              (goes_later g left R base origin b to' j₁ (whole (core_at l₁ n₁ p₁ c) starts lens) t₁ i to j₂ (whole (core_at l₁ n₂ p₂ c) starts lens) t₂ i before
              (w.goes g e left R base origin i starts lens (core_at l₁ n₁ p₁ c)
              (record { gl = x; gr = y; narrow = z ∙ ap (λ (u : Bool). u || eqb (get_or l₁ 6 0) 1) (sym a); text = refl })));
        }

    -- controls more
    pub runs_controls : {j₂ : ℕ} {l₂ : List ℕ} → Controls b to j₁ l₁ j₂ l₂ → RunsTo cells b to j annex l n p t j₂ l₂ n₁ p₁ t₁
    runs_controls {j₂} {l₂} w =
        let past = r.past in
        let most = r.most in
        record {
          past = omega (arith, w.past);
          within = w.within;
          most = omega (arith, w.past);
          few = r.few;
          settings = w.settings;
          goes = λ g e left R base origin i starts lens c a.
              goes_on g left R base origin b to j (whole (core_at l n p c) starts lens) t i j₁ (whole (core_at l₁ n₁ p₁ c) starts lens) t₁ i j₂
              (whole (core_at l₂ n₁ p₁ c) starts lens) t₁ i
              (r.goes g e left R base origin i starts lens c a)
              (λ t₀ i₀ s h.
              let same : with_settings l₁ s ≡ s =
              λ k.
              record {
                sets = (h.state k).core.sets;
                gl = (h.state k).core.gl;
                gr = (h.state k).core.gr;
                narrow = (h.state k).core.narrow;
                starts = s.starts;
                lens = s.lens;
                charged = s.charged;
                out = s.out;
              } in (
                with_settings l₂ s,
                (
                  record {
                    state = λ k. record {
                      core = record {
                        sets = take 4 l₂;
                        gl = get_or l₂ 4 0;
                        gr = get_or l₂ 5 0;
                        narrow = eqb (get_or l₂ 6 0) 1;
                        annex = (h.state k).core.annex;
                        enough = c.enough;
                        charged = (h.state k).core.charged;
                        out = record { len = n₁; end = n₁; waiting = c.out.waiting; first = 0; repeat = 0; issues = c.out.issues; private_use = p₁ };
                      };
                      starts = (h.state k).starts;
                      lens = (h.state k).lens;
                    };
                    out = h.out;
                  },
                  λ later k. w.goes g left R base origin s later k ∙ ap (λ (x : State). until g left R base origin later (drop j₁ b) j₁ 0 x) same,
                ),
              ));
        }

-- the loop over them: what was run up to the byte j₁, the text as long as it was, and room for three bytes a byte before `to'`, or none at all
pub record Running (cells b : List ℕ) (to j to' : ℕ) (fits annex : Bool) (l : List ℕ) (n p : ℕ) (t : List ℕ) (j₁ : ℕ) (l₁ : List ℕ) (n₁ p₁ : ℕ) (t₁ : List ℕ) : Type 0 where
  pub runs : RunsTo cells b to j annex l n p t j₁ l₁ n₁ p₁ t₁
  pub as_long : length t₁ ≡ length t
  pub room : Space fits n₁ (to' - j₁) (length t)

module _ {cells b : List ℕ} {to j to' : ℕ} {fits annex : Bool} {l : List ℕ} {n p : ℕ} {t : List ℕ} where
  pub running_start : j ≤ length b → Space fits n (to' - j) (length t) → Settings l → Running cells b to j to' fits annex l n p t j l n p t
  running_start h r f = record { runs = runs_none h f; as_long = refl; room = r }

  -- characters, a character, and controls more
  pub running_more : {j₁ : ℕ} {l₁ : List ℕ} {n₁ p₁ : ℕ} {t₁ : List ℕ} {v : Invoked} {j₂ n₂ p₂ : ℕ} {t₂ : List ℕ}
      {j₃ n₃ p₃ : ℕ} {t₃ : List ℕ} {j₄ : ℕ} {l₄ : List ℕ}
      → to' ≤ to → Running cells b to j to' fits annex l n p t j₁ l₁ n₁ p₁ t₁
      → v.gl ≡ get_or l₁ (get_or l₁ 4 0) 0 → v.gr ≡ get_or l₁ (get_or l₁ 5 0) 0 → v.narrow ≡ (annex || eqb (get_or l₁ 6 0) 1)
      → Letters cells b to' j₁ v n₁ p₁ t₁ j₂ n₂ p₂ t₂ → Letters cells b to' j₂ v n₂ p₂ t₂ j₃ n₃ p₃ t₃ → Controls b to j₃ l₁ j₄ l₄
      → length t₂ ≡ length t₁ → length t₃ ≡ length t₂ → Space fits n₃ (to' - j₃) (length t₃) → Running cells b to j to' fits annex l n p t j₄ l₄ n₃ p₃ t₃
  running_more {l₁ = l₁} before r x y z u v w p q h =
      let f = r.runs.settings in
      let a = x ∙ sym (get_or-take 4 l₁ _ 0 f.gl) in
      let c = y ∙ sym (get_or-take 4 l₁ _ 0 f.gr) in
      record {
        runs = runs_controls (runs_letters (runs_letters r.runs before a c z u) before a c z v) w;
        as_long = q ∙ p ∙ r.as_long;
        room = space_on (omega arith) (omega (arith, w.past)) (sym (q ∙ p ∙ r.as_long)) h;
      }

-- the whole run
pub stretch_runs : {cells b : List ℕ} {to j : ℕ} {l : List ℕ} {n p : ℕ} {c : Core} {t : List ℕ}
    {j₁ : ℕ} {l₁ : List ℕ} {n₁ p₁ : ℕ} {t₁ : List ℕ} {r : Core} (i : List ℕ) (base origin : ℕ)
    → MayTake (length b - j) c → c ≡ core_at l n p c → r ≡ core_at l₁ n₁ p₁ c → RunsTo cells b to j c.annex l n p t j₁ l₁ n₁ p₁ t₁
    → Stretch cells base origin b to j c t i j₁ r t₁ i
stretch_runs {cells} {b} {to} {j} {l} {n} {p} {c} {t} {j₁} {l₁} {n₁} {p₁} {t₁} i base origin may e d w =
    let past = w.past in
    let most = w.most in
    let k : c.out.end ≡ n = ap (λ (z : Core). z.out.end) e in
    let q : c.out.private_use ≡ p = ap (λ (z : Core). z.out.private_use) e in
    rw d
    (record {
      past = w.past;
      within = w.within;
      kept = record {
        gl = w.settings.gl;
        gr = w.settings.gr;
        enough = refl;
        charged = refl;
        grew = record { ordered = (omega arith, omega (arith, k, q, w.few, may.room.ordered.1)); repeat = omega arith; text = omega arith; issues = omega arith };
      };
      goes = λ g z left R starts lens.
          subst (λ (z : Core). Goes g left R base origin b to j (whole z starts lens) t i j₁ (whole (core_at l₁ n₁ p₁ c) starts lens) t₁ i) (sym e)
          (w.goes g z left R base origin i starts lens c refl);
    })

-- where a run may begin, nothing waits
pub plain_text : (c : Core) {cells : ℕ} → Begins c.out cells → c ≡ with_text c c.out.len c.out.private_use
plain_text c w =
    λ k.
    record {
      sets = c.sets;
      gl = c.gl;
      gr = c.gr;
      narrow = c.narrow;
      annex = c.annex;
      enough = c.enough;
      charged = c.charged;
      out = record { len = c.out.len; end = sym w.end k; waiting = c.out.waiting; first = w.first k; repeat = w.repeat k; issues = c.out.issues; private_use = c.out.private_use };
    }

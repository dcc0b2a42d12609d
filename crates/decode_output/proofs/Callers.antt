-- Laws for a caller: where it begins, how one step follows another, and a new repeat. Assumes nothing.
use Prim.Native.Nat.{ℕ, ◌+◌, ◌≤◌}
use mathlib.Core.Path.{◌≡◌, refl, ap, subst, ◌∙◌}
use mathlib.Core.List.{List}
use native.Mathlib.Nat.{add-zero}
use native.Mathlib.Omega.{arith}
use Rattle.private_use.specs.PrivateUse.{private_use}
use Rattle.utf8.specs.Utf8.{utf8s}
use Rattle.issues.specs.Issue.{issues_numbers}
use Rattle.decode_output.specs.declared.Out.{Out}
use Rattle.decode_output.specs.Output.{Output, nothing, set_repeat}
use Rattle.decode_output.specs.Promises.{out_of, counted, Holds, Room, Grew, Wrote}

pub holds_nothing : (t i : List ℕ) → Holds t i nothing (out_of nothing) t i
unfolding nothing utf8s issues_numbers private_use
holds_nothing t i = record { state = refl; text = refl; issues = refl }

-- the room that a step leaves
pub room_left : {n k a b : ℕ} {s r : Out} → Room (a + n) (b + k) s → Grew a b s r → Room n k r
room_left p g = record { ordered = g.ordered; repeat = g.repeat; text = omega arith; issues = omega arith }

-- a step and then another
pub wrote_then : {n k a b : ℕ} {f g : Output → Output} {s r q : Out} {t i t' i' t'' i'' : List ℕ} → Wrote a b f s t i r t' i' → Wrote n k g r t' i' q t'' i''
    → Wrote (a + n) (b + k) (λ o. g (f o)) s t i q t'' i''
wrote_then {f = f} v w =
    let p = v.grew in
    let q = w.grew in
    record {
      does = λ t₀ i₀ o h. w.does t₀ i₀ (f o) (v.does t₀ i₀ o h);
      grew = record { ordered = q.ordered; repeat = q.repeat; text = omega arith; issues = omega arith };
    }

-- a repeat waits, or none
pub wrote_repeat : {n k : ℕ} {s : Out} (r : ℕ) (t i : List ℕ) → Room n k s → r ≤ 63
    → Wrote 0 0 (set_repeat r) s t i (record { len = s.len; end = s.end; waiting = s.waiting; first = s.first; repeat = r; issues = s.issues; private_use = s.private_use }) t i
unfolding set_repeat
wrote_repeat r t i p g =
    record {
      does = λ t₀ i₀ o h.
          record {
            state = λ j. record {
              len = (h.state j).len;
              end = (h.state j).end;
              waiting = (h.state j).waiting;
              first = (h.state j).first;
              repeat = r;
              issues = (h.state j).issues;
              private_use = (h.state j).private_use;
            };
            text = h.text;
            issues = h.issues;
          };
      grew = record { ordered = p.ordered; repeat = g; text = omega arith; issues = omega arith };
    }

-- where none of what was written is private-use, it was counted
pub uncounted : {n m k : ℕ} {f : Output → Output} {s r : Out} {t i t' i' : List ℕ} → k ≡ 0 → Wrote n m f s t i (counted k r) t' i' → Wrote n m f s t i r t' i'
uncounted {n} {m} {k} {f} {s} {r} {t} {i} {t'} {i'} e w =
    subst (λ (z : Out). Wrote n m f s t i z t' i') same w
  where
    same : counted k r ≡ r
    same =
        λ j.
        record {
          len = r.len;
          end = r.end;
          waiting = r.waiting;
          first = r.first;
          repeat = r.repeat;
          issues = r.issues;
          private_use = (ap (λ (x : ℕ). r.private_use + x) e ∙ add-zero r.private_use) j;
        }

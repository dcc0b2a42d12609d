-- The room for a key, and the line that an answer makes. Assumes nothing.
use Prim.Native.Nat.{ℕ, ◌+◌, ◌*◌, ◌≤◌, ◌<◌}
use mathlib.Core.Path.{◌≡◌, sym, ap, ap₂, ◌∙◌, subst}
use mathlib.Core.Bool.{true, false}
use mathlib.Core.List.{List, ◌++◌}
use mathlib.Core.Option.{Option, none, some}
use native.Mathlib.Omega.{arith}
use borrow.Author.Tests.{le-leb}
use lib.ListN.{length, take, drop, length-append, length-drop}
use lib.Seq.{length-take-le}
use Rattle.lent.specs.Put.{Put}
use Rattle.lent.proofs.Putting.{put_long}
use Rattle.questions.specs.Questions.{cells_hold, first_refusal}
use Rattle.key.specs.Key.{Lent, outcome}
use Rattle.key.specs.Promises as keys
use Rattle.key.proofs.Calls.{len_inside}
use Rattle.keys_form.specs.Line.{bytes_of, trimmed, number_of, hex_of, is_line, tab, line_of}
use Rattle.keys_form.specs.Promises.{ending_at, ending}
use Rattle.keys_form.proofs.Writing as form
use Rattle.std.specs.Prelude.{Some}
use Rattle.std.specs.Prelude as Prelude
use Rattle.keys_lines.specs.Line.{room_for, call, line_text, printed}
use Rattle.keys_lines.specs.Promises.{Prints}

-- ---- the room, and the key call

pub room_less : (n : ℕ) → n * 64 < 196608 → n * 64 ≡ room_for n
unfolding room_for
room_less n h = omega arith

pub room_most : (n : ℕ) → 196608 ≤ n * 64 → 196608 ≡ room_for n
unfolding room_for
room_most n h = omega arith

pub room_bound : (n : ℕ) → room_for n ≤ 196608
unfolding room_for
room_bound n = omega arith

pub passes : (cells : List ℕ) (n : ℕ) → cells_hold cells ≡ true → n ≤ 65535 → first_refusal cells 0 0 65535 n ≡ 0
unfolding first_refusal
passes cells n t h = rw (t, le-leb n 65535 h)

-- ---- the line

-- NUMBER and TAB stand in out₁, and the room behind them is lent for the key
module _ (cells l bytes : List ℕ) (b : bytes ≡ bytes_of (hex_of l)) (out out₁ : List ℕ) (at : ℕ) (p : Put out 0 (number_of l ++ tab) out₁ at) (few : at ≤ 11) (big : 196620 ≤ length out)
    (k : ℕ) (room : k ≡ room_for (length bytes)) where
  pub room_inside : at + k + 1 ≤ length out₁
  room_inside = omega (arith, few, room, room_bound (length bytes), put_long p)

  lent_long : length (take k (drop at out₁)) ≡ room_for (length bytes)
  lent_long = length-take-le k (drop at out₁) (omega (arith, length-drop at out₁, room_inside)) ∙ room

  abbrev lent_call : Lent
  lent_call = keys.lent cells 0 0 bytes (take k (drop at out₁))

  same_call : lent_call ≡ call cells bytes
  same_call = ap (λ (n : ℕ). record { cells = cells; initial = 0; width = 0; input = bytes; room = n }) lent_long

  line_text_lem : line_text cells l ≡ line_of (number_of l) (outcome lent_call).refused (take (outcome lent_call).len (outcome lent_call).buffer)
  unfolding line_text
  line_text_lem = ap (λ (x : Lent). line_of (number_of l) (outcome x).refused (take (outcome x).len (outcome x).buffer)) (ap (call cells) (sym b) ∙ sym same_call)

  module _ (r : keys.KeyAnswer) (part : List ℕ) (a : keys.Answered lent_call r part) (long : length part ≡ length (take k (drop at out₁))) where
    abbrev out₂ : List ℕ
    out₂ = take at out₁ ++ (part ++ drop k (drop at out₁))

    whole_long : length out₂ ≡ length out₁
    whole_long =
        omega (
          arith,
          length-append (take at out₁) (part ++ drop k (drop at out₁)),
          length-append part (drop k (drop at out₁)),
          length-take-le at out₁
              (omega (arith, room_inside)),
          long,
          lent_long,
          room,
          length-drop k (drop at out₁),
          length-drop at out₁,
          room_inside,
        )

    short : keys.len_of r ≤ length part
    short = omega (arith, a.counted, len_inside lent_call, long)

    -- there is room for what is put behind it
    pub answer_fits : (n : ℕ) → n ≡ keys.len_of r → (at ≤ 0x10000) × (n ≤ 0x40000)
    answer_fits n f = (omega (arith, few), omega (arith, f, short, long, lent_long, room_bound (length bytes)))

    -- what is put behind it ends the line
    pub line_printed : (q n : ℕ) {out₃ : List ℕ} {m : ℕ} → q ≡ keys.number_of r → n ≡ keys.len_of r → Put out₂ (ending_at at q n) (ending q) out₃ m → m ≤ ending_at at q n + 50
        → (m ≤ length out₃) × (some (line_text cells l) ≡ some (take m out₃))
    line_printed q n e f w s =
        let d = form.line_printed (number_of l) at q n part (drop k (drop at out₁)) p (omega (arith, p.next, few)) (omega (arith, f, short))
        (omega (arith, f, short, long, lent_long, room, whole_long, room_inside)) (omega (arith, few, whole_long, put_long p)) w s in
        (d.0, ap some (line_text_lem ∙ sym (d.1 ∙ ap₂ (line_of (number_of l)) (e ∙ a.number) (ap₂ take (f ∙ a.counted) a.written))))

-- ---- a line, trimmed or not

module _ (cells line l : List ℕ) (e : l ≡ trimmed line) where
  pub malformed : is_line l ≡ false → printed cells line ≡ none
  unfolding printed
  malformed h = rw (ap is_line (sym e) ∙ h, printed)

  pub well_formed : is_line l ≡ true → printed cells line ≡ some (line_text cells l)
  unfolding printed
  well_formed h = rw (ap is_line (sym e) ∙ h, printed) (ap (λ (x : List ℕ). some (line_text cells x)) (sym e))

-- what is printed lies in the buffer
pub within : (p : Option (List ℕ)) (r : Prelude.Option ℕ) (out : List ℕ) (n : ℕ) → r ≡ Some n → Prints p r out → n ≤ length out
within p r out n e h = (subst (λ (x : Prelude.Option ℕ). Prints p x out) e h).0

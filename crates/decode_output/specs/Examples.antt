-- The definitions at work, computed.
use Rattle.std.specs.Prelude.{◌≡◌, refl, [], ◌∷◌}
use Rattle.issues.specs.declared.IssueKind.TheVariants.{DanglingNonSpacing, RepeatToEndOfLine}
use Rattle.decode_output.specs.Output.{nothing, emit, mark, report, release, newline, set_repeat}

-- 98 43 A2: あ three times, and no repeat waits
three_times : emit 0x3042 (set_repeat 3 nothing) ≡ record { text = 0x3042 ∷ 0x3042 ∷ 0x3042 ∷ []; marks = []; marks_at = 0; repeat = 0; issues = [] }
unfolding emit set_repeat nothing
three_times = refl

-- two marks and a repeat before あ: both follow its last repeat, in their order
marks_after : emit 0x3042 (mark 0x308 7 (set_repeat 2 (mark 0x301 5 nothing))) ≡ record { text = 0x3042 ∷ 0x3042 ∷ 0x301 ∷ 0x308 ∷ []; marks = []; marks_at = 0; repeat = 0; issues = [] }
unfolding emit mark set_repeat nothing
marks_after = refl

-- two marks between あ and a newline: they stay before it, reported at the first one's offset and behind あ, and the repeat waits on
no_base : newline (mark 0x308 7 (set_repeat 2 (mark 0x301 5 (emit 0x3042 nothing))))
    ≡ record {
      text = 0x3042 ∷ 0x301 ∷ 0x308 ∷ 0x0A ∷ [];
      marks = [];
      marks_at = 0;
      repeat = 2;
      issues = record { offset = 5; kind = DanglingNonSpacing; position = 3 } ∷ [];
    }
unfolding newline mark set_repeat emit nothing
no_base = refl

-- issues stand in the order of report; the mark that waits counts in the position of neither
in_order : release (report 9 RepeatToEndOfLine (mark 0x301 5 (emit 0x3042 nothing)))
    ≡ record {
      text = 0x3042 ∷ 0x301 ∷ [];
      marks = [];
      marks_at = 0;
      repeat = 0;
      issues =
          record { offset = 9; kind = RepeatToEndOfLine; position = 3 }
          ∷ record { offset = 5; kind = DanglingNonSpacing; position = 3 }
          ∷ [];
    }
unfolding release report mark emit nothing
in_order = refl

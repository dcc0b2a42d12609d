-- A worked example: an admissible coding that the search does not choose.
use Rattle.std.specs.Prelude.{refl, [], ◌∷◌, replicate}
use Rattle.std.proofs.Common.{arith}
use Rattle.coding.specs.Admissible.{here}
use Rattle.utf8.specs.Utf8.{utf8s}
use Rattle.coding.specs.State.{start, set_in, lock_gl, single}
use Rattle.coding.specs.Tokens.{tokens, baseless}
use Rattle.coding.specs.Candidates.{either, wide}
use Rattle.coding.specs.Admissible.{left, shifted, high, control, write, done, msz, nsz, locks_gl}
use Rattle.coding.specs.Call as coding
use Rattle.laws_readback.specs.ReadBack.{Codes, Based}

-- あ U+0301, under Si, CharacterSize and a zero cell table
abbrev pub accented : coding.Lent
accented = record { cells = replicate 8836 0; initial = 0; width = 0; text = utf8s (0x3042 ∷ 0x301 ∷ []); store_room = 0; coding_room = 0 }

-- the mark has a base
pub based : Based accented
unfolding tokens baseless utf8s
based = refl

-- MSZ, the mark through GL, NSZ, SS2 and あ in the half of GR, LS1
pub longer : Codes accented (0x89 ∷ 0x21 ∷ 0x2D ∷ 0x8A ∷ 0x19 ∷ 0xA2 ∷ 0x0E ∷ [])
unfolding coding.choices utf8s start set_in lock_gl single
longer =
    control msz (write (here (left (0x21 ∷ 0x2D ∷ []) either tt))
    (control nsz (write (here (shifted (0x22 ∷ []) wide 2 128 high refl (omega arith) (omega arith))) (control (locks_gl 1 (omega arith)) (done _)))))

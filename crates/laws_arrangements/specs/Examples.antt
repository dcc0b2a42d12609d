-- A worked example: a title as two stations send it, under Si, CharacterSize and a zero cell table.
use Rattle.std.specs.Prelude.{refl, [], ◌∷◌, replicate}
use Rattle.std.proofs.Common.{arith}
use Rattle.coding.specs.Admissible.{here}
use Rattle.sets.specs.Sets.{designation}
use Rattle.utf8.specs.Utf8.{utf8s}
use Rattle.coding.specs.State.{start, set_in, designate, lock_gl, lock_gr, single}
use Rattle.coding.specs.Candidates.{narrow, wide}
use Rattle.coding.specs.Admissible.{left, right, shifted, high, control, write, done, designates, locks_gl, locks_gr, msz, nsz}
use Rattle.coding.specs.Call as coding
use Rattle.laws_readback.specs.ReadBack.{Codes}

-- Aあ
abbrev pub title : coding.Lent
title = record { cells = replicate 8836 0; initial = 0; width = 0; text = utf8s (0x41 ∷ 0x3042 ∷ []); store_room = 0; coding_room = 0 }

pub record TwoStations : Type 0 where
  -- MSZ, LS1 and A; NSZ and あ through GR
  pub terse : Codes title (0x89 ∷ 0x0E ∷ 0x41 ∷ 0x8A ∷ 0xA2 ∷ [])
  -- Alphanumeric to G3, LS3R, MSZ and A through GR; LS0, NSZ, DRCS-15 to G1; SS2 and あ in the half of GR; MSZ
  pub wordy : Codes title (0x1B ∷ 0x2B ∷ 0x4A ∷ 0x1B ∷ 0x7C ∷ 0x89 ∷ 0xC1 ∷ 0x0F ∷ 0x8A ∷ 0x1B ∷ 0x29 ∷ 0x20 ∷ 0x4F ∷ 0x19 ∷ 0xA2 ∷ 0x89 ∷ [])

pub two_stations : TwoStations
unfolding coding.choices utf8s start set_in designate designation lock_gl lock_gr single
two_stations =
    record {
      terse =
          control msz (control (locks_gl 1 (omega arith)) (write (here (left (0x41 ∷ []) narrow refl))
          (control nsz (write (here (right (0x22 ∷ []) wide refl)) (done _)))));
      wordy =
          control (designates 1 3 (omega arith) (omega arith)) (control (locks_gr 3 (omega arith) (omega arith)) (control msz (write (here (right (0x41 ∷ []) narrow refl))
          (control (locks_gl 0 (omega arith)) (control nsz (control (designates 31 1 (omega arith) (omega arith))
          (write (here (shifted (0x22 ∷ []) wide 2 128 high refl (omega arith) (omega arith))) (control msz (done _)))))))));
    }

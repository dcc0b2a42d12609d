-- The laws by name: specs/Between.antt states them. Assumes nothing.
use Prim.Native.Nat.{ℕ}
use native.Mathlib.Omega.{arith}
use Rattle.utf8.proofs.Bytes.{utf8s_most}
use Rattle.reading.specs.State.{Given, State, start}
use Rattle.reading.specs.Macros.{limit}
use Rattle.reading.specs.Between.{Between, before}
use Rattle.laws_reading.proofs.Changes.{part}
use Rattle.laws_between.specs.Between.{Sound, BetweenSound, BetweenWithin, StepsOn}
use Rattle.laws_between.proofs.Until.{Reached, reached}

-- 21 characters for each byte and each one charged, of at most four bytes each
sound : (g : Given) (initial : ℕ) (whole : State) (b : Between) → Reached g (part (start initial)) whole b → Sound g.input b.state
unfolding start limit
sound g initial whole b r =
    record {
      four = r.fine.four;
      sets = r.fine.sets;
      gl = r.fine.gl;
      gr = r.fine.gr;
      starts = r.fine.macros.starts_count;
      lens = r.fine.macros.lens_count;
      inside = r.fine.macros.inside;
      bare = r.fine.macros.bare;
      charged = r.kept.fine.charge;
      marks = r.fine.marks;
      repeat = r.kept.fine.repeat;
      text = omega (arith, r.kept.paid, r.within, utf8s_most b.state.out.text);
    }

pub between_sound : BetweenSound
between_sound g initial place = sound g initial _ (before g initial place) (reached g initial place)

pub between_within : BetweenWithin
between_within g initial place = (reached g initial place).within

pub steps_on : StepsOn
steps_on g initial place = (reached g initial place).on

-- The step at which plain steps stopped, by why they did.
use Prim.Native.Nat.{ℕ, suc, ◌+◌, ◌≤◌, ◌<◌}
use mathlib.Core.Path.{◌≡◌, subst}
use mathlib.Core.Bool.{true}
use mathlib.Core.List.{List}
use lib.ListN.{length, drop, get_or}
use Rattle.reading.specs.State.{Given, State}
use Rattle.reading.specs.Characters.{is_graphic, graphic, single_shift}
use Rattle.reading.specs.Macros.{Run}
use Rattle.decode_state.specs.declared.Core.{Core}
use Rattle.decode_steps.specs.declared.Stop.{Stop}
use Rattle.decode_state.proofs.Steps.{drop_one}
use Rattle.decode_state.specs.Promises.{Ends}
use Rattle.decode_steps.specs.declared.Stop.TheVariants.{Macro, Char, Shifted}
use Rattle.decode_steps.specs.Promises.{StopsAt, StopAt}
use Rattle.std.specs.Prelude.{Option, Some, None, ◌⊎◌}
use native.Mathlib.Omega.{arith}

-- what a stop says, once it is known which
pub told : (b : List ℕ) (i : ℕ) (c : Core) {stop known : Stop} → stop ≡ known → StopsAt stop b i c → StopsAt known b i c
told b i c q h = subst (λ (z : Stop). StopsAt z b i c) q h

-- why steps stopped, where something stopped them, and where nothing did
pub stops : (b : List ℕ) (to i : ℕ) (c : Core) {o : Option Stop} {stop : Stop} → o ≡ Some stop → StopAt o b to i c → (i < to) × StopsAt stop b i c
stops b to i c q h = rw q at h

pub over_at : (b : List ℕ) (to i : ℕ) (c : Core) {o : Option Stop} → o ≡ None → StopAt o b to i c → (to ≤ i) ⊎ Ends c.enough c.out.issues
over_at b to i c q h = rw q at h

-- they stand before the end
pub stops_before : (b : List ℕ) (i : ℕ) (c : Core) (stop : Stop) → StopsAt stop b i c → i < length b
stops_before b i c Macro h = h.0
stops_before b i c (Char e) h = h.within
stops_before b i c (Shifted e) h = omega (arith, h.within)

-- a single shift with a character behind it
pub shift_char : (g : Given) (left : ℕ) (R : Run) (e : ℕ) (b : List ℕ) (j at : ℕ) (s : State) → j + 1 < length b → is_graphic (get_or b (j + 1) 0) ≡ true
    → single_shift g left R e (drop (j + 1) b) at s
    ≡ record { used = suc (graphic g left R e (get_or b (j + 1) 0) (drop (j + 1 + 1) b) at s).used; to = (graphic g left R e (get_or b (j + 1) 0) (drop (j + 1 + 1) b) at s).to }
unfolding single_shift
shift_char g left R e b j at s h k = rw (drop_one b (j + 1) h, k)

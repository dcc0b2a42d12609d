-- The law by its name: specs/Behind.antt states it. Assumes nothing.
use Rattle.laws_behind.specs.Behind.{ReadsAlike}
use Rattle.laws_behind.proofs.Written.{releases}
use Rattle.laws_behind.proofs.Steps.{step_alike, steps_alike, run_alike}

pub reads_alike : ReadsAlike
reads_alike =
    record {
      step = λ g left R runs text issues x rest place at s. (step_alike text issues g left R runs x rest place at s).same;
      steps = λ g left R runs text issues base origin b i k s. steps_alike text issues g left R runs base origin b i k s;
      run = run_alike;
      released = λ text issues s. (releases text issues s).same;
    }

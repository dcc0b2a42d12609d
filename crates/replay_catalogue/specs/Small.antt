-- What the program's functions say of a case, so that its parts can be taken: the lengths are those of 32-bit numbers.
use Rattle.std.specs.Prelude.{◌≤◌}
use Rattle.replay_catalogue.specs.declared.case.Case.{Case}

pub record Small (c : Case) : Type 0 where
  pub input : c.input ≤ 0xFFFFFFFF
  pub before : c.before ≤ 0xFFFFFFFF
  pub first : c.first ≤ 0xFFFFFFFF
  pub after : c.after ≤ 0xFFFFFFFF

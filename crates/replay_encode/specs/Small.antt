-- What the program's functions say of a case, so that its parts can be taken: the lengths are those of 32-bit numbers.
use Rattle.std.specs.Prelude.{◌≤◌}
use Rattle.replay_encode.specs.declared.coding_case.CodingCase.{CodingCase}

pub record Small (c : CodingCase) : Type 0 where
  pub text : c.text ≤ 0xFFFFFFFF
  pub coding : c.coding ≤ 0xFFFFFFFF

-- What is said of a case, so that its parts can be taken: the lengths are those of 32-bit numbers.
use Rattle.std.specs.Prelude.{◌≤◌}
use Rattle.replay_decode_cases.specs.declared.case.DecodingCase.{DecodingCase}

pub record Small (c : DecodingCase) : Type 0 where
  pub input : c.input ≤ 0xFFFFFFFF
  pub text : c.text ≤ 0xFFFFFFFF
  pub issues : c.issues ≤ 0xFFFFFFFF

-- `encode_candidates::coded::Tuple3U8U16U8Coded::length` meets its contract. Assumes nothing.
use mathlib.Core.Path.{sym}
use Rattle.encode_candidates.proofs.Lengths.{without_set, of_byte, of_bytes}
use Rattle.encode_candidates.proofs.coded.Tuple3U8U16U8Coded.length.Goals as goal

pub returns-then-self-eq7 : goal.returns-then-self-eq7
returns-then-self-eq7 c = sym (without_set _ _ _ c.if-self-eq7.true)

pub returns-then-self-lt256 : goal.returns-then-self-lt256
returns-then-self-lt256 c = sym (of_byte _ _ _ c.if-self-lt256.true)

pub returns-else-self-lt256 : goal.returns-else-self-lt256
returns-else-self-lt256 c = sym (of_bytes _ _ _ c.if-self-eq7.false c.if-self-lt256.false)

-- `put3` meets its contract. Assumes nothing.
use native.Mathlib.Numerals.{towards_suc}
use native.Mathlib.Omega.{arith}
use lib.ListN.{length-set}
use Rattle.utf8.proofs.Bytes.{row3}
use Rattle.decode_letters.proofs.put3.Goals as goal

pub bounds-text-at-2 : goal.bounds-text-at-2
bounds-text-at-2 c = simp length-set (omega arith)

pub bounds-text-at-3 : goal.bounds-text-at-3
bounds-text-at-3 c = simp length-set (omega arith)

pub returns : goal.returns
returns c = rw (row3 c.args.c c.requires.1 c.requires.2) (simp towards_suc)

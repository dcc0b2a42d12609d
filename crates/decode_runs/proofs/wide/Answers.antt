-- `wide` meets its contract. Assumes nothing.
use mathlib.Core.Path.{sym, ap}
use Rattle.utf8.specs.Utf8.{utf8}
use Rattle.lent.proofs.Stores.{sets_out}
use Rattle.decode_letters.proofs.Spelling.{three_bytes}
use Rattle.decode_runs.proofs.Runs.{flag}
use Rattle.decode_runs.proofs.wide.Goals as goal

pub returns-then-this-ne0-clause-count : goal.returns-then-this-ne0-clause-count
returns-then-this-ne0-clause-count g c = three_bytes c.args.c c.requires.c_bound.0 c.requires.c_bound.1

pub returns-else-this-ne0-clause-bytes : goal.returns-else-this-ne0-clause-bytes
returns-else-this-ne0-clause-bytes g c = sym (sets_out (utf8 c.args.c) c.args.text.now c.args.at (c.requires.fits.1 (ap flag c.if-this-ne0.false)))

pub returns-else-this-ne0-clause-count : goal.returns-else-this-ne0-clause-count
returns-else-this-ne0-clause-count g c = three_bytes c.args.c c.requires.c_bound.0 c.requires.c_bound.1

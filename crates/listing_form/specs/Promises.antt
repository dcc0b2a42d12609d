-- How much is printed.
use Rattle.std.specs.Prelude.{ℕ, ◌+◌, ◌*◌}
use Rattle.issues.specs.Issue.{numbers}

-- The most bytes that are printed: 37 of the first line, with 65,536, 256 and 266,240; two for each of 65,536 bytes and a newline; and for each number
-- of 256 issues ten digits and what stands behind them.
abbrev pub greatest : ℕ
greatest = 37 + (2 * 65536 + 1) + 256 * numbers * 11

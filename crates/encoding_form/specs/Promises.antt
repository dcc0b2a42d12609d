-- How much is printed.
use Rattle.std.specs.Prelude.{ℕ, ◌+◌, ◌*◌}

-- The most bytes that are printed: 23 of the first line, with 65,529 twice; two for each of 65,529 bytes and a newline.
abbrev pub greatest : ℕ
greatest = 23 + (2 * 65529 + 1)

-- The running total of a sum of signed numbers.
use Rattle.std.specs.Prelude.{◌+◌, ◌*◌, ◌^◌, ◌-ℤ◌, ℕ, ℤ, pos}

-- This is low, plus 2^128 `over` times, minus 2^128 `under` times.
-- Examples: low 5, over 0, under 0: 5; low 5, over 1, under 1: 5; low 2^128 - 1, over 0, under 1: -1.
abbrev pub wrapped : ℕ → ℕ → ℕ → ℤ
wrapped low over under = pos (low + over * 2 ^ 128) -ℤ pos (under * 2 ^ 128)

-- The number that a Montgomery form represents. The modulus m is odd and has at most 64 bits, and i is its inverse modulo 2^64.
use Rattle.std.specs.Prelude.{◌*◌, ◌/◌, ◌^◌, ◌+ℤ◌, ◌-ℤ◌, ◌*ℤ◌, ℤ, ℕ, pos, neg_ℤ}

-- x is the Montgomery form of this number modulo m: x times the inverse of 2^64.
-- Examples: m and i 2^64 - 1: the number is congruent to x, as 2^64 is congruent to 1.
abbrev pub represented : ℕ → ℕ → ℕ → ℤ
represented m i x = pos x *ℤ neg_ℤ (pos (m * i / 2 ^ 64))

-- The pair of x and y represents this number: modulo m what x represents, and modulo 2^64 y.
-- Examples: m and i 1: the number is y.
abbrev pub joined : ℕ → ℕ → ℕ → ℕ → ℤ
joined m i x y = represented m i x +ℤ pos (m * i) *ℤ (pos y -ℤ represented m i x)

-- Polynomial hashes of windows of bytes.
use Rattle.std.specs.Prelude.{◌+ℤ◌, ◌*ℤ◌, ℕ, ℤ, pos, List, [], ◌∷◌, length}
use Rattle.std.specs.Int.{int_pow}

-- This is the sum of the bytes, each times the base to the power of the number of bytes after it.
-- Examples: base 10: 1, 2, 3: 123; no bytes: 0; base 0: 1, 2, 3: 3.
abbrev pub weighted_sum : ℤ → List ℕ → ℤ
weighted_sum base [] = pos 0
weighted_sum base (byte ∷ bytes) = pos byte *ℤ int_pow base (length bytes) +ℤ weighted_sum base bytes

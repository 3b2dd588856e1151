-- The words that are integers, and the integers that they write.
use Rattle.std.specs.Prelude.{ℕ, ℤ, Bool, List, drop, length, neg_ℤ, pos, ◌&&◌, nat_lt, if◌then◌else◌}
use Rattle.std.specs.Char.{is_ascii_digit}
use Rattle.std.specs.List.{list_all}
use Rattle.std.specs.Str.Parse.{digits_value, starts_with_minus}

-- This is the string without a leading `-`.
-- Examples: of `-007`: `007`; of `12`: `12`; of `-0`: `0`.
abbrev pub unsigned_part : List ℕ → List ℕ
unsigned_part text = if starts_with_minus text then drop 1 text else text

-- This is the integer that the digits of the string write in decimal. It is negated after a `-`.
-- Examples: of `-007`: -7; of `12`: 12; of `-0`: 0.
abbrev pub whole_of : List ℕ → ℤ
whole_of text =
    let size = pos (digits_value 10 (unsigned_part text)) in
    if starts_with_minus text then neg_ℤ size else size

-- The word is an optional `-`, then one or more ASCII digits, and nothing else.
-- Examples: `007`; `-0`; not `+1`.
abbrev pub is_integer_word : List ℕ → Bool
is_integer_word word = nat_lt 0 (length (unsigned_part word)) && list_all is_ascii_digit (unsigned_part word)

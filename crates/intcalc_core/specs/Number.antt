-- The words that are numbers, in the words of `integer_core` and of std.
use Rattle.std.specs.Prelude.{ℕ, List, ℤ, Option, Some, None, if◌then◌else◌}
use Rattle.std.specs.Int.{saturate_signed, w128}
use Rattle.intcalc_core.specs.IntegerWords.{is_integer_word, whole_of}

-- An integer has the value that it writes, moved to the nearer end of `i128` if it lies outside. Other words have no value.
-- Examples: `007`: 7; 1 and forty zeros: the largest `i128`; `+1`: `None`.
abbrev pub spelled_number : List ℕ → Option ℤ
spelled_number word = if is_integer_word word then Some (saturate_signed w128 (whole_of word)) else None

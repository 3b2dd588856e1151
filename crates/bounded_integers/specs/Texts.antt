-- What is parsed as an integer of a range.
use Rattle.std.specs.Prelude.{◌≡◌, ℕ, ℤ, List, MatchResult, Result}
use Rattle.std.specs.Str.Parse.{IsNumeral, signed_digits_value, without_leading_sign}
use Rattle.num_integer.specs.Between.{Between}

-- The result is the integer that the string spells, or an error if the string is no integer from low to high. It may begin with `+` or `-`.
-- Examples, from 0 to 100: of `7`, `+7` and `007`: 7; of `101`, `-1`, `seven` and the empty string: an error.
abbrev pub ReadsBounded : {T E : Type 0} → ℤ → ℤ → (T → ℤ) → List ℕ → Result T E → Type 0
ReadsBounded low high number text result = MatchResult result
    (λ x. IsNumeral 10 (without_leading_sign text) × (number x ≡ signed_digits_value 10 text))
    (λ _. ¬ (IsNumeral 10 (without_leading_sign text) × Between low high (signed_digits_value 10 text)))

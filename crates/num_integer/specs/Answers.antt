-- What `checked` returns: `Some` of a result exactly in the domain.
use Rattle.std.specs.Prelude.{◌≡◌, ◌≢◌, ℤ, Option, pos}
use Rattle.num_integer.specs.Checked.{AnswersWhere, FitsWith}
use Rattle.num_integer.specs.Division.{IsMultiple, IsQuotient}
use Rattle.num_integer.specs.Range.{EachFits}

-- The result is `Some` of the number z, or `None` if z does not fit.
-- Examples: in i8: of 127 it is `Some` of 127; of 128 it is `None`.
abbrev pub AnswersNumber : (ℤ → Type 0) → {X : Type 0} → (X → ℤ) → ℤ → Option X → Type 0
AnswersNumber fits value z result = AnswersWhere (fits z) (FitsWith fits value (λ r. r ≡ z)) result

-- The result is `Some` of a number with the property, or `None` if one with it does not fit.
-- Examples: of 'is the least common multiple of 16 and 17' in i16: `Some` of 272; in u8: `None`.
abbrev pub AnswersFitting : (ℤ → Type 0) → {X : Type 0} → (X → ℤ) → (ℤ → Type 0) → Option X → Type 0
AnswersFitting fits value P result = AnswersWhere (EachFits fits P) (FitsWith fits value P) result

-- The result is `Some` of the quotient of this kind and its remainder, or `None` if the divisor is 0 or the quotient does not fit.
-- Examples: of the kind `IsFloored` in i8: for -8 and 3 it is `Some` of -3 and 1; for 8 and 0 it is `None`; for -128 and -1 it is `None`.
abbrev pub AnswersDivision : (ℤ → ℤ → ℤ → ℤ → Type 0) → (ℤ → Type 0) → {X : Type 0} → (X → ℤ) → ℤ → ℤ → Option (X × X) → Type 0
AnswersDivision Kind fits value n d result =
    AnswersWhere ((d ≢ pos 0) × EachFits fits (IsQuotient Kind n d)) (λ r. fits (value r.0) × fits (value r.1) × Kind n d (value r.0) (value r.1)) result

-- The result is `Some` of the quotient of this kind times the divisor, or `None` if the divisor is 0 or the multiple does not fit.
-- Examples: of the kind `IsCeiled` in u8: for 23 and 8 it is `Some` of 24; for 251 and 8 it is `None`; for 8 and 0 it is `None`.
abbrev pub AnswersMultiple : (ℤ → ℤ → ℤ → ℤ → Type 0) → (ℤ → Type 0) → {X : Type 0} → (X → ℤ) → ℤ → ℤ → Option X → Type 0
AnswersMultiple Kind fits value n d result =
    AnswersWhere ((d ≢ pos 0) × EachFits fits (IsMultiple Kind n d)) (FitsWith fits value (IsMultiple Kind n d)) result

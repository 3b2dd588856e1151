-- Results that a caller passes on by `?`, in the caller's words: its argument in the place of the bits of that argument.
use Rattle.ratio64.proofs.Common.{◌≡◌, ◌⊎◌, ◌*ℤ◌, ℤ, MatchOption, Option, None, Some, FitsSigned, inl, of_z, to_z, to_z-of_z, w64, AnswersWhere, EachFits, IsQuotient, IsRounded, IsRoundedEven}

-- a fraction times an integer is rounded to no number that fits
module _ (Q : ℤ → Type 0) (num n den : ℤ) (r : Option ℤ) (fits : FitsSigned w64 n) (is : r ≡ None) where
  pub quotient_times_passed_on : {Kind : ℤ → ℤ → ℤ → ℤ → Type 0}
      → ¬ (EachFits (FitsSigned w64) (IsQuotient Kind (num *ℤ to_z w64 (of_z w64 n)) den))
      → MatchOption r (¬ (EachFits (FitsSigned w64) (IsQuotient Kind (num *ℤ n) den))) Q
  quotient_times_passed_on none = rw is (rw (to_z-of_z w64 n fits) at none)

  pub rounded_times_passed_on : ¬ (EachFits (FitsSigned w64) (IsRounded (num *ℤ to_z w64 (of_z w64 n)) den))
      → MatchOption r (¬ (EachFits (FitsSigned w64) (IsRounded (num *ℤ n) den))) Q
  rounded_times_passed_on none = rw is (rw (to_z-of_z w64 n fits) at none)

  pub rounded_even_times_passed_on : ¬ (EachFits (FitsSigned w64) (IsRoundedEven (num *ℤ to_z w64 (of_z w64 n)) den))
      → MatchOption r (¬ (EachFits (FitsSigned w64) (IsRoundedEven (num *ℤ n) den))) Q
  rounded_even_times_passed_on none = rw is (rw (to_z-of_z w64 n fits) at none)

-- The `None` of `floor_times`, `ceil_times`, `round_times` and `round_even_times` that `?` passes on.
pub ruleset times_passed_on = (quotient_times_passed_on, rounded_times_passed_on, rounded_even_times_passed_on)

-- The same if that is one of two reasons for `None`.
pub first_does_not_fit : (num n den : ℤ) (r : Option ℤ) (fits : FitsSigned w64 n) (B : Type 0) (Q : ℤ → Type 0) → r ≡ None
    → ¬ (EachFits (FitsSigned w64) (IsRounded (num *ℤ to_z w64 (of_z w64 n)) den))
    → MatchOption r ((¬ (EachFits (FitsSigned w64) (IsRounded (num *ℤ n) den))) ⊎ B) Q
first_does_not_fit num n den r fits B Q is none = rw is (inl (rw (to_z-of_z w64 n fits) at none))

-- What a call answers, in other words for its `None`.
pub none_as : {X : Type 0} (D R : Type 0) (P : X → Type 0) (r : Option X) → (¬ D → R) → AnswersWhere D P r → MatchOption r R P
none_as D R P None other none = other none
none_as D R P (Some x) other h = h.1

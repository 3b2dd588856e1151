-- Results that a caller passes on, in the caller's words: its argument in the place of the bits of that argument.
use Rattle.calendar.proofs.Common.{◌≡◌, ℕ, ℤ, MatchOption, Option, None, FitsSigned, w64, IsWeeksAfter, IsoWeek}
use Rattle.std.proofs.Common.{of_z, to_z}
use Rattle.std.proofs.lemmas.Int.{to_z-of_z}

module _ (year : ℤ) (week : ℕ) (weeks : ℤ) (fits : FitsSigned w64 weeks) where
  pub week_found : {y : ℤ} {w : ℕ} → IsWeeksAfter year week (to_z w64 (of_z w64 weeks)) y w → IsWeeksAfter year week weeks y w
  week_found is = rw (to_z-of_z w64 weeks fits) at is

  pub week_beyond : (Q : IsoWeek → Type 0) (r : Option IsoWeek) → r ≡ None
      → ((y : ℤ) (w : ℕ) → IsWeeksAfter year week (to_z w64 (of_z w64 weeks)) y w → ¬ (FitsSigned w64 y))
      → MatchOption r ((y : ℤ) (w : ℕ) → IsWeeksAfter year week weeks y w → ¬ (FitsSigned w64 y)) Q
  week_beyond Q r is beyond = rw is (rw (to_z-of_z w64 weeks fits) at beyond)

  pub week_answered : (r : Option IsoWeek)
      → MatchOption r ((y : ℤ) (w : ℕ) → IsWeeksAfter year week (to_z w64 (of_z w64 weeks)) y w → ¬ (FitsSigned w64 y)) (λ found. IsWeeksAfter year week (to_z w64 (of_z w64 weeks)) found.year found.week)
      → MatchOption r ((y : ℤ) (w : ℕ) → IsWeeksAfter year week weeks y w → ¬ (FitsSigned w64 y)) (λ found. IsWeeksAfter year week weeks found.year found.week)
  week_answered r h = rw (to_z-of_z w64 weeks fits) at h

-- The week of `plus_weeks`, and its `None`, that `?` passes on.
pub ruleset weeks_passed_on = (week_found, week_beyond, week_answered)

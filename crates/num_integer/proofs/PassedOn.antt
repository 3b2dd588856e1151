-- Results that a caller passes on by `?`, in the caller's words: its arguments in the place of the bits of those arguments.
use Rattle.std.proofs.Common.{◌≡◌, ◌≢◌, ℤ, pos, Option, None, MatchOption, FitsSigned, of_z, to_z}
use Rattle.std.proofs.lemmas.Int.{to_z-of_z}
use Rattle.std.specs.Int.{w64}
use Rattle.integer_core.specs.Division.{IsQuotient}
use Rattle.integer_core.specs.Range.{EachFits}

-- The `None` of a quotient of `checked` at `i64` that `?` passes on: the divisor is 0, or no quotient fits.
pub quotient_passed_on : {Kind : ℤ → ℤ → ℤ → ℤ → Type 0} (Q : ℤ → Type 0) (n d : ℤ) (r : Option ℤ) → FitsSigned w64 n → FitsSigned w64 d → r ≡ None
    → ¬ ((to_z w64 (of_z w64 d) ≢ pos 0) × EachFits (FitsSigned w64) (IsQuotient Kind (to_z w64 (of_z w64 n)) (to_z w64 (of_z w64 d))))
    → MatchOption r (¬ ((d ≢ pos 0) × EachFits (FitsSigned w64) (IsQuotient Kind n d))) Q
quotient_passed_on Q n d r n_fits d_fits is none = rw is (rw (to_z-of_z w64 n n_fits, to_z-of_z w64 d d_fits) at none)

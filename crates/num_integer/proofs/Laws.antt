-- The laws of specs/Laws.antt, by their names in small letters: lemmas of this file, and lemmas from elsewhere that are passed on.
use Rattle.num_integer.proofs.Common.{IsMultiple, IsOnly, IsQuotient, IsRemainder, arith, pos, products, sym, ℤ, ◌∙◌, each_kind}
use Rattle.integer_core.proofs.CommonDivisors as common
use Rattle.integer_core.proofs.Quotients as quotients
use Rattle.integer_roots.proofs.OnlyAnswers as roots
use Rattle.num_integer.proofs.Multinomials.{only_multinomial}
use Rattle.num_integer.specs.Laws as law
pub use Rattle.integer_core.proofs.BezoutAnswers.{bezout_answer_exists, bezout_answer_is_only}
pub use Rattle.integer_core.proofs.CommonDivisors.{gcd_exists, lcm_exists, lcm_is_symmetric}
pub use Rattle.integer_core.proofs.DivisionKinds.{division_is_only}
pub use Rattle.integer_core.proofs.EuclidIterations.{euclid_iterations_are_only}
pub use Rattle.integer_core.proofs.GcdIterations.{bit_length_exists, gcd_iterations_are_only}
pub use Rattle.integer_core.proofs.Quotients.{division_exists, negation_turns_multiples}
pub use Rattle.integer_roots.proofs.MagnitudeRoots.{first_root}
pub use Rattle.integer_roots.proofs.OnlyAnswers.{average_ceil_is_only, average_floor_is_only, square_root_iterations_are_only}
pub use Rattle.num_integer.proofs.DivisorSums.{sum_of_divisors_ends_at_the_number, sum_of_divisors_exists, sum_of_divisors_is_only}
pub use Rattle.num_integer.proofs.Powers.{exponents_add}
pub use Rattle.num_integer.proofs.Multiples.{gcd_is_at_most_each_bound, lcm_is_first_common_multiple}
pub use Rattle.num_integer.proofs.NearestQuotients.{nearest_even_quotient_is_only, nearest_quotient_exists, nearest_quotient_fits_exactly, nearest_quotient_is_only, no_integer_is_nearer}
pub use Rattle.num_integer.proofs.Multinomials.{is_multinomial as multinomial_formula, multinomial_ignores_order}
pub use Rattle.num_integer.proofs.Pascal.{coefficient_mirror, divides_factorials as factorial_formula, none_above as coefficient_above_row}
pub use Rattle.num_integer.proofs.RowSteps.{row_is_greatest_in_middle, row_is_palindrome, row_length}

-- ---- division and multiples

pub quotient_is_only : law.QuotientIsOnly
quotient_is_only = each_kind {P = λ Kind. (n d q : ℤ) → IsQuotient Kind n d q → IsOnly (IsQuotient Kind n d) q}
    (λ Kind kind n d q h other k. (kind.only k.division h.division).0)

pub remainder_is_only : law.RemainderIsOnly
remainder_is_only = each_kind {P = λ Kind. (n d r : ℤ) → IsRemainder Kind n d r → IsOnly (IsRemainder Kind n d) r}
    (λ Kind kind n d r h other k. (kind.only k.division h.division).1)

pub multiple_is_only : law.MultipleIsOnly
multiple_is_only = each_kind {P = λ Kind. (n d m : ℤ) → IsMultiple Kind n d m → IsOnly (IsMultiple Kind n d) m}
    (λ Kind kind n d m. quotients.only_multiple (λ q r p s. kind.only))

pub floored_parts_add_up : law.FlooredPartsAddUp
floored_parts_add_up = λ n d q r quotient remainder.
    let one = quotients.of_one_division quotient remainder in (sym one.division.equation, one.sign, one.division.small)

-- ---- common divisors and multiples

pub gcd_is_only : law.GcdIsOnly
gcd_is_only = λ a b g h other k. common.only_gcd k h

pub gcd_is_symmetric : law.GcdIsSymmetric
gcd_is_symmetric = λ a b g. common.gcd_swap

pub gcd_of_zeros : law.GcdOfZeros
gcd_of_zeros = common.gcd_zero (pos 0)

pub gcd_fits_exactly : (fits : ℤ → Type 0) → law.GcdFitsExactly fits
gcd_fits_exactly = λ fits low high a b range. common.gcd_fits_is range

pub lcm_is_only : law.LcmIsOnly
lcm_is_only = λ a b l h other k. common.only_lcm k h

pub gcd_times_lcm : law.GcdTimesLcm
gcd_times_lcm = λ a b g l. common.gcd_mul_lcm

pub bit_length_is_only : law.BitLengthIsOnly
bit_length_is_only = λ v l h other k. omega (arith, h.least other k.below, k.least l h.below)

-- ---- averages and roots

pub averages_are_neighbours : law.AveragesAreNeighbours
averages_are_neighbours = λ a b f c floor ceil.
    (omega (arith, products, floor.double_le, ceil.double_ge), omega (arith, products, floor.next_double_gt, ceil.previous_double_lt))

pub root_is_only : law.RootIsOnly
root_is_only = λ x n r. roots.root_is_only_one

-- ---- coefficients

pub multinomial_is_only : law.MultinomialIsOnly
multinomial_is_only = λ counts m h other k. only_multinomial k ∙ sym (only_multinomial h)

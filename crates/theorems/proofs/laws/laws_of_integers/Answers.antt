use Rattle.num_integer.proofs.Laws as law
use Rattle.theorems.proofs.Roots as root
use Rattle.theorems.proofs.laws.laws_of_integers.Goals as goal

ruleset of_division = (
  law.division_exists,
  law.division_is_only,
  law.quotient_is_only,
  law.remainder_is_only,
  law.multiple_is_only,
  law.floored_parts_add_up,
  law.negation_turns_multiples,
)

ruleset of_rounding = (
  law.nearest_quotient_exists,
  law.no_integer_is_nearer,
  law.nearest_quotient_is_only,
  law.nearest_even_quotient_is_only,
  law.nearest_quotient_fits_exactly,
)

ruleset of_divisors = (
  law.gcd_exists,
  law.gcd_is_only,
  law.gcd_is_symmetric,
  law.gcd_of_zeros,
  law.gcd_fits_exactly,
  law.gcd_is_at_most_each_bound,
  law.gcd_times_lcm,
  law.gcd_iterations_are_only,
  law.bit_length_exists,
  law.bit_length_is_only,
)

ruleset of_multiples = (law.lcm_exists, law.lcm_is_only, law.lcm_is_first_common_multiple, law.lcm_is_symmetric)

ruleset of_sums = (law.sum_of_divisors_exists, law.sum_of_divisors_is_only, law.sum_of_divisors_ends_at_the_number, law.exponents_add)

ruleset of_bezout_pairs = (law.bezout_answer_exists, law.bezout_answer_is_only, law.euclid_iterations_are_only)

ruleset of_roots = (
  law.average_floor_is_only,
  law.average_ceil_is_only,
  law.averages_are_neighbours,
  law.root_is_only,
  law.first_root,
  law.square_root_iterations_are_only,
)

ruleset of_existence = (root.average_floor_exists, root.average_ceil_exists, root.root_exists)

ruleset of_coefficients = (
  law.coefficient_mirror,
  law.coefficient_above_row,
  law.factorial_formula,
  law.multinomial_formula,
  law.multinomial_is_only,
  law.multinomial_ignores_order,
  law.row_length,
  law.row_is_palindrome,
  law.row_is_greatest_in_middle,
)

pub returns : goal.returns
returns g c = search (of_division, of_rounding, of_divisors, of_multiples, of_sums, of_bezout_pairs, of_roots, of_existence, of_coefficients)

use Rattle.applied.proofs.Laws as law
use Rattle.theorems.proofs.laws.laws_of_models.Goals as goal

ruleset of_pages = (
  law.pages_are_only,
  law.place_exists,
  law.place_is_only,
  law.parts_differ_by_one,
  law.aligned_up_exists,
  law.aligned_up_is_only,
  law.padding_is_only,
)

ruleset of_choices = (
  law.least_time_is_only,
  law.count_of_times_is_only,
  law.shares_by_remainder_are_only,
  law.choice_of_rank_is_only,
  law.rank_is_below,
  law.midpoint_is_only,
  law.lower_bound_is_only,
)

ruleset of_pairs = (
  law.reduced_pair_exists,
  law.reduced_pair_is_only,
  law.gcd_of_exists,
  law.gcd_of_is_only,
  law.gcd_of_fits_exactly,
  law.lcm_of_exists,
  law.lcm_of_is_only,
  law.lcm_of_is_first_common_multiple,
)

ruleset of_counting = (law.logarithm_is_only, law.falling_formula, law.falling_by_coefficient)

pub returns : goal.returns
returns g c = search (of_pages, of_choices, of_pairs, of_counting)

use Rattle.std.specs.Cmp.{IsTotalOrder}
use Rattle.ratio64.proofs.Laws as law
use Rattle.ratio64.specs.Fraction.{fraction_cmp}
use Rattle.ratio64.specs.Ratio.{den_of, num_of}
use Rattle.ratio64.specs.declared.fraction.Ratio.{Ratio}
use Rattle.theorems.proofs.laws.laws_of_fractions.Goals as goal

ruleset of_reduced_pairs = (
  law.exact_result_exists,
  law.exact_result_is_only,
  law.equal_fractions_have_one_result,
  law.reduced_pairs_are_equal_where_same,
  law.ratio_of_parts_is_only,
  law.answer_is_only,
)

-- each denominator is positive
order_of_ratios_is_total : IsTotalOrder (λ (x : Ratio) (y : Ratio). fraction_cmp (num_of x) (den_of x) (num_of y) (den_of y))
order_of_ratios_is_total = law.order_is_total Ratio num_of den_of (λ x. x.reduced.positive)

ruleset of_order = (order_of_ratios_is_total, law.order_is_total, law.order_agrees_with_equality, law.order_over_one_denominator)

ruleset of_rounding = (
  law.rounded_is_only,
  law.rounded_even_is_only,
  law.rounded_even_is,
  law.nearest_is_only,
  law.nearest_to_exact_result,
  law.nearest_parts_are_only,
)

ruleset of_sums = (law.sums_of_equal_fractions, law.products_of_equal_fractions)

ruleset of_decimals = (
  law.decimal_is_spelled,
  law.spelled_decimal_is_only,
  law.decimal_of_parts_is_only,
  law.decimals_compare_as_fractions,
  law.read_decimal_is_only,
  law.decimal_is_read_back,
)

ruleset of_strings = (law.reading_is_only, law.text_is_read_back)

pub returns : goal.returns
returns c = search (of_reduced_pairs, of_order, of_rounding, of_sums, of_decimals, of_strings)

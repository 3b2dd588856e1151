-- The laws of specs/Laws.antt, by their names in small letters: lemmas of this file, and lemmas from elsewhere that are passed on.
use Rattle.ratio64.proofs.Common.{◌≡◌, ◌*ℤ◌, unsigned_abs, int_cmp_is, Less, arith, refl, sym, linear, multiples_apart, equal_where_same}
use Rattle.ratio64.proofs.ExactResults as results
use Rattle.ratio64.proofs.NearestParts.{same_numerator}
use Rattle.ratio64.specs.Laws as law
pub use Rattle.ratio64.proofs.EqualFractions.{equal_products as products_of_equal_fractions, equal_sums as sums_of_equal_fractions}
pub use Rattle.ratio64.proofs.EqualNearest.{nearest_to_exact_result}
pub use Rattle.ratio64.proofs.ExactResults.{exact_result_exists}
pub use Rattle.ratio64.proofs.FractionAnswers.{only_answer as answer_is_only, only_of_parts as ratio_of_parts_is_only}
pub use Rattle.ratio64.proofs.NearestNumbers.{only_rounded as rounded_is_only, only_rounded_even as rounded_even_is_only}
pub use Rattle.ratio64.proofs.RoundedEven.{rounded_even_is}
pub use Rattle.ratio64.proofs.ReadTexts.{only_reading as reading_is_only, printed_is_read as text_is_read_back}
pub use Rattle.ratio64.proofs.DecimalLaws.{decimal_is_read_back, decimal_of_parts_is_only, decimals_compare_as_fractions, read_decimal_is_only}
pub use Rattle.ratio64.proofs.SpelledDecimals.{decimal_spelled as decimal_is_spelled, only_spelled_decimal as spelled_decimal_is_only}
pub use Rattle.ratio64.specs.FractionOrder.{order_agrees_with_equality, order_is_total}

-- ---- reduced pairs

pub exact_result_is_only : law.ExactResultIsOnly
exact_result_is_only = λ a b num den x. λ (n, d) other. let same = results.only_exact_result other x in rw (same.0, same.1) refl

pub equal_fractions_have_one_result : law.EqualFractionsHaveOneResult
equal_fractions_have_one_result = λ a b c d num den. results.same_result

pub reduced_pairs_are_equal_where_same : law.ReducedPairsAreEqualWhereSame
reduced_pairs_are_equal_where_same = λ a b c d. equal_where_same

-- ---- the order

pub order_over_one_denominator : law.OrderOverOneDenominator
order_over_one_denominator a c d up less = sym (int_cmp_is (a *ℤ d) (c *ℤ d) Less (omega (linear, multiples_apart a c d up less)))

-- ---- small denominators

-- two nearest fractions tie, so neither denominator is the larger, and then neither numerator
pub nearest_is_only : law.NearestIsOnly
nearest_is_only = λ n d max num den x (u, v) y.
    let near = x.nearest u v y.positive y.bounded in
    let other_near = y.nearest num den x.positive x.bounded in
    let tie = x.tie u v y.positive y.bounded (omega arith) in
    let other_tie = y.tie num den x.positive x.bounded (omega arith) in
    let same_den : v ≡ den = omega (linear, tie.0, other_tie.0) in
    let same_num : u ≡ num = omega (linear, tie.1 same_den, other_tie.1 (sym same_den)) in
    rw (same_num, same_den) refl

-- two nearest fractions tie, so their denominators are equal, and then the sizes of their numerators
pub nearest_parts_are_only : law.NearestPartsAreOnly
nearest_parts_are_only = λ n d max num den x (u, v) y.
    let near = x.nearest u v y.positive y.bounded.0 y.bounded.1 in
    let other_near = y.nearest num den x.positive x.bounded.0 x.bounded.1 in
    let tie = x.tie u v y.positive y.bounded.0 y.bounded.1 (omega arith) in
    let other_tie = y.tie num den x.positive x.bounded.0 x.bounded.1 (omega arith) in
    let same_den : v ≡ den = omega (linear, tie.0, other_tie.0) in
    let same_size : unsigned_abs u ≡ unsigned_abs num = omega (arith, tie.1 same_den, other_tie.1 (sym same_den)) in
    let same_num = same_numerator x (rw same_den at y) same_size in
    rw (same_num, same_den) refl

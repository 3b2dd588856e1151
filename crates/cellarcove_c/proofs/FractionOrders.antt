-- Fractions with positive denominators, which need not be reduced, compare as the reduced ones do.
use Rattle.std.specs.declared.cmp.Ordering.{Ordering}
use Rattle.num_integer.proofs.ForCallers.{factor_positive}
use Rattle.ratio64.proofs.ForCallers.{common_factor, equal_fractions_compare_alike, exact_answer, positive_is_nonzero, quotient_fits}
use Rattle.ratio64.proofs.Laws.{exact_result_exists}
use Rattle.ratio64.specs.Fraction.{IsExact, fraction_cmp}
use Rattle.ratio64.specs.Ratio.{AnswersFraction}
use Rattle.ratio64.specs.RatioError.{number_of}
use Rattle.cellarcove_c.proofs.Common.{◌≡◌, ◌<ℤ◌, ◌∙◌, ℤ, ℕ, pos, ap, arith, FitsSigned, Ok, Ratio, RatioError, Result, den_of, linear, num_of, sizes, w64}
use Rattle.cellarcove_c.specs.Fractions.{OnBothFractions, order_number}

-- such a fraction has an exact result, which fits
pub positive_has_result : {a b : ℤ} → FitsSigned w64 a → FitsSigned w64 b → pos 0 <ℤ b
    → (x : Ratio) × IsExact a b (num_of x) (den_of x) × AnswersFraction a b (Ok x)
positive_has_result {a} {b} a_fits b_fits up =
    let found = exact_result_exists a b (positive_is_nonzero up) in
    let x : Ratio = record { num = found.0; den = found.1; reduced = found.2.reduced } in
    let s = common_factor found.2 in
    let s_up = factor_positive up found.2.reduced.positive s.2 in
    let num_fits : FitsSigned w64 found.0 = quotient_fits {r = pos 0} s_up (record { equation = omega (arith, linear, s.1); small = omega (arith, sizes) }) w64 a_fits in
    let den_fits : FitsSigned w64 found.1 = quotient_fits {r = pos 0} s_up (record { equation = omega (arith, linear, s.2); small = omega (arith, sizes) }) w64 b_fits in
    (x, found.2, exact_answer x found.2 num_fits den_fits)

-- so two of them compare as their exact results do
pub results_compare_alike : {a b c d : ℤ} {status : ℕ} {order : Ordering} → FitsSigned w64 a
    → FitsSigned w64 b → FitsSigned w64 c → FitsSigned w64 d → pos 0 <ℤ b → pos 0 <ℤ d
    → status ≡ 0 → order ≡ fraction_cmp a b c d
    → (p q : Result Ratio RatioError) × AnswersFraction a b p × AnswersFraction c d q
    × OnBothFractions p q (λ x y. (status ≡ 0) × (order_number order ≡ order_number (fraction_cmp (num_of x) (den_of x) (num_of y) (den_of y))))
    (λ e. (status ≡ number_of e) × (order_number order ≡ pos 0))
results_compare_alike a_fits b_fits c_fits d_fits b_up d_up none is =
    let x = positive_has_result a_fits b_fits b_up in
    let y = positive_has_result c_fits d_fits d_up in
    let alike = equal_fractions_compare_alike b_up d_up x.1.reduced.positive y.1.reduced.positive x.1.equal y.1.equal in
    (Ok x.0, Ok y.0, x.2, y.2, (none, ap order_number (is ∙ alike)))

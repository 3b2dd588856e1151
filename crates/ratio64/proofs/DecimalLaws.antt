-- The laws of decimal numbers: one for its parts, one result for a string, and which of them is first.
use Rattle.ratio64.proofs.Common.{◌≡◌, ◌≢◌, ◌-◌, ◌^◌, ◌<◌, ◌≤◌, ◌*ℤ◌, ◌<ℤ◌, List, ℕ, ℤ, pos, mul-pos, products, unsigned_abs, Result, Ok, Err, arith, ap, refl, sym, ◌∙◌, expand, is_prop→PathP, linear, mul-one, places_of, units_of}
use Rattle.ratio64.proofs.DecimalOrder.{quintillion}
use Rattle.ratio64.proofs.DecimalTexts.{ten_up}
use Rattle.ratio64.proofs.ReadDecimals.{number_answer, only_kept}
use Rattle.ratio64.proofs.ReadTexts.{same_number, same_result}
use Rattle.ratio64.proofs.SpelledDecimals.{decimal_spelled}
use Rattle.ratio64.specs.Decimal.{SpellsDecimal, quintillionths_of}
use Rattle.ratio64.specs.DecimalText.{AnswersDecimal, AreKept, ReadsDecimal}
use Rattle.ratio64.specs.FractionOrder.{int_cmp_times}
use Rattle.ratio64.specs.Laws.{DecimalIsReadBack, DecimalOfPartsIsOnly, DecimalsCompareAsFractions, ReadDecimalIsOnly}
use Rattle.ratio64.specs.declared.decimal.Decimal.{Decimal}
use Rattle.ratio64.specs.declared.decimal.reading.ParseDecimalError.{ParseDecimalError}
use Rattle.ratio64.specs.declared.decimal.reading.ParseDecimalError.TheVariants.{NotADecimal, TooManyPlaces, NotFitting}
use Rattle.std.proofs.Props.{props}
use Rattle.std.specs.Ordering.{int_cmp}

-- ---- one for its parts

pub decimal_of_parts_is_only : DecimalOfPartsIsOnly
decimal_of_parts_is_only x y p q = λ i. record {
  units = p i;
  places = q i;
  few = is_prop→PathP (λ i. q i ≤ 18) (λ i. hlevel props) x.few y.few i;
  below = is_prop→PathP (λ i. unsigned_abs (p i) < 2 ^ 127) (λ i. hlevel props) x.below y.below i;
}

-- ---- the order is that of fractions

product_up : (m n : ℕ) → 0 < m → 0 < n → pos 0 <ℤ (pos m *ℤ pos n)
product_up m n m_up n_up = let up = mul-pos m_up n_up in omega products

pub decimals_compare_as_fractions : DecimalsCompareAsFractions
decimals_compare_as_fractions x y =
    let p = pos (10 ^ places_of x) in
    let q = pos (10 ^ places_of y) in
    let s = pos (10 ^ (18 - places_of x)) in
    let t = pos (10 ^ (18 - places_of y)) in
    let k = pos (10 ^ 18) in
    let p_up = ten_up (places_of x) in
    let q_up = ten_up (places_of y) in
    let k_up = ten_up 18 in
    let p_all : p *ℤ s ≡ k = quintillion (places_of x) x.few in
    let q_all : q *ℤ t ≡ k = quintillion (places_of y) y.few in
    let left : (p *ℤ q) *ℤ (units_of x *ℤ s) ≡ k *ℤ (units_of x *ℤ q) = rw (← p_all) (simp expand) in
    let right : (p *ℤ q) *ℤ (units_of y *ℤ t) ≡ k *ℤ (units_of y *ℤ p) = rw (← q_all) (simp expand) in
    let both = int_cmp_times (p *ℤ q) (quintillionths_of x) (quintillionths_of y) (product_up (10 ^ places_of x) (10 ^ places_of y) p_up q_up) in
    let cross = int_cmp_times k (units_of x *ℤ q) (units_of y *ℤ p) (omega linear) in
    both ∙ ap (λ (z : ℤ). int_cmp z ((p *ℤ q) *ℤ (units_of y *ℤ t))) left ∙ ap (λ (z : ℤ). int_cmp (k *ℤ (units_of x *ℤ q)) z) right ∙ sym cross

-- ---- the numbers that a string spells have one result

own_kept : (x : Decimal) → AreKept (units_of x) (places_of x) (units_of x)
own_kept x =
    let few = x.few in
    let none : places_of x - 18 ≡ 0 = omega arith in
    record { product = rw none (mul-one (units_of x)) }

only_number : {u : ℤ} {p : ℕ} (r s : Result Decimal ParseDecimalError) → AnswersDecimal u p r → AnswersDecimal u p s → r ≢ Err NotADecimal
    → s ≢ Err NotADecimal → r ≡ s
only_number (Err NotADecimal) s h k m n = absurd (m refl)
only_number (Err TooManyPlaces) s h k m n = sym (k.too_many_places.1 (h.too_many_places.0 refl))
only_number (Err NotFitting) s h k m n = sym (k.not_fitting.1 (h.not_fitting.0 refl))
only_number (Ok x) (Ok y) h k m n = ap Ok (decimal_of_parts_is_only x y (only_kept h.number.0 k.number.0) (h.number.1 ∙ sym k.number.1))
only_number (Ok x) (Err NotADecimal) h k m n = absurd (n refl)
only_number (Ok x) (Err TooManyPlaces) h k m n = h.too_many_places.1 (k.too_many_places.0 refl)
only_number (Ok x) (Err NotFitting) h k m n = h.not_fitting.1 (k.not_fitting.0 refl)

-- ---- a string has one result

same_places : (p q : ℕ) → ¬ (¬ (p ≡ q)) → p ≡ q
same_places p q h = grind arith

same_error : (e f : ParseDecimalError) → ¬ (¬ (e ≡ f)) → e ≡ f
same_error NotADecimal NotADecimal h = refl
same_error TooManyPlaces TooManyPlaces h = refl
same_error NotFitting NotFitting h = refl
same_error _ _ h = absurd (h (λ e. absurd cc))

same_decimal : (x y : Decimal) → ¬ (¬ (x ≡ y)) → x ≡ y
same_decimal x y h =
    decimal_of_parts_is_only x y (same_number _ _ (λ other. h (λ e. other (ap units_of e)))) (same_places _ _ (λ other. h (λ e. other (ap places_of e))))

-- a string that spells a number is not rejected
spelled_read : {text : List ℕ} {u : ℤ} {p : ℕ} {r : Result Decimal ParseDecimalError} → ReadsDecimal text r → SpellsDecimal text u p
    → r ≢ Err NotADecimal
spelled_read {u = u} {p = p} h s e = h.not_a_decimal.0 e u p s

pub read_decimal_is_only : ReadDecimalIsOnly
read_decimal_is_only text r s h k = same_result same_decimal same_error r s (λ other.
    let none : (u : ℤ) (p : ℕ) → ¬ (SpellsDecimal text u p) =
    λ u p spelled. other (only_number r s (h.answer u p spelled) (k.answer u p spelled) (spelled_read h spelled) (spelled_read k spelled)) in
    other (h.not_a_decimal.1 none ∙ sym (k.not_a_decimal.1 none)))

-- ---- what is printed is read back

pub decimal_is_read_back : DecimalIsReadBack
decimal_is_read_back x r h =
    let spelled = decimal_spelled x in
    let few = x.few in
    let own = number_answer x (own_kept x) (omega arith) in
    only_number r (Ok x) (h.answer (units_of x) (places_of x) spelled) own (spelled_read h spelled) (λ e. absurd cc)

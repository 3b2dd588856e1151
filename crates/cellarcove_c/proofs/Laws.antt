-- The laws of specs/Laws.antt, a lemma each.
use Rattle.cellarcove_c.proofs.Common.{◌≡◌, ◌≢◌, ◌⊎◌, ◌↔◌, ◌<◌, ◌≤◌, ◌+◌, ◌*◌, ◌<ℤ◌, ◌≤ℤ◌, ◌+ℤ◌, ◌-ℤ◌, ℕ, ℤ, zero, suc, pos, Bool, List, FitsSigned, IfSome, IsTrue, MatchOption, MatchResult, Option, Some, None, Ok, Err, Result, w64, ◌∙◌, ap, arith, inl, inr, mul-le-mul_right, refl, subst, sym, by_lt_z, ext_get_or, get_or, ints, Divides_difference, least_is_only, linear, sizes, small_multiple_is_zero, quotient_is_only, remainder_is_only, root_is_only, IsRemainder, IsTruncated, Divides, IsLeastCommonMultiple, IsLeastFrom, residue_class_is_only, MatchCommonSolution, Congruence, IsResidueClass, SolvesBothCongruences, SolvesEach, HasParts, IsMonthsBetween, IsYearsBetween, Date, Weekday, same_month, date_of_parts_is_only, iso_number_is_only, text_is_only, IsBeyond, IsClassOfBoth, IsNever, IsNextOfSeveral, IsReasonOfCongruences, IsReasonOfSeveral, HasText, ReadsDate, HasDigits, bad_modulus, common_solution_of, no_solution, not_fitting, outside, FractionAnswer, answer_is_only, rounded_even_is_only, den_of, num_of, RatioError, Ratio}
use Rattle.cellarcove_c.specs.Laws as law
use Rattle.calendar.proofs.Laws.{months_between_is_only as whole_months_are_only, years_between_is_only as whole_years_are_only}
use Rattle.cellarcove_c.specs.declared.dates.Date.{Date as Parts}
use Rattle.ratio64.specs.RatioError.{number_of}
use Rattle.cellarcove_c.specs.Fractions.{Represents}

-- ---- statuses

-- a status after 0 is not 0
nonzero : {s : ℕ} → suc s ≢ 0
nonzero e = omega (arith, e)

pub reason_is_only : law.ReasonIsOnly
reason_is_only divisor s t h k = grind arith

pub answers_is_only : {A : Type 0} (domain : Type 0) (Is : A → Type 0) (Reason : ℕ → Type 0) → law.AnswersIsOnly domain Is Reason
answers_is_only domain Is Reason zeros zero zero a b only one h k = (refl, only a b h.answer.1 k.answer.1)
answers_is_only domain Is Reason zeros zero (suc t) a b only one h k = absurd (k.answer h.answer.0)
answers_is_only domain Is Reason zeros (suc s) zero a b only one h k = absurd (h.answer k.answer.0)
answers_is_only domain Is Reason zeros (suc s) (suc t) a b only one h k = grind arith

-- what is not at most 0 is positive
positive_of : (m : ℤ) → ¬ (m ≤ℤ pos 0) → pos 0 <ℤ m
positive_of m h = by_lt_z (pos 0) m (λ up. up) (λ low. absurd (h low))

pub answers_modulo_is_only : {A : Type 0} (modulus : ℤ) (reason : ℕ) (without : Type 0) (Is : A → Type 0)
    → law.AnswersModuloIsOnly modulus reason without Is
answers_modulo_is_only modulus reason without Is zeros zero zero a b only never h k = grind arith
answers_modulo_is_only modulus reason without Is zeros (suc s) zero a b only never h k = grind arith
answers_modulo_is_only modulus reason without Is zeros s (suc t) a b only never h k = grind arith

-- ---- congruences

same_pair : {A B : Type 0} (c d : A × B) → c.0 ≡ d.0 → c.1 ≡ d.1 → c ≡ d
same_pair (a, b) (x, y) first second = rw (first, second) refl

module _ {X : Type 0} (value : X → ℤ) (fits : ℤ → Type 0) {a m b n : ℤ} {zeros : X × X} where
  -- a reason of one result is the status of each other
  reason_of_both : {s t : ℕ} {c d : X × X} → IsClassOfBoth value fits a m b n zeros s c
      → IsClassOfBoth value fits a m b n zeros t d → IsReasonOfCongruences t → s ≡ t
  reason_of_both h k reason = grind arith

  -- a class with the status 0 is that of the numbers that solve both
  class_of : {c : X × X} → ((z : ℤ) → fits z ⊎ (¬ (fits z))) → IsClassOfBoth value fits a m b n zeros 0 c
      → IsResidueClass (SolvesBothCongruences a m b n) (value c.0) (value c.1)
  class_of decided h =
      let first = positive_of m (λ low. absurd (omega (arith, h.modulus_is_bad.1 (inl low)))) in
      let second = positive_of n (λ low. absurd (omega (arith, h.modulus_is_bad.1 (inr low)))) in
      h.answer first second (λ z least. elim (decided z) [
        | inl near ↦ near
        | inr far ↦
            let beyond : ¬ ((l : ℤ) → IsLeastCommonMultiple m n l → fits l) = λ each. far (each z least) in
            let never : IsNever (SolvesBothCongruences a m b n) = λ x solves. absurd (omega (arith, h.step_is_beyond.1 (first, second, beyond, (x, solves)))) in
            absurd (omega (arith, h.is_never.1 (first, second, never)))
      ])

pub class_of_both_is_only : {X : Type 0} (value : X → ℤ) (fits : ℤ → Type 0) → law.ClassOfBothIsOnly value fits
class_of_both_is_only value fits a m b n zeros zero zero c d injective decided h k =
    let same = residue_class_is_only (SolvesBothCongruences a m b n) (value d.0) (value d.1) (class_of value fits decided k) (value c.0, value c.1) (class_of value fits decided h) in
    (refl, same_pair c d (injective c.0 d.0 (ap (λ (p : ℤ × ℤ). p.0) same)) (injective c.1 d.1 (ap (λ (p : ℤ × ℤ). p.1) same)))
class_of_both_is_only value fits a m b n zeros s (suc t) c d injective decided h k = grind (arith, reason_of_both value fits h k)
class_of_both_is_only value fits a m b n zeros (suc s) t c d injective decided h k = grind (arith, reason_of_both value fits k h)

module _ {X : Type 0} (value : X → ℤ) (fits : ℤ → Type 0) {from : ℤ} {congruences : List (Congruence X)} {zero_value : X} where
  -- a status that says neither that there are too many congruences nor that a modulus is not positive
  solved : {s : ℕ} {x : X} → IsNextOfSeveral value fits from congruences zero_value s x → s ≢ outside → s ≢ bad_modulus
      → MatchCommonSolution (common_solution_of s x) (IsNever (SolvesEach value congruences)) (IsBeyond fits (IsLeastFrom from (SolvesEach value congruences))) (λ t. IsLeastFrom from (SolvesEach value congruences) (value t))
  solved h other another = grind arith

  least_of : {x : X} → IsNextOfSeveral value fits from congruences zero_value 0 x → IsLeastFrom from (SolvesEach value congruences) (value x)
  least_of h = solved h (λ same. absurd (omega (arith, same))) (λ same. absurd (omega (arith, same)))

  beyond_of : {s : ℕ} {x : X} → IsNextOfSeveral value fits from congruences zero_value s x → s ≡ not_fitting
      → IsBeyond fits (IsLeastFrom from (SolvesEach value congruences))
  beyond_of h far = rw far at (solved h (λ same. absurd (omega (arith, far, same))) (λ same. absurd (omega (arith, far, same))))

  never_of : {s : ℕ} {x : X} → IsNextOfSeveral value fits from congruences zero_value s x → s ≡ no_solution → IsNever (SolvesEach value congruences)
  never_of h none = rw none at (solved h (λ same. absurd (omega (arith, none, same))) (λ same. absurd (omega (arith, none, same))))

  -- if one result has a number that fits, no other has a reason
  no_reason : {t : ℕ} {x y : X} → fits (value x) → IsNextOfSeveral value fits from congruences zero_value 0 x
      → IsNextOfSeveral value fits from congruences zero_value t y → IsReasonOfSeveral t → ⊥
  no_reason in_range h k (inl more) = omega (arith, h.too_many.1 (k.too_many.0 more))
  no_reason in_range h k (inr (inl bad)) = omega (arith, h.modulus_is_bad.1 (k.modulus_is_bad.0 bad))
  no_reason in_range h k (inr (inr (inl far))) = let (z, least, beyond) = beyond_of k far in beyond (subst fits (least_is_only least _ (least_of h)) in_range)
  no_reason in_range h k (inr (inr (inr none))) = never_of k none _ (least_of h).holds

pub next_of_several_is_only : {X : Type 0} (value : X → ℤ) (fits : ℤ → Type 0) → law.NextOfSeveralIsOnly value fits
next_of_several_is_only value fits from congruences zero_value zero zero x y injective p q h k =
    (refl, injective x y (least_is_only (least_of value fits k) _ (least_of value fits h)))
next_of_several_is_only value fits from congruences zero_value zero (suc t) x y injective p q h k =
    absurd (no_reason value fits p h k (k.refusal nonzero).1)
next_of_several_is_only value fits from congruences zero_value (suc s) zero x y injective p q h k =
    absurd (no_reason value fits q k h (h.refusal nonzero).1)
next_of_several_is_only value fits from congruences zero_value (suc s) (suc t) x y injective p q h k = grind arith

-- ---- numbers

pub floored_list_is_only : law.FlooredListIsOnly
floored_list_is_only divisor numbers p q h k =
    ext_get_or (pos 0) p q (h.one_each ∙ sym k.one_each)
    (λ i within. quotient_is_only.1 (get_or numbers i (pos 0)) divisor (get_or q i (pos 0)) (k.each i (omega (arith, within, h.one_each))) (get_or p i (pos 0)) (h.each i (omega (arith, within, h.one_each))))

pub summed_list_is_only : law.SummedListIsOnly
summed_list_is_only a b p q h k =
    ext_get_or (pos 0) p q (h.one_each ∙ sym k.one_each)
    (λ i within. h.each i (omega (arith, within, h.one_each)) ∙ sym (k.each i (omega (arith, within, h.one_each))))

pub fewest_pages_is_only : law.FewestPagesIsOnly
fewest_pages_is_only items page_size a b h k = let most = h.fewest b k.enough in let least = k.fewest a h.enough in grind (arith, linear)

pub padding_is_only : law.PaddingIsOnly
padding_is_only offset alignment a b h k =
    let difference : Divides alignment ((offset +ℤ a) -ℤ (offset +ℤ b)) = Divides_difference h.aligned k.aligned in
    let none = small_multiple_is_zero difference (omega (arith, sizes, h.from_zero, h.below, k.from_zero, k.below)) in
    grind (arith, linear)

pub root_with_rest_is_only : law.RootWithRestIsOnly
root_with_rest_is_only x root other rest left h k = grind (arith, root_is_only)

-- ---- fractions

pub stands_for_is_only : law.StandsForIsOnly
stands_for_is_only answered s t a b c d h k = grind arith

pub stands_for_number_is_only : (Says : Ratio → ℤ → Type 0) → law.StandsForNumberIsOnly Says
stands_for_number_is_only Says answered s t a b only h k = grind arith

pub on_both_is_only : {A : Type 0} (Says : A → Ratio → Ratio → Type 0) (Refuses : A → RatioError → Type 0) → law.OnBothIsOnly Says Refuses
on_both_is_only Says Refuses x y a b only same h k = grind arith

pub power_is_only : law.PowerIsOnly
power_is_only exponent x r s h k = by_lt_z exponent (pos 0)
    (λ below. answer_is_only _ _ r s (h.below_zero below) (k.below_zero below))
    (λ above. answer_is_only _ _ r s (h.from_zero above) (k.from_zero above))

pub in_parts_is_only : (IsRounded : ℤ → ℤ → ℤ → Type 0) → law.InPartsIsOnly IsRounded
in_parts_is_only IsRounded parts x r s only h k =
    let same = only _ _ h.number k.number x.reduced.positive h.is k.is in
    answer_is_only k.number parts r s (rw same at h.fraction) k.fraction

-- a sign is one of two
same_sign : (a b : Bool) (P : Type 0) → IsTrue a ↔ P → IsTrue b ↔ P → a ≡ b
same_sign a b P h k = grind arith

-- a number with a rest below m is divided by m alike
no_more : (m whole other part rest : ℕ) → whole * m + part ≡ other * m + rest → part < m → other ≤ whole
no_more m whole other part rest same below = grind (arith, mul-le-mul_right {m = whole + 1} {n = other} m)

same_digits : {units : ℤ} {places : ℕ} {a b : Bool} {whole other part rest : ℕ}
    → HasDigits units places a whole part → HasDigits units places b other rest
    → (a ≡ b) × (whole ≡ other) × (part ≡ rest)
same_digits {whole = whole} {other = other} h k =
    let size = sym h.size ∙ k.size in
    let same : whole ≡ other = omega (arith, no_more _ _ _ _ _ size h.below, no_more _ _ _ _ _ (sym size) k.below) in
    (same_sign _ _ _ h.sign k.sign, same, let equation = rw same at size in omega (arith, equation))

pub in_digits_is_only : law.InDigitsIsOnly
in_digits_is_only n d places a b whole other part rest up h k =
    let same = rounded_even_is_only _ d k.units up k.rounded h.units h.rounded in
    same_digits (rw same at h.digits) k.digits

-- what a call says of the fractional part of a reduced fraction
abbrev MatchFract : Result Ratio RatioError → FractionAnswer → Type 0
MatchFract p answer = MatchResult p (λ x. (answer.status ≡ 0) × IsRemainder IsTruncated (num_of x) (den_of x) answer.value.num × (answer.value.den ≡ den_of x))
    (λ e. answer ≡ record { status = number_of e; value = record { num = pos 0; den = pos 0 } })

same_fract : (p : Result Ratio RatioError) (x y : FractionAnswer) → MatchFract p x → MatchFract p y
    → (x.status ≡ y.status) × (x.value.num ≡ y.value.num) × (x.value.den ≡ y.value.den)
same_fract (Ok r) x y h k = (h.0 ∙ sym k.0, remainder_is_only.0 _ _ _ k.1 _ h.1, h.2 ∙ sym k.2)
same_fract (Err e) x y h k = grind arith

pub fract_is_only : law.FractIsOnly
fract_is_only a x y (p, made, h) (q, other, k) = same_fract q x y (subst (λ (r : Result Ratio RatioError). MatchFract r x) (answer_is_only _ _ p q made other) h) k

pub stands_for_read_is_only : law.StandsForReadIsOnly
stands_for_read_is_only read s t a b c d h k = grind arith

pub stands_for_decimal_is_only : law.StandsForDecimalIsOnly
stands_for_decimal_is_only (Ok x) s t a b c d (p, made, h) (q, other, k) =
    stands_for_is_only q s t a b c d (subst (λ (r : Result Ratio RatioError). Represents r s a b) (answer_is_only _ _ p q made other) h) k
stands_for_decimal_is_only (Err e) s t a b c d h k = grind arith

pub order_number_is_only : law.OrderNumberIsOnly
order_number_is_only a b same = grind (arith, ints)

-- ---- dates

pub months_later_is_only : law.MonthsLaterIsOnly
months_later_is_only from_year months a_year b_year from_month from_day a_month a_day b_month b_day a b h k =
    let first : Date = record { year = a_year; month = a_month; day_of_month = a_day; valid = a } in
    let second : Date = record { year = b_year; month = b_month; day_of_month = b_day; valid = b } in
    let (year, month) = same_month first second (h.month_is ∙ sym k.month_is) in
    let day = rw (year, month) at h.day_is in
    (year, month, day ∙ sym k.day_is)

-- what a call says of the number of months or of years between two dates
abbrev MatchBetween : (Date → Date → ℤ → Type 0) → ℤ → ℕ → ℕ → ℤ → ℕ → ℕ → Option ℤ → Type 0
MatchBetween Is year month day to_year to_month to_day answer = (from to : Date) × HasParts from year month day × HasParts to to_year to_month to_day
    × MatchOption answer ((number : ℤ) × Is from to number × ¬ (FitsSigned w64 number)) (Is from to)

module _ (Is : Date → Date → ℤ → Type 0) (only : (from to : Date) (m n : ℤ) → Is from to m → Is from to n → m ≡ n) {year to_year : ℤ} {month day to_month to_day : ℕ} where
  same_number : {from to other other_to : Date} (m n : ℤ) → HasParts from year month day → HasParts to to_year to_month to_day
      → HasParts other year month day → HasParts other_to to_year to_month to_day → Is from to m → Is other other_to n → m ≡ n
  same_number {from} {to} {other} {other_to} m n a b c d h k =
      let first = date_of_parts_is_only year month day other from c a in
      let second = date_of_parts_is_only to_year to_month to_day other_to to d b in
      only from to m n h (rw (first, second) at k)

  same_between : (a b : Option ℤ) → IfSome a (FitsSigned w64) → IfSome b (FitsSigned w64)
      → MatchBetween Is year month day to_year to_month to_day a → MatchBetween Is year month day to_year to_month to_day b → a ≡ b
  same_between (Some m) (Some n) p q (from, to, a, b, h) (other, other_to, c, d, k) = ap Some (same_number m n a b c d h k)
  same_between (Some m) None p q (from, to, a, b, h) (other, other_to, c, d, (n, k, far)) = absurd (far (rw (same_number m n a b c d h k) at p))
  same_between None (Some m) p q (from, to, a, b, (n, h, far)) (other, other_to, c, d, k) = absurd (far (rw (same_number m n c d a b k h) at q))
  same_between None None p q h k = refl

pub months_between_is_only : law.MonthsBetweenIsOnly
months_between_is_only _ _ _ _ _ _ a b = same_between IsMonthsBetween whole_months_are_only a b

pub years_between_is_only : law.YearsBetweenIsOnly
years_between_is_only _ _ _ _ _ _ a b = same_between IsYearsBetween whole_years_are_only a b

pub of_iso_number_is_only : (Is : Weekday → Date → Type 0) → law.OfIsoNumberIsOnly Is
of_iso_number_is_only Is weekday year other month day other_month other_day only h k = grind arith

pub day_of_iso_number_is_only : (Is : Weekday → ℤ → Type 0) → law.DayOfIsoNumberIsOnly Is
day_of_iso_number_is_only Is weekday a b only (v, first, h) (w, second, k) =
    only v a b h (subst (λ (x : Weekday). Is x b) (iso_number_is_only w v (second ∙ sym first)) k)

-- the parts of a date that was read
same_read : {text : List ℕ} {a b : Parts} → FitsSigned w64 a.year → FitsSigned w64 b.year → HasText text a → HasText text b
    → (a.year ≡ b.year) × (a.month ≡ b.month) × (a.day_of_month ≡ b.day_of_month)
same_read {text} {a} {b} p q h k =
    let dates = text_is_only h.date k.date (rw h.has_parts.year_is p) (rw k.has_parts.year_is q) (sym h.text_is ∙ k.text_is) in
    let parts = subst (λ (x : Date). HasParts x a.year a.month a.day_of_month) dates h.has_parts in
    (sym parts.year_is ∙ k.has_parts.year_is, sym parts.month_is ∙ k.has_parts.month_is, sym parts.day_is ∙ k.has_parts.day_is)

-- a text with a date is not refused
not_refused : {text : List ℕ} {a b : Parts} {t : ℕ} → FitsSigned w64 a.year → HasText text a
    → ReadsDate text (record { status = suc t; date = b }) → ⊥
not_refused p h k = k.none.0 (k.refusal nonzero).1 h.date (rw h.has_parts.year_is p) h.text_is

pub read_date_is_only : law.ReadDateIsOnly
read_date_is_only text zero zero a b p q h k =
    let (year, month, day) = same_read p q (h.found refl) (k.found refl) in
    (refl, year, month, day)
read_date_is_only text zero (suc t) a b p q h k = absurd (not_refused p (h.found refl) k)
read_date_is_only text (suc s) zero a b p q h k = absurd (not_refused q (k.found refl) h)
read_date_is_only text (suc s) (suc t) a b p q h k = grind arith

-- Quotients rounded down, of numbers and of lists.
use Rattle.std.proofs.Common.{◌≡◌, ◌+◌, ◌-◌, ◌/◌, ◌%◌, ◌<◌, ◌≤◌, ℕ, ℤ, List, arith, inl, inr, int_eq, refl, sym, length, of_z, pos, negsuc, map, get_or, set, slice_index, slice_set, ◌∙◌, ap, FitsSigned, to_z, w64}
use Rattle.std.proofs.lemmas.Int.{ints, to_z-of_z, to_z_pos}
use Rattle.std.proofs.lemmas.List.{get_or-map, get_or-set_other, get_or-set_same, length-map, length-set, map-set}
use Rattle.std.proofs.lemmas.Nat.{mod_below}
use Rattle.std.proofs.Math.Facts.{to_z-neg}
use Rattle.std.proofs.lemmas.Bool.{cases_lt, false≢true}
use Rattle.std.proofs.lemmas.Bool.Decides.{Decides-int_eq}
use Rattle.std.specs.List.{All, IsAnyAnswer}
use Rattle.std.specs.Prelude.{Bool, Decides, false, true, suc, zero, ◌≢◌, ◌↔◌, ◌^◌, ◌≤ℤ◌, ◌<ℤ◌, ◌+ℤ◌, ◌-ℤ◌, ◌*ℤ◌, neg_ℤ, unsigned_abs}
use Rattle.num_integer.proofs.ForCallers.{floored_by_range, from_not_less, linear, mul_neg, other_quotient_fits, products, sizes}
use Rattle.num_integer.specs.Division.{IsFloored, IsQuotient}
use Rattle.num_integer.specs.Range.{EachFits, IsRange}
use Rattle.cellarcove_c.proofs.Complements.{complement_of_bits}
use Rattle.cellarcove_c.specs.Quotients.{AreFloored, QuotientsFit}

pub natural_quotient : (n d : ℕ) → 0 < d → IsQuotient IsFloored (pos n) (pos d) (pos (n / d))
natural_quotient n d up = record {
  remainder = pos (n % d);
  division = floored_by_range (omega (arith, ints)) (omega (arith, ints)) (omega (arith, ints, mod_below n d up));
}

pub negative_quotient : (n d : ℕ) → 0 < d → IsQuotient IsFloored (negsuc n) (pos d) (negsuc (n / d))
negative_quotient n d up =
    let rest = mod_below n d up in
    record {
      remainder = pos (d - 1 - n % d);
      division = floored_by_range (omega (arith, ints, rest)) (omega (arith, ints)) (omega (arith, ints, up));
    }

floored_by_negative_range : {n d q r : ℤ} → n ≡ q *ℤ d +ℤ r → r ≤ℤ pos 0 → d <ℤ r → IsFloored n d q r
floored_by_negative_range equation to_zero above = grind (arith, sizes)

-- by minus d, of a number that is not positive
quotient_to_zero : (n d : ℕ) → 0 < d → IsQuotient IsFloored (neg_ℤ (pos n)) (neg_ℤ (pos d)) (pos (n / d))
quotient_to_zero n d up =
    let equation : neg_ℤ (pos n) ≡ pos (n / d) *ℤ neg_ℤ (pos d) +ℤ neg_ℤ (pos (n % d)) = rw (mul_neg (pos (n / d)) (pos d)) (omega (arith, ints)) in
    record {
      remainder = neg_ℤ (pos (n % d));
      division = floored_by_negative_range equation (omega (arith, ints)) (omega (arith, ints, mod_below n d up));
    }

-- by minus d, of a positive number
quotient_of_positive : (n d : ℕ) → 0 < d → IsQuotient IsFloored (pos (suc n)) (neg_ℤ (pos d)) (negsuc (n / d))
quotient_of_positive n d up =
    let rest = mod_below n d up in
    let equation : pos (suc n) ≡ negsuc (n / d) *ℤ neg_ℤ (pos d) +ℤ (pos (suc (n % d)) -ℤ pos d) = rw (mul_neg (negsuc (n / d)) (pos d)) (omega (arith, ints)) in
    record { remainder = pos (suc (n % d)) -ℤ pos d; division = floored_by_negative_range equation (omega (arith, ints, rest)) (omega (arith, ints)) }

-- the quotient of a number that is complemented before and after it if it is negative
pub complement_quotient : (x m r : ℤ) (q d : ℕ) → 0 < d → FitsSigned w64 x → q ≡ unsigned_abs m / d
    → (pos 0 ≤ℤ x → m ≡ x) → (x <ℤ pos 0 → m ≡ pos 0 -ℤ x -ℤ pos 1)
    → (pos 0 ≤ℤ x → r ≡ to_z w64 q) → (x <ℤ pos 0 → r ≡ pos 0 -ℤ to_z w64 q -ℤ pos 1) → IsQuotient IsFloored x (pos d) r
complement_quotient (pos a) m r q d up fits q_is m_up _ r_up _ =
    let from_zero : pos 0 ≤ℤ pos a = omega (arith, ints) in
    let m_is : m ≡ pos a = m_up from_zero in
    let q_is : q ≡ a / d = rw m_is at q_is in
    let read = to_z_pos w64 q (omega (arith, q_is, fits.sfits)) in
    let r_is : r ≡ pos (a / d) = r_up from_zero ∙ read ∙ ap pos q_is in
    rw r_is (natural_quotient a d up)
complement_quotient (negsuc a) m r q d up fits q_is _ m_down _ r_down =
    let below : negsuc a <ℤ pos 0 = omega (arith, ints) in
    let complement : m ≡ pos 0 -ℤ negsuc a -ℤ pos 1 = m_down below in
    let m_is : m ≡ pos a = omega (arith, ints, complement) in
    let q_is : q ≡ a / d = rw m_is at q_is in
    let read = to_z_pos w64 q (omega (arith, q_is, fits.sfits)) in
    let complement : r ≡ pos 0 -ℤ pos q -ℤ pos 1 = rw read at (r_down below) in
    let r_is : r ≡ negsuc (a / d) = omega (arith, ints, complement, q_is) in
    rw r_is (negative_quotient a d up)

-- ---- by minus d, of the negation of a number

-- the number less 1, modulo 2^64
abbrev before : ℤ → ℤ
before x = to_z w64 ((of_z w64 x + (2 ^ 64 - 1)) % 2 ^ 64)

negated : (n : ℕ) → pos 0 -ℤ negsuc (suc n) -ℤ pos 1 ≡ pos (suc n)
negated n = omega (arith, ints)

-- a quotient that is complemented twice
kept : (r : ℤ) (q n d : ℕ) → FitsSigned w64 r → q < 2 ^ 63 → q ≡ n / d → r ≡ pos 0 -ℤ to_z w64 q -ℤ pos 1
    → to_z w64 (2 ^ 64 - 1 - of_z w64 r) ≡ pos (n / d)
kept r q n d fits small q_is is =
    let is : r ≡ pos 0 -ℤ pos q -ℤ pos 1 = rw (to_z_pos w64 q small) at is in
    complement_of_bits r fits ∙ omega (arith, ints, is, q_is)

-- the bits of the negation, which is 2^63 for -2^63
negation_bits : (n : ℕ) (m : ℤ) → n < 2 ^ 63 → m ≡ pos 0 -ℤ before (negsuc n) -ℤ pos 1 → of_z w64 m ≡ suc n
negation_bits n m small is = elim (cases_lt (suc n) (2 ^ 63)) [
  | inl above ↦
      let bits : (2 ^ 64 - suc n + (2 ^ 64 - 1)) % 2 ^ 64 ≡ 2 ^ 64 - suc (suc n) = omega (arith, above) in
      let is : m ≡ pos 0 -ℤ negsuc (suc n) -ℤ pos 1 = rw (bits, to_z-neg w64 (suc n) above) at is in
      ap (of_z w64) (is ∙ negated n)
  | inr beyond ↦
      let least : n ≡ 2 ^ 63 - 1 = omega (arith, small, beyond) in
      let is : m ≡ negsuc (2 ^ 63 - 1) = rw least at is in
      rw (is, least) refl
]

pub negation_quotient : (x s m r : ℤ) (n q d : ℕ) → 0 < d → FitsSigned w64 x → FitsSigned w64 r → q < 2 ^ 63 → (s <ℤ pos 0) ↔ (x ≤ℤ pos 0)
    → (pos 0 ≤ℤ s → m ≡ before x) → (s <ℤ pos 0 → m ≡ pos 0 -ℤ before x -ℤ pos 1) → n ≡ of_z w64 m → q ≡ n / d
    → (pos 0 ≤ℤ s → r ≡ to_z w64 q) → (s <ℤ pos 0 → r ≡ pos 0 -ℤ to_z w64 q -ℤ pos 1)
    → IsQuotient IsFloored x (neg_ℤ (pos d)) (to_z w64 (2 ^ 64 - 1 - of_z w64 r))
negation_quotient (pos zero) s m r n q d up x_fits r_fits small sign _ m_down n_is q_is _ r_down =
    let below = sign.1 (omega (arith, ints)) in
    let none : n ≡ 0 = n_is ∙ ap (of_z w64) (m_down below) in
    rw (kept r q 0 d r_fits small (q_is ∙ ap (λ (v : ℕ). v / d) none) (r_down below)) (quotient_to_zero 0 d up)
negation_quotient (pos (suc k)) s m r n q d up x_fits r_fits small sign m_up _ n_is q_is r_up _ =
    let from_zero : pos 0 ≤ℤ s = from_not_less (λ below. omega (arith, ints, sign.0 below)) in
    let bits : (suc k + (2 ^ 64 - 1)) % 2 ^ 64 ≡ k = omega (arith, x_fits.sfits) in
    let m_is : m ≡ pos k = rw (bits, to_z_pos w64 k (omega (arith, x_fits.sfits))) at (m_up from_zero) in
    let q_is : q ≡ k / d = q_is ∙ ap (λ (v : ℕ). v / d) (n_is ∙ ap (of_z w64) m_is) in
    let r_is : r ≡ pos q = r_up from_zero ∙ to_z_pos w64 q small in
    let is : to_z w64 (2 ^ 64 - 1 - of_z w64 r) ≡ negsuc (k / d) = complement_of_bits r r_fits ∙ omega (arith, ints, r_is, q_is) in
    rw is (quotient_of_positive k d up)
negation_quotient (negsuc k) s m r n q d up x_fits r_fits small sign _ m_down n_is q_is _ r_down =
    let below = sign.1 (omega (arith, ints)) in
    let size : n ≡ suc k = n_is ∙ negation_bits k m x_fits.sfits (m_down below) in
    rw (kept r q (suc k) d r_fits small (q_is ∙ ap (λ (v : ℕ). v / d) size) (r_down below)) (quotient_to_zero (suc k) d up)

-- ---- what fits

i64_between : (z : ℤ) → FitsSigned w64 z ↔ ((negsuc (2 ^ 63 - 1) ≤ℤ z) × (z ≤ℤ pos (2 ^ 63 - 1)))
i64_between (pos n) = (λ f. (omega (arith, ints, f.sfits), omega (arith, ints, f.sfits)), λ h. record { sfits = omega (arith, ints, h.0, h.1) })
i64_between (negsuc n) = (λ f. (omega (arith, ints, f.sfits), omega (arith, ints, f.sfits)), λ h. record { sfits = omega (arith, ints, h.0, h.1) })

i64_range : IsRange (FitsSigned w64) (negsuc (2 ^ 63 - 1)) (pos (2 ^ 63 - 1))
i64_range = record {
  between = i64_between;
  low_end = inr (inr (omega (arith, ints)));
  positive = omega (arith, ints);
  bounded = omega (arith, ints);
  bounded_below = inr (omega (arith, ints));
}

fits_by_other : {x d z : ℤ} → FitsSigned w64 x → FitsSigned w64 d → d ≢ negsuc 0 → IsQuotient IsFloored x d z → FitsSigned w64 z
fits_by_other x_fits d_fits other h = other_quotient_fits i64_range x_fits d_fits other h.division.division

-- those of a list
pub fit_by_other : (numbers : List ℤ) {d : ℤ} → All (FitsSigned w64) numbers → FitsSigned w64 d → d ≢ negsuc 0 → QuotientsFit d numbers
fit_by_other numbers each d_fits other k within z h = fits_by_other (each k (pos 0) within) d_fits other h

fits_by_minus_one : {x z : ℤ} → FitsSigned w64 x → x ≢ negsuc (2 ^ 63 - 1) → IsQuotient IsFloored x (negsuc 0) z → FitsSigned w64 z
fits_by_minus_one {x} {z} x_fits other h =
    let is : z ≡ neg_ℤ x = omega (arith, products, sizes, h.division.division.equation, h.division.division.small) in
    let range = (i64_between x).0 x_fits in
    (i64_between z).1 (omega (arith, linear, is, range.1, range.0, other), omega (arith, linear, is, range.0, range.1, other))

pub by_minus_one : (x : ℤ) → IsQuotient IsFloored x (negsuc 0) (pos 0 -ℤ x)
by_minus_one x = record {
  remainder = pos 0;
  division = floored_by_negative_range (omega (arith, linear, products)) (omega (arith, ints)) (omega (arith, ints));
}

least_by_minus_one : ¬ (EachFits (FitsSigned w64) (IsQuotient IsFloored (negsuc (2 ^ 63 - 1)) (negsuc 0)))
least_by_minus_one fits =
    let beyond = fits (pos (2 ^ 63)) (record { remainder = pos 0; division = floored_by_negative_range (omega (arith, ints, products)) (omega (arith, ints)) (omega (arith, ints)) }) in
    omega (arith, beyond.sfits)

-- the list contains -2^63
contains_least : (numbers : List ℤ) (r : Bool) → IsAnyAnswer (λ y b. int_eq y (negsuc (2 ^ 63 - 1)) ≡ b) numbers r
    → Decides r ((k : ℕ) × (k < length numbers) × (get_or numbers k (pos 0) ≡ negsuc (2 ^ 63 - 1)))
contains_least numbers true (k, within, holds) = (λ _. (k, within, (Decides-int_eq _ _).0 (holds (pos 0))), λ _. refl)
contains_least numbers false none = (
  λ e. absurd (false≢true e),
  λ (k, within, is). absurd (false≢true (sym (none k (pos 0) (omega arith) within) ∙ (Decides-int_eq _ _).1 is)),
)

-- so their quotients by -1 fit exactly if it does not
pub fit_without_least : (numbers : List ℤ) (r : Bool) → All (FitsSigned w64) numbers
    → IsAnyAnswer (λ y b. int_eq y (negsuc (2 ^ 63 - 1)) ≡ b) numbers r → (r ≡ false) ↔ QuotientsFit (negsuc 0) numbers
fit_without_least numbers true each answer =
    let found = (contains_least numbers true answer).0 refl in
    (λ e. absurd (false≢true (sym e)), λ fit. absurd (least_by_minus_one (rw found.2 at (fit found.0 found.1))))
fit_without_least numbers false each answer = (
  λ _ k within z h. fits_by_minus_one (each k (pos 0) within) (λ is. false≢true ((contains_least numbers false answer).1 (k, within, is))) h,
  λ _. refl,
)

pub minus_one_bits : (d : ℤ) → FitsSigned w64 d → of_z w64 d ≡ 2 ^ 64 - 1 → d ≡ negsuc 0
minus_one_bits (pos n) fits is = absurd (omega (arith, is, fits.sfits))
minus_one_bits (negsuc n) fits is = omega (arith, ints, is, fits.sfits)

-- ---- lists

-- the first i numbers are divided
pub record AreFlooredTo (d : ℤ) (i : ℕ) (numbers quotients : List ℤ) : Type 0 where
  pub one_each : length quotients ≡ length numbers
  pub each : (k : ℕ) → k < i → IsQuotient IsFloored (get_or numbers k (pos 0)) d (get_or quotients k (pos 0))

pub none_floored : {d : ℤ} {numbers quotients : List ℤ} → length quotients ≡ length numbers → AreFlooredTo d 0 numbers quotients
none_floored same = grind arith

pub one_more_floored : {d : ℤ} {i : ℕ} {numbers quotients : List ℤ} (q : ℤ) → i < length numbers
    → IsQuotient IsFloored (get_or numbers i (pos 0)) d q → AreFlooredTo d i numbers quotients
    → AreFlooredTo d (i + 1) numbers (set quotients i q)
one_more_floored {d} {i} {numbers} {quotients} q within is h =
    record {
      one_each = length-set quotients i q ∙ h.one_each;
      each = λ k upto. grind (arith, get_or-set_other quotients i k q (pos 0), get_or-set_same quotients i q (pos 0) (omega (arith, within, h.one_each)), h.each k, is);
    }

-- the same of numbers and a quotient as the type holds them
pub one_more_signed : {d : ℤ} {i : ℕ} {numbers quotients : List ℤ} (q : ℤ)
    → FitsSigned w64 (get_or numbers i (pos 0)) → FitsSigned w64 q → i < length numbers
    → IsQuotient IsFloored (to_z w64 (of_z w64 (get_or numbers i (pos 0)))) d q → AreFlooredTo d i numbers quotients
    → AreFlooredTo d (i + 1) numbers (set quotients i (to_z w64 (of_z w64 q)))
one_more_signed {d} {i} {numbers} q number_fits q_fits within is h =
    rw (to_z-of_z w64 q q_fits) (one_more_floored q within (rw (to_z-of_z w64 (get_or numbers i (pos 0)) number_fits) at is) h)

pub all_floored : {d : ℤ} {i : ℕ} {numbers quotients : List ℤ} → length numbers ≤ i
    → AreFlooredTo d i numbers quotients → AreFloored d numbers quotients
all_floored end h = record { one_each = h.one_each; each = λ k within. h.each k (omega (arith, within, end)) }

-- natural numbers as integers
abbrev integers : List ℕ → List ℤ
integers numbers = map (λ x. pos x) numbers

pub one_more_natural : (d i : ℕ) (numbers quotients : List ℕ) (q : ℕ) → 0 < d → i < length numbers
    → q ≡ slice_index numbers i / d → AreFlooredTo (pos d) i (integers numbers) (integers quotients)
    → AreFlooredTo (pos d) (i + 1) (integers numbers) (integers (slice_set quotients i q))
one_more_natural d i numbers quotients q up within is h =
    let written : integers (slice_set quotients i q) ≡ set (integers quotients) i (pos q) = map-set (λ (x : ℕ). pos x) quotients i q in
    let number : get_or (integers numbers) i (pos 0) ≡ pos (get_or numbers i 0) = get_or-map (λ (x : ℕ). pos x) numbers i 0 (pos 0) within in
    let room : i < length (integers numbers) = rw (length-map numbers (λ (x : ℕ). pos x)) within in
    let quotient : IsQuotient IsFloored (get_or (integers numbers) i (pos 0)) (pos d) (pos q) = rw (number, is) (natural_quotient (get_or numbers i 0) d up) in
    rw written (one_more_floored (pos q) room quotient h)

-- The rows of the extended Euclidean algorithm after some iterations of its loop, how large their coefficients grow, and that they fit.
use Rattle.integer_core.proofs.Common.{◌≡◌, ◌≢◌, ◌⊎◌, ◌<◌, ◌≤◌, ◌+◌, ◌+ℤ◌, ◌-ℤ◌, ◌*ℤ◌, ◌*◌, ◌^◌, ◌≤ℤ◌, EuclidEnds, IsEuclidIteration, IsSmallPair, HasPair, sign, ℤ, ℕ, pos, zero, suc, unsigned_abs, arith, refl, inl, inr, ints, abs_is, linear, expand, IsTruncated, Divides, IsGreatestCommonDivisor, ap, mul-le-mul_left, unsigned_abs-mul, products, negsuc, ◌∙◌, zero-*ℤ, +ℤ_idr, IsRange}
use Rattle.integer_core.proofs.Divisibility.{rest_is, divides_or_not, divisor_size, gcd_divisor, gcd-remainder, truncated_is, zero_or_not, small_multiple}
use Rattle.integer_core.proofs.EuclidIterations.{inexact, truncated_size, twice, not_one, few_iterations}
use Rattle.integer_core.proofs.Ranges.{no_minus_one}
use Rattle.integer_core.proofs.Runs.{Reaches, reaches_first, reaches_iteration, reaches_last}

-- x and previous_x are one operand's coefficients in the rows of these remainders, and m is the other operand: times the other row's
-- remainder they add up to m in magnitude, and have opposite signs
pub record IsWeighed (m current previous x previous_x : ℤ) : Type 0 where
  pub total : unsigned_abs (x *ℤ previous) + unsigned_abs (previous_x *ℤ current) ≡ unsigned_abs m
  pub opposite : unsigned_abs (x *ℤ previous -ℤ previous_x *ℤ current) ≡ unsigned_abs m

module _ {m current previous x previous_x q r : ℤ} (weighed : IsWeighed m current previous x previous_x)
    (row : IsTruncated previous current q r) where
  -- the coefficient times the previous remainder has two parts
  parts : x *ℤ previous ≡ (q *ℤ x) *ℤ current +ℤ x *ℤ r
  parts = grind (arith, expand)

  -- of one sign
  sizes : unsigned_abs (x *ℤ previous) ≡ unsigned_abs ((q *ℤ x) *ℤ current) + unsigned_abs (x *ℤ r)
  sizes = simp unsigned_abs-mul (omega (arith, ap (λ (n : ℕ). unsigned_abs x * n) (truncated_size row)))

  pub weighed_iteration : IsWeighed m r current (previous_x -ℤ q *ℤ x) x
  weighed_iteration = grind (arith, expand, linear, abs_is, parts, sizes)

  -- an iteration's coefficient, and the product in it, are at most half of m
  pub halves : 2 ≤ unsigned_abs current
      → (2 * unsigned_abs (q *ℤ x) ≤ unsigned_abs m) × (2 * unsigned_abs (previous_x -ℤ q *ℤ x) ≤ unsigned_abs m)
  halves two = (half (q *ℤ x) (omega (arith, sizes, weighed.total)), half (previous_x -ℤ q *ℤ x) (omega (arith, weighed_iteration.total)))
    where
      half : (z : ℤ) → unsigned_abs (z *ℤ current) ≤ unsigned_abs m → 2 * unsigned_abs z ≤ unsigned_abs m
      half z small = omega (arith, unsigned_abs-mul z current, mul-le-mul_left (unsigned_abs z) two)

-- at the end, when the current remainder divides the previous one, so is the coefficient times it
pub last_half : {m current previous x previous_x : ℤ} → IsWeighed m current previous x previous_x → Divides current previous
    → unsigned_abs current < unsigned_abs previous → 2 * unsigned_abs x * unsigned_abs current ≤ unsigned_abs m
last_half {previous = previous} {x = x} h ends less =
    omega (arith, h.total, unsigned_abs-mul x previous, mul-le-mul_left (unsigned_abs x) (twice ends less))

-- ---- the rows

-- a row of the code, in integers
pub record Row : Type 0 where
  pub remainder : ℤ
  pub x : ℤ
  pub y : ℤ

abbrev pub of_first : ℤ → Row
of_first a = record { remainder = a; x = pos 1; y = pos 0 }

abbrev pub of_second : ℤ → Row
of_second b = record { remainder = b; x = pos 0; y = pos 1 }

-- the row that an iteration with the quotient q and the remainder r makes
abbrev pub next_row : Row → Row → ℤ → ℤ → Row
next_row current previous q r = record { remainder = r; x = previous.x -ℤ q *ℤ current.x; y = previous.y -ℤ q *ℤ current.y }

-- what the loop keeps: both rows meet the equation, the operands have the gcd of the remainders, and after the first iteration the remainders fall
pub record Rows (a b : ℤ) (current previous : Row) (t : ℕ) : Type 0 where
  pub nonzero : current.remainder ≢ pos 0
  pub equation : current.x *ℤ a +ℤ current.y *ℤ b ≡ current.remainder
  pub previous_equation : previous.x *ℤ a +ℤ previous.y *ℤ b ≡ previous.remainder
  pub x_weighed : IsWeighed b current.remainder previous.remainder current.x previous.x
  pub y_weighed : IsWeighed a current.remainder previous.remainder current.y previous.y
  pub greatest : (g : ℤ) → IsGreatestCommonDivisor previous.remainder current.remainder g → IsGreatestCommonDivisor a b g
  pub start : ((current ≡ of_second b) × (previous ≡ of_first a))
      ⊎ ((¬ (Divides b a)) × (unsigned_abs current.remainder < unsigned_abs previous.remainder))
  pub run : Reaches IsEuclidIteration EuclidEnds (record { current = b; previous = a })
      (record { current = current.remainder; previous = previous.remainder }) t

pub rows_first : (a b : ℤ) → b ≢ pos 0 → Rows a b (of_second b) (of_first a) 0
rows_first a b nonzero = record {
  nonzero = nonzero;
  equation = omega (arith, ints);
  previous_equation = omega (arith, ints);
  x_weighed = record { total = omega (arith, products, abs_is); opposite = omega (arith, products, abs_is) };
  y_weighed = record { total = omega (arith, products, abs_is); opposite = omega (arith, products, abs_is) };
  greatest = λ g h. h;
  start = inl (refl, refl);
  run = reaches_first;
}

module _ {a b : ℤ} {current previous : Row} {t : ℕ} (h : Rows a b current previous t) where
  pub rows_iteration : {q r : ℤ} → ¬ (Divides current.remainder previous.remainder) → IsTruncated previous.remainder current.remainder q r
      → Rows a b (next_row current previous q r) current (t + 1)
  rows_iteration {q} {r} goes_on row = record {
    nonzero = inexact row goes_on;
    equation = rw (rest_is row.division, ← h.equation, ← h.previous_equation) (simp expand (omega (arith, linear)));
    previous_equation = h.equation;
    x_weighed = weighed_iteration h.x_weighed row;
    y_weighed = weighed_iteration h.y_weighed row;
    greatest = λ g k. h.greatest g (gcd-remainder row.division k);
    start = inr (elim h.start [ inl first ↦ (λ divides. goes_on (rw (first.0, first.1) divides)) | inr later ↦ later.0 ], row.division.small);
    run = reaches_iteration h.run (record {
      goes_on = goes_on;
      quotient = q;
      truncated = record { remainder = r; division = row };
      current = rest_is row.division;
      previous = refl;
    });
  }

  -- at the end, when the current remainder divides the previous one
  pub last_gcd : Divides current.remainder previous.remainder → IsGreatestCommonDivisor a b (pos (unsigned_abs current.remainder))
  last_gcd ends = h.greatest _ (gcd_divisor ends)

  pub last_at_once : Divides b a → (current.remainder ≡ b) × (current.x ≡ pos 0) × (current.y ≡ pos 1)
  last_at_once divides = elim h.start [ inl first ↦ rw first.0 (refl, refl, refl) | inr later ↦ absurd (later.0 divides) ]

  pub last_after_iterations : Divides current.remainder previous.remainder → ¬ (Divides b a) → IsSmallPair a b current.remainder current.x current.y
  last_after_iterations ends not_second = elim h.start [
    | inl first ↦ absurd (not_second (rw (first.0, first.1) at ends))
    | inr later ↦ record { equation = h.equation; x_small = last_half h.x_weighed ends later.1; y_small = last_half h.y_weighed ends later.1 }
  ]

-- the rows at which the loop ends
pub record LastRows (a b : ℤ) : Type 0 where
  pub current : Row
  pub previous : Row
  pub iterations : ℕ
  pub rows : Rows a b current previous iterations
  pub ends : Divides current.remainder previous.remainder

-- it ends, after t iterations or more
pub last_rows : {a b : ℤ} {current previous : Row} {t : ℕ} → Rows a b current previous t → (last : LastRows a b) × (t ≤ last.iterations)
last_rows {a} {b} {current} h = below (unsigned_abs current.remainder) h (omega arith)
  where
    below : (size : ℕ) {current previous : Row} {t : ℕ} → Rows a b current previous t → unsigned_abs current.remainder ≤ size
        → (last : LastRows a b) × (t ≤ last.iterations)
    below zero h small = let nonzero = h.nonzero in absurd (omega (arith, linear, abs_is))
    below (suc size) {current} {previous} {t} h small = elim (divides_or_not current.remainder previous.remainder h.nonzero) [
      | inl ends ↦ (record { current = current; previous = previous; iterations = t; rows = h; ends = ends }, omega arith)
      | inr goes_on ↦
          let row = truncated_is previous.remainder current.remainder h.nonzero in
          let last = below size (rows_iteration h goes_on row) (omega arith) in
          (last.0, omega (arith, last.1))
    ]

-- ---- the rows stay in the range of their type, and are few

-- a coefficient fits, and so does its negation if the type has negative numbers
pub record IsCoefficient (fits : ℤ → Type 0) (high z : ℤ) : Type 0 where
  pub in_range : fits z
  pub small : unsigned_abs z ≤ unsigned_abs high

pub record CoefficientsFit (fits : ℤ → Type 0) (high : ℤ) (row : Row) : Type 0 where
  pub remainder : fits row.remainder
  pub x : IsCoefficient fits high row.x
  pub y : IsCoefficient fits high row.y

module _ {fits : ℤ → Type 0} {low high : ℤ} (range : IsRange fits low high) where
  coefficient : {z : ℤ} → (low ≢ pos 0) ⊎ (pos 0 ≤ℤ z) → unsigned_abs z ≤ unsigned_abs high → IsCoefficient fits high z
  coefficient {z} signs small =
      record { in_range = (range.between z).1 (omega (arith, linear, abs_is, range.low_end, range.positive)); small = small }

  zero_or_one_fits : {z : ℤ} → (z ≡ pos 0) ⊎ (z ≡ pos 1) → IsCoefficient fits high z
  zero_or_one_fits is = coefficient (inr (omega (arith, linear))) (omega (arith, linear, abs_is, range.positive))

  pub first_fits : {a : ℤ} → fits a → CoefficientsFit fits high (of_first a)
  first_fits a_fits = record { remainder = a_fits; x = zero_or_one_fits (inr refl); y = zero_or_one_fits (inl refl) }

  -- at most half of a number, if the type has negative numbers
  half_fits : {n z : ℤ} → low ≢ pos 0 → fits n → 2 * unsigned_abs z ≤ unsigned_abs n → IsCoefficient fits high z
  half_fits {n} signed n_fits half =
      coefficient (inl signed) (omega (arith, linear, abs_is, range.low_end, range.positive, (range.between n).0 n_fits))

  -- a coefficient under the sign of a number of the type
  pub sign_fits : {r z : ℤ} → fits r → IsCoefficient fits high z → fits (sign r *ℤ z)
  sign_fits {r = pos n} {z = z} r_fits h = let same : pos 1 *ℤ z ≡ z = omega (arith, products) in rw same h.in_range
  sign_fits {r = negsuc n} r_fits h =
      (coefficient (inl (omega (arith, linear, (range.between (negsuc n)).0 r_fits))) (omega (arith, products, abs_is, h.small))).in_range

-- what the loop keeps of the rows and their range
pub record RowsFit (fits : ℤ → Type 0) (low high a b : ℤ) (current previous : Row) (t : ℕ) : Type 0 where
  pub range : IsRange fits low high
  pub a_fits : fits a
  pub b_fits : fits b
  pub rows : Rows a b current previous t
  pub current_fits : CoefficientsFit fits high current
  pub previous_fits : CoefficientsFit fits high previous
  pub pair : HasPair fits previous.remainder current.remainder

pub rows_fit_first : {fits : ℤ → Type 0} {low high a b : ℤ} → IsRange fits low high → fits a → fits b → b ≢ pos 0 → HasPair fits a b
    → RowsFit fits low high a b (of_second b) (of_first a) 0
rows_fit_first {a = a} {b = b} range a_fits b_fits nonzero pair = record {
  range = range;
  a_fits = a_fits;
  b_fits = b_fits;
  rows = rows_first a b nonzero;
  current_fits = record { remainder = b_fits; x = zero_or_one_fits range (inl refl); y = zero_or_one_fits range (inr refl) };
  previous_fits = first_fits range a_fits;
  pair = pair;
}

-- what an iteration computes for the coefficient after x
pub record StepFits (fits : ℤ → Type 0) (high q x previous_x : ℤ) : Type 0 where
  pub product : fits (q *ℤ x)
  pub next : IsCoefficient fits high (previous_x -ℤ q *ℤ x)

module _ {fits : ℤ → Type 0} {low high a b q r : ℤ} {current previous : Row} {t : ℕ} (h : RowsFit fits low high a b current previous t)
    (goes_on : ¬ (Divides current.remainder previous.remainder)) (row : IsTruncated previous.remainder current.remainder q r) where
  -- in a type without negatives one remainder divides the other, so an iteration only exchanges them
  no_quotient : ¬ (fits (negsuc 0)) → q ≡ pos 0
  no_quotient unsigned = elim (h.pair unsigned) [
    | inl divides ↦
        let left = inexact row goes_on in
        let most = divisor_size divides h.rows.nonzero in
        small_multiple q current.remainder (omega (arith, linear, abs_is, unsigned_abs-mul q current.remainder, truncated_size row))
    | inr divides ↦ absurd (goes_on divides)
  ]

  row_step_fits : {m x previous_x : ℤ} → fits m → IsWeighed m current.remainder previous.remainder x previous_x
      → IsCoefficient fits high previous_x → StepFits fits high q x previous_x
  row_step_fits m_fits weighed previous_fits = elim (zero_or_not low) [
    | inl unsigned ↦
        let none = no_quotient (no_minus_one h.range unsigned) in
        record { product = rw (none, zero-*ℤ) (zero_or_one_fits h.range (inl refl)).in_range; next = rw (none, zero-*ℤ, +ℤ_idr) previous_fits }
    | inr signed ↦
        let half = halves weighed row (not_one goes_on h.rows.nonzero) in
        record { product = (half_fits h.range signed m_fits half.0).in_range; next = half_fits h.range signed m_fits half.1 }
  ]

  pub iteration_fits : StepFits fits high q current.x previous.x × StepFits fits high q current.y previous.y
  iteration_fits = (row_step_fits h.b_fits h.rows.x_weighed h.previous_fits.x, row_step_fits h.a_fits h.rows.y_weighed h.previous_fits.y)

  pub rows_fit_iteration : fits r → RowsFit fits low high a b (next_row current previous q r) current (t + 1)
  rows_fit_iteration r_fits = record {
    range = h.range;
    a_fits = h.a_fits;
    b_fits = h.b_fits;
    rows = rows_iteration h.rows goes_on row;
    current_fits = record { remainder = r_fits; x = iteration_fits.0.next; y = iteration_fits.1.next };
    previous_fits = h.current_fits;
    pair = λ unsigned. rw (same unsigned) (elim (h.pair unsigned) [ inl divides ↦ inr divides | inr divides ↦ inl divides ]);
  }
    where
      same : ¬ (fits (negsuc 0)) → r ≡ previous.remainder
      same unsigned = rest_is row.division ∙ simp (no_quotient unsigned, zero-*ℤ, +ℤ_idr)

-- the iterations are few, and fit their counter
pub rows_few : {fits : ℤ → Type 0} {low high a b : ℤ} {current previous : Row} {t : ℕ} → b ≢ pos 0
    → RowsFit fits low high a b current previous t → t < 258
rows_few {b = b} nonzero h =
    let last = last_rows h.rows in
    let small : unsigned_abs b < 2 ^ 129 = omega (arith, linear, abs_is, h.range.low_end, h.range.positive, h.range.bounded, (h.range.between b).0 h.b_fits) in
    omega (arith, last.1, few_iterations 129 nonzero (reaches_last last.0.rows.run last.0.ends) small)

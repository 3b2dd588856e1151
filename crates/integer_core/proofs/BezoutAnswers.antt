-- Bezout's coefficients: one pair alone is small, a row of the loop gives the answer, and each pair of numbers has one answer.
use Rattle.integer_core.proofs.Common.{◌≡◌, ◌≢◌, ◌<◌, ◌*ℤ◌, ◌⊎◌, ◌≤◌, ◌+◌, ◌*◌, ◌-ℤ◌, IsBezoutAnswer, IsSmallPair, NeedsBoth, SecondDividesFirst, sign, FirstDividesSecond, ℤ, pos, unsigned_abs, arith, inl, inr, sym, ◌∙◌, ap, zero-*ℤ, *ℤ-zero, +ℤ_idl, +ℤ_idr, ints, unsigned_abs-mul, abs_is, linear, products, expand, comm, Divides, IsGreatestCommonDivisor, IsOnly, refl, mul-le-mul_left, eq_of_mul-eq-mul_left, lt_of_mul-lt-mul_right, cases_lt}
use Rattle.integer_core.proofs.Divisibility.{Divides_zero, cancel, divides_decided, divides_or_not, only_gcd, gcd_divisor, gcd_swap, gcd_nonzero, gcd_zero, small_multiple, zero_or_not, mul-one}
use Rattle.integer_core.proofs.Rows.{rows_first, last_rows, last_gcd, last_at_once, last_after_iterations}

small_pair_swapped : {a b g x y : ℤ} → IsSmallPair a b g x y → IsSmallPair b a g y x
small_pair_swapped h = record { equation = let e = h.equation in omega (arith, linear); x_small = h.y_small; y_small = h.x_small }

-- by Cramer's rule the pairs' determinant times b is g times what the first coefficients differ by
cramer : {a b g x y z w : ℤ} → IsSmallPair a b g x y → IsSmallPair a b g z w → (x *ℤ w -ℤ y *ℤ z) *ℤ b ≡ g *ℤ (x -ℤ z)
cramer {x = x} {z = z} h i =
    simp expand (omega (arith, linear, simp expand at (ap (λ (t : ℤ). x *ℤ t) i.equation), simp expand at (ap (λ (t : ℤ). z *ℤ t) h.equation)))

-- the determinant k of two small pairs is 0, 1 or -1, and says how their first coefficients x and z differ
record IsDeterminant (b x z k : ℤ) : Type 0 where
  at_most_one : b ≢ pos 0 → unsigned_abs k ≤ 1
  of_zero : unsigned_abs k ≡ 0 → x ≡ z
  of_one : unsigned_abs k ≡ 1 → unsigned_abs x ≡ unsigned_abs z

determinant : {a b g x y z w : ℤ} → g ≢ pos 0 → IsSmallPair a b g x y → IsSmallPair a b g z w → IsDeterminant b x z (x *ℤ w -ℤ y *ℤ z)
determinant {a} {b} {g} {x} {y} {z} {w} nonzero h i =
    let k = x *ℤ w -ℤ y *ℤ z in
    let product = sym (unsigned_abs-mul k b) ∙ ap unsigned_abs (cramer h i) ∙ unsigned_abs-mul g (x -ℤ z) in
    let positive : 0 < unsigned_abs g = omega (arith, linear, abs_is) in
    let gap : unsigned_abs (x -ℤ z) ≤ unsigned_abs x + unsigned_abs z = omega (arith, linear, abs_is) in
    let most = mul-le-mul_left (unsigned_abs g) gap in
    record {
      at_most_one = λ b_nonzero.
          let less : unsigned_abs k * unsigned_abs b < 2 * unsigned_abs b = omega (arith, linear, abs_is, h.x_small, i.x_small) in
          omega (arith, lt_of_mul-lt-mul_right (unsigned_abs b) less);
      of_zero = λ none.
          let no_gap = eq_of_mul-eq-mul_left (unsigned_abs g) positive (unsigned_abs (x -ℤ z)) 0 (omega (arith, rw none at product)) in
          omega (arith, linear, abs_is);
      of_one = λ one.
          let whole = rw one at product in
          eq_of_mul-eq-mul_left (unsigned_abs g) positive (unsigned_abs x) (unsigned_abs z) (omega (arith, h.x_small, i.x_small));
    }

pub only_small : {a b g x y : ℤ} → b ≢ pos 0 → g ≢ pos 0 → IsSmallPair a b g x y → IsOnly (λ (z, w). IsSmallPair a b g z w) (x, y)
only_small {a} {b} {g} {x} {y} b_nonzero g_nonzero h (z, w) i =
    let first = determinant g_nonzero h i in
    let second = determinant g_nonzero (small_pair_swapped h) (small_pair_swapped i) in
    let opposite : unsigned_abs (y *ℤ z -ℤ x *ℤ w) ≡ unsigned_abs (x *ℤ w -ℤ y *ℤ z) = omega (arith, linear, abs_is) in
    elim (cases_lt 0 (unsigned_abs (x *ℤ w -ℤ y *ℤ z))) [
      | inl more ↦
          let one : unsigned_abs (x *ℤ w -ℤ y *ℤ z) ≡ 1 = omega (arith, first.at_most_one b_nonzero) in
          let same : unsigned_abs (x *ℤ w) ≡ unsigned_abs (y *ℤ z) =
          simp (unsigned_abs-mul, first.of_one one, second.of_one (opposite ∙ one)) (omega arith) in
          -- two numbers of one magnitude differ by an even number
          absurd (omega (arith, linear, abs_is))
      | inr none ↦ rw (first.of_zero (omega arith), second.of_zero (omega (arith, opposite))) refl
    ]

-- ---- a row r, x, y under the sign of r

pub sign_size : (r : ℤ) → sign r *ℤ r ≡ pos (unsigned_abs r)
sign_size r = grind (arith, ints, sign)

pub sign_keeps : (r z : ℤ) → unsigned_abs (sign r *ℤ z) ≡ unsigned_abs z
sign_keeps r z = grind (arith, products, abs_is, sign)

small_signed : {a b r x y : ℤ} → IsSmallPair a b r x y → IsSmallPair a b (sign r *ℤ r) (sign r *ℤ x) (sign r *ℤ y)
small_signed {r = r} {x = x} {y = y} h = grind (arith, expand, linear, sign_keeps)

-- a small pair leaves out the operand that the other divides
small_alone : {a b g x y : ℤ} → IsGreatestCommonDivisor a b g → Divides a b → a ≢ pos 0 → IsSmallPair a b g x y → (x ≡ sign a) × (y ≡ pos 0)
small_alone {a} {b} {g} {x} {y} greatest divides nonzero h =
    let is : g ≡ pos (unsigned_abs a) = only_gcd greatest (gcd_swap (gcd_divisor divides)) in
    let none = small_multiple y a (omega (arith, linear, abs_is, unsigned_abs-mul y a, rw is at h.y_small)) in
    let size : x *ℤ a ≡ pos (unsigned_abs a) = omega (arith, products, rw (none, is) at h.equation) in
    (cancel a x (sign a) nonzero (comm a x ∙ size ∙ sym (sign_size a) ∙ comm (sign a) a), none)

-- ---- the answer

-- if b is 0
pub answer_for_zero : {a b : ℤ} → b ≡ pos 0 → IsBezoutAnswer a b (sign a *ℤ a) (sign a *ℤ pos 1) (sign a *ℤ pos 0)
answer_for_zero {a} {b} none = record {
  greatest = rw (sign_size a, none) (gcd_zero a);
  equation = simp (mul-one, *ℤ-zero, zero-*ℤ, +ℤ_idr);
  second_divides = λ second. absurd (second.nonzero none);
  first_divides = λ _. λ _. (mul-one (sign a), *ℤ-zero (sign a));
  both = λ needs. absurd (needs.not_first (inl none));
}

-- from what the loop's last row is
pub answer_of_loop : {a b r x y : ℤ} → b ≢ pos 0 → IsGreatestCommonDivisor a b (pos (unsigned_abs r))
    → (Divides b a → (r ≡ b) × (x ≡ pos 0) × (y ≡ pos 1)) → (¬ (Divides b a) → IsSmallPair a b r x y)
    → IsBezoutAnswer a b (sign r *ℤ r) (sign r *ℤ x) (sign r *ℤ y)
answer_of_loop {a} {b} {r} nonzero greatest at_once after_iterations =
    let is : IsGreatestCommonDivisor a b (sign r *ℤ r) = rw (sign_size r) greatest in
    let small = λ (not_second : ¬ (SecondDividesFirst a b)).
    small_signed (after_iterations (λ divides. not_second (record { nonzero = nonzero; divides = divides }))) in
    record {
      greatest = is;
      equation = elim (divides_or_not b a nonzero) [
        | inl divides ↦ let row = at_once divides in rw (row.0, row.1, row.2) (simp (mul-one, *ℤ-zero, zero-*ℤ, +ℤ_idl))
        | inr not_second ↦ (small_signed (after_iterations not_second)).equation
      ];
      second_divides = λ second. let row = at_once second.divides in rw (row.0, row.1, row.2) (*ℤ-zero (sign b), mul-one (sign b));
      first_divides = λ not_second. elim [
        | inl none ↦ absurd (nonzero none)
        | inr divides ↦
            let of_zero = λ (none : a ≡ pos 0). not_second (record { nonzero = nonzero; divides = rw none (Divides_zero b) }) in
            small_alone is divides of_zero (small not_second)
      ];
      both = λ needs. small needs.not_second;
    }

-- if it needs both operands, no other pair is as small
pub only_answer : {a b g x y : ℤ} → IsBezoutAnswer a b g x y → NeedsBoth a b → IsOnly (λ (z, w). IsSmallPair a b g z w) (x, y)
only_answer {b = b} h needs =
    let nonzero : b ≢ pos 0 = λ none. needs.not_first (inl none) in
    only_small nonzero (gcd_nonzero h.greatest nonzero) (h.both needs)

-- ---- a pair of numbers has exactly one Bezout answer

pub bezout_answer_exists : (a b : ℤ) → (g x y : ℤ) × IsBezoutAnswer a b g x y
bezout_answer_exists a b = elim (zero_or_not b) [
  | inl none ↦ (_, _, _, answer_for_zero none)
  | inr nonzero ↦
      let last = (last_rows (rows_first a b nonzero)).0 in
      let rows = last.rows in
      (_, _, _, answer_of_loop nonzero (last_gcd rows last.ends) (last_at_once rows) (last_after_iterations rows last.ends))
]

-- a pair is in one of the three cases of an answer
three_cases : (a b : ℤ) → SecondDividesFirst a b ⊎ (((¬ (SecondDividesFirst a b)) × FirstDividesSecond a b) ⊎ NeedsBoth a b)
three_cases a b = grind (arith, zero_or_not b, divides_decided b a, divides_decided a b)

pub bezout_answer_is_only : (a b g x y : ℤ) → IsBezoutAnswer a b g x y → IsOnly (λ (h, z, w). IsBezoutAnswer a b h z w) (g, x, y)
bezout_answer_is_only a b g x y p (h, z, w) q =
    let same : h ≡ g = only_gcd q.greatest p.greatest in
    elim (three_cases a b) [
      | inl second ↦ let left = p.second_divides second in let right = q.second_divides second in cc
      | inr (inl first) ↦ let left = p.first_divides first.0 first.1 in let right = q.first_divides first.0 first.1 in cc
      | inr (inr needs) ↦ let equal = only_answer p needs (z, w) (rw same at (q.both needs)) in λ i. (same i, (equal i).0, (equal i).1)
    ]

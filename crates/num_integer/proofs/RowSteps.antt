-- Rows: from one coefficient to the next, and the rest of a row.
use Rattle.num_integer.proofs.Common.{iff_false, from_test, ◌≤ℤ◌, ◌<ℤ◌, ◌+ℤ◌, ◌-ℤ◌, ◌*ℤ◌, ◌≢◌, ◌≡◌, ◌+◌, ◌-◌, ◌/◌, ◌≤◌, ◌*◌, All, ◌∷◌, add-one, ℤ, pos, negsuc, unsigned_abs, int_div, int_rem, ℕ, suc, List, [], length, drop, get_or, reverse, refl, sym, ap, ◌∙◌, arith, min, ints, abs_is, comm, expand, linear, products, Divides, IsGreatestCommonDivisor, IsRange, at_drop_more, drop_all, get_or-reverse, length-reverse, All-nil, gcd_nonzero, gcd_positive, gcd-remainder, gcd_swap, gcd_times, cancel, Divides_cancel, exact_quotient, divisor_size, truncated_is, coefficient, coefficient_of, fits_below, factor_positive}
use Rattle.integer_core.proofs.DivisorSizes.{divisor_at_most, gcd_with_positive_fits}
use Rattle.integer_core.proofs.FlooredByPositive.{operator_quotient_fits}
use Rattle.std.proofs.lemmas.List.FromFn.{fill_by_all, get_or-map-range_with_len, length-map-range_with_len}
use Rattle.num_integer.proofs.Pascal.{below_answer, coefficient_zero, coefficient_mirror, next_in_row, nearer_same, rises}
use Rattle.num_integer.specs.Laws.{RowIsGreatestInMiddle, RowIsPalindrome, RowLength}
use Rattle.num_integer.specs.Row.{IsPlaceInRow, RowFits, row_of}

-- ---- from one coefficient of a row to the next, over the integers

-- k + 1 divides the coefficient of k times n - k, and only the next coefficient is the quotient
module _ {n k c a b : ℤ} (up : pos 0 ≤ℤ k) (below : k <ℤ n) (is : c ≡ coefficient_of n k) (rest : a ≡ n -ℤ k) (next : b ≡ k +ℤ pos 1) where
  product_is : c *ℤ a ≡ b *ℤ coefficient_of n (k +ℤ pos 1)
  product_is =
      let left : a ≡ pos (unsigned_abs n - unsigned_abs k) = omega (arith, ints) in
      let right : b ≡ pos (suc (unsigned_abs k)) = omega (arith, ints) in
      let place : unsigned_abs (k +ℤ pos 1) ≡ suc (unsigned_abs k) = omega (arith, ints) in
      rw (is, left, right, place) (omega (arith, ints, next_in_row (unsigned_abs n) (unsigned_abs k) (omega (arith, ints))))

  pub next_divides : Divides b (c *ℤ a)
  next_divides = record { factor = coefficient_of n (k +ℤ pos 1); product = product_is }

  pub next_only : (x : ℤ) → x *ℤ b ≡ c *ℤ a → x ≡ coefficient_of n (k +ℤ pos 1)
  next_only x e = cancel b x (coefficient_of n (k +ℤ pos 1)) (λ z. absurd (omega (arith, ints))) (comm b x ∙ e ∙ product_is)

-- ---- a loop along the row of n, from place 0 to the nearer of k and n - k

module _ {fits : ℤ → Type 0} {low high n k place last : ℤ} (range : IsRange fits low high) (from_zero : pos 0 ≤ℤ place) (k_from_zero : pos 0 ≤ℤ k) (k_within : k ≤ℤ n)
    (end : last ≡ pos (min (unsigned_abs k) (unsigned_abs n - unsigned_abs k))) where
  -- before the end the next place fits
  pub next_place_fits : fits n → place <ℤ last → fits (place +ℤ pos 1)
  next_place_fits n_fits before = fits_below range n_fits (omega (arith, ints)) (omega (arith, ints))

  -- and so does its coefficient if that of k does
  pub next_coefficient_fits : fits (coefficient_of n k) → place <ℤ last → fits (coefficient_of n (place +ℤ pos 1))
  next_coefficient_fits k_fits before =
      let below = below_answer (unsigned_abs n) (unsigned_abs k) (unsigned_abs (place +ℤ pos 1)) (omega (arith, ints)) (omega (arith, ints)) in
      fits_below range k_fits (omega (arith, ints)) (omega (arith, ints))

  -- at the end the coefficient is that of k
  pub last_coefficient : place ≤ℤ last → last ≤ℤ place → coefficient_of n place ≡ coefficient_of n k
  last_coefficient within done = ap pos (nearer_same _ _ _ (omega (arith, ints)) (omega (arith, ints)))

-- ---- an exact quotient r * a / b, cancelled by the greatest common divisor g of r and b

regrouped : (r a b g q s t : ℤ) → r ≡ g *ℤ q → b ≡ g *ℤ s → a ≡ s *ℤ t → q *ℤ t *ℤ b ≡ r *ℤ a
regrouped r a b g q s t e f h = rw (e, f, h) (simp expand)

-- that divisor, of the remainder of `%` and of b
pub through_remainder : {r b g rest : ℤ} → pos 0 <ℤ b → rest ≡ int_rem r b → IsGreatestCommonDivisor rest b g → IsGreatestCommonDivisor r b g
through_remainder {r} {b} b_above is greatest = gcd-remainder (truncated_is r b (λ e. omega (arith, linear))).division (gcd_swap (rw is at greatest))

module _ {r b g : ℤ} (b_above : pos 0 <ℤ b) (greatest : IsGreatestCommonDivisor r b g) where
  pub g_above : pos 0 <ℤ g
  g_above = gcd_positive greatest (λ e. absurd (omega (arith, linear)))

  nonzero : g ≢ pos 0
  nonzero e = omega (arith, linear, g_above)

  -- the cofactor of g in b
  pub rest_above : {s : ℤ} → s ≡ int_div b g → pos 0 <ℤ s
  rest_above is = rw is (factor_positive b_above g_above (exact_quotient nonzero greatest.divides_right))

  -- if g is b
  pub cancelled_whole : (a : ℤ) → b ≤ℤ g → int_div r b *ℤ a *ℤ b ≡ r *ℤ a
  cancelled_whole a large =
      let same : g ≡ b = omega (arith, linear, divisor_at_most b_above greatest.divides_right) in
      regrouped r a b b (int_div r b) (pos 1) a (rw same at (exact_quotient nonzero greatest.divides_left)) (omega (arith, products)) (omega (arith, products))

  module _ {a : ℤ} (a_up : pos 0 ≤ℤ a) (whole : Divides b (r *ℤ a)) where
    rest_divides : {s : ℤ} → b ≡ g *ℤ s → Divides s a
    rest_divides is =
        let multiple : Divides b (a *ℤ b) = record { factor = a; product = comm a b } in
        let times : Divides b (g *ℤ a) = rw (comm g a) ((gcd_times a a_up greatest).greatest b (rw (comm a r) whole) multiple) in
        Divides_cancel g nonzero (rw (← is) times)

    cancelled_by : (q s : ℤ) → r ≡ g *ℤ q → b ≡ g *ℤ s → q *ℤ int_div a s *ℤ b ≡ r *ℤ a
    cancelled_by q s of_r of_b =
        let s_nonzero : s ≢ pos 0 = λ e. absurd (omega (arith, linear, factor_positive b_above g_above of_b)) in
        regrouped r a b g q s _ of_r of_b (exact_quotient s_nonzero (rest_divides of_b))

    pub cancelled : int_div r g *ℤ int_div a (int_div b g) *ℤ b ≡ r *ℤ a
    cancelled = cancelled_by _ _ (exact_quotient nonzero greatest.divides_left) (exact_quotient nonzero greatest.divides_right)

    -- if g is 1
    pub cancelled_one : g ≤ℤ pos 1 → r *ℤ int_div a b *ℤ b ≡ r *ℤ a
    cancelled_one small =
        let one : g ≡ pos 1 = omega (arith, linear, g_above) in
        cancelled_by r b (rw one (omega (arith, products))) (rw one (omega (arith, products)))

-- ---- how the rest of a row shrinks

-- the number of items
length-row : (n : ℕ) → length (row_of (pos n)) ≡ n + 1
unfolding row_of
length-row n = length-map-range_with_len (λ k. pos (coefficient n k)) 0 (n + 1)

-- the k-th item
row_at : (n k : ℕ) (d : ℤ) → k ≤ n → get_or (row_of (pos n)) k d ≡ pos (coefficient n k)
unfolding row_of
row_at n k d h = get_or-map-range_with_len (λ k. pos (coefficient n k)) 0 (n + 1) k k d (omega arith) (omega arith)

-- what is left begins with the k-th item
pub rest_next : (n k : ℤ) → pos 0 ≤ℤ k → k ≤ℤ n → drop (unsigned_abs k) (row_of n) ≡ coefficient_of n k ∷ drop (unsigned_abs (k +ℤ pos 1)) (row_of n)
rest_next (pos n) (pos k) up within =
    at_drop_more (λ (xs : List ℤ). xs) (row_of (pos n)) k (pos 0) (omega (arith, ints, length-row n)) ∙ rw (row_at n k (pos 0) (omega (arith, ints))) refl
rest_next n k up within = absurd (omega (arith, ints))

-- past n no item is left
pub rest_none : (n k : ℤ) → pos 0 ≤ℤ k → n <ℤ k → drop (unsigned_abs k) (row_of n) ≡ []
unfolding row_of
rest_none (pos n) k up above = drop_all (unsigned_abs k) (row_of (pos n)) (omega (arith, ints, length-row n))
rest_none (negsuc n) k up above = drop_all (unsigned_abs k) [] (omega arith)

-- ---- the shape of a row

-- no item of the row is larger than the one in its middle
below_middle : (n m : ℕ) → m ≤ n → coefficient n m ≤ coefficient n (n / 2)
below_middle n m h = rw (← nearer_same n m _ h refl) (rises n (min m (n - m)) (n / 2) (omega arith) (omega arith))

-- what holds of each coefficient holds of the items
each_item : (P : ℤ → Type 0) (n : ℕ) → ((k : ℕ) → k ≤ n → P (pos (coefficient n k))) → All P (row_of (pos n))
each_item P n each = grind (arith, length-row, row_at)

pub row_is_greatest_in_middle : RowIsGreatestInMiddle
unfolding row_of
row_is_greatest_in_middle (pos n) = each_item (λ (item : ℤ). item ≤ℤ pos (coefficient n (n / 2))) n (λ k h. omega (arith, ints, below_middle n k h))
row_is_greatest_in_middle (negsuc n) = All-nil (λ (item : ℤ). item ≤ℤ pos (coefficient (suc n) (suc n / 2)))

-- a row is symmetric
pub row_is_palindrome : RowIsPalindrome
unfolding row_of
row_is_palindrome (pos n) =
    let long : length (reverse (row_of (pos n))) ≡ n + 1 = length-reverse (row_of (pos n)) ∙ length-row n in
    fill_by_all (λ k. pos (coefficient n k)) (reverse (row_of (pos n))) (n + 1) (pos 0) long (λ k h.
    let at : length (row_of (pos n)) - 1 - k ≡ n - k = omega (arith, length-row n) in
    get_or-reverse (row_of (pos n)) k (pos 0) (omega (arith, length-row n)) ∙ rw (at, row_at n (n - k) (pos 0) (omega arith)) (ap pos (sym (coefficient_mirror n k (omega arith)))))
row_is_palindrome (negsuc n) = refl

-- each item of a row that fits is in range
pub row_in_range : {fits : ℤ → Type 0} {low high : ℤ} (n : ℤ) → IsRange fits low high → RowFits fits n → All fits (row_of n)
unfolding row_of
row_in_range {fits} (pos n) range row = each_item fits n (λ k h. fits_below range (row (omega (arith, ints))).1 (omega (arith, ints)) (omega (arith, ints, below_middle n k h)))
row_in_range {fits} (negsuc n) range row = All-nil fits

-- ---- the steps of an iterator over the row of n

-- neither the next item nor the next place leaves the type
module _ {fits : ℤ → Type 0} {low high n k item : ℤ} (range : IsRange fits low high) (place : IsPlaceInRow fits n k item) (within : k ≤ℤ n) where
  pub item_fits : fits (coefficient_of n k)
  item_fits =
      fits_below range (place.row_fits (omega (arith, ints))).1 (omega (arith, ints)) (omega (arith, ints, below_middle (unsigned_abs n) (unsigned_abs k) (omega (arith, ints))))

  pub place_fits : fits (k +ℤ pos 1)
  place_fits = let up = place.k_from_zero in fits_below range (place.row_fits (omega (arith, ints))).0 (omega (arith, ints)) (omega (arith, ints))

-- a row has one item more than n
pub row_length : RowLength
row_length (pos n) up = ap pos (length-row n)
row_length (negsuc n) up = absurd (omega (arith, ints))

-- ---- what the prover tries at `item_at` and `factors`

pub ruleset item_steps = (linear, iff_false, fits_below, coefficient_zero)

pub ruleset factor_steps = (linear, operator_quotient_fits, gcd_with_positive_fits, g_above)

-- Stein's method on the values of an unsigned type, and what its loops keep.
use Rattle.integer_core.proofs.Common.{rules, ◌≡◌, ◌≢◌, ◌↔◌, ◌⊎◌, ◌≤ℤ◌, ◌%◌, ◌^◌, ◌<◌, ◌+◌, ◌∷◌, IsPowerOfTwo, AreWithinBits, IsCountedGcd, IsOddPart, MakesGcdRun, exchanged, GcdEnds, IsGcdIteration, IsOddGcd, IsOrderedIteration, OddPair, natural, ℤ, pos, unsigned_abs, IsGcd, ℕ, sym, subst, arith, inl, inr, abs_is, linear, eq-one_of_dvd-one, one-dvd, dvd_refl, le_of_dvd, IsGreatestCommonDivisor, List, [], map, ◌∙◌, IsRun, RunHasIterations}
use Rattle.integer_core.proofs.CommonDivisors.{gcd-magnitudes, gcd_zero}
use Rattle.integer_core.proofs.NaturalGcd.{odd_divisor, odd_divides}
use Rattle.std.proofs.lemmas.List.{length-map}
use Rattle.integer_core.proofs.OddParts.{Turning, turning_ends, turning_small, turning_iteration, iterations_fit}
use Rattle.integer_core.proofs.Runs.{Reaches, reaches_instead, reaches_last, reaches_iteration}

-- the gcd of a number and 0 is the number
pub gcd_with_zero : {n : ℤ} → pos 0 ≤ℤ n → IsGreatestCommonDivisor n (pos 0) n
gcd_with_zero {n} up = rw (← natural up) at (gcd_zero n)

-- a gcd with an odd number is positive
pub odd_gcd_positive : {m n g : ℕ} → m % 2 ≡ 1 → IsGcd m n g → 0 < g
odd_gcd_positive {m} {n} {g} odd h = let o = odd_divisor g m h.0 odd in omega arith

-- a gcd fits if one of the two numbers does
pub gcd_fits : {fits : ℤ → Type 0} {a : ℤ} {b g : ℕ} → ((y : ℤ) → pos 0 ≤ℤ y → y ≤ℤ a → fits y) → pos 0 ≤ℤ a → 0 < unsigned_abs a
    → IsGcd (unsigned_abs a) b g → fits (pos g)
gcd_fits within up positive h = grind (arith, le_of_dvd)

-- the odd part of a power of two is 1
odd_of_power : {n m : ℕ} → IsPowerOfTwo n → IsOddPart n m → m ≡ 1
odd_of_power {m = m} h part =
    eq-one_of_dvd-one (odd_divides m 1 h.0 part.odd (∣ (2 ^ part.twos, omega (arith, h.1, part.product)) ∣₁))

-- so if one of two numbers is a power of two, their odd parts have the gcd 1
pub gcd_of_power : {a b m n : ℕ} {one : ℤ} → IsPowerOfTwo a ⊎ IsPowerOfTwo b → one ≡ pos 1 → IsOddPart a m → IsOddPart b n → IsGcd m n (unsigned_abs one)
gcd_of_power (inl left) is a_part b_part = rw (is, odd_of_power left a_part) (search (rules, dvd_refl, one-dvd))
gcd_of_power (inr right) is a_part b_part = rw (is, odd_of_power right b_part) (search (rules, dvd_refl, one-dvd))

-- the magnitude of the smallest number of a type, if it is not 0, is a power of two
pub power_of_smallest : {low a m : ℤ} → (low ≡ pos 0) ⊎ IsPowerOfTwo (unsigned_abs low) → a ≡ low → m ≡ pos (unsigned_abs a) → m ≢ pos 0 → IsPowerOfTwo (unsigned_abs m)
power_of_smallest least is m_is nonzero = grind arith

-- the gcd of two numbers by that of their magnitudes m and n, with no iteration if `Smallest` holds
pub counted_by_magnitudes : {low a b m n g : ℤ} {t : ℕ} {Smallest : Type 0} → m ≡ pos (unsigned_abs a) → n ≡ pos (unsigned_abs b) → Smallest ↔ ((a ≡ low) ⊎ (b ≡ low))
    → IsGreatestCommonDivisor m n g → (Smallest ⊎ ((m ≡ pos 0) ⊎ (n ≡ pos 0)) → t ≡ 0)
    → (¬ Smallest → m ≢ pos 0 → n ≢ pos 0 → MakesGcdRun (unsigned_abs m) (unsigned_abs n) t) → AreWithinBits m n t → IsCountedGcd low a b g t
counted_by_magnitudes {a = a} {b = b} m_is n_is smallest greatest at_once by_iterations bound = record {
  greatest = gcd-magnitudes m_is n_is greatest;
  iterations = record {
    at_once = λ h. at_once (grind (arith, linear, abs_is));
    by_iterations = λ p q. rw (m_is, n_is) at (by_iterations (λ s. grind arith) (grind (arith, linear, abs_is)) (grind (arith, linear, abs_is)));
  };
  bound = rw (m_is, n_is) at bound;
}

-- ---- what both loops on two odd numbers keep, at each step of them

-- the runs from a pair are those from the pair with its places exchanged, iteration by iteration
exchanged_iteration : (s t : OddPair) → IsGcdIteration s t → IsGcdIteration (exchanged s) (exchanged t)
exchanged_iteration s t h = grind arith

exchanged_run : (s : OddPair) (rest : List OddPair) → IsRun IsGcdIteration GcdEnds (s ∷ rest) → IsRun IsGcdIteration GcdEnds (exchanged s ∷ map exchanged rest)
exchanged_run s [] h = sym h
exchanged_run s (t ∷ rest) h = (exchanged_iteration s t h.0, exchanged_run t rest h.1)

exchanged_makes : {s : OddPair} {n : ℕ} → RunHasIterations IsGcdIteration GcdEnds s n → RunHasIterations IsGcdIteration GcdEnds (exchanged s) n
exchanged_makes {s} h =
    record { rest = map exchanged h.rest; run = exchanged_run s h.rest h.run; iterations = length-map h.rest exchanged ∙ h.iterations }

reaches_ordered : {first s t : OddPair} {n : ℕ} → Reaches IsGcdIteration GcdEnds first s n → IsOrderedIteration s t → Reaches IsGcdIteration GcdEnds first t (n + 1)
reaches_ordered {t = t} h iteration = elim iteration [
  | inl left ↦ reaches_iteration h (inl left)
  | inr right ↦ reaches_instead (reaches_iteration {t = exchanged t} h (inr (record { above = right.above; m = right.n; n = right.m }))) (λ m i. exchanged_makes i)
]

-- what a loop holds
abbrev pair_of : ℕ → ℕ → OddPair
pair_of m n = record { m = m; n = n }

-- the iterations so far lead from a and b to m and n, which are in range
pub record OddLoop (InRange : Type 0) (a b m n iterations : ℕ) : Type 0 where
  pub in_range : InRange
  pub kept : Turning a b m n iterations
  pub reached : Reaches IsGcdIteration GcdEnds (pair_of a b) (pair_of m n) iterations

module _ {a b : ℕ} where
  pub loop_begins : {InRange : Type 0} → InRange → a % 2 ≡ 1 → b % 2 ≡ 1 → OddLoop InRange a b a b 0
  loop_begins in_range a_odd b_odd = grind arith

  module _ {Before : Type 0} {m n t : ℕ} (v : OddLoop Before a b m n t) where
    pub loop_goes_on : {InRange : Type 0} {d e : ℕ} → InRange → IsOrderedIteration (pair_of m n) (pair_of d e) → OddLoop InRange a b d e (t + 1)
    loop_goes_on in_range iteration = record { in_range = in_range; kept = turning_iteration v.kept iteration; reached = reaches_ordered v.reached iteration }

    -- another count of iterations begins with these
    pub loop_handed_on : {g r : ℕ} → IsOddGcd m n g r → IsOddGcd a b g (t + r)
    loop_handed_on rest = grind (arith, turning_small)

    pub loop_ends : m ≡ n → IsOddGcd a b m t
    loop_ends same = record {
      greatest = v.kept.same _ (subst (λ (x : ℕ). IsGcd m x m) same (dvd_refl m, dvd_refl m, λ d h k. h));
      run = reaches_last v.reached same;
      few = turning_ends v.kept;
    }

    -- an iteration more can be counted
    pub loop_counts : a < 2 ^ 128 → b < 2 ^ 128 → t + 1 < 2 ^ 32
    loop_counts a_fits b_fits = iterations_fit t (turning_ends v.kept) a_fits b_fits

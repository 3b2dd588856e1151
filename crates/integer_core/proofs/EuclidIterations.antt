-- Iterations of Euclid's loop: what a division says of magnitudes, that each state has one iteration at most, and that the iterations are few.
use Rattle.integer_core.proofs.Common.{◌≡◌, ◌≢◌, ◌⊎◌, ◌<◌, ◌≤◌, ◌+◌, ◌*◌, ◌^◌, ◌∷◌, AreEuclidIterations, IsEuclidIteration, Remainders, EuclidEnds, ℤ, ℕ, pos, zero, suc, unsigned_abs, arith, inl, inr, sym, ◌∙◌, ap, lt_of_not-le, unsigned_abs-mul, abs_is, linear, IsTruncated, Divides, IsOnly, List, [], length, subst, pow-succ', IsRun, RunHasIterations}
use Rattle.integer_core.proofs.Divisibility.{Divides_trans, divides_magnitude, divides_from_exact, divides_remainder, divisor_size, one_divides, zero_or_not, only_truncated}
use Rattle.integer_core.proofs.Runs.{only_iterations}
use Rattle.integer_core.specs.Fibonacci.{fibonacci}

-- a multiple is 0, or the number itself, or at least twice as large
pub multiple_size : (k d : ℕ) → (k * d ≡ 0) ⊎ ((k * d ≡ d) ⊎ (2 * d ≤ k * d))
multiple_size zero d = inl (omega arith)
multiple_size (suc zero) d = inr (inl (omega arith))
multiple_size (suc (suc k)) d = inr (inr (omega arith))

-- the multiple and the remainder have one sign, so magnitudes divide alike
pub truncated_size : {n d q r : ℤ} → IsTruncated n d q r → unsigned_abs n ≡ unsigned_abs q * unsigned_abs d + unsigned_abs r
truncated_size {d = d} {q = q} h =
    omega (arith, linear, abs_is, h.division, h.sign, unsigned_abs-mul q d, multiple_size (unsigned_abs q) (unsigned_abs d))

-- if d does not divide n, the remainder is not 0
pub inexact : {n d q r : ℤ} → IsTruncated n d q r → ¬ (Divides d n) → r ≢ pos 0
inexact h goes_on exact = goes_on (divides_from_exact h.division exact)

-- if d does not divide n, it is not 1 or -1
pub not_one : {n d : ℤ} → ¬ (Divides d n) → d ≢ pos 0 → 2 ≤ unsigned_abs d
not_one {n} {d} goes_on nonzero = lt_of_not-le (λ less.
    let one : unsigned_abs d ≡ 1 = omega (arith, linear, abs_is) in
    goes_on (Divides_trans (rw one at (divides_magnitude d)) (one_divides n)))

-- a larger multiple is at least twice as large
pub twice : {d n : ℤ} → Divides d n → unsigned_abs d < unsigned_abs n → 2 * unsigned_abs d ≤ unsigned_abs n
twice {d} h less = omega (arith, ap unsigned_abs h.product, unsigned_abs-mul d h.factor, multiple_size (unsigned_abs h.factor) (unsigned_abs d))

-- ---- the iterations are the only ones

-- a state goes on by its one truncated quotient
only_euclid_iteration : (s t : Remainders) → IsEuclidIteration s t → IsOnly (IsEuclidIteration s) t
only_euclid_iteration s t h u i =
    let same = rw (only_truncated i.truncated.division h.truncated.division).0 at i.current in
    λ k. record { current = (same ∙ sym h.current) k; previous = (i.previous ∙ sym h.previous) k }

pub euclid_iterations_are_only : (a b : ℤ) (n : ℕ) → AreEuclidIterations a b n → IsOnly (AreEuclidIterations a b) n
euclid_iterations_are_only a b n h m i = elim (zero_or_not b) [
  | inl none ↦ i.of_zero none ∙ sym (h.of_zero none)
  | inr nonzero ↦ only_iterations only_euclid_iteration (λ s t ends iteration. iteration.goes_on ends) (h.of_nonzero nonzero) m (i.of_nonzero nonzero)
]

-- ---- Lamé's theorem: the loop makes few iterations. By recursion on the run, from its last state

-- what n iterations and a common divisor g say of the remainders that they begin with
record IsLarge (s : Remainders) (n g : ℕ) : Type 0 where
  lower : fibonacci (suc (suc n)) * g ≤ unsigned_abs s.current
  upper : unsigned_abs s.current < unsigned_abs s.previous → fibonacci (suc (suc (suc n))) * g ≤ unsigned_abs s.previous

large : (rest : List Remainders) (s : Remainders) (g : ℕ) → s.current ≢ pos 0 → IsRun IsEuclidIteration EuclidEnds (s ∷ rest)
    → Divides (pos g) s.current → Divides (pos g) s.previous → IsLarge s (length rest) g
large [] s g nonzero ends left right =
    record { lower = omega (arith, divisor_size left nonzero); upper = λ less. omega (arith, divisor_size left nonzero, twice ends less) }
large (t ∷ rest) s g nonzero run left right =
    let iteration = run.0 in
    let row = iteration.truncated.division in
    let is : t.current ≡ iteration.truncated.remainder = let e = row.division.equation in let f = iteration.current in omega (arith, linear) in
    let small : unsigned_abs t.current < unsigned_abs s.current = rw is row.division.small in
    let after = large rest t g (rw is (inexact row iteration.goes_on)) run.1 (rw is (divides_remainder row.division right left)) (rw iteration.previous left) in
    let lower = rw iteration.previous at (after.upper (rw iteration.previous small)) in
    record {
      lower = lower;
      upper = λ less.
          omega (arith, lower, after.lower, rw (← is) at (truncated_size row), multiple_size (unsigned_abs iteration.quotient) (unsigned_abs s.current));
    }

-- n iterations from (b, a) take a b of at least F(n + 2) times the gcd
pub lame : {a b : ℤ} {n : ℕ} (g : ℕ) → b ≢ pos 0 → RunHasIterations IsEuclidIteration EuclidEnds (record { current = b; previous = a }) n
    → Divides (pos g) a → Divides (pos g) b → fibonacci (suc (suc n)) * g ≤ unsigned_abs b
lame {b = b} g nonzero makes left right =
    subst (λ (n : ℕ). fibonacci (suc (suc n)) * g ≤ unsigned_abs b) makes.iterations (large makes.rest _ g nonzero makes.run right left).lower

-- ---- so the iterations are fewer than twice the bits of b

-- a Fibonacci number is at least twice the one two before it
fibonacci_doubled : (k n : ℕ) → k + k ≤ n → 2 ^ k ≤ fibonacci (suc (suc n))
fibonacci_doubled zero zero h = omega arith
fibonacci_doubled zero (suc n) h = omega (arith, fibonacci_doubled zero n (omega arith))
fibonacci_doubled (suc k) zero h = absurd (omega arith)
fibonacci_doubled (suc k) (suc zero) h = absurd (omega arith)
fibonacci_doubled (suc k) (suc (suc n)) h = rw pow-succ' (omega (arith, fibonacci_doubled k n (omega arith)))

pub few_iterations : {a b : ℤ} {n : ℕ} (k : ℕ) → b ≢ pos 0 → RunHasIterations IsEuclidIteration EuclidEnds (record { current = b; previous = a }) n
    → unsigned_abs b < 2 ^ k → n < k + k
few_iterations {n = n} k nonzero makes small = lt_of_not-le (λ more.
    omega (arith, fibonacci_doubled k n more, lame 1 nonzero makes (one_divides _) (one_divides _)))

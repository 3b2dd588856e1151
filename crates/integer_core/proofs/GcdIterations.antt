-- That the iterations of Stein's loop are the only ones, and that each number has a bit length.
use Rattle.integer_core.proofs.Common.{◌≡◌, ◌⊎◌, ◌^◌, ◌<◌, ◌≤◌, AreGcdIterations, IsBitLength, IsGcdIteration, IsOddPart, IsZeroOrLeast, MakesGcdRun, OddPair, ℤ, ℕ, zero, suc, unsigned_abs, arith, inl, inr, sym, ◌∙◌, subst, pow_mono, dvd-mul_right, lt_of_not-le, pow-succ', cases_lt, dvd_antisymm, ◌∣◌, linear, IsOnly}
use Rattle.integer_core.proofs.NaturalGcd.{odd_divides}
use Rattle.integer_core.proofs.Runs.{only_iterations}

-- ---- the iterations are the only ones

odd_part_divides : {n k m : ℕ} → IsOddPart n k → IsOddPart n m → k ∣ m
odd_part_divides {n} {k} {m} h i = odd_divides k m i.twos h.odd (subst (λ (x : ℕ). k ∣ x) (sym h.product ∙ i.product) (dvd-mul_right k (2 ^ h.twos)))

only_odd_part : {n m k : ℕ} → IsOddPart n m → IsOddPart n k → k ≡ m
only_odd_part h i = dvd_antisymm (odd_part_divides i h) (odd_part_divides h i)

same_pair : {s t : OddPair} → s.m ≡ t.m → s.n ≡ t.n → s ≡ t
same_pair m n = λ k. record { m = m k; n = n k }

-- a state goes on by the one difference that is positive
only_gcd_iteration : (s t : OddPair) → IsGcdIteration s t → IsOnly (IsGcdIteration s) t
only_gcd_iteration s t (inl left) u (inl other) = same_pair (only_odd_part left.m other.m) (other.n ∙ sym left.n)
only_gcd_iteration s t (inl left) u (inr other) = absurd (omega (arith, left.above, other.above))
only_gcd_iteration s t (inr right) u (inl other) = absurd (omega (arith, right.above, other.above))
only_gcd_iteration s t (inr right) u (inr other) = same_pair (other.m ∙ sym right.m) (only_odd_part right.n other.n)

only_gcd_run : {a b n : ℕ} → MakesGcdRun a b n → IsOnly (MakesGcdRun a b) n
only_gcd_run h m i =
    let first : i.first ≡ h.first = same_pair (only_odd_part h.left i.left) (only_odd_part h.right i.right) in
    only_iterations only_gcd_iteration (λ s t ends iteration. grind arith) h.run m (rw first at i.run)

zero_or_least : (low a b : ℤ) → (IsZeroOrLeast low a ⊎ IsZeroOrLeast low b) ⊎ ((¬ (IsZeroOrLeast low a)) × (¬ (IsZeroOrLeast low b)))
zero_or_least low a b = grind (arith, linear)

pub gcd_iterations_are_only : (low a b : ℤ) (n : ℕ) → AreGcdIterations low a b n → IsOnly (AreGcdIterations low a b) n
gcd_iterations_are_only low a b n h m i = elim (zero_or_least low a b) [
  | inl either ↦ i.at_once either ∙ sym (h.at_once either)
  | inr neither ↦ only_gcd_run (h.by_iterations neither.0 neither.1) m (i.by_iterations neither.0 neither.1)
]

-- ---- bit lengths

bit_length : (n : ℕ) → (l : ℕ) × (n < 2 ^ l) × ((k : ℕ) → n < 2 ^ k → l ≤ k)
bit_length zero = (0, omega arith, λ k h. omega arith)
bit_length (suc n) =
    let rest = bit_length n in
    elim (cases_lt (suc n) (2 ^ rest.0)) [
      | inl below ↦ (rest.0, below, λ k h. rest.2 k (omega arith))
      | inr above ↦
          (suc rest.0, omega (arith, rest.1, pow-succ' 2 rest.0), λ k h. lt_of_not-le (λ more. omega (arith, pow_mono {i = k} {j = rest.0} more)))
    ]

pub bit_length_exists : (v : ℤ) → (l : ℕ) × IsBitLength v l
bit_length_exists v = let h = bit_length (unsigned_abs v) in (h.0, record { below = h.1; least = h.2 })

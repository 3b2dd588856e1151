-- The smallest power of two that is at least a number.
use Rattle.applied.proofs.Common.{◌≡◌, ◌<◌, ◌≤◌, ◌*◌, ◌/◌, ◌^◌, ℕ, zero, suc, Option, Some, None, MatchOption, arith, cases_lt, inl, inr, pow-suc, pow_mono}
use Rattle.std.proofs.lemmas.Nat.{pow_pos}
use Rattle.std.specs.Int.{IsNextPowerOfTwo}
use Rattle.std.specs.Prelude.{max}

-- a power of two whose half is less than the number is at most each power of two that is not less
half_is_less : (n p k j : ℕ) → p ≡ 2 ^ k → p / 2 < max 1 n → n ≤ 2 ^ j → p ≤ 2 ^ j
half_is_less n p zero j is half to = let up : 0 < 2 ^ j = pow_pos j in let one : p ≡ 1 = is in omega arith
half_is_less n p (suc i) j is half to = elim (cases_lt j (suc i)) [
  | inl below ↦
      let most : 2 ^ j ≤ 2 ^ i = pow_mono (omega arith) in
      let up : 0 < 2 ^ j = pow_pos j in
      let twice : p ≡ 2 ^ i * 2 = rw pow-suc at is in
      absurd (omega arith)
  | inr above ↦ let most : 2 ^ suc i ≤ 2 ^ j = pow_mono above in omega arith
]

-- What std says of `checked_next_power_of_two` at 64 bits: it is the smallest power of two that is at least the number, or that one does not fit.
pub next_power_of_two_is_least : (n : ℕ) (r : Option ℕ) → MatchOption r (2 ^ 63 < n) (IsNextPowerOfTwo n)
    → MatchOption r ((k : ℕ) → n ≤ 2 ^ k → 2 ^ 64 ≤ 2 ^ k) (λ p. ((k : ℕ) × (p ≡ 2 ^ k)) × (n ≤ p) × ((k : ℕ) → n ≤ 2 ^ k → p ≤ 2 ^ k))
next_power_of_two_is_least n None large = λ k to. elim (cases_lt k 64) [
  | inl below ↦ let least : k ≤ 63 = omega arith in let most : 2 ^ k ≤ 2 ^ 63 = pow_mono least in absurd (omega arith)
  | inr above ↦ pow_mono above
]
next_power_of_two_is_least n (Some p) h = (h.0, h.1, λ k to. half_is_less n p h.0.0 k h.0.1 h.2 to)

-- Numbers that are coprime to a modulus.
use Rattle.modular.proofs.Common.{◌≡◌, ◌*◌, ◌/◌, ◌%◌, ◌^◌, ◌-ℤ◌, ◌*ℤ◌, ℕ, ℤ, pos, arith, refl, suc, zero, pow-succ', ints, Divides, IsGreatestCommonDivisor, Divides_difference, Divides_trans, coprime_divides, linear, one_divides}

-- a number is coprime to another if each common divisor divides 1
coprime_by : {a m : ℤ} → ((d : ℤ) → Divides d a → Divides d m → Divides d (pos 1)) → IsGreatestCommonDivisor a m (pos 1)
coprime_by {a} {m} each = record { from_zero = omega (arith, linear); divides_left = one_divides a; divides_right = one_divides m; greatest = each }

-- A number that is coprime to two numbers is coprime to their product.
pub coprime_product : {a m n : ℤ} → IsGreatestCommonDivisor a m (pos 1) → IsGreatestCommonDivisor a n (pos 1)
    → IsGreatestCommonDivisor a (m *ℤ n) (pos 1)
coprime_product h k = coprime_by (λ d left right.
    let apart = coprime_by (λ e of_m of_d. h.greatest e (Divides_trans of_d left) of_m) in
    k.greatest d left (coprime_divides apart right))

odd_and_two : (a : ℕ) → a % 2 ≡ 1 → IsGreatestCommonDivisor (pos a) (pos 2) (pos 1)
odd_and_two a odd = coprime_by {a = pos a} {m = pos 2} (λ d left right.
    let half : Divides (pos 2) (pos (2 * (a / 2))) = record { factor = pos (a / 2); product = refl } in
    let rest : pos a -ℤ pos (2 * (a / 2)) ≡ pos 1 = omega (arith, ints) in
    rw rest at (Divides_difference left (Divides_trans right half)))

-- An odd number is coprime to each power of 2.
pub odd_coprime : (a k : ℕ) → a % 2 ≡ 1 → IsGreatestCommonDivisor (pos a) (pos (2 ^ k)) (pos 1)
odd_coprime a zero odd = coprime_by (λ d _ right. right)
odd_coprime a (suc k) odd = rw (pow-succ' 2 k) (coprime_product (odd_and_two a odd) (odd_coprime a k odd))

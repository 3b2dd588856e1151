-- Powers of sums of exponents, roots by squares, and roots of exact powers.
use Rattle.num_integer.proofs.Common.{◌≡◌, ◌+◌, ◌^◌, ◌*ℤ◌, ℕ, ℤ, pos, zero, suc, int_pow, arith, expand, refl, ◌≢◌, ◌<◌, ◌≤◌, ◌*◌, negsuc, unsigned_abs, ◌∙◌, sym, ints, subst, pow-lt-pow_left}
use Rattle.integer_core.proofs.IntegerPowers.{int_pow_suc, int_pow_zero}
use Rattle.integer_roots.proofs.Powers.{power_two}
use Rattle.integer_roots.specs.RootOf.{IsRoot}
use Rattle.integer_roots.proofs.OnlyAnswers.{root_is_only_one}
use Rattle.num_integer.specs.Laws as law

-- The power of a natural number is the natural power.
pub natural_power : (a n : ℕ) → int_pow (pos a) n ≡ pos (a ^ n)
natural_power a n = refl

-- An exponent that is a sum makes a product of powers.
pub int_pow_add : (x : ℤ) (m n : ℕ) → int_pow x (m + n) ≡ int_pow x m *ℤ int_pow x n
int_pow_add x zero n = grind (arith, int_pow_zero)
int_pow_add x (suc m) n =
    let e : suc m + n ≡ suc (m + n) = omega arith in
    rw (e, int_pow_suc x (m + n), int_pow_suc x m, int_pow_add x m n) (simp expand)

pub exponents_add : law.ExponentsAdd
exponents_add = int_pow_add

-- a square root of a natural number, by squares
pub root_by_squares : {x r : ℕ} → IsRoot (pos x) 2 (pos r) → (r * r ≤ x) × (x < (r + 1) * (r + 1))
root_by_squares {x} {r} h =
    let root = h.from_zero (omega (arith, ints)) in
    (omega (arith, ints, power_two r, root.power_le), omega (arith, ints, power_two (r + 1), root.next_power_gt))

-- the root of an exact power is its base
pub exact_power_root : {k : ℕ} {n : ℕ} {r : ℤ} → n ≢ 0 → IsRoot (int_pow (pos k) n) n r → r ≡ pos k
exact_power_root {k} {n} nonzero h =
    let next = pow-lt-pow_left {a = k} {b = k + 1} (omega arith) nonzero in
    let is : IsRoot (int_pow (pos k) n) n (pos k) = record {
      from_zero = λ up. record { from_zero = omega (arith, ints); power_le = omega (arith, ints); next_power_gt = omega (arith, ints) };
      below_zero = λ below. absurd (omega (arith, ints));
    } in
    root_is_only_one is _ h

power_two_is : (n : ℕ) → int_pow (pos n) 2 ≡ pos n *ℤ pos n
power_two_is n = let e = power_two n in omega (arith, ints)

square_of_size : (k : ℤ) → k *ℤ k ≡ pos (unsigned_abs k) *ℤ pos (unsigned_abs k)
square_of_size (pos k) = refl
square_of_size (negsuc k) = omega (arith, ints)

-- the square of the root of a square is the square
pub square_root_of_square : {x r : ℤ} (k : ℤ) → k *ℤ k ≡ x → IsRoot x 2 r → r *ℤ r ≡ x
square_root_of_square {x} {r} k e h =
    let power : int_pow (pos (unsigned_abs k)) 2 ≡ x = power_two_is (unsigned_abs k) ∙ sym (square_of_size k) ∙ e in
    let same = exact_power_root {k = unsigned_abs k} {n = 2} (omega arith) (subst (λ (t : ℤ). IsRoot t 2 r) (sym power) h) in
    rw same (sym (square_of_size k) ∙ e)

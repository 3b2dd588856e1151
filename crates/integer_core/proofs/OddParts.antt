-- Odd parts: what a shift by `trailing_zeros` leaves, and what the iterations of Stein's loop keep.
use Rattle.integer_core.proofs.Common.{le-div_iff_mul-le, div-mul-le_self, cases_lt, ◌≡◌, ◌+◌, ◌-◌, ◌*◌, ◌/◌, ◌%◌, ◌^◌, ◌<◌, ◌≤◌, IsOddPart, IsOrderedIteration, ℕ, zero, suc, inl, inr, refl, sym, ◌∙◌, ap, arith, mul-one, div-one, add-one, mul-le-mul_right, mul-pos, pow_mono, pow_pos, pow-add, le-mul_of_pos_right, pow-succ', div-div-eq-div-mul, lt_of_not-le, IsGcd, Width, trailing_zeros, mul-lt, IsGcd-from_sub, IsGcd-swap, bit_xor, xor_lt, xor_mod, and_le_l, and_le_r, div-add-mod', mul-mod_left, mul-div_cancel}
use lib.Count.{count_trailing_zeros, under}
use Rattle.std.proofs.lemmas.Nat.Bits.{bit_at-trailing_zeros, bit_at_xor}
use mir.Val.{bits}
use Rattle.num_traits.specs.Laws.{bit_len}
use Rattle.integer_core.proofs.NaturalGcd.{gcd_strip}
use Rattle.std.specs.Int.Bits.{xor_add_and}

back_under : (n d t : ℕ) → n % 2 ≡ d → n / 2 / 2 ^ t * 2 ^ t ≡ n / 2 → n / 2 ^ under d t * 2 ^ under d t ≡ n
back_under n zero t e h = rw (pow-succ' 2 t, ← div-div-eq-div-mul n 2 (2 ^ t)) (omega arith)
back_under n (suc d) t e h = mul-one (n / 1) ∙ div-one n

-- the power of two that is shifted out divides n
pub shift_back : (k n : ℕ) → n / 2 ^ count_trailing_zeros k n * 2 ^ count_trailing_zeros k n ≡ n
unfolding count_trailing_zeros
shift_back zero n = mul-one (n / 1) ∙ div-one n
shift_back (suc k) n = back_under n (n % 2) (count_trailing_zeros k (n / 2)) refl (shift_back k (n / 2))

pub width : (w : Width) → bits w ≡ bit_len w
width w = grind (arith, bits, bit_len)

-- a shift by the trailing zeros leaves the odd part
pub odd_part_by_shift : (w : Width) {n k : ℕ} → 0 < n → n < 2 ^ bit_len w → k ≡ trailing_zeros w n → (n / 2 ^ k % 2 ≡ 1) × (n ≡ n / 2 ^ k * 2 ^ k)
odd_part_by_shift w {n} positive fits twos = rw twos ((bit_at-trailing_zeros w n positive (rw (width w) fits)).1, sym (shift_back (bits w) n))

-- a shift that keeps its number in the range
pub shift_few : (m k bits : ℕ) → 0 < m → m * 2 ^ k < 2 ^ bits → k < bits
shift_few m k bits positive fits = lt_of_not-le (λ many.
    omega (arith, pow_mono {i = bits} {j = k} many, mul-le-mul_right {m = 1} {n = m} (2 ^ k) positive))

-- an even number has at least one factor 2
times_half : (n m k : ℕ) → m % 2 ≡ 1 → n ≡ m * 2 ^ k → n % 2 ≡ 0 → 2 * m ≤ n
times_half n m zero odd product even = absurd (omega arith)
times_half n m (suc k) odd product even = omega (arith, le-mul_of_pos_right m (pow_pos k), rw (pow-succ' 2 k) at product)

-- an odd part is at most its number
pub odd_part_le : {n m : ℕ} → IsOddPart n m → m ≤ n
odd_part_le {m = m} part = omega (arith, part.product, le-mul_of_pos_right m (pow_pos part.twos))

-- what the loop keeps: its numbers are odd, their gcd is that of a and b, and their product has been halved each iteration
pub record Turning (a b m n iterations : ℕ) : Type 0 where
  pub m_odd : m % 2 ≡ 1
  pub n_odd : n % 2 ≡ 1
  pub same : (g : ℕ) → IsGcd m n g → IsGcd a b g
  pub shrunk : m * n * 2 ^ iterations ≤ a * b

turning_left : {a b m n d t : ℕ} → Turning a b m n t → n < m → IsOddPart (m - n) d → Turning a b d n (t + 1)
turning_left {m = m} {n = n} {d = d} {t = t} v less part =
    let half = times_half (m - n) d part.twos part.odd part.product (omega (arith, v.m_odd, v.n_odd)) in
    record {
      m_odd = part.odd;
      n_odd = v.n_odd;
      same = λ g h. v.same g (IsGcd-from_sub m n g (omega arith) (rw part.product (gcd_strip part.twos v.n_odd h)));
      shrunk = rw (add-one, pow-succ') (omega (arith, mul-le-mul_right {m = 2 * d} {n = m} (n * 2 ^ t) (omega arith), v.shrunk));
    }

turning_exchanged : {a b m n t : ℕ} → Turning a b m n t → Turning a b n m t
turning_exchanged v = record { m_odd = v.n_odd; n_odd = v.m_odd; same = λ g h. v.same g (IsGcd-swap _ _ g h); shrunk = omega (arith, v.shrunk) }

pub turning_iteration : {a b m n d e t : ℕ} → Turning a b m n t → IsOrderedIteration (record { m = m; n = n }) (record { m = d; n = e }) → Turning a b d e (t + 1)
turning_iteration v h = elim h [
  | inl left ↦ rw left.n (turning_left v left.above left.m)
  | inr right ↦ rw right.n (turning_left (turning_exchanged v) right.above right.m)
]

pub turning_falls : {a b m n d e t : ℕ} → Turning a b m n t → IsOrderedIteration (record { m = m; n = n }) (record { m = d; n = e }) → d + e < m + n
turning_falls v h = elim h [
  | inl left ↦ omega (arith, odd_part_le left.m, left.above, left.n, v.n_odd)
  | inr right ↦ omega (arith, odd_part_le right.m, right.above, right.n, v.m_odd)
]

-- so the iterations are few
pub turning_small : {a b m n t : ℕ} (k : ℕ) → Turning a b m n t → 2 ^ k ≤ m * n → 2 ^ (t + k) ≤ a * b
turning_small {t = t} k v more = omega (arith, v.shrunk, pow-add 2 t k, mul-le-mul_right (2 ^ t) more)

pub turning_ends : {a b m n t : ℕ} → Turning a b m n t → 2 ^ t ≤ a * b
turning_ends {m = m} {n = n} {t = t} v = omega (arith, v.shrunk, mul-le-mul_right (2 ^ t) (mul-pos {m = m} {n = n} (omega (arith, v.m_odd)) (omega (arith, v.n_odd))))

pub few_iterations : {a b t : ℕ} (k l : ℕ) → 2 ^ t ≤ a * b → a < 2 ^ k → b < 2 ^ l → t ≤ k + l
few_iterations {a} {b} {t} k l least a_fits b_fits = elim (cases_lt (k + l) t) [
  | inl more ↦ absurd (omega (arith, pow_mono {i = k + l} {j = t} (omega arith), mul-lt a b (2 ^ k) (2 ^ l) a_fits b_fits, pow-add 2 k l))
  | inr few ↦ few
]

-- numbers of 128 bits take so few iterations that one more can be counted
pub iterations_fit : (t : ℕ) {a b : ℕ} → 2 ^ t ≤ a * b → a < 2 ^ 128 → b < 2 ^ 128 → t + 1 < 2 ^ 32
iterations_fit t least a_fits b_fits = omega (arith, few_iterations 128 128 least a_fits b_fits)

-- ---- the last bits that two numbers share: their difference has as many factors 2

all_shared : (a b : ℕ) → bit_xor a b ≡ 0 → a ≡ b
all_shared a b none = omega (arith, none, xor_add_and a b, and_le_l a b, and_le_r a b)

apart : {m n : ℕ} → n < m → 0 < bit_xor m n
apart {m} {n} less = lt_of_not-le (λ none. omega (arith, all_shared m n (omega arith)))

-- by the quotients and remainders of a power of two p
difference_by : {m n p : ℕ} → 0 < p → n < m → m % p ≡ n % p → (m / p % 2 + n / p % 2) % 2 ≡ 1 → ((m - n) / p % 2 ≡ 1) × (m - n ≡ (m - n) / p * p)
difference_by {m} {n} {p} positive less same odd =
    let below : n / p ≤ m / p = (le-div_iff_mul-le positive).1 (omega (arith, div-mul-le_self n p)) in
    let split : m / p ≡ n / p + (m / p - n / p) = omega arith in
    let times : m - n ≡ (m / p - n / p) * p = omega (arith, same, div-add-mod' m p, div-add-mod' n p, ap (λ (x : ℕ). x * p) split) in
    grind (arith, mul-div_cancel)

-- so a shift by the number of the last bits that m and n share leaves the odd part of their difference
pub difference_by_shift : (w : Width) {m n k : ℕ} → m < 2 ^ bit_len w → n < 2 ^ bit_len w → n < m → k ≡ trailing_zeros w (bit_xor m n)
    → (k < bit_len w) × IsOddPart (m - n) ((m - n) / 2 ^ k)
difference_by_shift w {m} {n} {k} m_fits n_fits less twos =
    let x : ℕ = bit_xor m n in
    let fits = xor_lt _ _ _ m_fits n_fits in
    let none : x % 2 ^ k ≡ 0 = rw twos (ap (λ (y : ℕ). y % 2 ^ trailing_zeros w x) (sym (shift_back (bits w) x)) ∙ mul-mod_left (x / 2 ^ trailing_zeros w x) (2 ^ trailing_zeros w x)) in
    let first = sym (bit_at_xor m n k) ∙ rw twos (odd_part_by_shift w (apart less) fits refl).0 in
    let parts = difference_by (pow_pos k) less (all_shared (m % 2 ^ k) (n % 2 ^ k) (sym (xor_mod m n k) ∙ none)) first in
    (rw (twos, ← width w) (bit_at-trailing_zeros w _ (apart less) (rw (width w) fits)).0, record { odd = parts.0; twos = k; product = parts.1 })

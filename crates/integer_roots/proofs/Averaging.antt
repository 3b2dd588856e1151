-- Averages by bits: two numbers are twice the bits that both have, and those that one alone has.
use Rattle.integer_roots.proofs.Common.{◌≡◌, ◌*◌, ◌+◌, ◌+ℤ◌, ◌-ℤ◌, ◌*ℤ◌, ◌≤ℤ◌, ◌<ℤ◌, ℕ, ℤ, pos, bit_and, bit_or, bit_xor, Width, FitsUnsignedBits, arith, subst, sym, ap, ◌∙◌, lt_of_le_of_lt, ints, by_lt_z, and_le_l, or_lt, xor_lt, products, bit_at, int_shr, xor_add_and, or_add_and, bit_at_and, bit_at_or, bit_at_xor, bit_at-lt, bit_len, wrap_unsigned, unsigned-wrap_fits, IsTwosComplement, IsAverageFloor, IsAverageCeil}
use mir.Val.{hbits}

-- the numbers of the bits that both have, that either has, and that one alone has
record AreShared (a b both either one : ℤ) : Type 0 where
  pub by_both : a +ℤ b ≡ both +ℤ both +ℤ one
  pub by_either : either ≡ both +ℤ one

-- the number of the bits n, minus this weight if the highest is set
abbrev weighted : ℕ → ℕ → ℕ → ℤ
weighted h weight n = pos n -ℤ pos (weight * bit_at n h)

shared : (h weight m n : ℕ) → AreShared (weighted h weight m) (weighted h weight n)
    (weighted h weight (bit_and m n)) (weighted h weight (bit_or m n)) (weighted h weight (bit_xor m n))
shared h weight m n =
    let top_sum : bit_at (bit_xor m n) h + bit_at (bit_and m n) h * 2 ≡ bit_at m h + bit_at n h =
    omega (arith, bit_at_and m n h, bit_at_xor m n h, bit_at-lt m h, bit_at-lt n h) in
    let top_either : bit_at (bit_or m n) h + bit_at (bit_and m n) h ≡ bit_at m h + bit_at n h =
    omega (arith, bit_at_and m n h, bit_at_or m n h) in
    omega (arith, ints, xor_add_and m n, or_add_and m n, ap (λ t. weight * t) top_sum, ap (λ t. weight * t) top_either)

-- a shift by one place halves a number, rounding down
shifted_half : (x : ℤ) → ((pos 2 *ℤ int_shr x 1) ≤ℤ x) × (x <ℤ (pos 2 *ℤ int_shr x 1 +ℤ pos 2))
shifted_half x = grind (arith, ints)

-- a number that is half of a + b, to the nearest half, lies between a and b
amid_fits : {fits : ℤ → Type 0} {a b : ℤ} → ((x y z : ℤ) → fits x → fits z → x ≤ℤ y → y ≤ℤ z → fits y) → fits a → fits b
    → (z : ℤ) → (pos 2 *ℤ z) ≤ℤ (a +ℤ b +ℤ pos 1) → (a +ℤ b -ℤ pos 1) ≤ℤ (pos 2 *ℤ z) → fits z
amid_fits {a = a} {b = b} between a_fits b_fits z below above = by_lt_z a b
    (λ less. between a z b a_fits b_fits (omega (arith, products)) (omega (arith, products)))
    (λ more. between b z a b_fits a_fits (omega (arith, products)) (omega (arith, products)))

-- the averages of a and b by the bits m and n of a type in two's complement: they fit, since they lie between the two
pub record AreAverages (fits : ℤ → Type 0) (a b both either half : ℤ) : Type 0 where
  pub floor : IsAverageFloor a b (both +ℤ half) × fits (both +ℤ half)
  pub ceil : IsAverageCeil a b (either -ℤ half) × fits (either -ℤ half)

pub averages : {w : Width} {number : ℕ → ℤ} {fits : ℤ → Type 0} {a b : ℤ} {m n : ℕ} → ((x y z : ℤ) → fits x → fits z → x ≤ℤ y → y ≤ℤ z → fits y)
    → IsTwosComplement w number → fits a → fits b → number m ≡ a → number n ≡ b → pos m ≡ wrap_unsigned (bit_len w) a → pos n ≡ wrap_unsigned (bit_len w) b
    → AreAverages fits a b (number (bit_and m n)) (number (bit_or m n)) (int_shr (number (bit_xor m n)) 1)
averages {w} {number} {fits} {a = a} {b = b} {m = m} {n = n} between complement a_fits b_fits a_is b_is a_bits b_bits =
    let m_small = subst (FitsUnsignedBits (bit_len w)) (sym a_bits) (unsigned-wrap_fits (bit_len w) a) in
    let n_small = subst (FitsUnsignedBits (bit_len w)) (sym b_bits) (unsigned-wrap_fits (bit_len w) b) in
    let shares : AreShared a b (number (bit_and m n)) (number (bit_or m n)) (number (bit_xor m n)) = rw (
      sym a_is ∙ complement.is m m_small,
      sym b_is ∙ complement.is n n_small,
      complement.is _ (lt_of_le_of_lt (and_le_l m n) m_small),
      complement.is _ (or_lt (bit_len w) m n m_small n_small),
      complement.is _ (xor_lt (bit_len w) m n m_small n_small),
    ) (shared (hbits w) complement.weight m n) in
    let half = shifted_half (number (bit_xor m n)) in
    let amid : (z : ℤ) → (pos 2 *ℤ z) ≤ℤ (a +ℤ b +ℤ pos 1) → (a +ℤ b -ℤ pos 1) ≤ℤ (pos 2 *ℤ z) → fits z = amid_fits between a_fits b_fits in
    record {
      floor = (omega (arith, products, shares.by_both), amid _ (omega (arith, products, shares.by_both)) (omega (arith, products, shares.by_both)));
      ceil = (
        omega (arith, products, shares.by_both, shares.by_either),
        amid _ (omega (arith, products, shares.by_both, shares.by_either)) (omega (arith, products, shares.by_both, shares.by_either)),
      );
    }

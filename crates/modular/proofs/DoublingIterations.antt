-- Iterations of the loop that doubles and adds.
use Rattle.modular.proofs.Common.{◌≡◌, ◌≢◌, ◌⊎◌, ◌<◌, ◌≤ℤ◌, ◌<ℤ◌, ◌+ℤ◌, ◌*ℤ◌, ℤ, pos, unsigned_abs, arith, inl, inr, from_not_less, expand, linear, mul-one, products, sizes, within_fits, IsTruncated, IsRange, AreCongruent, IsResidue, LiesBelow}
use Rattle.modular.proofs.Congruences.{congruent_product, congruent_refl, congruent_sum, congruent_trans, congruent_by}

-- what is left to do: rest times the addend, on top of the total
pub record Doubling (m x y total addend rest : ℤ) : Type 0 where
  pub total_below : LiesBelow m total
  pub addend_below : LiesBelow m addend
  pub rest_from_zero : pos 0 ≤ℤ rest
  pub congruent : AreCongruent m (x *ℤ y) (total +ℤ addend *ℤ rest)

pub doubling_first : {m x y total : ℤ} → LiesBelow m x → LiesBelow m y → total ≡ pos 0 → Doubling m x y total x y
doubling_first h k none = record {
  total_below = record { from_zero = omega (arith, linear); below = omega (arith, linear, h.from_zero, h.below) };
  addend_below = h;
  rest_from_zero = k.from_zero;
  congruent = congruent_by (pos 0) (omega (arith, products));
}

-- a type that has a number above 1 has a 2
pub two_fits : {fits : ℤ → Type 0} {low high rest : ℤ} → IsRange fits low high → fits rest → pos 1 <ℤ rest → fits (pos 2)
two_fits range rest_fits above = within_fits range rest_fits (inl (omega (arith, linear), omega (arith, linear)))

-- the two parts of a number above 1: twice the half, and the last binary digit
pub record IsHalved (rest half digit : ℤ) : Type 0 where
  pub half_from_zero : pos 0 ≤ℤ half
  pub smaller : unsigned_abs half < unsigned_abs rest
  pub whole : rest ≡ (half +ℤ half) +ℤ digit
  pub is_digit : (digit ≡ pos 0) ⊎ (digit ≡ pos 1)

-- by the division by a successor of 1
pub halved_by : {first one two rest half digit : ℤ} → first ≡ pos 1 → one ≡ pos 1 → two ≡ one +ℤ pos 1 → first <ℤ rest
    → IsTruncated rest two half digit → IsHalved rest half digit
halved_by {two = two} {rest = rest} {half = half} {digit = digit} first_is one_is two_is above by_two =
    let is : two ≡ pos 2 = omega (arith, linear) in
    let h : IsTruncated rest (pos 2) half digit = rw is at by_two in
    let small : unsigned_abs digit < 2 = h.division.small in
    let whole : rest ≡ (half +ℤ half) +ℤ digit = omega (arith, products, h.division.equation) in
    let from_zero : pos 0 ≤ℤ digit = omega (arith, linear, h.sign) in
    record { half_from_zero = omega (arith, sizes); smaller = omega (arith, sizes); whole = whole; is_digit = grind (arith, sizes) }

-- the new total is the old one, and the addend if the digit is 1
pub doubling_iteration : {m x y total addend rest half digit t a : ℤ} → Doubling m x y total addend rest
    → IsHalved rest half digit → LiesBelow m t → AreCongruent m (total +ℤ addend *ℤ digit) t
    → IsResidue m (addend +ℤ addend) a → Doubling m x y t a half
doubling_iteration {total = total} {addend = addend} {half = half} {digit = digit} h k below sum double =
    let split : total +ℤ addend *ℤ ((half +ℤ half) +ℤ digit) ≡ (total +ℤ addend *ℤ digit) +ℤ (addend +ℤ addend) *ℤ half = simp expand (omega (arith, linear)) in
    let congruent = congruent_trans (rw (k.whole, split) at h.congruent) (congruent_sum sum (congruent_product double.congruent (congruent_refl half))) in
    record { total_below = below; addend_below = double.below; rest_from_zero = k.half_from_zero; congruent = congruent }

pub total_at_zero : {m digit : ℤ} (total addend : ℤ) → digit ≡ pos 0 → AreCongruent m (total +ℤ addend *ℤ digit) total
total_at_zero total addend zero = congruent_by (pos 0) (rw zero (omega (arith, products)))

pub total_at_one : {m digit t : ℤ} (total addend : ℤ) → (digit ≡ pos 0) ⊎ (digit ≡ pos 1) → digit ≢ pos 0
    → AreCongruent m (total +ℤ addend) t → AreCongruent m (total +ℤ addend *ℤ digit) t
total_at_one {digit = digit} total addend is_digit other h = let one : digit ≡ pos 1 = omega (arith, linear, is_digit) in rw (one, mul-one addend) h

-- at the end the rest is 1, or 0 and the total is the product
pub doubling_last : {m x y total addend rest r : ℤ} → Doubling m x y total addend rest → ¬ (pos 1 <ℤ rest)
    → rest ≢ pos 0 → IsResidue m (total +ℤ addend) r → IsResidue m (x *ℤ y) r
doubling_last {total = total} {addend = addend} {rest = rest} h low other sum =
    let one : rest ≡ pos 1 = omega (arith, linear, h.rest_from_zero, from_not_less low) in
    record { below = sum.below; congruent = congruent_trans h.congruent (total_at_one total addend (inr one) other sum.congruent) }

-- Lemmas on reduced pairs, which the invariant and the order of `Ratio` cite: being one has one proof, and
-- equal ones are the same.
use Rattle.std.specs.Prelude.{◌≡◌, ◌≢◌, ◌↔◌, ◌<ℤ◌, ◌≤ℤ◌, ◌*ℤ◌, ℤ, pos}
use Rattle.std.proofs.Common.{arith, refl, sym, ap, ◌∙◌}
use Rattle.std.proofs.Props.{props}
use mathlib.Core.HLevel.{is_prop→PathP}
use lib.IntN.{ℤ_set}
use Rattle.num_integer.proofs.ForCallers.{Divides_antisym, cancel, comm, coprime_divides, linear, products}
use Rattle.num_integer.specs.Divisors.{Divides, IsGreatestCommonDivisor}
use Rattle.ratio64.specs.Fraction.{AreEqual, IsReduced}

-- ---- one proof

-- by a number but 0 there is one factor
one_factor : {u v : ℤ} → u ≢ pos 0 → IsProp (Divides u v)
one_factor {u} {v} nonzero x y =
    let same : x.factor ≡ y.factor = cancel u x.factor y.factor nonzero (sym x.product ∙ y.product) in
    λ i. record { factor = same i; product = is_prop→PathP (λ i. v ≡ u *ℤ same i) (λ i. ℤ_set v (u *ℤ same i)) x.product y.product i }

-- a divisor of a number but 0 is not 0
divisor_nonzero : {d g : ℤ} → g ≢ pos 0 → Divides d g → d ≢ pos 0
divisor_nonzero nonzero h none = nonzero (let product = rw none at h.product in omega (arith, products))

-- that a number but 0 is the greatest common divisor of two others has one proof, which a ghost field of a struct needs
pub gcd_prop : {a b g : ℤ} → g ≢ pos 0 → IsProp (IsGreatestCommonDivisor a b g)
gcd_prop {a} {b} {g} nonzero x y =
    let up : IsProp (pos 0 ≤ℤ g) = hlevel props in
    λ i. record {
      from_zero = up x.from_zero y.from_zero i;
      divides_left = one_factor nonzero x.divides_left y.divides_left i;
      divides_right = one_factor nonzero x.divides_right y.divides_right i;
      greatest = λ d h k. one_factor (divisor_nonzero nonzero (x.greatest d h k)) (x.greatest d h k) (y.greatest d h k) i;
    }

one_is_not_zero : pos 1 ≢ pos 0
one_is_not_zero e = absurd (omega (arith, linear))

pub gcd_one_prop : (a b : ℤ) → IsProp (IsGreatestCommonDivisor a b (pos 1))
gcd_one_prop a b = gcd_prop one_is_not_zero

pub IsReduced_prop : (num den : ℤ) → IsProp (IsReduced num den)
IsReduced_prop num den x y =
    let up : IsProp (pos 0 <ℤ den) = hlevel props in
    λ i. record { positive = up x.positive y.positive i; lowest = gcd_one_prop num den x.lowest y.lowest i }

-- ---- the same pair

pub positive_is_nonzero : {z : ℤ} → pos 0 <ℤ z → z ≢ pos 0
positive_is_nonzero up none = absurd (omega (arith, linear))

pub AreEqual_sym : {a b c d : ℤ} → AreEqual a b c d → AreEqual c d a b
AreEqual_sym e = record { cross = sym e.cross }

-- the denominator of a reduced pair divides that of each equal fraction
pub denominator_divides : {a b c d : ℤ} → IsReduced a b → AreEqual a b c d → Divides b d
denominator_divides {b = b} {c = c} x e = coprime_divides x.lowest (record { factor = c; product = e.cross ∙ comm c b })

-- reduced pairs that are equal fractions are the same pair
pub same_pair : {a b c d : ℤ} → IsReduced a b → IsReduced c d → AreEqual a b c d → (a ≡ c) × (b ≡ d)
same_pair {a} {b} {c} {d} x y e =
    let left : pos 0 ≤ℤ b = omega (arith, linear) in
    let right : pos 0 ≤ℤ d = omega (arith, linear) in
    let dens : b ≡ d = Divides_antisym left right (denominator_divides x e) (denominator_divides y (AreEqual_sym e)) in
    (cancel d a c (positive_is_nonzero y.positive) (comm d a ∙ e.cross ∙ ap (λ (t : ℤ). c *ℤ t) dens ∙ comm c d), dens)

-- and the other way round
pub equal_where_same : {a b c d : ℤ} → IsReduced a b → IsReduced c d → AreEqual a b c d ↔ ((a ≡ c) × (b ≡ d))
equal_where_same x y = (same_pair x y, λ same. record { cross = rw (same.0, same.1) refl })

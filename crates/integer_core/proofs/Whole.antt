-- The ring of the integers, for `omega` and `simp`.
use Rattle.std.specs.Ordering.{int_cmp, is_ge, is_lt, is_some_and}
use Rattle.std.proofs.Common.{arith, ap, mul-pos, rules, ◌≡◌, ◌+◌, ◌*◌, ◌<ℤ◌, ◌≤ℤ◌, ◌+ℤ◌, ◌*ℤ◌, ℤ, pos, neg_ℤ, unsigned_abs, ◌↔◌, Bool, false, IsTrue, Option, Some, Ordering}
use Rattle.std.proofs.lemmas.Bool.{iff_false}
use Rattle.std.proofs.lemmas.Int.{ints}
use borrow.Author.Differences.{up, down, same_in, same_out, sum_is_lem, neg_is, product_is, abs_is, lt_out, le_out, below_in, at_most_in, Apart-out}
pub use Rattle.std.proofs.Math.IntN.{*ℤ_comm as comm}

-- linear arithmetic of integers
pub ruleset linear = (same_out, Apart-out, lt_out, le_out, below_in, at_most_in, same_in, sum_is_lem, neg_is)

-- what a test says
pub from_not_less : {a b : ℤ} → ¬ (a <ℤ b) → b ≤ℤ a
from_not_less h = grind (arith, linear)

-- what a test says, by the law of an order
pub is_less : {o : Option Ordering} {a b : ℤ} {t : Bool} → o ≡ Some (int_cmp a b) → t ≡ is_some_and is_lt o → IsTrue t ↔ (a <ℤ b)
is_less law test = rw (test, law) (Prim.search rules)

pub is_not_less : {o : Option Ordering} {a b : ℤ} {t : Bool} → o ≡ Some (int_cmp a b) → t ≡ is_some_and is_ge o → IsTrue t ↔ (b ≤ℤ a)
is_not_less law test = rw (test, law) (Prim.search rules)

-- that, with magnitudes
pub ruleset sizes = (linear, abs_is)

-- a number that is not negative is its magnitude
pub natural : {z : ℤ} → pos 0 ≤ℤ z → z ≡ pos (unsigned_abs z)
natural up = omega (arith, sizes)

-- that, with products known by their factors
pub ruleset products = (linear, product_is)

up-mul : (a b : ℤ) → up (a *ℤ b) ≡ up a * up b + down a * down b
up-mul a b = (product_is a b).0

down-mul : (a b : ℤ) → down (a *ℤ b) ≡ up a * down b + down a * up b
down-mul a b = (product_is a b).1

pub assoc : (a b c : ℤ) → (a *ℤ b) *ℤ c ≡ a *ℤ (b *ℤ c)
assoc a b c = same_in _ _ (simp (up-mul, down-mul) (omega arith))

pub left_comm : (a b c : ℤ) → a *ℤ (b *ℤ c) ≡ b *ℤ (a *ℤ c)
left_comm a b c = same_in _ _ (simp (up-mul, down-mul) (omega arith))

pub dist : (a b c : ℤ) → (a +ℤ b) *ℤ c ≡ a *ℤ c +ℤ b *ℤ c
dist a b c = let sum = sum_is_lem a b in omega (arith, products, ap (λ t. t * up c) sum, ap (λ t. t * down c) sum)

pub dist_left : (a b c : ℤ) → a *ℤ (b +ℤ c) ≡ a *ℤ b +ℤ a *ℤ c
dist_left a b c = rw (comm a (b +ℤ c), dist b c a, comm b a, comm c a)

-- a negated first factor negates the product
pub neg_mul : (a b : ℤ) → neg_ℤ a *ℤ b ≡ neg_ℤ (a *ℤ b)
neg_mul a b = grind (arith, products)

-- a negated second factor negates the product
pub mul_neg : (a b : ℤ) → a *ℤ neg_ℤ b ≡ neg_ℤ (a *ℤ b)
mul_neg a b = grind (arith, products)

-- multiplied out, for `simp`
pub ruleset expand = (dist, dist_left, neg_mul, mul_neg, assoc, comm, left_comm)

-- a product of two positive numbers
pub product_positive : (a b : ℤ) → pos 0 <ℤ a → pos 0 <ℤ b → pos 0 <ℤ (a *ℤ b)
product_positive a b a_up b_up = grind (arith, ints, mul-pos)

pub mul-one : (a : ℤ) → a *ℤ pos 1 ≡ a
mul-one a = omega (arith, products)

-- if the test whether a is below b is false, b is at most a
pub from_test : {answer : Bool} {a b : ℤ} → IsTrue answer ↔ (a <ℤ b) → answer ≡ false → b ≤ℤ a
from_test test e = from_not_less (iff_false test e)

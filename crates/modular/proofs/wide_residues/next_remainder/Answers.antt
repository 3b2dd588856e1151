use Rattle.modular.proofs.Common.{◌≡◌, ◌+◌, ◌*◌, ◌/◌, ◌%◌, ◌<◌, ◌^◌, ℕ, arith, IsNaturalRemainder}
use Rattle.modular.proofs.LongDivision.{remainder_of_digit}
use Rattle.modular.proofs.wide_residues.next_remainder.Goals as goal
use Rattle.modular.proofs.wide_residues.next_remainder.Goals.{After-quotient_digit-quotient}

-- the rest is what the digit of the quotient leaves
left_by_digit : (c : After-quotient_digit-quotient) {r : ℕ}
    → c.quotient_digit-quotient.result.0 * (c.args.m % 2 ^ 64) + r ≡ c.quotient_digit-quotient.result.1 * 2 ^ 64 + c.args.digit
    → r < c.args.m
    → IsNaturalRemainder (c.args.remainder * 2 ^ 64 + c.args.digit) c.args.m r
left_by_digit c =
    remainder_of_digit c.args.remainder c.args.digit (c.args.m / 2 ^ 64) (c.args.m % 2 ^ 64) c.quotient_digit-quotient.result.0 c.quotient_digit-quotient.result.1 (omega arith) c.quotient_digit-quotient.ensures.over

pub returns-then-product-digit : goal.returns-then-product-digit
returns-then-product-digit c = left_by_digit (goal.at.returns-then-product-digit c).After-quotient_digit-quotient (omega arith) (omega arith)

pub returns-else-product-digit : goal.returns-else-product-digit
returns-else-product-digit c = left_by_digit (goal.at.returns-else-product-digit c).After-quotient_digit-quotient (omega arith) (omega arith)

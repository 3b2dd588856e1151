use Rattle.std.proofs.Common.{◌≡◌, ◌+◌, ◌-◌, ◌*◌, ◌/◌, ◌%◌, ◌^◌, ◌<◌, arith, refl}
use Rattle.cellarcove_c.proofs.QuotientsByMultiplier.{magnitude_multiplier_is}
use Rattle.cellarcove_c.proofs.invariant_divisors.magnitude_multiplier.Goals as goal
use Rattle.cellarcove_c.proofs.invariant_divisors.magnitude_multiplier.Goals.{After-from}

is : (c : After-from) → ((1 * 2 ^ (63 + c.args.shift) % 2 ^ 128 - 1) / c.from.result ≡ (2 ^ 63 * 2 ^ c.args.shift - 1) / c.args.divisor) × ((2 ^ 63 * 2 ^ c.args.shift - 1) / c.args.divisor + 1 < 2 ^ 64)
is c = magnitude_multiplier_is c.args.divisor c.args.shift c.from.result (omega (arith, c.from.ensures)) c.requires.positive c.requires.most c.requires.within c.requires.least

pub overflow_cast-result-2 : goal.overflow_cast-result-2
overflow_cast-result-2 c = let own = is (goal.at.overflow_cast-result-2 c).After-from in rw own.0 (record { fits = omega (arith, own.1) })

pub overflow_add-result-2 : goal.overflow_add-result-2
overflow_add-result-2 c = let own = is (goal.at.overflow_add-result-2 c).After-from in rw own.0 (record { fits = omega (arith, own.1) })

pub returns : goal.returns
returns c = rw (is (goal.at.returns c).After-from).0 refl

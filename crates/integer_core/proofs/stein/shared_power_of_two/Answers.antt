use Rattle.integer_core.proofs.ForAnswers.{arith, sizes, gcd_of_power}
use Rattle.integer_core.proofs.stein.shared_power_of_two.Goals as goal

pub times_power_of_two-requires : goal.times_power_of_two-requires
times_power_of_two-requires g c =
    let parts = c.odd_parts.ensures in
    record { positive = omega (arith, sizes, c.from_64_bits.ensures.value); product_fits = (parts.gcd _ (gcd_of_power c.requires.power c.from_64_bits.ensures.value parts.left parts.right)).1 }

pub returns-clause-greatest : goal.returns-clause-greatest
returns-clause-greatest g c =
    let parts = c.odd_parts.ensures in
    rw c.times_power_of_two.ensures.value (parts.gcd _ (gcd_of_power c.requires.power c.from_64_bits.ensures.value parts.left parts.right)).0

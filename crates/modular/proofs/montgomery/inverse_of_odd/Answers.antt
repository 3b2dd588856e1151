use Rattle.modular.proofs.Common.{◌^◌, pos, arith, refl}
use Rattle.modular.proofs.Congruences.{congruent_divisor}
use Rattle.modular.proofs.MontgomeryInverses.{inverse_remainder, odd_inverse}
use Rattle.modular.proofs.montgomery.inverse_of_odd.Goals as goal

pub returns : goal.returns
returns c =
    let first = c.next_inverse-first.ensures 3 (omega arith) (odd_inverse c.args.m c.requires) in
    let second = c.next_inverse-second.ensures 6 (omega arith) first in
    let third = c.next_inverse-third.ensures 12 (omega arith) second in
    let fourth = c.next_inverse-fourth.ensures 24 (omega arith) third in
    let half = congruent_divisor (record { factor = pos (2 ^ 16); product = refl }) fourth in
    inverse_remainder c.args.m c.next_inverse.result (omega arith) (c.next_inverse.ensures 32 (omega arith) half)

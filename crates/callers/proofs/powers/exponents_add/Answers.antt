use Rattle.callers.proofs.Common.{arith, exponents_add, ints, nat_tests, pos}
use Rattle.callers.proofs.powers.exponents_add.Goals as goal

pub returns : goal.returns
returns c =
    let whole = rw (c.from.ensures, c.from-2.ensures) at c.power_modulo-whole.ensures.residue in
    let first = rw c.from-3.ensures at c.power_modulo-first.ensures.residue in
    let second = rw c.from-4.ensures at c.power_modulo-second.ensures.residue in
    let same = exponents_add (pos c.args.n) (pos c.args.m) c.args.a c.args.b _ _ _ _ first second whole c.product_modulo.ensures.residue in
    grind (arith, ints, nat_tests)

use Rattle.modular.proofs.Common.{arith, ints}
use Rattle.modular.proofs.SplitModuli.{few_twos, residue_joined}
use Rattle.modular.proofs.word_residues.SplitModulus.residue_of.Goals as goal

pub overflow_shl-quotient : goal.overflow_shl-quotient
overflow_shl-quotient c =
    let form = c.args.self.now in
    few_twos form.odd.modulus form.twos (omega arith) form.fits

pub returns : goal.returns
returns c =
    let form = c.args.self.now in
    let rest = c.residue_of-rest.ensures in
    let below = rest.below.below in
    residue_joined form.odd.modulus form.odd.inverse form.odd.inverts c.args.x.0 c.args.x.1 form.twos c.residue_of-rest.result (omega (arith, ints)) form.fits rest

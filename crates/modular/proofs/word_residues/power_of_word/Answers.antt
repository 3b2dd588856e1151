use Rattle.modular.proofs.Common.{arith}
use Rattle.modular.proofs.SplitModuli.{few_twos, power_residue}
use Rattle.modular.proofs.word_residues.power_of_word.Goals as goal

pub returns-clause-residue : goal.returns-clause-residue
returns-clause-residue c =
    let form = c.new-modulus.result in
    let odd = form.odd in
    let below = c.one.ensures.below in
    let few = few_twos odd.modulus form.twos (omega arith) form.fits in
    power_residue odd.modulus odd.inverse odd.inverts c.args.x c.args.exponent form.twos c.new-modulus.ensures (omega arith) c.form_of-base.ensures.congruent c.power_counted-iterations.ensures.power c.residue_of.ensures

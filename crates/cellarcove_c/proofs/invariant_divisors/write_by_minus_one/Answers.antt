use Rattle.std.proofs.Common.{◌∙◌, refl, sym}
use Rattle.std.proofs.lemmas.Bool.{false≢true}
use Rattle.cellarcove_c.proofs.FlooredQuotients.{fit_without_least}
use Rattle.cellarcove_c.proofs.invariant_divisors.write_by_minus_one.Goals as goal

pub returns-then-contains : goal.returns-then-contains
returns-then-contains c =
    let fit = fit_without_least c.args.numbers.now c.contains.result c.requires.each c.contains.ensures.cases in
    record { answer = λ h. false≢true (sym (fit.1 h) ∙ c.if-contains.true); refusal = λ _. (refl, refl) }

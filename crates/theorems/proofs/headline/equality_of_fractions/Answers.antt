use Rattle.std.specs.Prelude.{◌*ℤ◌}
use Rattle.std.proofs.Common.{sym, ◌∙◌}
use Rattle.std.proofs.lemmas.Bool.Decides.{Decides-int_eq}
use Rattle.ratio64.specs.FractionOrder.{ties_of_reduced}
use Rattle.theorems.proofs.headline.equality_of_fractions.Goals as goal

pub returns : goal.returns
returns c =
    let x = c.args.x.now in
    let y = c.args.y.now in
    let same = c.eq.ensures ∙ ties_of_reduced x.reduced y.reduced in
    let cross = Decides-int_eq (x.num *ℤ y.den) (y.num *ℤ x.den) in
    record { equal = (λ h. record { cross = cross.0 (sym same ∙ h) }, λ e. same ∙ cross.1 e.cross) }

use Rattle.std.specs.Prelude.{FitsSigned}
use Rattle.std.specs.Int.{w64}
use Rattle.std.proofs.Common.{rules}
use Rattle.std.proofs.lemmas.Int.{to_z-of_z}
use Rattle.theorems.proofs.headline.parts_of_fraction.Goals as goal

pub returns-clause-reduced : goal.returns-clause-reduced
returns-clause-reduced c =
    let num_fits : FitsSigned w64 c.num.result = search rules in
    let den_fits : FitsSigned w64 c.den.result = search rules in
    rw (to_z-of_z w64 _ num_fits, to_z-of_z w64 _ den_fits, c.num.ensures, c.den.ensures) c.args.x.now.reduced

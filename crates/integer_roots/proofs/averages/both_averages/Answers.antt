use Rattle.integer_roots.proofs.Common.{ap}
use Rattle.integer_roots.proofs.Averaging.{AreAverages, averages}
use Rattle.integer_roots.proofs.averages.both_averages.Given.{Over}
use Rattle.integer_roots.proofs.averages.both_averages.Goals as goal
use Rattle.integer_roots.proofs.averages.both_averages.Goals.{After-shr-half}

are_averages : (g : Over) (c : After-shr-half g) → let value = g.T.Number.value in
    AreAverages g.T.Number.fits (value c.args.a) (value c.args.b) (value c.bitand-both.result) (value c.bitor-either.result) (value c.shr-half.result)
are_averages g c =
    let laws = g.met.T.PrimInt in
    let fixed = g.met.T.FixedWidth in
    let both = laws.bitand_law c.args.a c.args.b c.bitand-both.result c.bitand-both.ensures in
    let either = laws.bitor_law c.args.a c.args.b c.bitor-either.result c.bitor-either.ensures in
    let one = laws.bitxor_law c.args.a c.args.b c.bitxor.result c.bitxor.ensures in
    let half = laws.shr_law c.bitxor.result 1 c.shr-half.result c.shr-half.ensures in
    let a_fits = c.requires.in_range.0 in
    let b_fits = c.requires.in_range.1 in
    let a_is = ap g.T.Number.value (fixed.value_round_trip_law _ a_fits) in
    let b_is = ap g.T.Number.value (fixed.value_round_trip_law _ b_fits) in
    rw (half, one, both, either) (averages (λ x y z. g.T.Number.between_law x y z g.met.T.Integral.exact_law) g.met.T.Native.native_law.complement a_fits b_fits a_is b_is (fixed.bits_of_law _ a_fits) (fixed.bits_of_law _ b_fits))

pub add-requires : goal.add-requires
add-requires g c = g.met.T.Zero.can_add_law _ _ (λ _. (are_averages g c).floor.1)

pub sub-requires : goal.sub-requires
sub-requires g c = g.met.T.Num.can_sub_law _ _ (λ _. (are_averages g (goal.at.sub-requires g c).After-shr-half).ceil.1)

pub returns : goal.returns
returns g c =
    let averages = are_averages g (goal.at.returns g c).After-shr-half in
    let sum = g.met.T.Zero.add_law c.bitand-both.result c.shr-half.result c.add.result c.add.ensures g.met.T.Integral.exact_law averages.floor.1 in
    let difference = g.met.T.Num.sub_law c.bitor-either.result c.shr-half.result c.sub.result c.sub.ensures g.met.T.Integral.exact_law averages.ceil.1 in
    rw (sum, difference) (record { in_range = (averages.floor.1, averages.ceil.1); floor = averages.floor.0; ceil = averages.ceil.0 })

use Rattle.intcalc_core.proofs.FractionLemmas.{given_or_refused, narrowed}
use Rattle.intcalc_core.proofs.outcome.fractions.operands.Goals as goal

pub returns : goal.returns
returns c =
    given_or_refused c.fractions.result
    (narrowed c.args.a c.ranges.a c.in_ok-a.ensures.0) (narrowed c.args.b c.ranges.b c.in_ok-a.ensures.1)
    (narrowed c.args.c c.ranges.c c.in_ok-c.ensures.0) (narrowed c.args.d c.ranges.d c.in_ok-c.ensures.1) c.fractions.ensures

use Rattle.modular.proofs.Common.{take_all, All-nil}
use Rattle.modular.proofs.Agreements.{SolvesAt, least_of_class, narrowed_by_one, narrowed_more, narrowed_solves, pair_at}
use Rattle.modular.proofs.several_congruences.least_solution.Goals as goal

pub loop-item-init : goal.loop-item-init
loop-item-init g c = record {
  in_range = (c.zero.ensures.in_range, c.one.ensures.in_range);
  kept = narrowed_by_one c.one.ensures.value (λ x. All-nil (SolvesAt g.C.HasCongruence.residue_of g.C.HasCongruence.modulus_of x));
}

pub least_candidate-requires : goal.least_candidate-requires
least_candidate-requires g c =
    let class = c.loop-item.invariant in
    let is = c.congruence-congruence.ensures in
    let pair = pair_at g.C.HasCongruence.residue_of g.C.HasCongruence.modulus_of g.T.Number.fits _ _ c.item-item.is c.loop-item-test.true c.requires.system in
    rw (is.residue, is.modulus)
    (record {
      in_range = (c.requires.in_range, class.in_range.0, class.in_range.1, pair.0.0, pair.0.1);
      a_positive = class.kept.positive;
      b_positive = pair.1;
      system = c.requires.system;
      candidates = narrowed_solves g.C.HasCongruence.residue_of g.C.HasCongruence.modulus_of _ class.kept c.item-item.is c.loop-item-test.true;
    })

pub returns-in_err-class : goal.returns-in_err-class
returns-in_err-class g c =
    let is = c.congruence-congruence.ensures in
    let none = rw (is.residue, is.modulus) at c.in_err-class.ensures in
    rw c.from_residual.ensures (λ t from each fits. none t (narrowed_solves g.C.HasCongruence.residue_of g.C.HasCongruence.modulus_of _ c.loop-item.invariant.kept c.item-item.is c.loop-item-test.true t each))

pub chinese_remainder-requires : goal.chinese_remainder-requires
chinese_remainder-requires g c =
    let class = c.loop-item.invariant in
    let is = c.congruence-congruence.ensures in
    let pair = pair_at g.C.HasCongruence.residue_of g.C.HasCongruence.modulus_of g.T.Number.fits _ _ c.item-item.is c.loop-item-test.true c.requires.system in
    record {
      in_range = (class.in_range.0, class.in_range.1, rw is.residue pair.0.0, rw is.modulus pair.0.1);
      a_positive = class.kept.positive;
      b_positive = rw is.modulus pair.1;
      lcm_fits = λ _ _. c.lcm_fits.ensures.0 c.if-not-lcm_fits.false;
    }

pub loop-item-preserved : goal.loop-item-preserved
loop-item-preserved g c =
    let is = c.congruence-congruence.ensures in
    let class = rw (is.residue, is.modulus) at c.in_ok-class.ensures in
    record { in_range = (class.0, class.1); kept = narrowed_more g.C.HasCongruence.residue_of g.C.HasCongruence.modulus_of _ c.loop-item.invariant.kept c.item-item.is c.loop-item-test.true class.2 }

pub returns : goal.returns
returns g c =
    let kept = rw (take_all _ _ c.loop-item-test.false) at c.loop-item.invariant.kept in
    least_of_class kept g.T.Number.value c.next_congruent.result g.met.T.Integer.range_law c.requires.in_range c.next_congruent.ensures.next

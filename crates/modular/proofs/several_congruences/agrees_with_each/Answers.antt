use Rattle.modular.proofs.Common.{refl, false≢true, iff_false, take_all, All-nil, gcd_with_positive_fits}
use Rattle.modular.proofs.Congruences.{gcd_with_modulus_positive}
use Rattle.modular.proofs.Agreements.{AgreesAt, agree_at_gcd, pair_at}
use Rattle.modular.proofs.ListedItems.{at_item, one_item_more}
use Rattle.modular.proofs.several_congruences.agrees_with_each.Goals as goal

pub loop-item-init : goal.loop-item-init
loop-item-init g c = All-nil (AgreesAt g.C.HasCongruence.residue_of g.C.HasCongruence.modulus_of _ _)

pub gcd-requires-clause-gcd_fits : goal.gcd-requires-clause-gcd_fits
gcd-requires-clause-gcd_fits g c = λ _ z h.
    let pair = pair_at g.C.HasCongruence.residue_of g.C.HasCongruence.modulus_of g.T.Number.fits _ _ c.item-item.is c.loop-item-test.true c.requires.system in
    let is = c.congruence-other.ensures in
    gcd_with_positive_fits g.met.T.Integer.range_law pair.0.1 pair.1 (rw is.modulus at h)

pub are_congruent-requires : goal.are_congruent-requires
are_congruent-requires g c =
    let pair = pair_at g.C.HasCongruence.residue_of g.C.HasCongruence.modulus_of g.T.Number.fits _ _ c.item-item.is c.loop-item-test.true c.requires.system in
    let is = c.congruence-other.ensures in
    record {
      in_range = (c.requires.in_range.0, rw is.residue pair.0.0, c.gcd.ensures.in_range);
      positive = gcd_with_modulus_positive pair.1 (rw is.modulus at c.gcd.ensures.greatest);
    }

pub returns-then-not-are_congruent : goal.returns-then-not-are_congruent
returns-then-not-are_congruent g c = (
  (λ h. absurd (false≢true h)),
  (λ each.
      let here = at_item (AgreesAt g.C.HasCongruence.residue_of g.C.HasCongruence.modulus_of _ _) _ _ c.item-item.is c.loop-item-test.true each in
      let is = c.congruence-other.ensures in
      absurd (iff_false c.are_congruent.ensures c.if-not-are_congruent.true (rw is.residue (here.congruent _ (rw is.modulus at c.gcd.ensures.greatest))))),
)

pub loop-item-preserved : goal.loop-item-preserved
loop-item-preserved g c =
    let is = c.congruence-other.ensures in
    let near = rw is.residue at (c.are_congruent.ensures.0 c.if-not-are_congruent.false) in
    one_item_more (AgreesAt g.C.HasCongruence.residue_of g.C.HasCongruence.modulus_of _ _) _ _ c.item-item.is c.loop-item-test.true c.loop-item.invariant (agree_at_gcd (rw is.modulus at c.gcd.ensures.greatest) near)

pub returns : goal.returns
returns g c = ((λ _. rw (take_all _ _ c.loop-item-test.false) at c.loop-item.invariant), (λ _. refl))

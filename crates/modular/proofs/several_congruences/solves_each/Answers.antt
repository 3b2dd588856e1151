use Rattle.modular.proofs.Common.{refl, false≢true, iff_false, take_all, All-nil}
use Rattle.modular.proofs.Agreements.{SolvesAt, pair_at}
use Rattle.modular.proofs.ListedItems.{at_item, one_item_more}
use Rattle.modular.proofs.several_congruences.solves_each.Goals as goal

pub loop-item-init : goal.loop-item-init
loop-item-init g c = All-nil (SolvesAt g.C.HasCongruence.residue_of g.C.HasCongruence.modulus_of _)

pub are_congruent-requires : goal.are_congruent-requires
are_congruent-requires g c =
    let pair = pair_at g.C.HasCongruence.residue_of g.C.HasCongruence.modulus_of g.T.Number.fits _ _ c.item-item.is c.loop-item-test.true c.requires.system in
    let is = c.congruence-congruence.ensures in
    record { in_range = (c.requires.in_range, rw is.residue pair.0.0, rw is.modulus pair.0.1); positive = rw is.modulus pair.1 }

pub returns-then-not-are_congruent : goal.returns-then-not-are_congruent
returns-then-not-are_congruent g c = (
  (λ h. absurd (false≢true h)),
  (λ each.
      let is = c.congruence-congruence.ensures in
      absurd (iff_false c.are_congruent.ensures c.if-not-are_congruent.true (rw (is.residue, is.modulus) (at_item (SolvesAt g.C.HasCongruence.residue_of g.C.HasCongruence.modulus_of _) _ _ c.item-item.is c.loop-item-test.true each)))),
)

pub loop-item-preserved : goal.loop-item-preserved
loop-item-preserved g c =
    let is = c.congruence-congruence.ensures in
    let near = rw (is.residue, is.modulus) at (c.are_congruent.ensures.0 c.if-not-are_congruent.false) in
    one_item_more (SolvesAt g.C.HasCongruence.residue_of g.C.HasCongruence.modulus_of _) _ _ c.item-item.is c.loop-item-test.true c.loop-item.invariant near

pub returns : goal.returns
returns g c = ((λ _. rw (take_all _ _ c.loop-item-test.false) at c.loop-item.invariant), (λ _. refl))

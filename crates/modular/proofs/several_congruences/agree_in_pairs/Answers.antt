use Rattle.modular.proofs.Common.{ap, arith, length, refl, subst, sym, false≢true, iff_false, All-rest, AgreeInPairs}
use Rattle.modular.proofs.Agreements.{SolvesAt, agreeing_have_solution, first_agrees, no_pairs, split_system}
use Rattle.modular.proofs.several_congruences.agree_in_pairs.Goals as goal

pub agrees_with_each-requires : goal.agrees_with_each-requires
agrees_with_each-requires g c =
    let split = split_system g.C.HasCongruence.residue_of g.C.HasCongruence.modulus_of g.T.Number.fits c.in-Some.ensures.cases.0 c.pairs.invariant.system in
    let is = c.congruence-first.ensures in
    record { in_range = (rw is.residue split.0.0.0, rw is.modulus split.0.0.1); positive = rw is.modulus split.0.1; system = split.1 }

pub pairs-smaller : goal.pairs-smaller
pairs-smaller g c = omega (arith, ap length c.in-Some.ensures.cases.0)

pub returns-then-not-agrees_with_each : goal.returns-then-not-agrees_with_each
returns-then-not-agrees_with_each g c = (
  (λ h. absurd (false≢true h)),
  (λ (x, each).
      let is = c.congruence-first.ensures in
      absurd (iff_false c.agrees_with_each.ensures c.if-not-agrees_with_each.true (rw (is.residue, is.modulus) (first_agrees g.C.HasCongruence.residue_of g.C.HasCongruence.modulus_of c.in-Some.ensures.cases.0 (c.pairs.invariant.solved x each))))),
)

pub pairs-preserved : goal.pairs-preserved
pairs-preserved g c =
    let kept = c.pairs.invariant in
    let split = c.in-Some.ensures.cases.0 in
    let is = c.congruence-first.ensures in
    let agrees = rw (is.residue, is.modulus) at (c.agrees_with_each.ensures.0 c.if-not-agrees_with_each.false) in
    record {
      system = (split_system g.C.HasCongruence.residue_of g.C.HasCongruence.modulus_of g.T.Number.fits split kept.system).1;
      solved = λ x each. All-rest (SolvesAt g.C.HasCongruence.residue_of g.C.HasCongruence.modulus_of x) _ _ _ split (kept.solved x each);
      agree = λ pairs. kept.agree (subst (AgreeInPairs g.C.HasCongruence.residue_of g.C.HasCongruence.modulus_of) (sym split) (agrees, pairs));
    }

pub returns : goal.returns
returns g c =
    let agree = c.pairs.invariant.agree (no_pairs g.C.HasCongruence.residue_of g.C.HasCongruence.modulus_of _ c.split_first.result _ c.in_default.not-Some c.split_first.ensures.cases) in
    ((λ _. agreeing_have_solution g.C.HasCongruence.residue_of g.C.HasCongruence.modulus_of c.args.items.now c.requires.system.1 agree), (λ _. refl))

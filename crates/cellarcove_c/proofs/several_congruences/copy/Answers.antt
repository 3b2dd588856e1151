use Rattle.cellarcove_c.proofs.Common.{◌<◌, ◌<ℤ◌, map, pos, ◌∙◌, arith, length, refl, sym, false≢true, iff_false, All-same, All-weaker}
use Rattle.cellarcove_c.proofs.CopiedPairs.{IsWithModulus, all_copied, copied_has, one_copied}
use Rattle.cellarcove_c.proofs.several_congruences.copy.Goals as goal

pub loop-i-preserved : goal.loop-i-preserved
loop-i-preserved g c =
    let copy = c.congruence-congruence.ensures in
    let positive = rw c.zero.ensures.value at (c.is_below.ensures.0 c.if-not-is_below.false) in
    let room : c.loop-i.i < length c.loop-i.copies = omega (arith, c.loop-i.auto.copies, c.requires, c.loop-i-test.true) in
    one_copied g.C.ForeignCongruence.congruence_of (IsWithModulus g.T.Number.value g.T.Number.fits) c.args.congruences.now c.loop-i.copies c.loop-i.i c.index-congruences-i.is copy.congruence c.loop-i-test.true room
    c.loop-i.invariant (copy.in_range.0, copy.in_range.1, positive)

pub returns-then-not-is_below-clause-positive : goal.returns-then-not-is_below-clause-positive
returns-then-not-is_below-clause-positive g c = (
  λ h. absurd (false≢true h),
  λ all.
      let has = copied_has g.C.ForeignCongruence.congruence_of (λ p. pos 0 <ℤ g.T.Number.value p.modulus) c.args.congruences.now c.loop-i.i c.index-congruences-i.is c.loop-i-test.true all in
      absurd (iff_false c.is_below.ensures c.if-not-is_below.true (rw (c.zero.ensures.value, c.congruence-congruence.ensures.congruence) has)),
)

pub returns-clause-positive : goal.returns-clause-positive
returns-clause-positive g c =
    let value = g.T.Number.value in
    let fits = g.T.Number.fits in
    let all = all_copied g.C.ForeignCongruence.congruence_of (IsWithModulus value fits) c.args.congruences.now c.loop-i.copies c.loop-i.i c.loop-i-test.false (c.loop-i.auto.copies ∙ c.requires) c.loop-i.invariant in
    let positive = All-weaker (IsWithModulus value fits) (λ p. pos 0 <ℤ value p.modulus) (λ _ h. h.2) c.loop-i.copies all.1 in
    (λ _. All-same (λ p. pos 0 <ℤ value p.modulus) (map g.C.ForeignCongruence.congruence_of c.args.congruences.now) c.loop-i.copies (sym all.0) positive, λ _. refl)

use Rattle.modular.proofs.Common.{◌<ℤ◌, pos, take, All}
use Rattle.modular.proofs.checked.are_positive.Given as goal

abbrev pub invariant-loop-congruence : goal.invariant-loop-congruence
invariant-loop-congruence g l = All (λ c. pos 0 <ℤ g.T.Number.value c.modulus) (take l.congruence-index l.congruences)

use Rattle.cellarcove_c.proofs.CopiedPairs.{AreCopied, IsWithModulus}
use Rattle.cellarcove_c.proofs.several_congruences.copy.Given as goal

abbrev pub invariant-loop-i : goal.invariant-loop-i
invariant-loop-i g l = AreCopied g.C.ForeignCongruence.congruence_of (IsWithModulus g.T.Number.value g.T.Number.fits) l.congruences l.copies l.i

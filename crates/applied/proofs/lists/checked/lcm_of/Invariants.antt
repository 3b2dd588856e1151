use Rattle.applied.proofs.Common.{map, take, IsLeastCommonMultipleOf}
use Rattle.applied.proofs.lists.checked.lcm_of.Given as goal

-- the lcm of the numbers so far
abbrev pub invariant-loop-number : goal.invariant-loop-number
invariant-loop-number g l = record {
  in_range : g.T.Number.fits (g.T.Number.value l.multiple);
  so_far : IsLeastCommonMultipleOf (map g.T.Number.value (take l.number-index l.numbers)) (g.T.Number.value l.multiple);
}

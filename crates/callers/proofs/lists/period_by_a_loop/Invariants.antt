use Rattle.callers.proofs.Common.{IsLeastCommonMultipleOf, map, pos, take, ◌<◌, ◌^◌}
use Rattle.callers.proofs.lists.period_by_a_loop.Given as goal

-- the lcm of the periods so far
abbrev pub invariant-loop-next : goal.invariant-loop-next
invariant-loop-next l = record {
  in_range : l.period < 2 ^ 64;
  so_far : IsLeastCommonMultipleOf (map (λ x. pos x) (take l.next-index l.periods)) (pos l.period);
}

use Rattle.std.proofs.Common.{◌≡◌, ◌<◌, ◌^◌, sum, take}
use Rattle.callers.proofs.tasks.total_of.Given as goal

abbrev pub invariant-loop-amount : goal.invariant-loop-amount
invariant-loop-amount l = (l.total ≡ sum (take l.amount-index l.amounts)) × (l.total < 2 ^ 64)

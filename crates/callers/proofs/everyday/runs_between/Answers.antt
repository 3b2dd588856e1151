use Rattle.std.proofs.lemmas.Int.{to_z-of_z}
use Rattle.std.specs.Int.{w64}
use Rattle.applied.proofs.ForCallers.{count_before}
use Rattle.callers.proofs.everyday.runs_between.Goals as goal

pub returns-else-end-from : goal.returns-else-end-from
returns-else-end-from c =
    count_before _ _ c.predecessor.result _ _ _ (rw (to_z-of_z w64 _ c.ranges.end) at c.predecessor.ensures.value)
    (rw (to_z-of_z w64 _ c.ranges.from, to_z-of_z w64 _ c.predecessor.ensures.in_range, to_z-of_z w64 _ c.ranges.phase, to_z-of_z w64 _ c.ranges.period) at c.count_congruent.ensures.count)

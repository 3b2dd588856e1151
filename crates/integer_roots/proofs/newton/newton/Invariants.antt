use Rattle.integer_roots.proofs.Common.{◌-◌, ◌^◌, ◌<◌, Rising, Falling, IsReached}
use Rattle.integer_roots.proofs.newton.newton.Given as goal

abbrev pub invariant-rise : goal.invariant-rise
invariant-rise g l = record {
  reached : IsReached (goal.F-post g l.step) l.fn.first (Rising l.x) l.iterations;
  next_is : goal.F-post g l.step l.x l.next;
  next_fits : l.next < 2 ^ 64;
}

abbrev pub decreases-rise : goal.decreases-rise
decreases-rise g l = 2 ^ 64 - l.x

abbrev pub invariant-fall : goal.invariant-fall
invariant-fall g l = record {
  reached : IsReached (goal.F-post g l.step) l.fn.first (Falling l.x) l.iterations;
  next_is : goal.F-post g l.step l.x l.next;
}

abbrev pub decreases-fall : goal.decreases-fall
decreases-fall g l = l.x

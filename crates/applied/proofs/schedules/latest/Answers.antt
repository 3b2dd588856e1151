use Rattle.applied.proofs.Common.{linear}
use Rattle.applied.proofs.Meetings.{begun_more}
use Rattle.applied.proofs.schedules.latest.Goals as goal

pub loop-schedule-preserved : goal.loop-schedule-preserved
loop-schedule-preserved g c =
    let so_far = c.loop-schedule.invariant in
    let more = c.maximum-latest.ensures.maximum in
    record {
      in_range = c.maximum-latest.ensures.in_range;
      from_there = omega (linear, so_far.from_there, more.from_there);
      begun = begun_more g.T.Number.value c.args.schedules.now c.loop-schedule.schedule-index c.schedule-item.result c.loop-schedule-test.true c.schedule-item.is more.from_there more.holds so_far.begun;
      least = λ u above begun. more.least u (so_far.least u above begun) (rw (← c.schedule-item.is) at (begun c.loop-schedule.schedule-index c.schedule-item.result c.loop-schedule-test.true));
    }

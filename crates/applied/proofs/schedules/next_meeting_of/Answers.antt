use Rattle.applied.proofs.Meetings.{meeting_of_each}
use Rattle.applied.proofs.schedules.next_meeting_of.Goals as goal

pub returns : goal.returns
returns g c = meeting_of_each g.T.Number.value g.T.Number.fits c.args.schedules.now c.next_solution_of_each.result c.latest.ensures.latest c.next_solution_of_each.ensures

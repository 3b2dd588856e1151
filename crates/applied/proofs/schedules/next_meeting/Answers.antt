use Rattle.applied.proofs.Meetings.{meeting_of_solution}
use Rattle.applied.proofs.schedules.next_meeting.Goals as goal

pub returns : goal.returns
returns g c =
    let first = c.congruence.ensures in
    let second = c.congruence-2.ensures in
    let next = rw (first.residue, first.modulus, second.residue, second.modulus) at c.next_common_solution.ensures in
    meeting_of_solution g.T.Number.value g.T.Number.fits _ _ c.next_common_solution.result c.maximum.ensures.maximum c.maximum-from.ensures.maximum next

use Rattle.calendar.proofs.Common.{FitsSigned, w64, ints, rules}
use Rattle.calendar.proofs.LaterEras.{date_later}
use Rattle.calendar.proofs.date.Date.eras_later.Goals as goal

pub invariant_of-result : goal.invariant_of-result
invariant_of-result c =
    let own : FitsSigned w64 c.args.self.now.year = search rules in
    record { valid = date_later c.args.eras (omega (ints, c.in_ok-narrowed.ensures)) c.args.self.now.valid }

use Rattle.calendar.proofs.Common.{FitsSigned, w64, rules, to_z-of_z, same_written, then_written}
use Rattle.calendar.proofs.DateTexts.{joined_week, zero_padded}
use Rattle.calendar.proofs.text.IsoWeekText.write_to.Goals as goal

pub returns : goal.returns
returns g c =
    let week = c.args.self.now in
    let fits : FitsSigned w64 week.year = search rules in
    let year = rw c.in_ok-write_year.was at (simp to_z-of_z at c.write_year.ensures) in
    let text = joined_week week _ (rw c.laid_out.ensures (zero_padded 2 week.week)) in
    same_written _ c.write.result _ _ _ _ text (then_written _ c.write.result _ _ _ _ _ year c.write.ensures.writes)

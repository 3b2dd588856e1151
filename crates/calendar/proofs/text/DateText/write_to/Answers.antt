use Rattle.calendar.proofs.Common.{ints, FitsSigned, w64, rules, to_z-of_z, same_written, then_written}
use Rattle.calendar.proofs.DateTexts.{joined, zero_padded}
use Rattle.calendar.proofs.YearTexts.{year_texts}
use Rattle.calendar.proofs.text.DateText.write_to.Goals as goal

pub returns-then-matches : goal.returns-then-matches
returns-then-matches g c = grind (ints, year_texts c.args.self.now.year)

pub returns : goal.returns
returns g c =
    let date = c.args.self.now in
    let fits : FitsSigned w64 date.year = search rules in
    let year = rw c.in_ok-write_year.was at (simp to_z-of_z at c.write_year.ensures) in
    let text = joined date _ _ (rw c.laid_out.ensures (zero_padded 2 date.month)) (rw c.laid_out-2.ensures (zero_padded 2 date.day_of_month)) in
    same_written _ c.write.result _ _ _ _ text (then_written _ c.write.result _ _ _ _ _ year c.write.ensures.writes)

use Rattle.calendar.proofs.Common.{ℤ, Some, FitsSigned, w64, ap, refl, rules, sym, ◌∙◌, to_z-of_z}
use Rattle.calendar.proofs.DateTexts.{made_date, no_date, only_number, parts_told, small_parts}
use Rattle.calendar.proofs.text.parse_date.Goals as goal

pub returns-in_err-year : goal.returns-in_err-year
returns-in_err-year c = λ date fits. no_date c.from_residual-in_err-year.ensures (λ e.
    let front = only_number c.args.text.now _ _ _ _ c.in_ok-front.ensures.0 (small_parts date).1 c.in_ok-front.ensures.1 e in
    c.in_err-year.ensures _ _ (small_parts date).0 front.0)

pub returns-in_err-parse_year : goal.returns-in_err-parse_year
returns-in_err-parse_year c = λ date fits. no_date c.from_residual-in_err-parse_year.ensures (λ e.
    let told = parts_told date c.in_ok-front.ensures c.in_ok-year.ensures e in
    let read = (c.parse_year.ensures date.year fits).1 told.0 in
    cc (c.in_err-parse_year.was))

pub returns : goal.returns
returns c =
    let own : FitsSigned w64 c.in_ok-parse_year.field-0 = search rules in
    let made = simp to_z-of_z at c.new.ensures in
    λ date fits. (
      λ e.
          let parts = rw e at made in
          let year = (c.parse_year.ensures date.year fits).0 (c.in_ok-parse_year.was ∙ ap (λ (y : ℤ). Some y) (sym parts.year_is)) in
          c.in_ok-front.ensures.1 ∙ rw (c.in_ok-year.ensures.1, year, parts.month_is, parts.day_is) refl,
      λ e.
          let (front, month, day) = parts_told date c.in_ok-front.ensures c.in_ok-year.ensures e in
          let read = (c.parse_year.ensures date.year fits).1 front in
          made_date c.new.result date made (cc (c.in_ok-parse_year.was)) month day,
    )

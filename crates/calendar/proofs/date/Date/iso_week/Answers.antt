use Rattle.std.proofs.lemmas.Grind.{merely}
use Rattle.calendar.proofs.Common.{ℤ, FitsSigned, w64, arith, refl, rules, subst, ints, to_z-of_z, HasDay}
use Rattle.calendar.proofs.IsoWeeks.{same_thursday, week_of}
use Rattle.calendar.proofs.YearLengths.{length_range}
use Rattle.calendar.proofs.date.Date.iso_week.Goals as goal

pub overflow_add-result : goal.overflow_add-result
overflow_add-result c = omega (arith, c.in_ok-year.ensures, length_range c.in_ok-year.year)

pub overflow_cast-result : goal.overflow_cast-result
overflow_cast-result c = omega (arith, c.in_ok-year.ensures, length_range c.in_ok-year.year)

pub returns-clause-to_53 : goal.returns-clause-to_53
returns-clause-to_53 c = omega (arith, c.in_ok-year.ensures, length_range c.in_ok-year.year)

pub returns-in_err-year-clause-week : goal.returns-in_err-year-clause-week
returns-in_err-year-clause-week c =
    let year : FitsSigned w64 c.args.self.now.year = search rules in
    let place : FitsSigned w64 c.days_to_thursday_of_date.result = omega ints in
    let none = simp to_z-of_z at c.in_err-year.ensures in
    rw c.from_residual.ensures (λ y week k fits. none y (subst (λ (t : ℤ). HasDay y t) (same_thursday k.of_week c.days_to_thursday_of_date.ensures.of_week) k.of_year) fits)

pub invariant_of-result : goal.invariant_of-result
invariant_of-result c =
    let year : FitsSigned w64 c.args.self.now.year = search rules in
    let own : FitsSigned w64 c.in_ok-year.year = search rules in
    let fits : FitsSigned w64 c.days_to_thursday_of_date.result = omega ints in
    let (within, place) = simp to_z-of_z at c.in_ok-year.ensures in
    simp to_z-of_z (record { valid = merely (record { day = _; in_week = week_of c.days_to_thursday_of_date.ensures.of_week within place refl }) })

pub returns-clause-week : goal.returns-clause-week
returns-clause-week c =
    let year : FitsSigned w64 c.args.self.now.year = search rules in
    let own : FitsSigned w64 c.in_ok-year.year = search rules in
    let fits : FitsSigned w64 c.days_to_thursday_of_date.result = omega ints in
    let (within, place) = simp to_z-of_z at c.in_ok-year.ensures in
    simp to_z-of_z (week_of c.days_to_thursday_of_date.ensures.of_week within place refl)

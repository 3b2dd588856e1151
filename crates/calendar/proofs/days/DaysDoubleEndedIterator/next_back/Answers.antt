use Rattle.calendar.proofs.Common.{ap, arith, length, sym, ◌∙◌, ints, from_not_less, length_push}
use Rattle.calendar.proofs.DayRanges.{last_left, none_earlier, none_left}
use Rattle.calendar.proofs.days.DaysDoubleEndedIterator.next_back.Goals as goal

pub returns-then-not-is_earlier-clause-steps : goal.returns-then-not-is_earlier-clause-steps
returns-then-not-is_earlier-clause-steps c = grind (arith, none_left, from_not_less, c.self.view_is, c.is_earlier.ensures.1)

pub returns-in_err-last-clause-steps : goal.returns-in_err-last-clause-steps
returns-in_err-last-clause-steps c =
    absurd (none_earlier c.self.inside.next c.self.inside.end (omega (ints, c.in_err-last.ensures)) (c.is_earlier.ensures.0 (cc)))

pub returns-clause-steps : goal.returns-clause-steps
returns-clause-steps c = sym c.self.view_is ∙ rw c.in_ok-last.ensures (last_left _ _ (c.is_earlier.ensures.0 (cc)))

pub returns-clause-goes : goal.returns-clause-goes
returns-clause-goes c =
    record { on = λ _. let fewer = ap length (returns-clause-steps c) in (tt, tt, omega (arith, length_push)); keeps = tt; rests = λ _. tt }

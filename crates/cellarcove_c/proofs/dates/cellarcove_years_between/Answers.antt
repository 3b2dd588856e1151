use Rattle.cellarcove_c.proofs.dates.cellarcove_years_between.Goals as goal

pub returns-in-Some-found-clause-answer : goal.returns-in-Some-found-clause-answer
returns-in-Some-found-clause-answer c = λ _ _.
    (c.in-Some.first, c.in-Some-found.last, c.in-Some.ensures.1, c.in-Some-found.ensures.1, rw c.of.ensures.answer c.years_between.ensures)

use Rattle.calendar.proofs.Common.{◌↔◌, IsTrue, arith, nat_tests, ints, IsEarlier}
use Rattle.calendar.proofs.DateOrder.{order}
use Rattle.calendar.proofs.days.is_earlier.Goals as goal

pub returns : goal.returns
returns c =
    let earlier : IsTrue c.lt.result ↔ IsEarlier c.args.first.now c.args.second.now = grind (arith, nat_tests, ints, c.lt.ensures) in
    let by_number = order c.args.first.now c.args.second.now in
    (λ t. by_number.0 (earlier.0 t), λ less. earlier.1 (by_number.1 less))

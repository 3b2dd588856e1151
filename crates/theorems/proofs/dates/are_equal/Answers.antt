use Rattle.theorems.proofs.Common.{◌≡◌, ◌↔◌, IsTrue, ap, arith, nat_tests, ints, Date, date_is_only}
use Rattle.theorems.proofs.dates.are_equal.Goals as goal

pub returns : goal.returns
returns c =
    let a = c.args.first.now in
    let b = c.args.second.now in
    let of_parts : IsTrue c.eq.result ↔ ((a.year ≡ b.year) × (a.month ≡ b.month) × (a.day_of_month ≡ b.day_of_month)) = grind (arith, nat_tests, ints, c.eq.ensures) in (
      λ h. let parts = of_parts.0 h in cc,
      λ same.
          let own = date_is_only a b same in
          of_parts.1 (ap (λ (date : Date). date.year) own, ap (λ (date : Date). date.month) own, ap (λ (date : Date). date.day_of_month) own),
    )

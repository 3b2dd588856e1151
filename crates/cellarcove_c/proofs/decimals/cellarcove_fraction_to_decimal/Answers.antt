use Rattle.cellarcove_c.proofs.Common.{rules}
use Rattle.cellarcove_c.proofs.DecimalDigits.{digits_made, whole_below}
use Rattle.cellarcove_c.proofs.decimals.cellarcove_fraction_to_decimal.Goals as goal

pub some-requires : goal.some-requires
some-requires c = search (rules, whole_below)

pub returns-in-Some : goal.returns-in-Some
returns-in-Some c =
    let (few, own) = c.in-Some.ensures in
    let made = c.some.ensures in (
      c.reduced.result,
      c.reduced.ensures,
      rw c.in-Ok.is (record {
        answer = rw made.status (few, digits_made own.places_are own.rounded made.sign made.whole made.part);
        refusal = λ other. absurd (other made.status);
      }),
    )

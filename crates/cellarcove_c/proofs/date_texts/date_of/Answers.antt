use Rattle.cellarcove_c.proofs.Common.{FitsSigned, w64, arith, refl, rules}
use Rattle.cellarcove_c.proofs.date_texts.date_of.Goals as goal

pub returns-in-Ok : goal.returns-in-Ok
returns-in-Ok c =
    let date = c.in-Ok.date in
    let fits : FitsSigned w64 date.year = search rules in
    let text = (c.in-Ok.ensures.value date fits).0 refl in
    let made = c.some.ensures in
    record {
      found = λ _. record { date = date; has_parts = made.parts; text_is = text };
      none = (λ same. absurd (omega (arith, same, made.status)), λ no. absurd (no date fits text));
      refusal = λ other. absurd (other made.status);
    }

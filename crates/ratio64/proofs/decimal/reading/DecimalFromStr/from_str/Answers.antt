use Rattle.ratio64.proofs.ReadDecimals.{other_read, parts_read}
use Rattle.ratio64.proofs.decimal.reading.DecimalFromStr.from_str.Goals as goal

pub returns-in-Some : goal.returns-in-Some
returns-in-Some c = parts_read c.in-Some.ensures c.number.ensures.number c.number.ensures.spelled

pub returns-in-None : goal.returns-in-None
returns-in-None c = other_read c.in-None.ensures

-- The string of a fraction is parsed as the same fraction, by the law `text_is_read_back`.
use Rattle.callers.proofs.Common.{FitsSigned, ReadsFraction, rules, text_is_read_back, text_of, w64}
use Rattle.callers.proofs.fractions.print_and_parse.Goals as goal

pub returns : goal.returns
returns c =
    let num_fits : FitsSigned w64 c.num-num.result = search rules in
    let den_fits : FitsSigned w64 c.den-den.result = search rules in
    let read : ReadsFraction (text_of c.args.x.now) c.parse.result = search rules in
    text_is_read_back c.args.x.now c.parse.result (rw c.num-num.ensures at num_fits) (rw c.den-den.ensures at den_fits) read

use Rattle.std.proofs.lemmas.Str.Pattern.{strip_prefix_char}
use Rattle.calendar.proofs.Common.{Some, None, arith, ints}
use Rattle.calendar.proofs.YearTexts.{minus_form, no_year_read, plain_form, plus_form, year_read}
use Rattle.calendar.proofs.text.parse_year.Goals as goal

-- a text with a minus
pub returns-in_err-parse_number : goal.returns-in_err-parse_number
returns-in_err-parse_number c =
    let minus = strip_prefix_char 45 _ (Some c.in-Some.digits) c.in-Some.ensures.cases (omega arith) in
    no_year_read (minus_form minus) c.in_err-parse_number.ensures.number c.from_residual.ensures

pub returns-in_ok-parse_number : goal.returns-in_ok-parse_number
returns-in_ok-parse_number c =
    let minus = strip_prefix_char 45 _ (Some c.in-Some.digits) c.in-Some.ensures.cases (omega arith) in
    let read = c.in_ok-parse_number in
    year_read read.field-0 (minus_form minus) read.ensures.number (omega (ints, read.ensures.range))

-- a text with a plus
pub returns-in_err-parse_number-2 : goal.returns-in_err-parse_number-2
returns-in_err-parse_number-2 c =
    let plus = strip_prefix_char 43 _ (Some c.in-Some-strip_prefix.digits) c.in-Some-strip_prefix.ensures.cases (omega arith) in
    no_year_read (plus_form plus) c.in_err-parse_number-2.ensures.number c.from_residual-in_err-parse_number-2.ensures

pub returns-in_ok-parse_number-2 : goal.returns-in_ok-parse_number-2
returns-in_ok-parse_number-2 c =
    let plus = strip_prefix_char 43 _ (Some c.in-Some-strip_prefix.digits) c.in-Some-strip_prefix.ensures.cases (omega arith) in
    let read = c.in_ok-parse_number-2 in
    year_read read.field-0 (plus_form plus) read.ensures.number (omega (ints, read.ensures.range))

-- a text with no sign
pub returns-in_err-parse_number-3 : goal.returns-in_err-parse_number-3
returns-in_err-parse_number-3 c =
    let no_minus = strip_prefix_char 45 _ None c.in_default.ensures.cases (omega arith) in
    let no_plus = strip_prefix_char 43 _ None c.in_default-strip_prefix.ensures.cases (omega arith) in
    no_year_read (plain_form no_minus no_plus) c.in_err-parse_number-3.ensures.number c.from_residual-in_err-parse_number-3.ensures

pub returns-in_ok-parse_number-3 : goal.returns-in_ok-parse_number-3
returns-in_ok-parse_number-3 c =
    let no_minus = strip_prefix_char 45 _ None c.in_default.ensures.cases (omega arith) in
    let no_plus = strip_prefix_char 43 _ None c.in_default-strip_prefix.ensures.cases (omega arith) in
    let read = c.in_ok-parse_number-3 in
    year_read read.field-0 (plain_form no_minus no_plus) read.ensures.number (omega (ints, read.ensures.range))

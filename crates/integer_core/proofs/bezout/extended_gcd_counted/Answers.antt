use Rattle.integer_core.proofs.ForAnswers.{iff_false, add-two, answer_for_zero, answer_of_loop, only_answer, sign_keeps, sign_size, gcd_fits_is, lame, first_fits, sign_fits}
use Rattle.integer_core.proofs.bezout.extended_gcd_counted.Goals as goal

pub normalized-requires : goal.normalized-requires
normalized-requires g c =
    let range = g.met.T.Integer.range_law in
    let row = c.of_first.ensures in
    let fits = first_fits range c.requires.a_in_range in
    let answer = answer_for_zero (c.is_zero.ensures.0 c.if-is_zero.true) in
    rw (row.remainder, row.x, row.y) (record {
      gcd_fits = (gcd_fits_is range c.requires.a_in_range c.requires.b_in_range).0 c.requires.gcd_fits _ answer.greatest;
      x_fits = sign_fits range c.requires.a_in_range fits.x;
      y_fits = sign_fits range c.requires.a_in_range fits.y;
    })

pub normalized-requires-else-is_zero-clause-gcd_fits : goal.normalized-requires-else-is_zero-clause-gcd_fits
normalized-requires-else-is_zero-clause-gcd_fits g c =
    let fits = gcd_fits_is g.met.T.Integer.range_law c.requires.a_in_range c.requires.b_in_range in
    rw sign_size (fits.0 c.requires.gcd_fits _ c.last_row-row.ensures.greatest)

pub returns-then-is_zero-clause-answer : goal.returns-then-is_zero-clause-answer
returns-then-is_zero-clause-answer g c =
    let row = c.of_first.ensures in
    let e = c.normalized.ensures in
    rw (e.gcd, e.x, e.y, row.remainder, row.x, row.y) (answer_for_zero (c.is_zero.ensures.0 c.if-is_zero.true))

pub returns-else-is_zero : goal.returns-else-is_zero
returns-else-is_zero g c =
    let nonzero = iff_false c.is_zero.ensures c.if-is_zero.false in
    let row = c.last_row-row.ensures in
    let answer = answer_of_loop nonzero row.greatest row.at_once row.after_iterations in
    let e = c.normalized-else-is_zero.ensures in
    record {
      in_range = e.in_range;
      answer = rw (e.gcd, e.x, e.y) answer;
      only = rw (e.gcd, e.x, e.y) (only_answer answer);
      iterations = record { of_zero = λ none. absurd (nonzero none); of_nonzero = λ _. row.iterations };
      bound = λ _. rw (e.gcd, sign_keeps, add-two) (lame _ nonzero row.iterations row.greatest.divides_left row.greatest.divides_right);
    }

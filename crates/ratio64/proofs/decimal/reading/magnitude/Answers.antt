use Rattle.std.proofs.Common.{rules}
use Rattle.ratio64.proofs.Common.{◌≡◌, ◌≤◌, ◌<◌, ◌^◌, ◌*◌, ◌+◌, ◌++◌, MatchOption, arith, digits_value, length, pos, subst, sym, unsigned_part}
use Rattle.ratio64.proofs.ReadDecimals.{digits_joined, whole_at_most, whole_size_is}
use Rattle.ratio64.proofs.decimal.reading.magnitude.Goals as goal

pub returns-in_err-whole_magnitude : goal.returns-in_err-whole_magnitude
returns-in_err-whole_magnitude c =
    let w = c.args.whole.now in
    rw c.from_residual.ensures (omega (arith, c.in_err-whole_magnitude.ensures, whole_size_is w, whole_at_most (unsigned_part w) c.args.part.now))

pub returns : goal.returns
returns c =
    let w = c.args.whole.now in
    let part = c.args.part.now in
    let scale : c.pow-scale.result ≡ 10 ^ length part = search rules in
    let same : c.in_ok-whole_magnitude.field-0 * c.pow-scale.result + c.part_magnitude.result ≡ digits_value 10 (unsigned_part w ++ part) =
    rw (c.in_ok-whole_magnitude.ensures, scale, c.part_magnitude.ensures, whole_size_is w) (sym (digits_joined (unsigned_part w) part)) in
    subst (λ n. MatchOption c.joined.result (2 ^ 127 ≤ n) (λ size. (size ≡ pos n) × (n < 2 ^ 127))) same c.joined.ensures

use Rattle.std.proofs.lemmas.Bool.{iff_false}
use Rattle.cellarcove_c.proofs.ClassesOfBoth.{class_is, reason_is}
use Rattle.cellarcove_c.proofs.congruences.class_of_both.Goals as goal

pub returns-then-lcm_fits : goal.returns-then-lcm_fits
returns-then-lcm_fits g c =
    let zero_fits = c.requires.in_range.4 in
    let good = c.are_positive.ensures.0 c.if-not-are_positive.false in
    let status = c.with_status in
    class_is g.T.Number.value g.T.Number.fits _ _ _ _ (record { residue = c.args.zero; modulus = c.args.zero }) (zero_fits, zero_fits) good (c.lcm_fits.ensures.0 c.if-lcm_fits.true) status.result.0 status.result.1 c.chinese_remainder.result
    c.chinese_remainder.ensures status.ensures.answer status.ensures.refusal

pub returns-else-lcm_fits : goal.returns-else-lcm_fits
returns-else-lcm_fits g c =
    let zero_fits = c.requires.in_range.4 in
    let good = c.are_positive.ensures.0 c.if-not-are_positive.false in
    let beyond = iff_false c.lcm_fits.ensures c.if-lcm_fits.false in
    let reason = c.reason_for_congruences in
    reason_is g.T.Number.value g.T.Number.fits _ _ _ _ (record { residue = c.args.zero; modulus = c.args.zero }) (zero_fits, zero_fits) good beyond reason.result reason.ensures.not_fitting reason.ensures.no_solution reason.ensures.refusal

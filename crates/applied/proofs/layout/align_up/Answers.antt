use Rattle.applied.proofs.Common.{false≢true, least_multiple_beyond, next_multiple_least}
use Rattle.applied.proofs.layout.align_up.Goals as goal

pub returns-then-next_multiple_fits : goal.returns-then-next_multiple_fits
returns-then-next_multiple_fits g c =
    let m = next_multiple_least c.requires.positive c.next_multiple_of.ensures.multiple in
    (c.next_multiple_of.ensures.in_range, record { from_offset = m.0; multiple = m.2; least = m.3 })

pub returns-else-next_multiple_fits : goal.returns-else-next_multiple_fits
returns-else-next_multiple_fits g c = λ u h.
    least_multiple_beyond _ c.requires.positive (λ fact. false≢true (c.if-next_multiple_fits.ensures.1 fact)) u h.from_offset h.multiple h.least

use Rattle.integer_roots.proofs.Common.{leading_of_zero, ◌∙◌, width}
use Rattle.integer_roots.proofs.magnitude_roots.bits.Goals as goal

pub returns : goal.returns
returns g c =
    let none = g.met.T.FixedWidth.bits_of_natural_law c.zero.result 0 c.zero.ensures.value in
    rw (c.leading_zeros.ensures, none) (leading_of_zero _ ∙ width g.T.FixedWidth.width)

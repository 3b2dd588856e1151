use Rattle.theorems.proofs.Common.{ℤ, pos, w64, ap, sym, to_z-of_z, quotient_is_exact, whole_is_multiple, exact_result_exists, exact_result_is_only}
use Rattle.theorems.proofs.fractions.is_integer.Goals as goal

pub returns : goal.returns
returns c =
    let divides = rw (to_z-of_z w64 _ c.ranges.num, to_z-of_z w64 _ c.ranges.den) at c.is_multiple_of.ensures in
    let result = exact_result_exists c.args.num c.args.den c.requires in (
      λ h n d exact.
          let whole = exact_result_is_only _ _ n d exact (_, pos 1) (quotient_is_exact c.requires (divides.0 h)) in
          sym (ap (λ (t : ℤ × ℤ). t.1) whole),
      λ all. divides.1 (whole_is_multiple result.2 (all result.0 result.1 result.2)),
    )

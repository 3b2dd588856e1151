-- `is_power` compares n with the power of its root. The root of a power is exact.
use Rattle.applied.proofs.Common.{◌∙◌, sym, within_fits}
use Rattle.applied.proofs.PowersAndRoots.{root_of_power_is_exact, power_of_root_in_range}
use Rattle.applied.proofs.powers.is_power.Goals as goal

pub pow-requires : goal.pow-requires
pow-requires g c = λ _. within_fits g.met.T.Integer.range_law c.requires.in_range (power_of_root_in_range c.nth_root.ensures.root)

pub returns : goal.returns
returns g c =
    let power = c.pow.ensures.value g.met.T.Integer.exact_law in (
      λ h. (g.T.Number.value c.nth_root.result, sym power ∙ c.is_equal.ensures.0 h),
      λ x. c.is_equal.ensures.1 (power ∙ root_of_power_is_exact x.0 c.requires.degree x.1 c.nth_root.ensures.root),
    )

use Rattle.theorems.proofs.Common.{◌≡◌, pos, rules, zero_is_over_one, num_of}
use Rattle.theorems.proofs.fractions.is_zero.Goals as goal

pub returns : goal.returns
returns c = (
  λ h.
      let none : num_of c.args.x.now ≡ pos 0 = search rules in
      (none, zero_is_over_one c.args.x.now.reduced none),
  λ h. search rules,
)

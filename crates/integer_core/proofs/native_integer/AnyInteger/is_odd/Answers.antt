use Rattle.std.proofs.lemmas.Bool.{both_ways, not-true, not_from_false, false_from_ne_true}
use Rattle.integer_core.proofs.native_integer.AnyInteger.is_odd.Goals as goal

pub returns : goal.returns
returns g c = (
  λ t even. both_ways _ (not-true _ t) (c.is_even.ensures.1 even),
  λ odd. not_from_false _ (false_from_ne_true _ (λ t. odd (c.is_even.ensures.0 t))),
)

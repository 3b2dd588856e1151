use Rattle.modular.proofs.Common.{arith, refl}
use Rattle.modular.proofs.Congruences.{congruent_trans}
use Rattle.modular.proofs.PowerIterations.{few_halvings, halved_iteration, powering_first, powering_iteration}
use Rattle.modular.proofs.exponentiation.power_counted.Goals as goal

pub halvings-init : goal.halvings-init
halvings-init g c = record {
  valid = (c.requires.one_valid, c.requires.base_valid);
  kept = powering_first c.args.exponent c.requires.one;
  halved = record { never = λ none. refl; some = λ other. omega arith; low = omega arith; high = omega arith };
}

pub halvings-preserved : goal.halvings-preserved
halvings-preserved g c =
    let product = c.product_if-power.ensures in
    record {
      valid = (product.valid, c.product-square.ensures.valid);
      kept = powering_iteration c.halvings.invariant.kept product.congruent c.product-square.ensures.congruent;
      halved = halved_iteration c.halvings.invariant.halved (omega arith);
    }

pub overflow_add-iterations : goal.overflow_add-iterations
overflow_add-iterations g c = omega (arith, few_halvings 128 c.halvings.invariant.halved (omega arith) (omega arith))

pub returns-clause-power : goal.returns-clause-power
returns-clause-power g c = congruent_trans c.halvings.invariant.kept.congruent c.product_if.ensures.congruent

use Rattle.integer_core.proofs.ForAnswers.{arith, few_iterations, odd_part_le, odd_gcd_positive}
use Rattle.integer_core.proofs.stein.positive_gcd.Goals as goal

pub times_power_of_two-requires : goal.times_power_of_two-requires
times_power_of_two-requires g c = grind (arith, odd_gcd_positive)

pub returns-clause-gcd : goal.returns-clause-gcd
returns-clause-gcd g c =
    let parts = c.odd_parts-m.ensures in
    let odd = c.narrowing_gcd-odd.ensures.odd_gcd in
    record {
      greatest = rw c.times_power_of_two.ensures.value (parts.gcd _ odd.greatest).0;
      run = record { first = _; left = parts.left; right = parts.right; run = odd.run };
      bound = λ k l a_fits b_fits. few_iterations k l odd.few (omega (arith, odd_part_le parts.left)) (omega (arith, odd_part_le parts.right));
    }

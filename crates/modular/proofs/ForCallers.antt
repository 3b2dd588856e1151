-- Lemmas for the proofs of callers, in addition to the laws.
pub use Rattle.modular.proofs.Congruences.{congruent_difference, congruent_divisor, congruent_equal, congruent_gcd, congruent_product, congruent_refl, congruent_sum, congruent_sym, congruent_trans, remainder_is_residue, residue_of_congruent, residue_of_product, residue_of_sum}
pub use Rattle.modular.proofs.TwoCongruences.{lcm_by_reduced_modulus, next_of_class_and, none_of_class_and}
pub use Rattle.modular.proofs.BelowModulus.{congruent_is_natural, difference_is_natural, natural_residue, residue_fits, residue_is_natural, sum_is_natural}
pub use Rattle.modular.proofs.CoprimeModuli.{coprime_product, odd_coprime}
pub use Rattle.modular.proofs.LinearCongruences.{inverse_exists, solved_by_inverse}
pub use Rattle.modular.proofs.PowerIterations.{congruent_power}
pub use Rattle.modular.proofs.Agreements.{agreeing_have_solution, solved_agree}
pub use Rattle.modular.proofs.NaturalPowers.{power_is_natural, residue_of_exponent_sum}

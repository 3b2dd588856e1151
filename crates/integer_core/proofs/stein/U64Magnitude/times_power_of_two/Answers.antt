use Rattle.integer_core.proofs.OddParts.{shift_few}
use Rattle.integer_core.proofs.stein.U64Magnitude.times_power_of_two.Goals as goal

pub overflow_shl-result : goal.overflow_shl-result
overflow_shl-result c = shift_few _ _ 64 c.requires.positive c.requires.product_fits

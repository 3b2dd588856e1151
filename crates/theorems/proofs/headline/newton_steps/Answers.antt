use Rattle.theorems.proofs.Roots.{newton_step_below_guess_above_root, newton_step_never_below_root}
use Rattle.theorems.proofs.headline.newton_steps.Goals as goal

pub returns : goal.returns
returns c = record { never_below_root = newton_step_never_below_root; below_guess_above_root = newton_step_below_guess_above_root }

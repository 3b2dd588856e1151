use Rattle.std.specs.Prelude.{pos}
use Rattle.bounded_integers.proofs.Forms.{of_number}
use Rattle.bounded_integers.proofs.bounded.RangedForm.stored_one.Goals as goal

pub returns : goal.returns
returns g c = of_number (λ inside. record { number = pos 1; range = record {}; in_range = inside }) _ _

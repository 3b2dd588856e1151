-- The messages of the errors.
use Rattle.std.specs.Prelude.{ℕ, List, codes}
use Rattle.applied.specs.declared.shares.error.SharesError.{SharesError}
use Rattle.applied.specs.declared.shares.error.SharesError.TheVariants.{DifferentLengths, ZeroWeights}

-- This is the message of an error, which `Display` prints.
-- Examples: `ZeroWeights`: `the weights are all 0`.
abbrev pub error_text : SharesError → List ℕ
error_text DifferentLengths = codes "there is not one share for each weight"
error_text ZeroWeights = codes "the weights are all 0"

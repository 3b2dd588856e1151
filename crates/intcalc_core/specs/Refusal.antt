-- The table of refusals.
use Rattle.std.specs.Prelude.{ℕ, List, codes}
use Rattle.intcalc_core.specs.declared.calls.Refusal.{Refusal}
use Rattle.intcalc_core.specs.declared.calls.Refusal.TheVariants.{OutOfType, ZeroDivisor, ZeroDegree, NegativeRoot, NegativeCount, NotFitting, NoPair}

-- The row of a refusal: its number and its name.
-- Examples: `OutOfType`: 1 and `OutOfType`; `NoPair`: 7 and `NoPair`.
abbrev pub row_of : Refusal → ℕ × List ℕ
row_of OutOfType = (1, codes "OutOfType")
row_of ZeroDivisor = (2, codes "ZeroDivisor")
row_of ZeroDegree = (3, codes "ZeroDegree")
row_of NegativeRoot = (4, codes "NegativeRoot")
row_of NegativeCount = (5, codes "NegativeCount")
row_of NotFitting = (6, codes "NotFitting")
row_of NoPair = (7, codes "NoPair")

-- The number of a refusal is printed after `refused`, and no version changes it.
-- Examples: `OutOfType`: 1; `ZeroDivisor`: 2; `NoPair`: 7.
abbrev pub number_of : Refusal → ℕ
number_of refusal = (row_of refusal).0

-- The name of a refusal is printed after its number.
-- Examples: 1: `OutOfType`; 2: `ZeroDivisor`; 7: `NoPair`.
abbrev pub name_of : Refusal → List ℕ
name_of refusal = (row_of refusal).1

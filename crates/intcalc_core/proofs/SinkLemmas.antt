-- One addition after another.
use Rattle.intcalc_core.proofs.Common.{◌≡◌, ℕ, List, ◌++◌, Option, take, drop, length, arith, ◌≤◌, ◌-◌, Appends, common_steps}

-- x is added, and then y
pub Appends-trans : (a b c : Option (List ℕ)) (x y : List ℕ) → Appends a b x → Appends b c y → Appends a c (x ++ y)
Appends-trans a b c x y p q = grind (arith, common_steps)

-- the first part of what is left goes out
pub part : (done rest all : List ℕ) (n : ℕ) → n ≤ length rest → done ++ rest ≡ all
    → (done ++ take n rest) ++ take (length rest - n) (drop n rest) ≡ all
part done rest all n l e = grind (arith, common_steps)

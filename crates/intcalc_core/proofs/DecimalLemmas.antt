-- The digits of a number, from the last.
use Rattle.intcalc_core.proofs.Common.{◌≡◌, ℕ, zero, suc, ◌+◌, ◌-◌, ◌%◌, ◌^◌, ◌<◌, ◌≤◌, List, [], ◌∷◌, ◌++◌, length, drop, set, ap, append_assoc, length-append, arith, decimal, decimal_by_steps_wide, length-decimal-le_wide, drop-set}

-- if digits are left, there is room in front of those that are written
pub room : (text : List ℕ) (n rest at : ℕ) → length text ≡ 39 → n < 2 ^ 128 → rest < 2 ^ 128 → decimal rest ++ drop at text ≡ decimal n → 0 < at
room text n rest zero size n_fits rest_fits e =
    let some : 0 < length (decimal rest) = decimal_by_steps_wide (λ _ ds. 0 < length ds) (λ _ _. omega arith) (λ n ds _ _. omega (arith, length-append ds ((48 + n % 10) ∷ []))) rest (omega arith) in
    let most : length (decimal n) ≤ 39 = length-decimal-le_wide 39 n (omega arith) (omega arith) (omega arith) in
    absurd (omega (arith, length-append (decimal rest) text, ap length e))
room text n rest (suc at) size n_fits rest_fits e = omega arith

-- a digit is written between those that are left and those that are written
pub one_digit_more : (left ds text : List ℕ) (at d : ℕ) → 0 < at → at ≤ length text
    → (left ++ (d ∷ [])) ++ drop at text ≡ ds → left ++ drop (at - 1) (set text (at - 1) d) ≡ ds
one_digit_more left ds text at d pos within e = grind (arith, drop, set, drop-set, append_assoc)

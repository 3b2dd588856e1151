-- The words that ask for a call.
use Rattle.std.specs.Prelude.{◌≡◌, ℕ, ℤ, List, ◌∷◌, codes, map, Option, Some, MatchOption}
use Rattle.intcalc_core.specs.Number.{spelled_number}
use Rattle.intcalc_core.specs.Operands.{operands_of}
use Rattle.intcalc_core.specs.declared.calls.Kind.{Kind}
use Rattle.intcalc_core.specs.declared.calls.Kind.TheVariants.{I8, U8, I64, U64}
use Rattle.intcalc_core.specs.declared.calls.Call.{Call}
use Rattle.intcalc_core.specs.declared.calls.Call.TheVariants.{DivRem, DivModFloor, DivFloor, DivCeil, ModFloor, NextMultipleOf, PrevMultipleOf, IsMultipleOf, Gcd, Lcm, GcdLcm, ExtendedGcd, AverageFloor, AverageCeil, Sqrt, Cbrt, NthRoot, Binomial, RatioAdd, RatioMul}

-- Each kind has a word.
-- Examples: `I8`: `i8`; `U64`: `u64`.
abbrev pub word_of_kind : Kind → List ℕ
word_of_kind I8 = codes "i8"
word_of_kind U8 = codes "u8"
word_of_kind I64 = codes "i64"
word_of_kind U64 = codes "u64"

-- Each call has a word.
-- Examples: `Gcd(4, 6)`: `gcd`; `DivFloor(7, 2)`: `div_floor`.
abbrev pub word_of_call : Call → List ℕ
word_of_call (DivRem n d) = codes "div_rem"
word_of_call (DivModFloor n d) = codes "div_mod_floor"
word_of_call (DivFloor n d) = codes "div_floor"
word_of_call (DivCeil n d) = codes "div_ceil"
word_of_call (ModFloor n d) = codes "mod_floor"
word_of_call (NextMultipleOf n d) = codes "next_multiple_of"
word_of_call (PrevMultipleOf n d) = codes "prev_multiple_of"
word_of_call (IsMultipleOf n d) = codes "is_multiple_of"
word_of_call (Gcd a b) = codes "gcd"
word_of_call (Lcm a b) = codes "lcm"
word_of_call (GcdLcm a b) = codes "gcd_lcm"
word_of_call (ExtendedGcd a b) = codes "extended_gcd"
word_of_call (AverageFloor a b) = codes "average_floor"
word_of_call (AverageCeil a b) = codes "average_ceil"
word_of_call (Sqrt x) = codes "sqrt"
word_of_call (Cbrt x) = codes "cbrt"
word_of_call (NthRoot x n) = codes "nth_root"
word_of_call (Binomial n k) = codes "binomial"
word_of_call (RatioAdd a b c d) = codes "ratio_add"
word_of_call (RatioMul a b c d) = codes "ratio_mul"

-- The word is that of the call, and the numbers are its operands.
-- Examples: `gcd` with 4 and 6: `Gcd(4, 6)`; `sqrt` with 9: `Sqrt(9)`; `gcd` with 4: no call.
pub record IsCall (word : List ℕ) (numbers : List ℤ) (call : Call) : Type 0 where
  pub name : word ≡ word_of_call call
  pub operands : numbers ≡ operands_of call

-- The word is that of the call, and the others are number words of its operands.
-- Examples: `gcd` with `4` and `6`: `Gcd(4, 6)`; `gcd` with `04` and `6` the same; `gcd` with `4`: no call.
pub record Spell (word : List ℕ) (numbers : List (List ℕ)) (call : Call) : Type 0 where
  pub name : word ≡ word_of_call call
  pub operands : map spelled_number numbers ≡ map Some (operands_of call)

-- The words are that of the kind, then that of the call and its operands.
-- Examples: `i64 gcd 4 6`: `I64`, `Gcd(4, 6)`; `u8 sqrt 9`: `U8`, `Sqrt(9)`; not `gcd 4 6`.
pub record AskFor (words : List (List ℕ)) (kind : Kind) (call : Call) : Type 0 where
  pub word : List ℕ
  pub numbers : List (List ℕ)
  pub parts : words ≡ word_of_kind kind ∷ word ∷ numbers
  pub spelled : Spell word numbers call

-- The request is the kind and the call that the words ask for, or `None` if they ask for no call.
-- Examples: `i64 gcd 1 2`: `I64`, `Gcd(1, 2)`; `i64 gcd 1`: `None`; no words: `None`.
abbrev pub IsRequest : List (List ℕ) → Option (Kind × Call) → Type 0
IsRequest words request = MatchOption request
    ((kind : Kind) (call : Call) → ¬ (AskFor words kind call))
    (λ asked. AskFor words asked.0 asked.1)

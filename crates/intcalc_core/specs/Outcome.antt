-- The result of each call at each kind, and the order of the refusals.
use Rattle.std.specs.Prelude.{◌≡◌, ◌≢◌, ◌⊎◌, ◌↔◌, ◌%◌, ◌≤ℤ◌, ◌+ℤ◌, ◌*ℤ◌, ℤ, pos, unsigned_abs, Bool, IsTrue, List, [], ◌∷◌, ⊤, Result, Ok, Err, FitsSigned}
use Rattle.std.specs.Int.{w8, w64, FitsUnsignedBits}
use Rattle.num_integer.specs.Averages.{IsAverageFloor, IsAverageCeil}
use Rattle.num_integer.specs.Bezout.{HasPair, IsBezoutAnswer}
use Rattle.num_integer.specs.Coefficient.{coefficient_of}
use Rattle.num_integer.specs.Division.{IsCeiled, IsFloored, IsMultiple, IsQuotient, IsRemainder, IsTruncated}
use Rattle.num_integer.specs.Divisors.{Divides, IsGreatestCommonDivisor, IsLeastCommonMultiple}
use Rattle.num_integer.specs.Range.{EachFits}
use Rattle.num_integer.specs.RootOf.{IsRoot}
use Rattle.ratio64.specs.Fraction.{IsExact, IsOutsideI64}
use Rattle.intcalc_core.specs.Operands.{operands_of}
use Rattle.intcalc_core.specs.declared.calls.Kind.{Kind}
use Rattle.intcalc_core.specs.declared.calls.Kind.TheVariants.{I8, U8, I64, U64}
use Rattle.intcalc_core.specs.declared.calls.Call.{Call}
use Rattle.intcalc_core.specs.declared.calls.Call.TheVariants.{DivRem, DivModFloor, DivFloor, DivCeil, ModFloor, NextMultipleOf, PrevMultipleOf, IsMultipleOf, Gcd, Lcm, GcdLcm, ExtendedGcd, AverageFloor, AverageCeil, Sqrt, Cbrt, NthRoot, Binomial, RatioAdd, RatioMul}
use Rattle.intcalc_core.specs.declared.calls.Answer.{Answer}
use Rattle.intcalc_core.specs.declared.calls.Answer.TheVariants.{One, Two, Three, Truth}
use Rattle.intcalc_core.specs.declared.calls.Refusal.{Refusal}
use Rattle.intcalc_core.specs.declared.calls.Refusal.TheVariants.{OutOfType, ZeroDivisor, ZeroDegree, NegativeRoot, NegativeCount, NotFitting, NoPair}

-- The type of the kind has the number n.
-- Examples: `I8`: -128; `U8`: 255; not `U8`: -1.
abbrev pub FitsKind : Kind → ℤ → Type 0
FitsKind I8 = λ n. FitsSigned w8 n
FitsKind U8 = FitsUnsignedBits 8
FitsKind I64 = λ n. FitsSigned w64 n
FitsKind U64 = FitsUnsignedBits 64

-- The result is what the rest says if the condition holds, and otherwise the refusal.
-- Examples: that 0 is not 0, `ZeroDivisor`: `ZeroDivisor`; that 3 is not 0: the rest.
abbrev pub Needs : Type 0 → Refusal → (Result Answer Refusal → Type 0) → Result Answer Refusal → Type 0
Needs P refusal rest r = (¬ P × (r ≡ Err refusal)) ⊎ (P × rest r)

-- The answer is one number, which meets the condition.
-- Examples: the gcd of 4 and 6: 2.
pub record AnswersOne (P : ℤ → Type 0) (r : Result Answer Refusal) : Type 0 where
  pub number : ℤ
  pub is : r ≡ Ok (One number)
  pub meets : P number

-- The answer is two numbers, which together meet the condition.
-- Examples: the quotient of 8 by 3 and its remainder: 2 and 2.
pub record AnswersTwo (P : ℤ → ℤ → Type 0) (r : Result Answer Refusal) : Type 0 where
  pub first : ℤ
  pub second : ℤ
  pub is : r ≡ Ok (Two first second)
  pub meets : P first second

-- The answer is three numbers, which together meet the condition.
-- Examples: the gcd of 240 and 46 and its pair: 2, -9 and 47.
pub record AnswersThree (P : ℤ → ℤ → ℤ → Type 0) (r : Result Answer Refusal) : Type 0 where
  pub first : ℤ
  pub second : ℤ
  pub third : ℤ
  pub is : r ≡ Ok (Three first second third)
  pub meets : P first second third

-- The answer says whether the condition holds.
-- Examples: that 3 divides 9: `true`; that 9 divides 3: `false`; that 0 divides 0: `true`.
pub record AnswersWhether (P : Type 0) (r : Result Answer Refusal) : Type 0 where
  pub truth : Bool
  pub is : r ≡ Ok (Truth truth)
  pub tells : IsTrue truth ↔ P

-- The result is `ZeroDivisor` if the divisor is 0, and otherwise what the rest says.
-- Examples: 0: `ZeroDivisor`; 3: the rest; -1: the rest.
abbrev pub NeedsDivisor : ℤ → (Result Answer Refusal → Type 0) → Result Answer Refusal → Type 0
NeedsDivisor d = Needs (d ≢ pos 0) ZeroDivisor

-- The result is `NotFitting` if a number with the property does not fit, and otherwise what the rest says.
-- Examples: in `i8`, the quotient of -128 by -1: `NotFitting`; of -128 by 2: the rest; of 7 by 2: the rest.
abbrev pub NeedsFitting : (ℤ → Type 0) → (ℤ → Type 0) → (Result Answer Refusal → Type 0) → Result Answer Refusal → Type 0
NeedsFitting fits P = Needs (EachFits fits P) NotFitting

-- The greatest common divisor of a and b is g, and their least common multiple is l.
-- Examples: 10 and 4: 2 and 20; 0 and 5: 5 and 0; 7 and 3: 1 and 21.
pub record AreGcdAndLcm (a b g l : ℤ) : Type 0 where
  pub greatest : IsGreatestCommonDivisor a b g
  pub least : IsLeastCommonMultiple a b l

-- The number has a root of the degree: if the degree is even, it is not negative.
-- Examples: -8 at 3; 4 at 2; not -4 at 2.
abbrev pub HasRoot : ℤ → ℤ → Type 0
HasRoot x n = unsigned_abs n % 2 ≡ 0 → pos 0 ≤ℤ x

-- Neither number is negative.
-- Examples: 9 and 4; 2 and 3; not -1 and 0.
abbrev pub AreCounts : ℤ → ℤ → Type 0
AreCounts n k = (pos 0 ≤ℤ n) × (pos 0 ≤ℤ k)

-- The result is `NotFitting` if a part of the exact result of a/b does not fit in `i64`, and otherwise what the rest says.
-- Examples: 1/MIN: `NotFitting`; MIN/2: the rest; 6/-4: the rest.
abbrev pub NeedsInsideI64 : ℤ → ℤ → (Result Answer Refusal → Type 0) → Result Answer Refusal → Type 0
NeedsInsideI64 a b = Needs (¬ (IsOutsideI64 a b)) NotFitting

-- The result is `NotFitting` if a part of the exact result of a/b does not fit in `i64`, and otherwise its two parts.
-- Examples: 5/6: 5 and 6; 6/-4: -3 and 2; 1/MIN: `NotFitting`.
abbrev pub AnswersExact : ℤ → ℤ → Result Answer Refusal → Type 0
AnswersExact a b = NeedsInsideI64 a b (AnswersTwo (IsExact a b))

-- The result is `ZeroDivisor` if b or d is 0, then `NotFitting` if a part of the exact result of a/b or of c/d does not fit
-- in `i64`, and otherwise what the rest says.
-- Examples: 1/2 and 1/3: the rest; 1/MIN and 0/1: `NotFitting`; 1/MIN and 1/0: `ZeroDivisor`.
abbrev pub NeedsFractions : (a b c d : ℤ) → (Result Answer Refusal → Type 0) → Result Answer Refusal → Type 0
NeedsFractions a b c d rest = NeedsDivisor b (NeedsDivisor d (NeedsInsideI64 a b (NeedsInsideI64 c d rest)))

-- The result of a call whose operands fit: the first refusal whose condition holds, and otherwise the answer.
-- Examples: `DivFloor` 7 by 0: `ZeroDivisor`; in `i8` -128 by -1: `NotFitting`; 7 by 2: 3.
unfoldable pub OutcomeOfFitting : (ℤ → Type 0) → Call → Result Answer Refusal → Type 0
OutcomeOfFitting fits (DivRem n d) =
    NeedsDivisor d (NeedsFitting fits (IsQuotient IsTruncated n d) (AnswersTwo (IsTruncated n d)))
OutcomeOfFitting fits (DivModFloor n d) =
    NeedsDivisor d (NeedsFitting fits (IsQuotient IsFloored n d) (AnswersTwo (IsFloored n d)))
OutcomeOfFitting fits (DivFloor n d) =
    NeedsDivisor d (NeedsFitting fits (IsQuotient IsFloored n d) (AnswersOne (IsQuotient IsFloored n d)))
OutcomeOfFitting fits (DivCeil n d) =
    NeedsDivisor d (NeedsFitting fits (IsQuotient IsCeiled n d) (AnswersOne (IsQuotient IsCeiled n d)))
OutcomeOfFitting fits (ModFloor n d) =
    NeedsDivisor d (AnswersOne (IsRemainder IsFloored n d))
OutcomeOfFitting fits (NextMultipleOf n d) =
    NeedsDivisor d (NeedsFitting fits (IsMultiple IsCeiled n d) (AnswersOne (IsMultiple IsCeiled n d)))
OutcomeOfFitting fits (PrevMultipleOf n d) =
    NeedsDivisor d (NeedsFitting fits (IsMultiple IsFloored n d) (AnswersOne (IsMultiple IsFloored n d)))
OutcomeOfFitting fits (IsMultipleOf n d) =
    AnswersWhether (Divides d n)
OutcomeOfFitting fits (Gcd a b) =
    NeedsFitting fits (IsGreatestCommonDivisor a b) (AnswersOne (IsGreatestCommonDivisor a b))
OutcomeOfFitting fits (Lcm a b) =
    NeedsFitting fits (IsLeastCommonMultiple a b) (AnswersOne (IsLeastCommonMultiple a b))
OutcomeOfFitting fits (GcdLcm a b) =
    NeedsFitting fits (IsGreatestCommonDivisor a b)
    (NeedsFitting fits (IsLeastCommonMultiple a b) (AnswersTwo (AreGcdAndLcm a b)))
OutcomeOfFitting fits (ExtendedGcd a b) =
    NeedsFitting fits (IsGreatestCommonDivisor a b)
    (Needs (HasPair fits a b) NoPair (AnswersThree (IsBezoutAnswer a b)))
OutcomeOfFitting fits (AverageFloor a b) =
    AnswersOne (IsAverageFloor a b)
OutcomeOfFitting fits (AverageCeil a b) =
    AnswersOne (IsAverageCeil a b)
OutcomeOfFitting fits (Sqrt x) =
    Needs (HasRoot x (pos 2)) NegativeRoot (AnswersOne (IsRoot x 2))
OutcomeOfFitting fits (Cbrt x) =
    AnswersOne (IsRoot x 3)
OutcomeOfFitting fits (NthRoot x n) =
    Needs (n ≢ pos 0) ZeroDegree
    (Needs (HasRoot x n) NegativeRoot (AnswersOne (IsRoot x (unsigned_abs n))))
OutcomeOfFitting fits (Binomial n k) =
    Needs (AreCounts n k) NegativeCount
    (Needs (fits (coefficient_of n k)) NotFitting (AnswersOne (λ c. c ≡ coefficient_of n k)))
OutcomeOfFitting fits (RatioAdd a b c d) =
    NeedsFractions a b c d (AnswersExact (a *ℤ d +ℤ c *ℤ b) (b *ℤ d))
OutcomeOfFitting fits (RatioMul a b c d) =
    NeedsFractions a b c d (AnswersExact (a *ℤ c) (b *ℤ d))

-- Each of the numbers fits.
-- Examples: in `u8`: 0 and 255; no number at all; not 0 and 256.
abbrev pub AllFit : (ℤ → Type 0) → List ℤ → Type 0
AllFit fits [] = ⊤
AllFit fits (n ∷ ns) = fits n × AllFit fits ns

-- The parts of two fractions fit in `i64`.
-- Examples: 1, 2, 1 and 3; MIN, 1, 0 and 1; not 2^63, 1, 0 and 1.
abbrev pub PartsFit : (a b c d : ℤ) → Type 0
PartsFit a b c d = AllFit (FitsKind I64) (a ∷ b ∷ c ∷ d ∷ [])

-- The result is `OutOfType` if a part does not fit in `i64`, and otherwise what `NeedsFractions` says.
-- Examples: 2^63/0 and 1/2: `OutOfType`; 1/0 and 1/2: `ZeroDivisor`; 1/2 and 1/3: the rest.
abbrev pub NeedsParts : (a b c d : ℤ) → (Result Answer Refusal → Type 0) → Result Answer Refusal → Type 0
NeedsParts a b c d rest = Needs (PartsFit a b c d) OutOfType (NeedsFractions a b c d rest)

-- The operands fit in the type, a degree fits in `u32`, and parts of fractions fit in `i64`.
-- Examples: in `i8`: `Gcd(-128, 127)`; `NthRoot(127, 200)`; not `Gcd(128, 1)`.
abbrev pub OperandsFit : (ℤ → Type 0) → Call → Type 0
OperandsFit fits (NthRoot x n) = fits x × FitsUnsignedBits 32 n
OperandsFit fits (RatioAdd a b c d) = PartsFit a b c d
OperandsFit fits (RatioMul a b c d) = PartsFit a b c d
OperandsFit fits call = AllFit fits (operands_of call)

-- The result of a call at a type: `OutOfType` if an operand does not fit, and otherwise what `OutcomeOfFitting` says.
-- Examples: in `i8`, `DivFloor` 128 by 0: `OutOfType`; 7 by 0: `ZeroDivisor`; 7 by 2: 3.
abbrev pub OutcomeIn : (ℤ → Type 0) → Call → Result Answer Refusal → Type 0
OutcomeIn fits call = Needs (OperandsFit fits call) OutOfType (OutcomeOfFitting fits call)

-- The call is made at the kind: sums and products of fractions only at `i64`, and every other call at each kind.
-- Examples: `i64` and `ratio_add`; `u8` and `gcd`; not `u8` and `ratio_add`.
abbrev pub IsMadeAt : Kind → Call → Type 0
IsMadeAt kind (RatioAdd a b c d) = kind ≡ I64
IsMadeAt kind (RatioMul a b c d) = kind ≡ I64
IsMadeAt kind call = ⊤

-- The result of a call at a kind: `OutOfType` if the kind does not have the call, and otherwise its result at the type.
-- Examples: `i64` 7 by 0: `ZeroDivisor`; `i64` MIN by -1, `div_floor`: `NotFitting`; -8 by 3, `div_mod_floor`: -3 and 1.
abbrev pub Outcome : Kind → Call → Result Answer Refusal → Type 0
Outcome kind call = Needs (IsMadeAt kind call) OutOfType (OutcomeIn (FitsKind kind) call)

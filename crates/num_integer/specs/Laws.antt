-- The laws of the definitions. Each is proved by a lemma of its name in small letters, which proofs/Laws.antt has or passes on.
use Rattle.std.specs.Prelude.{◌≡◌, ◌≢◌, ◌⊎◌, ◌↔◌, ◌+◌, ◌-◌, ◌*◌, ◌<◌, ◌≤◌, ◌+ℤ◌, ◌-ℤ◌, ◌*ℤ◌, ◌≤ℤ◌, ℕ, ℤ, pos, neg_ℤ, unsigned_abs, List, map, length, reverse}
use Rattle.std.specs.Int.{int_pow}
use Rattle.std.specs.List.{All}
use Rattle.std.specs.List.Sorted.{IsPermutation}
use Rattle.integer_core.specs.Bezout.{AreEuclidIterations, IsBezoutAnswer}
use Rattle.integer_core.specs.Division.{EachKind, HaveSameSign, IsCeiled, IsFloored, IsMultiple, IsQuotient, IsRemainder}
use Rattle.integer_core.specs.Divisors.{Divides, GcdFits, IsGreatestCommonDivisor, IsLeastCommonMultiple}
use Rattle.integer_core.specs.GcdRuns.{AreGcdIterations, IsBitLength}
use Rattle.integer_core.specs.Least.{IsLeastFrom}
use Rattle.integer_core.specs.Only.{IsOnly}
use Rattle.integer_core.specs.Range.{EachFits, IsRange}
use Rattle.integer_roots.specs.Averages.{IsAverageCeil, IsAverageFloor}
use Rattle.integer_roots.specs.RootOf.{IsRoot}
use Rattle.integer_roots.specs.SquareRuns.{AreSquareRootIterations}
use Rattle.num_integer.specs.Coefficient.{coefficient, factorial}
use Rattle.num_integer.specs.DivisorSums.{IsSumOfDivisorsTo}
use Rattle.num_integer.specs.Multinomial.{IsMultinomial, coefficients_from, product}
use Rattle.num_integer.specs.Rounding.{IsNearest, IsNearestEven}
use Rattle.num_integer.specs.Row.{middle_of, row_of}

-- ---- division and multiples

-- by each divisor except 0 there is a quotient and a remainder of each kind
abbrev pub DivisionExists : Type 0
DivisionExists = EachKind (λ Kind. (n d : ℤ) → d ≢ pos 0 → (q r : ℤ) × Kind n d q r)

-- the quotient and the remainder of a kind are the only ones
abbrev pub DivisionIsOnly : Type 0
DivisionIsOnly = EachKind (λ Kind. (n d q r : ℤ) → Kind n d q r → IsOnly (λ (p, s). Kind n d p s) (q, r))

-- of each kind, the quotient alone is the only one
abbrev pub QuotientIsOnly : Type 0
QuotientIsOnly = EachKind (λ Kind. (n d q : ℤ) → IsQuotient Kind n d q → IsOnly (IsQuotient Kind n d) q)

-- and the remainder alone is the only one
abbrev pub RemainderIsOnly : Type 0
RemainderIsOnly = EachKind (λ Kind. (n d r : ℤ) → IsRemainder Kind n d r → IsOnly (IsRemainder Kind n d) r)

-- and the quotient times the divisor is the only one
abbrev pub MultipleIsOnly : Type 0
MultipleIsOnly = EachKind (λ Kind. (n d m : ℤ) → IsMultiple Kind n d m → IsOnly (IsMultiple Kind n d) m)

-- rounded down, the quotient times the divisor and the remainder add up to the number; the remainder is 0 or has the sign
-- of the divisor, and its magnitude is below that of the divisor
abbrev pub FlooredPartsAddUp : Type 0
FlooredPartsAddUp = (n d q r : ℤ) → IsQuotient IsFloored n d q → IsRemainder IsFloored n d r
    → (q *ℤ d +ℤ r ≡ n) × ((r ≡ pos 0) ⊎ HaveSameSign r d) × (unsigned_abs r < unsigned_abs d)

-- the next multiple of a divisor is the previous multiple of its negation
abbrev pub NegationTurnsMultiples : Type 0
NegationTurnsMultiples = (n d m : ℤ) → IsMultiple IsCeiled n (neg_ℤ d) m ↔ IsMultiple IsFloored n d m

-- ---- nearest quotients

-- For each divisor except 0, there is a nearest quotient of both kinds.
abbrev pub NearestQuotientExists : Type 0
NearestQuotientExists = (n d : ℤ) → d ≢ pos 0 → ((q : ℤ) × IsQuotient IsNearest n d q) × ((q : ℤ) × IsQuotient IsNearestEven n d q)

-- No integer times the divisor is nearer to the number.
abbrev pub NoIntegerIsNearer : Type 0
NoIntegerIsNearer = (n d q : ℤ) → (IsQuotient IsNearest n d q ⊎ IsQuotient IsNearestEven n d q)
    → (m : ℤ) → unsigned_abs (n -ℤ q *ℤ d) ≤ unsigned_abs (n -ℤ m *ℤ d)

-- Two numbers have at most one nearest quotient, if a half is rounded away from zero.
abbrev pub NearestQuotientIsOnly : Type 0
NearestQuotientIsOnly = (n d q : ℤ) → IsQuotient IsNearest n d q → IsOnly (IsQuotient IsNearest n d) q

-- Two numbers have at most one nearest quotient, if a half is rounded to the even integer.
abbrev pub NearestEvenQuotientIsOnly : Type 0
NearestEvenQuotientIsOnly = (n d q : ℤ) → IsQuotient IsNearestEven n d q → IsOnly (IsQuotient IsNearestEven n d) q

-- A nearest quotient of two numbers of a type fits exactly if the quotient rounded down does.
abbrev pub NearestQuotientFitsExactly : (ℤ → Type 0) → Type 0
NearestQuotientFitsExactly fits = (low high n d : ℤ) → IsRange fits low high → fits n → fits d
    → (EachFits fits (IsQuotient IsFloored n d) ↔ EachFits fits (IsQuotient IsNearest n d))
    × (EachFits fits (IsQuotient IsFloored n d) ↔ EachFits fits (IsQuotient IsNearestEven n d))

-- ---- common divisors and multiples

abbrev pub GcdExists : Type 0
GcdExists = (a b : ℤ) → (g : ℤ) × IsGreatestCommonDivisor a b g

abbrev pub GcdIsOnly : Type 0
GcdIsOnly = (a b g : ℤ) → IsGreatestCommonDivisor a b g → IsOnly (IsGreatestCommonDivisor a b) g

abbrev pub GcdIsSymmetric : Type 0
GcdIsSymmetric = (a b g : ℤ) → IsGreatestCommonDivisor a b g → IsGreatestCommonDivisor b a g

-- the gcd of 0 and 0 is 0
abbrev pub GcdOfZeros : Type 0
GcdOfZeros = IsGreatestCommonDivisor (pos 0) (pos 0) (pos 0)

-- for two numbers of a type, the condition `GcdFits` says exactly that their gcd fits
abbrev pub GcdFitsExactly : (ℤ → Type 0) → Type 0
GcdFitsExactly fits = (low high a b : ℤ) → IsRange fits low high → fits a → fits b
    → GcdFits fits a b ↔ EachFits fits (IsGreatestCommonDivisor a b)

abbrev pub LcmExists : Type 0
LcmExists = (a b : ℤ) → (l : ℤ) × IsLeastCommonMultiple a b l

abbrev pub LcmIsOnly : Type 0
LcmIsOnly = (a b l : ℤ) → IsLeastCommonMultiple a b l → IsOnly (IsLeastCommonMultiple a b) l

abbrev pub LcmIsSymmetric : Type 0
LcmIsSymmetric = (a b l : ℤ) → IsLeastCommonMultiple a b l → IsLeastCommonMultiple b a l

-- the gcd times the lcm is the magnitude of the product
abbrev pub GcdTimesLcm : Type 0
GcdTimesLcm = (a b g l : ℤ) → IsGreatestCommonDivisor a b g → IsLeastCommonMultiple a b l → g *ℤ l ≡ pos (unsigned_abs (a *ℤ b))

-- the lcm of two numbers that are not 0 is their first positive common multiple
abbrev pub LcmIsFirstCommonMultiple : Type 0
LcmIsFirstCommonMultiple = (a b l : ℤ) → a ≢ pos 0 → b ≢ pos 0 → IsLeastCommonMultiple a b l ↔ IsLeastFrom (pos 1) (λ u. Divides a u × Divides b u) l

-- a gcd is at most each number that the magnitudes of both are at most
abbrev pub GcdIsAtMostEachBound : Type 0
GcdIsAtMostEachBound = (a b g : ℤ) (most : ℕ) → unsigned_abs a ≤ most → unsigned_abs b ≤ most → IsGreatestCommonDivisor a b g → unsigned_abs g ≤ most

-- two numbers have one number of iterations of Stein's loop
abbrev pub GcdIterationsAreOnly : Type 0
GcdIterationsAreOnly = (low a b : ℤ) (n : ℕ) → AreGcdIterations low a b n → IsOnly (AreGcdIterations low a b) n

-- each number has a bit length
abbrev pub BitLengthExists : Type 0
BitLengthExists = (v : ℤ) → (l : ℕ) × IsBitLength v l

abbrev pub BitLengthIsOnly : Type 0
BitLengthIsOnly = (v : ℤ) (l : ℕ) → IsBitLength v l → IsOnly (IsBitLength v) l

-- ---- sums of divisors

-- the numbers from 1 to k that divide n have a sum
abbrev pub SumOfDivisorsExists : Type 0
SumOfDivisorsExists = (n k : ℕ) → (total : ℕ) × IsSumOfDivisorsTo n k total

abbrev pub SumOfDivisorsIsOnly : Type 0
SumOfDivisorsIsOnly = (n k total : ℕ) → IsSumOfDivisorsTo n k total → IsOnly (IsSumOfDivisorsTo n k) total

-- no number above n divides it, so the sum goes no further than n
abbrev pub SumOfDivisorsEndsAtTheNumber : Type 0
SumOfDivisorsEndsAtTheNumber = (n more total : ℕ) → 0 < n → IsSumOfDivisorsTo n n total → IsSumOfDivisorsTo n (n + more) total

-- ---- Bezout pairs

-- each pair of numbers has a Bezout answer
abbrev pub BezoutAnswerExists : Type 0
BezoutAnswerExists = (a b : ℤ) → (g x y : ℤ) × IsBezoutAnswer a b g x y

-- each pair of numbers has only one Bezout answer
abbrev pub BezoutAnswerIsOnly : Type 0
BezoutAnswerIsOnly = (a b g x y : ℤ) → IsBezoutAnswer a b g x y → IsOnly (λ (h, z, w). IsBezoutAnswer a b h z w) (g, x, y)

-- two numbers have one number of iterations of Euclid's loop
abbrev pub EuclidIterationsAreOnly : Type 0
EuclidIterationsAreOnly = (a b : ℤ) (n : ℕ) → AreEuclidIterations a b n → IsOnly (AreEuclidIterations a b) n

-- ---- averages and roots

abbrev pub AverageFloorIsOnly : Type 0
AverageFloorIsOnly = (a b f : ℤ) → IsAverageFloor a b f → IsOnly (IsAverageFloor a b) f

abbrev pub AverageCeilIsOnly : Type 0
AverageCeilIsOnly = (a b c : ℤ) → IsAverageCeil a b c → IsOnly (IsAverageCeil a b) c

-- the average rounded up is the one rounded down, or 1 more
abbrev pub AveragesAreNeighbours : Type 0
AveragesAreNeighbours = (a b f c : ℤ) → IsAverageFloor a b f → IsAverageCeil a b c → (f ≤ℤ c) × (c ≤ℤ (f +ℤ pos 1))

abbrev pub RootIsOnly : Type 0
RootIsOnly = (x : ℤ) (n : ℕ) (r : ℤ) → IsRoot x n r → IsOnly (IsRoot x n) r

-- the first root is the number itself
abbrev pub FirstRoot : Type 0
FirstRoot = (x : ℤ) → IsRoot x 1 x

-- a number has one number of iterations for its square root
abbrev pub SquareRootIterationsAreOnly : Type 0
SquareRootIterationsAreOnly = (x : ℤ) (n : ℕ) → AreSquareRootIterations x n → IsOnly (AreSquareRootIterations x) n

-- the power of a sum of exponents is the product of the powers
abbrev pub ExponentsAdd : Type 0
ExponentsAdd = (x : ℤ) (m n : ℕ) → int_pow x (m + n) ≡ int_pow x m *ℤ int_pow x n

-- ---- coefficients

-- to choose k of n things is to leave n - k of them
abbrev pub CoefficientMirror : Type 0
CoefficientMirror = (n k : ℕ) → k ≤ n → coefficient n k ≡ coefficient n (n - k)

-- more than n of n things cannot be chosen
abbrev pub CoefficientAboveRow : Type 0
CoefficientAboveRow = (n k : ℕ) → n < k → coefficient n k ≡ 0

-- k! times (n - k)! times the coefficient is n!
abbrev pub FactorialFormula : Type 0
FactorialFormula = (n k : ℕ) → k ≤ n → factorial k * factorial (n - k) * coefficient n k ≡ factorial n

-- the multinomial is the product of the coefficients of the running sums
abbrev pub MultinomialFormula : Type 0
MultinomialFormula = (counts : List ℤ) → IsMultinomial counts (pos (product (coefficients_from 0 (map unsigned_abs counts))))

abbrev pub MultinomialIsOnly : Type 0
MultinomialIsOnly = (counts : List ℤ) (m : ℤ) → IsMultinomial counts m → IsOnly (IsMultinomial counts) m

-- counts in another order have the same multinomial
abbrev pub MultinomialIgnoresOrder : Type 0
MultinomialIgnoresOrder = (counts others : List ℤ) → IsPermutation counts others → (m : ℤ) → IsMultinomial counts m → IsMultinomial others m

-- the row of n has n + 1 items if n is not negative
abbrev pub RowLength : Type 0
RowLength = (n : ℤ) → pos 0 ≤ℤ n → pos (length (row_of n)) ≡ n +ℤ pos 1

-- The list is the same from its end.
-- Examples: 1, 2, 1; no items; not: 1, 2.
abbrev pub IsPalindrome : List ℤ → Type 0
IsPalindrome items = reverse items ≡ items

abbrev pub RowIsPalindrome : Type 0
RowIsPalindrome = (n : ℤ) → IsPalindrome (row_of n)

-- no item of a row is larger than the one in its middle
abbrev pub RowIsGreatestInMiddle : Type 0
RowIsGreatestInMiddle = (n : ℤ) → All (λ item. item ≤ℤ middle_of n) (row_of n)

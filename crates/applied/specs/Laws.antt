-- The laws of the calls. Each is proved in proofs/Laws.antt, by a lemma of its name in small letters.
use Rattle.std.specs.Prelude.{◌≡◌, ◌≢◌, ◌↔◌, ◌<◌, ◌≤◌, ◌≤ℤ◌, ◌<ℤ◌, ◌+ℤ◌, ◌-ℤ◌, ◌*ℤ◌, ℕ, ℤ, pos, List, length, ◌-◌, ◌*◌}
use Rattle.std.specs.List.{All, AllWithin}
use Rattle.modular.specs.declared.common_solutions.CommonSolution.{CommonSolution}
use Rattle.num_integer.specs.Coefficient.{coefficient, factorial}
use Rattle.num_integer.specs.Divisors.{Divides}
use Rattle.num_integer.specs.Least.{IsLeastFrom}
use Rattle.num_integer.specs.Only.{IsOnly}
use Rattle.num_integer.specs.Range.{EachFits, IsRange}
use Rattle.applied.specs.Layout.{IsAlignedUp}
use Rattle.applied.specs.Lists.{GcdOfFits, IsGreatestCommonDivisorOf, IsLeastCommonMultipleOf}
use Rattle.applied.specs.Paging.{IsEvenCut, IsPlace}
use Rattle.applied.specs.Ranking.{IsChoice, IsChoiceOfRank, rank_of}
use Rattle.applied.specs.ReducedPairs.{IsReducedPair}
use Rattle.applied.specs.Counting.{falling}
use Rattle.applied.specs.Powers.{IsLogarithm}
use Rattle.applied.specs.Schedules.{IsCountOfTimes, IsLeastTime}
use Rattle.applied.specs.Shares.{AreSharesByRemainder}

-- ---- pages and parts

-- Only one number of pages is the smallest that holds all items.
abbrev pub PagesAreOnly : Type 0
PagesAreOnly = (items size count other : ℤ) → items ≤ℤ (count *ℤ size) → ((n : ℤ) → items ≤ℤ (n *ℤ size) → count ≤ℤ n)
    → items ≤ℤ (other *ℤ size) → ((n : ℤ) → items ≤ℤ (n *ℤ size) → other ≤ℤ n) → other ≡ count

-- Each item is on a page.
abbrev pub PlaceExists : Type 0
PlaceExists = (item page_size : ℤ) → pos 0 <ℤ page_size → (page place : ℤ) × IsPlace item page_size page place

-- Each item is on only one page, at only one place.
abbrev pub PlaceIsOnly : Type 0
PlaceIsOnly = (item page_size page place : ℤ) → IsPlace item page_size page place → IsOnly (λ (p, q). IsPlace item page_size p q) (page, place)

-- A later part is as large as an earlier one, or smaller by 1.
abbrev pub PartsDifferByOne : Type 0
PartsDifferByOne = (parts items : ℤ) (cut : ℤ → ℤ) → IsEvenCut parts items cut → (part later : ℤ) → pos 0 ≤ℤ part → part ≤ℤ later → later <ℤ parts
    → ((cut (later +ℤ pos 1) -ℤ cut later) ≤ℤ (cut (part +ℤ pos 1) -ℤ cut part)) × ((cut (part +ℤ pos 1) -ℤ cut part) ≤ℤ (cut (later +ℤ pos 1) -ℤ cut later +ℤ pos 1))

-- ---- offsets on an alignment

-- Each offset has a next aligned offset, if the alignment is positive.
abbrev pub AlignedUpExists : Type 0
AlignedUpExists = (offset alignment : ℤ) → pos 0 <ℤ alignment → (aligned : ℤ) × IsAlignedUp offset alignment aligned

-- Each offset has at most one next aligned offset.
abbrev pub AlignedUpIsOnly : Type 0
AlignedUpIsOnly = (offset alignment aligned : ℤ) → IsAlignedUp offset alignment aligned → IsOnly (IsAlignedUp offset alignment) aligned

-- Only one number of bytes below the alignment leads to an aligned offset.
abbrev pub PaddingIsOnly : Type 0
PaddingIsOnly = (offset alignment bytes other : ℤ) → pos 0 ≤ℤ bytes → bytes <ℤ alignment → Divides alignment (offset +ℤ bytes)
    → pos 0 ≤ℤ other → other <ℤ alignment → Divides alignment (offset +ℤ other) → other ≡ bytes

-- ---- schedules

-- If different numbers have different values, at most one result says when a time with the property comes next.
abbrev pub LeastTimeIsOnly : {X : Type 0} → (X → ℤ) → (ℤ → Type 0) → (ℤ → Type 0) → Type 0
LeastTimeIsOnly {X} value fits P = ((x y : X) → value x ≡ value y → x ≡ y) → (now : ℤ) (answer : CommonSolution X) → IsLeastTime value fits now P answer → IsOnly (IsLeastTime value fits now P) answer

-- The times of a schedule in a range have at most one count.
abbrev pub CountOfTimesIsOnly : Type 0
CountOfTimesIsOnly = (from to first period count : ℤ) → IsCountOfTimes from to first period count → IsOnly (IsCountOfTimes from to first period) count

-- ---- shares

-- An amount has at most one list of shares by largest remainders.
abbrev pub SharesByRemainderAreOnly : Type 0
SharesByRemainderAreOnly = (amount : ℕ) (weights shares : List ℕ) → AreSharesByRemainder amount weights shares → IsOnly (AreSharesByRemainder amount weights) shares

-- ---- combinations

-- At most one combination has a given length and a given rank.
abbrev pub ChoiceOfRankIsOnly : Type 0
ChoiceOfRankIsOnly = (n k r : ℕ) (numbers : List ℕ) → IsChoiceOfRank n k r numbers → IsOnly (IsChoiceOfRank n k r) numbers

-- The rank of a combination is less than the number of combinations of its length.
abbrev pub RankIsBelow : Type 0
RankIsBelow = (n : ℕ) (numbers : List ℕ) → IsChoice n numbers → rank_of numbers < coefficient n (length numbers)

-- ---- halves

-- Only one number is as near to the first of two numbers as to the second, or nearer by 1.
abbrev pub MidpointIsOnly : Type 0
MidpointIsOnly = (a b middle other : ℤ) → (middle -ℤ a) ≤ℤ (b -ℤ middle) → (b -ℤ middle) ≤ℤ (middle -ℤ a +ℤ pos 1)
    → (other -ℤ a) ≤ℤ (b -ℤ other) → (b -ℤ other) ≤ℤ (other -ℤ a +ℤ pos 1) → other ≡ middle

-- Only one place separates the items that are less than a number from the others.
abbrev pub LowerBoundIsOnly : {X : Type 0} → (X → ℤ) → Type 0
LowerBoundIsOnly {X} value = (items : List X) (least : ℤ) (place other : ℕ)
    → place ≤ length items → AllWithin (λ x. value x <ℤ least) items 0 place → AllWithin (λ x. least ≤ℤ value x) items place (length items)
    → other ≤ length items → AllWithin (λ x. value x <ℤ least) items 0 other → AllWithin (λ x. least ≤ℤ value x) items other (length items) → other ≡ place

-- ---- pairs and lists

-- Each pair of numbers has a reduced pair.
abbrev pub ReducedPairExists : Type 0
ReducedPairExists = (a b : ℤ) → (x y : ℤ) × IsReducedPair a b x y

-- Each pair of numbers has at most one reduced pair.
abbrev pub ReducedPairIsOnly : Type 0
ReducedPairIsOnly = (a b x y : ℤ) → IsReducedPair a b x y → IsOnly (λ (u, v). IsReducedPair a b u v) (x, y)

-- Each list has a greatest common divisor.
abbrev pub GcdOfExists : Type 0
GcdOfExists = (numbers : List ℤ) → (g : ℤ) × IsGreatestCommonDivisorOf numbers g

-- Each list has at most one greatest common divisor.
abbrev pub GcdOfIsOnly : Type 0
GcdOfIsOnly = (numbers : List ℤ) (g : ℤ) → IsGreatestCommonDivisorOf numbers g → IsOnly (IsGreatestCommonDivisorOf numbers) g

-- For numbers of a type, the condition `GcdOfFits` says exactly that their greatest common divisor fits.
abbrev pub GcdOfFitsExactly : (ℤ → Type 0) → Type 0
GcdOfFitsExactly fits = (low high : ℤ) (numbers : List ℤ) → IsRange fits low high → All fits numbers → GcdOfFits fits numbers ↔ EachFits fits (IsGreatestCommonDivisorOf numbers)

-- Each list has a least common multiple.
abbrev pub LcmOfExists : Type 0
LcmOfExists = (numbers : List ℤ) → (l : ℤ) × IsLeastCommonMultipleOf numbers l

-- Each list has at most one least common multiple.
abbrev pub LcmOfIsOnly : Type 0
LcmOfIsOnly = (numbers : List ℤ) (l : ℤ) → IsLeastCommonMultipleOf numbers l → IsOnly (IsLeastCommonMultipleOf numbers) l

-- The least common multiple of a list without 0 is its first positive common multiple.
abbrev pub LcmOfIsFirstCommonMultiple : Type 0
LcmOfIsFirstCommonMultiple = (numbers : List ℤ) (l : ℤ) → All (λ x. x ≢ pos 0) numbers
    → IsLeastCommonMultipleOf numbers l ↔ IsLeastFrom (pos 1) (λ u. All (λ x. Divides x u) numbers) l

-- ---- logarithms and factorials

-- A number has at most one logarithm to a base of at least 2.
abbrev pub LogarithmIsOnly : Type 0
LogarithmIsOnly = (base n : ℤ) (k : ℕ) → pos 1 <ℤ base → IsLogarithm base n k → IsOnly (IsLogarithm base n) k

-- The falling factorial of n and k times (n - k)! is n!.
abbrev pub FallingFormula : Type 0
FallingFormula = (n k : ℕ) → k ≤ n → falling n k * factorial (n - k) ≡ factorial n

-- The falling factorial of n and k is k! times the coefficient of n and k.
abbrev pub FallingByCoefficient : Type 0
FallingByCoefficient = (n k : ℕ) → falling n k ≡ factorial k * coefficient n k

-- What the calls say of unsigned numbers, in natural numbers: by `/`, `%`, `*` and `min`. The lemmas on an `Option` are at 64 bits, so that `using` finds
-- them for `u64` and `usize`.
use Rattle.applied.proofs.Common.{All, List, ◌≡◌, ◌<◌, ◌≤◌, ◌+◌, ◌-◌, ◌*◌, ◌/◌, ◌^◌, ◌≤ℤ◌, ◌+ℤ◌, ◌-ℤ◌, ◌*ℤ◌, ℕ, ℤ, pos, negsuc, suc, unsigned_abs, Option, Some, None, MatchOption, arith, ap, cases_lt, inl, inr, clamps, ints, products, sizes, ceiled_by_range, coefficient, factorial_formula, floored_by_range, next_multiple_least, AnswersQuotient, AnswersWhere, Divides, FitsUnsignedBits, FitsWith, IsChoice, IsMeeting, IsPlace, IsRangeOfPage, IsRangeOfPart, cut_at}
use Rattle.applied.proofs.FallingFactorials.{falling_formula}
use Rattle.applied.proofs.ItemRanges.{only_page_range, only_part_range, page_range_is, part_range}
use Rattle.applied.proofs.Timetables.{next_congruent_below}
use Rattle.applied.specs.Counting.{falling}
use Rattle.applied.specs.Layout.{IsAlignedUp}
use Rattle.applied.specs.Rounding.{IsNearest}
use Rattle.modular.proofs.ForCallers.{congruent_is_natural}
use Rattle.modular.specs.Congruences.{IsNextCongruent}
use Rattle.num_integer.proofs.ForCallers.{divides_is_natural, division_is_natural}
use Rattle.num_integer.specs.Coefficient.{coefficient_of, factorial}
use Rattle.std.proofs.Math.Nat.{lt_of_mul-lt-mul_right, mod-eq_of_lt}
use Rattle.std.proofs.lemmas.Bool.Decides.{nat_tests}
use Rattle.std.proofs.lemmas.Grind.{div_ceil_times}
use Rattle.std.proofs.lemmas.List.Sorted.{All-permutation, IsNonDecreasingBy-from_sort}
use Rattle.std.proofs.lemmas.Map.Keys.{IsDistinct-IsPermutation, IsStrictlyIncreasing-from_distinct}
use Rattle.std.specs.Int.{div_ceil, next_multiple_of}
use Rattle.std.specs.List.{IsDistinct}
use Rattle.std.specs.List.Sorted.{IsPermutation, IsSorted}
use Rattle.std.specs.Ordering.{nat_cmp}
use Rattle.std.specs.Prelude.{SomeIff, min, nat_eq, ◌%◌}

-- ---- pages and parts

-- The smallest number of pages that hold all items is their quotient by the page size, rounded up.
pub pages_is_natural : {items size count : ℕ} → 0 < size → pos items ≤ℤ (pos count *ℤ pos size)
    → ((n : ℤ) → pos items ≤ℤ (n *ℤ pos size) → pos count ≤ℤ n) → count ≡ div_ceil items size
pages_is_natural {items} {size} {count} up enough fewest =
    let ceil = div_ceil_times items size up in
    let least : div_ceil items size < suc count = lt_of_mul-lt-mul_right size (omega (ints, ceil.1)) in
    omega (ints, fewest (pos (div_ceil items size)) (omega (ints, ceil.0)))

-- The page and the place of an item are its quotient and its remainder by the page size.
pub place_is_natural : {item size page place : ℕ} → IsPlace (pos item) (pos size) (pos page) (pos place)
    → (page ≡ item / size) × (place ≡ item % size)
place_is_natural h = division_is_natural (omega (ints, h.from_zero, h.below)) (floored_by_range h.equation h.from_zero h.below)

-- a page begins at its number times the page size and ends one page later, or both with the items
range_of_page_is : {page size items first end : ℕ} → 0 < size → IsRangeOfPage (pos page) (pos size) (pos items) (pos first) (pos end)
    → (first ≡ min (page * size) items) × (end ≡ min (page * size + size) items)
range_of_page_is {page} {size} {items} {first} {end} up h =
    let own : IsRangeOfPage (pos page) (pos size) (pos items) (pos (min (page * size) items)) (pos (min (page * size + size) items)) =
    page_range_is (omega ints) (omega ints) (omega ints)
    (λ item from to. (omega ints, omega ints, omega ints))
    (λ item from to begun before. (omega ints, omega ints))
    (λ none. omega ints) in
    let same = only_page_range own (pos first, pos end) h in
    (ap (λ p. unsigned_abs p.0) same, ap (λ p. unsigned_abs p.1) same)

pub first_of_page_is_natural : {page size items first end : ℕ} → 0 < size → IsRangeOfPage (pos page) (pos size) (pos items) (pos first) (pos end)
    → first ≡ min (page * size) items
first_of_page_is_natural up h = (range_of_page_is up h).0

pub end_of_page_is_natural : {page size items first end : ℕ} → 0 < size → IsRangeOfPage (pos page) (pos size) (pos items) (pos first) (pos end)
    → end ≡ min (page * size + size) items
end_of_page_is_natural up h = (range_of_page_is up h).1

-- A page begins at its number times the page size, and ends one page later, or both with the items.
pub ruleset range_of_page_is_natural = (first_of_page_is_natural, end_of_page_is_natural)

-- A part begins at its number times the quotient of the items by the parts, and one item later for each part before it that has one more.
pub range_of_part_is_natural : {part parts items first end : ℕ} → part < parts
    → IsRangeOfPart (pos part) (pos parts) (pos items) (pos first) (pos end)
    → (first ≡ part * (items / parts) + min part (items % parts)) × (end ≡ (part + 1) * (items / parts) + min (part + 1) (items % parts))
range_of_part_is_natural {part} {parts} {items} {first} {end} within h =
    let own : IsRangeOfPart (pos part) (pos parts) (pos items) (cut_at (pos (items / parts)) (pos (items % parts)) (pos part)) (cut_at (pos (items / parts)) (pos (items % parts)) (pos part +ℤ pos 1)) =
    part_range {size = pos (items / parts)} {longer = pos (items % parts)} (omega ints) (floored_by_range (omega ints) (omega ints) (omega ints)) (omega ints) (omega ints) in
    let same = only_part_range {part = pos part} (omega ints) (omega ints) own (pos first, pos end) h in
    let begins : pos first ≡ cut_at (pos (items / parts)) (pos (items % parts)) (pos part) = ap (λ p. p.0) same in
    let ends : pos end ≡ cut_at (pos (items / parts)) (pos (items % parts)) (pos part +ℤ pos 1) = ap (λ p. p.1) same in
    (omega (ints, clamps, begins), omega (ints, clamps, ends))

-- ---- offsets on an alignment

-- std's next multiple of a positive number is a multiple, and at least the number, by less than that
next_multiple_is : (x y : ℕ) → 0 < y → (x ≤ next_multiple_of x y) × (next_multiple_of x y < x + y) × Divides (pos y) (pos (next_multiple_of x y))
next_multiple_is x y up = elim (cases_lt 0 (x % y)) [
  | inl some ↦
      let rest : (y - x % y) % y ≡ y - x % y = mod-eq_of_lt (omega arith) in
      (omega arith, omega (arith, rest), record { factor = pos (x / y + 1); product = omega (ints, rest) })
  | inr none ↦
      let rest : (y - x % y) % y ≡ 0 = (divides_is_natural up).0 (record { factor = pos 1; product = omega ints }) in
      (omega arith, omega (arith, rest), record { factor = pos (x / y); product = omega (ints, rest) })
]

-- it is the aligned offset
next_multiple_is_aligned : (offset alignment : ℕ) → 0 < alignment → IsAlignedUp (pos offset) (pos alignment) (pos (next_multiple_of offset alignment))
next_multiple_is_aligned offset alignment up =
    let own = next_multiple_is offset alignment up in
    let next = next_multiple_least {n = pos offset} {d = pos alignment} {m = pos (next_multiple_of offset alignment)} (omega ints) (record {
      quotient = own.2.factor;
      is = record {
        remainder = pos offset -ℤ pos (next_multiple_of offset alignment);
        division = ceiled_by_range (omega (products, own.2.product)) (omega (ints, own.0)) (omega (ints, own.1));
      };
      product = omega (products, own.2.product);
    }) in
    record { from_offset = next.0; multiple = next.2; least = next.3 }

-- The aligned offset is the next multiple of the alignment.
pub aligned_number_is_natural : {offset alignment aligned : ℕ} → 0 < alignment → IsAlignedUp (pos offset) (pos alignment) (pos aligned)
    → aligned ≡ next_multiple_of offset alignment
aligned_number_is_natural {offset} {alignment} {aligned} up h =
    let own = next_multiple_is_aligned offset alignment up in
    omega (ints, h.least _ own.from_offset own.multiple, own.least _ h.from_offset h.multiple)

-- So is the result of a call that returns the aligned offset if it fits.
pub aligned_is_natural : (offset alignment : ℕ) (r : Option ℕ) → 0 < alignment
    → MatchOption r ((aligned : ℤ) → IsAlignedUp (pos offset) (pos alignment) aligned → ¬ (FitsUnsignedBits 64 aligned)) (λ aligned. FitsUnsignedBits 64 (pos aligned) × IsAlignedUp (pos offset) (pos alignment) (pos aligned))
    → SomeIff r (next_multiple_of offset alignment < 2 ^ 64) (next_multiple_of offset alignment)
aligned_is_natural offset alignment None up none = λ fits. none _ (next_multiple_is_aligned offset alignment up) fits
aligned_is_natural offset alignment (Some aligned) up h = let is = aligned_number_is_natural up h.1 in (rw is at h.0, is)

-- a number of whole alignments is a multiple
whole_alignments : (n alignment : ℕ) → Divides (pos alignment) (pos (n * alignment))
whole_alignments n alignment = record { factor = pos n; product = ap pos (omega arith) }

-- In other words it is the smallest number of whole alignments, times the alignment.
pub aligned_is_whole : (offset alignment : ℕ) (r : Option ℕ) → 0 < alignment
    → MatchOption r ((aligned : ℤ) → IsAlignedUp (pos offset) (pos alignment) aligned → ¬ (FitsUnsignedBits 64 aligned)) (λ aligned. FitsUnsignedBits 64 (pos aligned) × IsAlignedUp (pos offset) (pos alignment) (pos aligned))
    → MatchOption r ((n : ℕ) → offset ≤ n * alignment → 2 ^ 64 ≤ n * alignment)
    (λ aligned. ((n : ℕ) × (aligned ≡ n * alignment)) × (offset ≤ aligned) × ((n : ℕ) → offset ≤ n * alignment → aligned ≤ n * alignment))
aligned_is_whole offset alignment None up none = λ n enough.
    let own = next_multiple_is_aligned offset alignment up in
    let least : pos (next_multiple_of offset alignment) ≤ℤ pos (n * alignment) = own.least _ (omega ints) (whole_alignments n alignment) in
    grind (ints, none _ own)
aligned_is_whole offset alignment (Some aligned) up h =
    let multiple : aligned % alignment ≡ 0 = (divides_is_natural up).0 h.1.multiple in (
      (aligned / alignment, omega (arith, multiple)),
      omega (ints, h.1.from_offset),
      λ n enough. omega (ints, h.1.least (pos (n * alignment)) (omega ints) (whole_alignments n alignment)),
    )

-- An offset and its padding are a multiple of the alignment.
pub padding_is_natural : (offset : ℕ) {alignment bytes : ℕ} → bytes < alignment → Divides (pos alignment) (pos offset +ℤ pos bytes)
    → (offset + bytes) % alignment ≡ 0
padding_is_natural offset below h = (divides_is_natural (omega arith)).0 h

-- ---- schedules

-- what fits is not less than something that does not
no_larger : (u : ℕ) (t : ℤ) {from : ℕ} → u < 2 ^ 64 → pos from ≤ℤ t → t ≤ℤ pos u → FitsUnsignedBits 64 t
no_larger u (pos t) below from_there least = omega ints
no_larger u (negsuc t) below from_there least = absurd (omega ints)

-- The next run of a timetable, by `%`. There is none if no run that is not before `from` fits.
pub next_run_is_natural : (from phase period : ℕ) (r : Option ℕ) → 0 < period
    → MatchOption r ((t : ℤ) × IsNextCongruent (pos from) (pos phase) (pos period) t × ¬ (FitsUnsignedBits 64 t)) (FitsWith (FitsUnsignedBits 64) pos (IsNextCongruent (pos from) (pos phase) (pos period)))
    → MatchOption r ((u : ℕ) → from ≤ u → u % period ≡ phase % period → 2 ^ 64 ≤ u) (λ t. (from ≤ t) × (t < from + period) × (t % period ≡ phase % period))
next_run_is_natural from phase period None up (t, next, outside) = λ u later same.
    let least = next.least (pos u) (omega ints) ((congruent_is_natural up).1 same) in
    grind (arith, no_larger u t)
next_run_is_natural from phase period (Some t) up (fits, next) =
    (omega (ints, next.from_there), omega (ints, next_congruent_below {t = pos t} (omega ints) next), (congruent_is_natural up).0 next.holds)

-- A time of two schedules, by `%`.
pub meeting_is_natural : {a p b q t : ℕ} → 0 < p → 0 < q → IsMeeting (pos a) (pos p) (pos b) (pos q) (pos t)
    → (a ≤ t) × (b ≤ t) × (t % p ≡ a % p) × (t % q ≡ b % q)
meeting_is_natural up other_up h =
    (omega ints, omega ints, (congruent_is_natural up).0 h.of_first.congruent, (congruent_is_natural other_up).0 h.of_second.congruent)

-- ---- nearest quotients

-- The nearest quotient is that of `/` of twice the number and the divisor by twice the divisor, so that a half is rounded up.
pub nearest_is_natural : {n d q : ℕ} {r : ℤ} → 0 < d → IsNearest (pos n) (pos d) (pos q) r → q ≡ (2 * n + d) / (2 * d)
nearest_is_natural {n} {d} {q} up h =
    let equation = h.division.equation in
    let range : (2 * (q * d) ≤ 2 * n + d) × (2 * n < 2 * (q * d) + d) = grind (ints, sizes) in
    (division_is_natural {n = 2 * n + d} {d = 2 * d} {q = q} {r = 2 * n + d - 2 * (q * d)} (omega arith) (floored_by_range (omega (ints, range.0)) (omega ints) (omega (ints, range.1)))).0

-- a nearest quotient of natural numbers is a natural number
nearest_from_zero : {n d : ℕ} (q : ℤ) {r : ℤ} → 0 < d → IsNearest (pos n) (pos d) q r → q ≡ pos ((2 * n + d) / (2 * d))
nearest_from_zero (pos q) up h = ap pos (nearest_is_natural up h)
nearest_from_zero {n} {d} (negsuc q) up h = absurd (omega (ints, sizes, products, h.division.equation, h.nearest))

-- So is the result of a call that returns the nearest quotient if it fits.
pub nearest_answer_is_natural : (n d : ℕ) {twice by : ℕ} (r : Option ℕ) → AnswersQuotient IsNearest (FitsUnsignedBits 64) pos (pos n) (pos d) r
    → 0 < d → twice ≡ 2 * n + d → by ≡ 2 * d
    → SomeIff r (twice / by < 2 ^ 64) (twice / by)
nearest_answer_is_natural n d None none up twice_is by_is =
    rw (twice_is, by_is) (λ fits. none (λ zero. omega ints, λ q h. rw (nearest_from_zero q up h.division) fits))
nearest_answer_is_natural n d (Some q) h up twice_is by_is =
    let is = nearest_is_natural up h.1.1.division in
    rw (twice_is, by_is) (rw is at h.1.0, is)

-- ---- combinations and factorials

-- A binomial coefficient that fits, by factorials.
pub binomial_is_natural : (n k : ℕ) (r : Option ℕ)
    → AnswersWhere ((pos 0 ≤ℤ pos n) × (pos 0 ≤ℤ pos k) × FitsUnsignedBits 64 (coefficient_of (pos n) (pos k))) (λ c. FitsUnsignedBits 64 (pos c) × (pos c ≡ coefficient_of (pos n) (pos k))) r
    → MatchOption r (2 ^ 64 ≤ coefficient n k) (λ c. (c ≡ coefficient n k) × (k ≤ n → c * (factorial k * factorial (n - k)) ≡ factorial n))
binomial_is_natural n k None none =
    grind ints
binomial_is_natural n k (Some c) h =
    let is : c ≡ coefficient n k = ap unsigned_abs h.1.1 in
    (is, λ within. rw is (omega (arith, factorial_formula n k within)))

-- Different numbers below n are a combination when they are sorted.
pub sorted_choice : (n : ℕ) (numbers sorted : List ℕ) → IsPermutation numbers sorted → IsSorted nat_cmp sorted → All (λ c. c < n) numbers
    → IsDistinct nat_eq numbers → IsChoice n sorted
sorted_choice n numbers sorted moved order below distinct = record {
  increasing = IsStrictlyIncreasing-from_distinct sorted (IsNonDecreasingBy-from_sort (λ c. c) sorted order) (IsDistinct-IsPermutation nat_eq (λ x y. grind (arith, nat_tests)) numbers sorted moved distinct);
  below = All-permutation (λ c. c < n) numbers sorted moved below;
}

-- A falling factorial, by factorials.
pub falling_is_natural : {n k r : ℕ} → k ≤ n → r ≡ falling n k → r * factorial (n - k) ≡ factorial n
falling_is_natural {n} {k} within is = rw is (falling_formula n k within)

-- The days from one date to another: the first of them and the others, and how many they are.
use Rattle.calendar.proofs.Common.{not, Bool, IsTrue, ◌↔◌, from_not_less, ◌≡◌, ◌≤◌, ◌++◌, ◌<ℤ◌, ◌≤ℤ◌, ◌+ℤ◌, ◌-ℤ◌, ℕ, zero, suc, ℤ, pos, List, [], ◌∷◌, length, unsigned_abs, int_max, ap, arith, refl, clamps, ints, linear, sizes, Date, number_of}
use Rattle.calendar.specs.Dates.{numbers_from, day_numbers}
use Rattle.calendar.proofs.DateOrder.{order}
use Rattle.calendar.proofs.MonthLengths.{month_length_range}

pub none_left : (first end : ℤ) → end ≤ℤ first → day_numbers first end ≡ []
unfolding numbers_from
none_left first end past = grind arith

pub next_left : (first end : ℤ) → first <ℤ end → day_numbers first end ≡ first ∷ day_numbers (first +ℤ pos 1) end
unfolding numbers_from
next_left first end before =
    let more : unsigned_abs (int_max (pos 0) (end -ℤ first)) ≡ suc (unsigned_abs (int_max (pos 0) (end -ℤ (first +ℤ pos 1)))) =
    omega (sizes, clamps) in
    rw more refl

-- A list of days that begins with a day begins with the first, which is before the end, and goes on with the days from the next one on. No list of days is empty before the end.
pub first_of_days : {first end day : ℤ} {others : List ℤ} → day_numbers first end ≡ day ∷ others
    → (first <ℤ end) × (day ≡ first) × (others ≡ day_numbers (first +ℤ pos 1) end)
first_of_days {first} {end} is = grind (linear, next_left first end, none_left first end)

pub no_days : {first end : ℤ} → day_numbers first end ≡ [] → end ≤ℤ first
no_days {first} {end} is = grind (linear, next_left first end)

pub is_none : (earlier : Bool) (first end : ℤ) → IsTrue earlier ↔ (first <ℤ end) → IsTrue (not earlier) ↔ (day_numbers first end ≡ [])
is_none earlier first end h = grind (linear, no_days, none_left first end, from_not_less)

-- The list ends with the last of the numbers.
numbers_end : (count : ℕ) (first : ℤ) → numbers_from (suc count) first ≡ numbers_from count first ++ (first +ℤ pos count) ∷ []
unfolding numbers_from
numbers_end zero first = ap (λ (n : ℤ). n ∷ []) (omega ints)
numbers_end (suc count) first =
    let same : first +ℤ pos 1 +ℤ pos count ≡ first +ℤ pos (suc count) = omega ints in
    ap (λ (xs : List ℤ). first ∷ xs) (rw same at (numbers_end count (first +ℤ pos 1)))

pub last_left : (first end : ℤ) → first <ℤ end → day_numbers first end ≡ day_numbers first (end -ℤ pos 1) ++ (end -ℤ pos 1) ∷ []
last_left first end before =
    let more : unsigned_abs (int_max (pos 0) (end -ℤ first)) ≡ suc (unsigned_abs (int_max (pos 0) (end -ℤ pos 1 -ℤ first))) = omega (sizes, clamps) in
    let last : first +ℤ pos (unsigned_abs (int_max (pos 0) (end -ℤ pos 1 -ℤ first))) ≡ end -ℤ pos 1 = omega (sizes, clamps) in
    rw more (rw last at (numbers_end (unsigned_abs (int_max (pos 0) (end -ℤ pos 1 -ℤ first))) first))

length-numbers : (count : ℕ) (first : ℤ) → length (numbers_from count first) ≡ count
unfolding numbers_from
length-numbers zero first = refl
length-numbers (suc count) first = ap suc (length-numbers count (first +ℤ pos 1))

-- The days from the first on, to the one before the end, are as many as the end is after the first.
pub days_from_first : (first end : ℤ) → length (day_numbers first end) ≡ unsigned_abs (int_max (pos 0) (end -ℤ first))
days_from_first first end = length-numbers (unsigned_abs (int_max (pos 0) (end -ℤ first))) first

-- no date is later than 31 December of the last year
pub none_later : (a b : Date) → (b.year ≤ℤ a.year) × (12 ≤ a.month) × (31 ≤ a.day_of_month) → ¬ (number_of a <ℤ number_of b)
none_later a b last less = let earlier = (order a b).1 less in grind (linear, month_length_range b.year b.month)

-- and none earlier than 1 January of the first
pub none_earlier : (a b : Date) → (b.year ≤ℤ a.year) × (b.month ≤ 1) × (b.day_of_month ≤ 1) → ¬ (number_of a <ℤ number_of b)
none_earlier a b first less = let earlier = (order a b).1 less in grind linear

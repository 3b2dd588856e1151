-- Meetings of schedules, from solutions of their congruences from a time on at which all have begun.
use Rattle.applied.proofs.Common.{◌+ℤ◌, pos, ◌≡◌, ◌<◌, ◌+◌, ◌≤ℤ◌, ◌∷◌, ℕ, ℤ, List, [], Option, Some, None, MatchOption, FitsWith, AreAllFrom, IsCongruentUpTo, IsCountOfCongruent, IsCountOfTimes, IsTimeTo, arith, cases_lt, get_or_read, length, slice_index_or, linear, SolvesBothCongruences, SolvesEachItem, IsLeastFrom, CommonSolution, At, Beyond, Never, HaveBegun, IsLeastTime, IsMeeting, IsMeetingOfEach, Schedule}

-- the next solution from the least time on at which all have begun is the next meeting
module _ {now from : ℤ} {Begun Solves Meets : ℤ → Type 0} (begun : IsLeastFrom now Begun from) (meets : (t : ℤ) → from ≤ℤ t → Solves t → Meets t) (apart : (t : ℤ) → Meets t → Begun t × Solves t) where
  next_is : {t : ℤ} → IsLeastFrom from Solves t → IsLeastFrom now Meets t
  next_is {t} next = grind arith

  result_is : {X : Type 0} (value : X → ℤ) (fits : ℤ → Type 0) (m : CommonSolution X) → IsLeastTime value fits from Solves m
      → IsLeastTime value fits now Meets m
  result_is value fits Never h = λ t meeting. h t (apart t meeting).1
  result_is value fits Beyond h = (h.0, next_is h.1, h.2)
  result_is value fits (At t) h = (h.0, next_is h.1)

pub meeting_of_solution : {X : Type 0} (value : X → ℤ) (fits : ℤ → Type 0) {now a b start from : ℤ} (p q : ℤ) (m : CommonSolution X)
    → IsLeastFrom a (λ z. b ≤ℤ z) start → IsLeastFrom now (λ z. start ≤ℤ z) from
    → IsLeastTime value fits from (SolvesBothCongruences a p b q) m → IsLeastTime value fits now (IsMeeting a p b q) m
meeting_of_solution value fits {a = a} {b = b} p q m start from = result_is {Solves = SolvesBothCongruences a p b q} {Meets = IsMeeting a p b q} from
    (λ t after solves. grind linear) (λ t h. grind arith) value fits m

pub meeting_of_each : {X : Type 0} (value : X → ℤ) (fits : ℤ → Type 0) (schedules : List (Schedule X)) {now from : ℤ} (m : CommonSolution X)
    → IsLeastFrom now (HaveBegun value schedules) from
    → IsLeastTime value fits from (SolvesEachItem (λ s. value s.first) (λ s. value s.period) schedules) m
    → IsLeastTime value fits now (IsMeetingOfEach value schedules) m
meeting_of_each value fits schedules m from =
    result_is {Solves = SolvesEachItem (λ s. value s.first) (λ s. value s.period) schedules} {Meets = IsMeetingOfEach value schedules} from
    (λ t after solves i d within. record { from_first = omega (linear, from.holds i d within); congruent = solves i d within })
    (λ t h. (λ i d within. (h i d within).from_first, λ i d within. (h i d within).congruent)) value fits m

-- ---- the latest first time

-- with one more schedule the time is not before the first times so far
pub begun_more : {X : Type 0} (value : X → ℤ) (schedules : List (Schedule X)) (k : ℕ) (schedule : Schedule X) {before after : ℤ}
    → k < length schedules → schedule ≡ slice_index_or schedules k schedule → before ≤ℤ after → value schedule.first ≤ℤ after
    → ((i : ℕ) (d : Schedule X) → i < k → value (slice_index_or schedules i d).first ≤ℤ before) → (i : ℕ) (d : Schedule X) → i < k + 1
    → value (slice_index_or schedules i d).first ≤ℤ after
begun_more value schedules k schedule within is later own begun i d upto = grind (arith, cases_lt, linear, get_or_read)

-- ---- the times of one schedule

-- from the time on at which the schedule has begun, its times are the congruent numbers, and no time is before that
times_from : {from first start : ℤ} (period to : ℤ) → IsLeastFrom from (λ z. first ≤ℤ z) start → (items : List ℤ)
    → AreAllFrom start (IsCongruentUpTo to first period) items → AreAllFrom from (IsTimeTo first period to) items
times_from period to start [] none = grind arith
times_from {from = from} {first = first} {start = start'} period to start (t ∷ items) (next, rest) = (
  grind linear,
  times_from {from = t +ℤ pos 1} {first = first} {start = t +ℤ pos 1} period to
      (record { from_there = omega linear; holds = omega (linear, start.holds, next.from_there); least = λ u up _. up }) items rest,
)

count_of_times : {from first period to start n : ℤ} → IsLeastFrom from (λ z. first ≤ℤ z) start → IsCountOfCongruent start to first period n
    → IsCountOfTimes from to first period n
count_of_times {from} {first} {period} {to} start h = grind (arith, times_from)

pub times_by_congruent : {X : Type 0} (value : X → ℤ) (fits : ℤ → Type 0) {from start : ℤ} (to first period : ℤ) (r : Option X)
    → IsLeastFrom from (λ z. first ≤ℤ z) start
    → MatchOption r ((n : ℤ) × IsCountOfCongruent start to first period n × ¬ (fits n)) (FitsWith fits value (IsCountOfCongruent start to first period))
    → MatchOption r ((n : ℤ) × IsCountOfTimes from to first period n × ¬ (fits n)) (FitsWith fits value (IsCountOfTimes from to first period))
times_by_congruent value fits to first period None start h = (h.0, count_of_times start h.1, h.2)
times_by_congruent value fits to first period (Some n) start h = (h.0, count_of_times start h.1)

-- Times that recur after a period.
use Rattle.std.specs.Prelude.{◌≤ℤ◌, ℤ, List}
use Rattle.std.specs.List.{All}
use Rattle.modular.specs.CommonSolutions.{MatchCommonSolution}
use Rattle.modular.specs.Congruences.{AreCongruent}
use Rattle.modular.specs.Counts.{IsCountFrom}
use Rattle.modular.specs.declared.common_solutions.CommonSolution.{CommonSolution}
use Rattle.num_integer.specs.Least.{IsLeastFrom}
use Rattle.applied.specs.declared.schedules.Schedule.{Schedule}

-- The time t is the first time, or a whole number of periods after it.
-- Examples: first 3, period 6: 3; 9; 15; not -3; not 4.
pub record IsTime (first period t : ℤ) : Type 0 where
  pub from_first : first ≤ℤ t
  pub congruent : AreCongruent period t first

-- The time t is in the schedule, and at most `to`.
-- Examples: first 3, period 6, to 15: 3; 9; 15; not 21; not -3.
pub record IsTimeTo (first period to t : ℤ) : Type 0 where
  pub time : IsTime first period t
  pub to_there : t ≤ℤ to

-- count is how many times of the schedule are in from..=to.
-- Examples: first 3, period 6: from 4, to 15: 2 (9 and 15); from -9, to 15: 3; from -9, to 2: 0.
abbrev pub IsCountOfTimes : ℤ → ℤ → ℤ → ℤ → ℤ → Type 0
IsCountOfTimes from to first period count = IsCountFrom from (IsTimeTo first period to) count

-- The time t is in the schedule (a, p) and in the schedule (b, q).
-- Examples: (1, 4) and (3, 6): 9; 21; 33; not 3.
pub record IsMeeting (a p b q t : ℤ) : Type 0 where
  pub of_first : IsTime a p t
  pub of_second : IsTime b q t

-- The time t is in each schedule of the list.
-- Examples: first 1, period 4; first 3, period 6; first 0, period 7: 21; 105; not 9. The empty list: every time.
abbrev pub IsMeetingOfEach : {X : Type 0} → (X → ℤ) → List (Schedule X) → ℤ → Type 0
IsMeetingOfEach value schedules t = All (λ s. IsTime (value s.first) (value s.period) t) schedules

-- The time t is not before the first time of any schedule in the list.
-- Examples: first 1, period 4; first 3, period 6: 3; 4; not 2.
abbrev pub HaveBegun : {X : Type 0} → (X → ℤ) → List (Schedule X) → ℤ → Type 0
HaveBegun value schedules t = All (λ s. value s.first ≤ℤ t) schedules

-- The result is the first time from `now` on that satisfies P: `At` that time if it fits, and `Beyond` if it does not. It is `Never` if no time
-- satisfies P.
-- Examples: now 10, P the meetings of (1, 4) and (3, 6): `At(21)`; the same P in i8, now 118: `Beyond`; P the meetings of (0, 2) and (1, 2): `Never`.
abbrev pub IsLeastTime : {X : Type 0} → (X → ℤ) → (ℤ → Type 0) → ℤ → (ℤ → Type 0) → CommonSolution X → Type 0
IsLeastTime value fits now P result = MatchCommonSolution result ((t : ℤ) → ¬ (P t)) ((t : ℤ) × IsLeastFrom now P t × ¬ (fits t)) (λ t. fits (value t) × IsLeastFrom now P (value t))

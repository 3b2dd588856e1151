-- Timetables: the next run, and how many runs there are before a time.
use Rattle.applied.proofs.Common.{arith, [], ◌≡◌, ◌↔◌, ◌≤ℤ◌, ◌<ℤ◌, ◌+ℤ◌, ◌-ℤ◌, ◌∷◌, ℤ, pos, List, Option, Some, None, MatchOption, FitsSigned, ints, linear, products, expand, w64, AreAllFrom, AreCongruent, Divides, FitsWith, IsCongruentUpTo, IsCountOfCongruent, IsLeastFrom}
use Rattle.modular.specs.Congruences.{IsNextCongruent}
use Rattle.modular.specs.Counts.{IsCountFrom}

-- ---- properties of the same numbers

module _ {P Q : ℤ → Type 0} (same : (u : ℤ) → P u ↔ Q u) where
  -- They have the same least number.
  pub least_as : {from t : ℤ} → IsLeastFrom from P t → IsLeastFrom from Q t
  least_as {t = t} h = grind arith

  all_as : (from : ℤ) (items : List ℤ) → AreAllFrom from P items → AreAllFrom from Q items
  all_as from [] none = λ u later has. none u later ((same u).1 has)
  all_as from (t ∷ items) h = (least_as h.0, all_as (t +ℤ pos 1) items h.1)

  -- They have the same count.
  pub count_as : {from n : ℤ} → IsCountFrom from P n → IsCountFrom from Q n
  count_as {from = from} h = grind (arith, all_as)

-- ---- the next run

-- the number a step before a congruent one is congruent
step_before : {period t phase : ℤ} → AreCongruent period t phase → AreCongruent period (t -ℤ period) phase
step_before {period} {t} h =
    record { divides = record { factor = h.divides.factor -ℤ pos 1; product = simp expand (omega (products, h.divides.product)) } }

-- The next congruent number is less than a step after the first one that it can be.
pub next_congruent_below : {from phase period t : ℤ} → pos 0 <ℤ period → IsNextCongruent from phase period t → t <ℤ (from +ℤ period)
next_congruent_below {from} {phase} {period} {t} up h =
    grind (linear, h.least (t -ℤ period), step_before h.holds)

-- The next run at `i64`, by divisibility. There is none if no run that is not before `from` fits.
pub next_run_by_divisors : (from phase period : ℤ) (r : Option ℤ) → pos 0 <ℤ period → FitsSigned w64 from
    → MatchOption r ((t : ℤ) × IsNextCongruent from phase period t × ¬ (FitsSigned w64 t)) (FitsWith (FitsSigned w64) (λ t. t) (IsNextCongruent from phase period))
    → MatchOption r ((u : ℤ) → from ≤ℤ u → FitsSigned w64 u → ¬ (Divides period (u -ℤ phase))) (λ t. (from ≤ℤ t) × (t <ℤ (from +ℤ period)) × Divides period (t -ℤ phase))
next_run_by_divisors from phase period None up from_fits h =
    λ u later fits divides. h.2 (omega (ints, fits, from_fits, h.1.from_there, h.1.least u later (record { divides = divides })))
next_run_by_divisors from phase period (Some t) up from_fits h = (h.1.from_there, next_congruent_below up h.1, h.1.holds.divides)

-- ---- the number of runs before a time

-- a congruent number at most the one before `end` is one before `end`
congruent_before : {end before : ℤ} (phase period : ℤ) → before ≡ end -ℤ pos 1 → (u : ℤ)
    → IsCongruentUpTo before phase period u ↔ ((u <ℤ end) × Divides period (u -ℤ phase))
congruent_before {end} phase period is u = grind linear

-- How many runs are before `end`, if the call counts to the number before it.
pub count_before : (from end before phase period : ℤ) (r : Option ℤ) → before ≡ end -ℤ pos 1
    → MatchOption r ((n : ℤ) × IsCountOfCongruent from before phase period n × ¬ (FitsSigned w64 n)) (FitsWith (FitsSigned w64) (λ n. n) (IsCountOfCongruent from before phase period))
    → MatchOption r ((n : ℤ) × IsCountFrom from (λ u. (u <ℤ end) × Divides period (u -ℤ phase)) n × ¬ (FitsSigned w64 n)) (IsCountFrom from (λ u. (u <ℤ end) × Divides period (u -ℤ phase)))
count_before from end before phase period None is h = (h.0, count_as (congruent_before phase period is) h.1, h.2)
count_before from end before phase period (Some n) is h = count_as (congruent_before phase period is) h.1

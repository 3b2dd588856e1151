-- How many congruent numbers a range has.
use Rattle.modular.proofs.Common.{◌≡◌, ◌≤ℤ◌, ◌<ℤ◌, ◌+ℤ◌, ◌-ℤ◌, ◌*ℤ◌, ◌∷◌, ℤ, ℕ, zero, suc, pos, Option, Some, None, IfSome, MatchOption, arith, inl, subst, by_lt_z, ints, expand, from_not_less, linear, product_from_zero, products, IsTimesToReach, IsCountFrom, AreCongruent, IsCountOfCongruent, IsNextCongruent, IsResidue, LiesWithin, negsuc}
use Rattle.modular.proofs.CommonSolutions.{times_ordered}
use Rattle.modular.proofs.Congruences.{congruent_sym, congruent_trans, congruent_by}
use Rattle.modular.proofs.NextCongruent.{next_within_step}

-- a congruent number and a step
step_further : {step t first : ℤ} → AreCongruent step t first → AreCongruent step (t +ℤ step) first
step_further {step} {t} h = congruent_trans (congruent_by (pos 1) (omega (arith, products))) h

-- the least number of steps that reaches `from` leads to the next congruent number
pub next_by_times : {from start first step k : ℤ} → pos 0 <ℤ step → AreCongruent step first start
    → IsTimesToReach from start step k → IsNextCongruent from first step (start +ℤ step *ℤ k)
next_by_times {from} {start} {first} {step} {k} up at_start h = record {
  from_there = h.from_there;
  holds = congruent_trans (congruent_by k (omega (arith, linear))) (congruent_sym at_start);
  least = λ u far near.
      let times = (congruent_trans near at_start).divides in
      let ordered = times_ordered {m = step} k times.factor up (h.least times.factor (omega (arith, linear))) in
      omega (arith, linear);
}

-- the count is the number of steps from the first congruent number to the first one after the range
count_of_steps : {to first step u : ℤ} (n : ℕ) {from t : ℤ} → pos 0 <ℤ step
    → IsNextCongruent from first step t → IsNextCongruent (to +ℤ pos 1) first step u → u ≡ t +ℤ step *ℤ pos n
    → IsCountOfCongruent from to first step (pos n)
count_of_steps {to} {u = u} zero {from} {t} up at_start at_end is = grind (arith, products)
count_of_steps {to} {first} {step} {u} (suc n) {from} {t} up at_start at_end is =
    let beyond = product_from_zero step (pos n) (omega (arith, linear)) (omega (arith, ints)) in
    let more : step *ℤ pos (suc n) ≡ step +ℤ step *ℤ pos n = grind arith in
    let next : IsNextCongruent (t +ℤ pos 1) first step (t +ℤ step) = next_within_step (step_further at_start.holds) (omega (arith, linear)) (omega (arith, linear)) in
    let within : t ≤ℤ to = from_not_less (λ less. omega (arith, linear, at_end.least t (omega (arith, linear)) at_start.holds)) in
    let rest = count_of_steps {to = to} n up next at_end (omega (arith, linear)) in
    record {
      items = t ∷ rest.items;
      all = (
        record {
          from_there = at_start.from_there;
          holds = record { to_there = within; congruent = at_start.holds };
          least = λ x far h. at_start.least x far h.congruent;
        },
        rest.all,
      );
      counted = omega (arith, ints, rest.counted);
    }

-- the steps between those that reach both ends of a range: one number more if its last one is congruent
pub record IsCountedByTimes (from to first step times : ℤ) : Type 0 where
  pub within : LiesWithin (times +ℤ pos 1) times
  pub last : AreCongruent step to first → IsCountOfCongruent from to first step (times +ℤ pos 1)
  pub other : ¬ (AreCongruent step to first) → IsCountOfCongruent from to first step times

counted_steps : {from to first step t u count : ℤ} → pos 0 <ℤ step → IsNextCongruent from first step t
    → IsNextCongruent (to +ℤ pos 1) first step u → pos 0 ≤ℤ count → u ≡ t +ℤ step *ℤ count
    → IsCountOfCongruent from to first step count
counted_steps {count = pos n} up at_start at_end from_zero is = count_of_steps n up at_start at_end is
counted_steps {count = negsuc n} up at_start at_end from_zero is = absurd (omega (arith, ints))

pub counted_by_times : {from to first start step j k : ℤ} → pos 0 <ℤ step → IsResidue step first start
    → ¬ (to <ℤ from) → IsTimesToReach to start step k → IsTimesToReach from start step j
    → IsCountedByTimes from to first step (k -ℤ j)
counted_by_times {from} {to} {first} {start} {step} {j} {k} up at_start ordered at_end at_from =
    let times = at_from.least k (omega (arith, linear, at_end.from_there, from_not_less ordered)) in
    let own = next_by_times up at_start.congruent at_from in
    let last = next_by_times up at_start.congruent at_end in
    let apart : start +ℤ step *ℤ k ≡ (start +ℤ step *ℤ j) +ℤ step *ℤ (k -ℤ j) = simp expand (omega (arith, products)) in
    let more : step *ℤ (k -ℤ j +ℤ pos 1) ≡ step *ℤ (k -ℤ j) +ℤ step = simp expand (omega (arith, products)) in
    record {
      within = inl (omega (arith, linear), omega (arith, linear));
      last = λ near.
          let here = last.least to (omega (arith, linear)) near in
          let there = last.from_there in
          let next = next_within_step {from = to +ℤ pos 1} {t = to +ℤ step} (step_further near) (omega (arith, linear)) (omega (arith, linear)) in
          counted_steps up own next (omega (arith, linear)) (omega (arith, linear));
      other = λ far.
          let apart_from : ¬ (start +ℤ step *ℤ k ≡ to) = λ e. far (subst (λ (x : ℤ). AreCongruent step x first) e last.holds) in
          counted_steps up own (record { from_there = by_lt_z to (start +ℤ step *ℤ k) (λ less. omega (arith, linear)) (λ fine. absurd (apart_from (omega (arith, linear)))); holds = last.holds; least = λ x beyond near. last.least x (omega (arith, linear)) near }) (omega (arith, linear)) apart;
    }

pub count_from_zero : {X : Type 0} (fits : ℤ → Type 0) (value : X → ℤ) (N : Type 0) (from : ℤ) (Has : ℤ → Type 0) (r : Option X)
    → MatchOption r N (λ n. fits (value n) × IsCountFrom from Has (value n))
    → IfSome r (λ n. pos 0 ≤ℤ value n)
count_from_zero fits value N from Has (Some n) h = omega (arith, ints, h.1.counted)
count_from_zero fits value N from Has None h = tt

use Rattle.std.specs.Cmp.{int_cmp_is}
use Rattle.std.proofs.lemmas.List.Sorted.{ranks_by, sorted_far}
use Rattle.std.proofs.lemmas.Cmp.{int_cmp_total}
use Rattle.applied.proofs.Common.{◌≤◌, ◌<◌, ◌≤ℤ◌, ℕ, ℤ, List, length, slice_index_or, IsSortedByKey, int_cmp, Less, arith, ap, refl, by_lt_z, ints, get_or_read_under, linear}
use Rattle.applied.proofs.halving.lower_bound.Goals as goal

-- in a sorted list no item is above a later one
ascending : {X : Type 0} (value : X → ℤ) (xs : List X) → IsSortedByKey value int_cmp xs → (i j : ℕ) (d : X) → i ≤ j → j < length xs
    → value (slice_index_or xs i d) ≤ℤ value (slice_index_or xs j d)
ascending value xs up i j d le lt =
    let never = sorted_far _ (ranks_by int_cmp_total value) xs up i j d le lt in
    by_lt_z (value (slice_index_or xs j d)) (value (slice_index_or xs i d))
    (λ less. let is = int_cmp_is _ _ Less less in absurd cc) (λ fine. fine)

pub loop-low-preserved-then-is_below : goal.loop-low-preserved-then-is_below
loop-low-preserved-then-is_below g c =
    let under : c.midpoint-middle.result < length c.args.items.now = omega ints in
    record {
      ordered = omega ints;
      within = c.loop-low.invariant.within;
      below = λ k d from upto.
          let same = ap g.T.Number.value (get_or_read_under _ _ _ _ d c.index-items-middle.is under refl) in
          omega (linear, ascending g.T.Number.value _ c.requires.sorted k c.midpoint-middle.result d (omega arith) under, c.if-is_below.ensures.0 refl);
      from = c.loop-low.invariant.from;
    }

pub loop-low-preserved : goal.loop-low-preserved
loop-low-preserved g c =
    let under : c.midpoint-middle.result < length c.args.items.now = omega ints in
    let bound = by_lt_z (g.T.Number.value c.index-items-middle.result) (g.T.Number.value c.args.least) (λ less. let none = c.if-is_below.ensures.1 less in absurd cc) (λ fine. fine) in
    record {
      ordered = omega ints;
      within = omega ints;
      below = c.loop-low.invariant.below;
      from = λ k d from upto.
          let same = ap g.T.Number.value (get_or_read_under _ _ _ _ d c.index-items-middle.is under refl) in
          omega (linear, ascending g.T.Number.value _ c.requires.sorted c.midpoint-middle.result k d from upto);
    }

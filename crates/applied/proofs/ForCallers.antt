-- Lemmas for callers. The laws are in proofs/Laws.antt.

-- The gcd of no numbers is 0, that of one number more is the gcd of that of the others and this number, and a list has one alone.
pub use Rattle.applied.proofs.ListDivisors.{gcd_of_none, gcd_of_more, only_gcd_of}
-- The lcm of no numbers is 1, that of one number more is the lcm of that of the others and this number, and a list has one alone.
pub use Rattle.applied.proofs.ListDivisors.{lcm_of_none, lcm_of_more, only_lcm_of}
-- The lcm of the first numbers of a list divides that of the list, and a list with a 0 has the lcm 0.
pub use Rattle.applied.proofs.ListDivisors.{prefix_divides, lcm_of_zero}
-- The lcm of a list without 0 is positive, and it is the first positive common multiple. So is the result of a call that returns the lcm if it fits; the
-- last two say it at an unsigned type, of a list, and at `u64` of three numbers.
pub use Rattle.applied.proofs.ListDivisors.{positive_lcm_of}
pub use Rattle.applied.proofs.FirstMultiples.{lcm_of_is_first, first_multiple_of_answers, first_natural_multiple_of, meeting_of_three_at_u64}
-- Two natural numbers divided by their gcd, the second of which is not 0, are coprime and in the same ratio.
pub use Rattle.applied.proofs.ReducedPairs.{reduced_pair}
-- The sum of no numbers is 0, that of a list with a first number is that number and the sum of the others, and that of two lists after each other
-- is the sum of both.
pub use Rattle.applied.proofs.SignedSums.{signed_sum_nil, signed_sum_cons, signed_sum_append}
-- ---- natural numbers

-- What the calls say of unsigned numbers, by `/`, `%`, `*` and `min`. `using` finds each but `range_of_part_is_natural` and `meeting_is_natural`, which
-- a proof file cites.
pub use Rattle.applied.proofs.NaturalWords.{pages_is_natural, place_is_natural, range_of_page_is_natural, range_of_part_is_natural}
pub use Rattle.applied.proofs.NaturalWords.{aligned_is_natural, aligned_is_whole, aligned_number_is_natural, padding_is_natural}
pub use Rattle.applied.proofs.NaturalWords.{next_run_is_natural, meeting_is_natural}
pub use Rattle.applied.proofs.NaturalWords.{nearest_is_natural, nearest_answer_is_natural, binomial_is_natural, falling_is_natural, sorted_choice}
-- ---- timetables

-- Two properties of the same numbers have the same least number and the same count.
pub use Rattle.applied.proofs.Timetables.{least_as, count_as}
-- The next run comes within a period; by divisibility at `i64`; and how many runs are before a time.
pub use Rattle.applied.proofs.Timetables.{next_congruent_below, next_run_by_divisors, count_before}
-- ---- instalments

-- An amount has one list of instalments of a count. Those of a natural number, by `/` and `%`.
pub use Rattle.applied.proofs.Instalments.{instalments_are_only, instalments_are_natural}
-- ---- more natural numbers

-- Which pages have items, that those up to the last one hold all, and the range of a page that begins within the items; which pages have items, and
-- the range of each, if pages are counted from 1. `using` finds the last two.
pub use Rattle.applied.proofs.NaturalPages.{page_has_items, pages_hold, range_of_begun_page, numbered_page_has_items, range_of_numbered_page}
-- The smallest power of two that is at least a number, of std's `checked_next_power_of_two`. `using` finds it.
pub use Rattle.applied.proofs.PowersOfTwo.{next_power_of_two_is_least}
-- ---- lists

-- What holds of each item of a list, at its place, and of one more item; `items_pushed` says it with the number of the items, as the invariant of a loop.
pub use Rattle.applied.proofs.PushedItems.{each_pushed, items_pushed}
-- Items that cost the instalments of an amount, at their places, cost the amount.
pub use Rattle.applied.proofs.PushedItems.{sum_of_instalments}

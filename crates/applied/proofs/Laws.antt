-- The laws of specs/Laws.antt, a lemma each.
use Rattle.modular.proofs.Laws.{count_is_only}
use Rattle.applied.proofs.Common.{◌≡◌, ◌<◌, ◌≤◌, ◌≤ℤ◌, ◌<ℤ◌, ◌+ℤ◌, ◌-ℤ◌, ◌*ℤ◌, ◌∷◌, ℕ, ℤ, pos, List, [], length, AllWithin, arith, ap, refl, AreCongruent, CommonSolution, Never, Beyond, At, congruent_equal, Divides_difference, ceiled_quotient_least, expand, floored_by_range, floored_range, least_is_only, linear, only_pair_by_range, products, division_exists, next_multiple_least, IsLeastTime}
use Rattle.applied.proofs.ListDivisors.{only_gcd_of, only_lcm_of}
pub use Rattle.applied.proofs.LargestRemainders.{shares_by_remainder_are_only}
pub use Rattle.applied.proofs.Choices.{choice_of_rank_is_only, rank_is_below}
pub use Rattle.applied.proofs.ReducedPairs.{reduced_pair_exists, reduced_pair_is_only}
pub use Rattle.applied.proofs.ListDivisors.{gcd_of_exists, gcd_of_fits_exactly, lcm_of_exists}
pub use Rattle.applied.proofs.FirstMultiples.{lcm_of_is_first_common_multiple}
pub use Rattle.applied.proofs.FallingFactorials.{falling_by_coefficient, falling_formula}
pub use Rattle.applied.proofs.PowersAndRoots.{logarithm_is_only}
pub use Rattle.num_integer.proofs.Laws.{nearest_even_quotient_is_only, nearest_quotient_exists, nearest_quotient_fits_exactly, nearest_quotient_is_only, no_integer_is_nearer}
use Rattle.applied.specs.Laws as law

-- ---- pages and parts

pub pages_are_only : law.PagesAreOnly
pages_are_only =
    λ items size count other enough fewest other_enough other_fewest. omega (linear, fewest other other_enough, other_fewest count enough)

pub place_exists : law.PlaceExists
place_exists = λ item page_size up.
    let division = division_exists.1 item page_size (λ e. omega linear) in
    let range = floored_range up division.2 in
    (division.0, division.1, record { equation = division.2.division.equation; from_zero = range.0; below = range.1 })

pub place_is_only : law.PlaceIsOnly
place_is_only = λ item page_size page place h. λ (p, q) k.
    let same = only_pair_by_range (floored_by_range h.equation h.from_zero h.below) k.equation k.from_zero k.below in
    rw (same.0, same.1) refl

pub parts_differ_by_one : law.PartsDifferByOne
parts_differ_by_one = λ parts items cut even part later from_zero ordered within.
    let own = ceiled_quotient_least (omega linear) (even.sizes part from_zero (omega linear)) in
    let next = ceiled_quotient_least (omega linear) (even.sizes later (omega linear) within) in
    let size : ℤ = cut (later +ℤ pos 1) -ℤ cut later in
    let more : (size +ℤ pos 1) *ℤ parts ≡ size *ℤ parts +ℤ parts = simp expand (omega products) in (
      next.1 (cut (part +ℤ pos 1) -ℤ cut part) (omega (linear, own.0)),
      own.1 (size +ℤ pos 1) (omega (linear, next.0)),
    )

-- ---- offsets on an alignment

pub aligned_up_exists : law.AlignedUpExists
aligned_up_exists = λ offset alignment up.
    let division = division_exists.2 offset alignment (λ e. omega linear) in
    let next = next_multiple_least up (record { quotient = division.0; is = record { remainder = division.1; division = division.2 }; product = refl }) in
    (division.0 *ℤ alignment, record { from_offset = next.0; multiple = next.2; least = next.3 })

pub aligned_up_is_only : law.AlignedUpIsOnly
aligned_up_is_only =
    λ offset alignment aligned h other k. omega (linear, h.least other k.from_offset k.multiple, k.least aligned h.from_offset h.multiple)

pub padding_is_only : law.PaddingIsOnly
padding_is_only = λ offset alignment bytes other from_zero below multiple other_from_zero other_below other_multiple.
    let apart : (offset +ℤ other) -ℤ (offset +ℤ bytes) ≡ other -ℤ bytes = omega linear in
    let congruent : AreCongruent alignment other bytes = record { divides = rw apart at (Divides_difference other_multiple multiple) } in
    congruent_equal congruent other_from_zero other_below from_zero below

-- ---- schedules

same_time : {X : Type 0} (value : X → ℤ) (fits P : ℤ → Type 0) → ((x y : X) → value x ≡ value y → x ≡ y) → (now : ℤ) (answer other : CommonSolution X)
    → IsLeastTime value fits now P answer → IsLeastTime value fits now P other → other ≡ answer
same_time value fits P one now Never Never h k = refl
same_time value fits P one now Beyond Beyond h k = refl
same_time value fits P one now (At t) (At u) h k = ap At (one u t (least_is_only h.1 (value u) k.1))
same_time value fits P one now x y h k = absurd (grind (arith, least_is_only))

pub least_time_is_only : {X : Type 0} (value : X → ℤ) (fits P : ℤ → Type 0) → law.LeastTimeIsOnly value fits P
least_time_is_only value fits P = λ one now answer h other k. same_time value fits P one now answer other h k

pub count_of_times_is_only : law.CountOfTimesIsOnly
count_of_times_is_only = λ from to first period count h. count_is_only h

-- ---- halves

pub midpoint_is_only : law.MidpointIsOnly
midpoint_is_only = λ a b middle other no_farther one_nearer other_no_farther other_one_nearer. omega linear

-- an item before one of the places and from the other on is below the number and is not
not_before : {X : Type 0} (value : X → ℤ) (items : List X) (least : ℤ) (place other : ℕ)
    → AllWithin (λ x. least ≤ℤ value x) items place (length items) → AllWithin (λ x. value x <ℤ least) items 0 other
    → other ≤ length items → ¬ (place < other)
not_before value [] least place other from below within = λ less. absurd (omega arith)
not_before value (x ∷ items) least place other from below within =
    λ less. absurd (omega (linear, from place x (omega arith) (omega arith), below place x (omega arith) less))

pub lower_bound_is_only : {X : Type 0} (value : X → ℤ) → law.LowerBoundIsOnly value
lower_bound_is_only value = λ items least place other within below from other_within other_below other_from.
    let not_less = not_before value items least place other from other_below other_within in
    let not_more = not_before value items least other place other_from below within in
    grind arith

-- ---- pairs and lists

pub gcd_of_is_only : law.GcdOfIsOnly
gcd_of_is_only = λ numbers g h other k. only_gcd_of k h

pub lcm_of_is_only : law.LcmOfIsOnly
lcm_of_is_only = λ numbers l h other k. only_lcm_of k h

-- Choices, their ranks and order, the choice of a rank, and the choice of the next rank.
use Rattle.std.specs.List.Sorted.{IsStrictlyIncreasing}
use Rattle.std.proofs.lemmas.List.FromFn.{get_or-enumerate_from, length-enumerate_from}
use Rattle.applied.proofs.Common.{◌≡◌, ◌⊎◌, ◌↔◌, ◌<◌, ◌≤◌, ◌+◌, ◌-◌, ℕ, zero, suc, List, length, slice_index, slice_set, take, sum_by, enumerate_from, arith, ap, inl, inr, refl, subst, sym, ◌∙◌, add-one, one-add, cases_lt, ext_get_or, get_or-set_other, get_or-set_same, length-set, take_all, All-from_get_or, sum_by-take-le, sum_by_more, coefficient, coefficient_zero, coefficient_grows, pascal, ChoiceOfRankIsOnly, RankIsBelow, IsChoice, slice_index_or, get_or_default, get_or_past, none_above}
use Rattle.applied.specs.Ranking.{rank_of, IsBefore, IsChoiceOfRank, IsFirstToRise, IsLastChoice}

-- ---- the rank of the first i numbers

-- the term of a place and the number there
abbrev term_of : ℕ × ℕ → ℕ
term_of p = coefficient p.1 p.0

unfoldable pub rank_of_first : ℕ → List ℕ → ℕ
rank_of_first i xs = sum_by term_of (take i (enumerate_from 1 xs))

pub rank_of_none : (xs : List ℕ) → rank_of_first 0 xs ≡ 0
unfolding rank_of_first
rank_of_none xs = refl

pub rank_of_more : (xs : List ℕ) (i : ℕ) → i < length xs → rank_of_first (suc i) xs ≡ rank_of_first i xs + coefficient (slice_index xs i) (suc i)
unfolding rank_of_first
rank_of_more xs i within =
    let placed = get_or-enumerate_from 1 xs i (0, 0) within in
    let more = sum_by_more term_of (enumerate_from 1 xs) i (0, 0) (omega (arith, length-enumerate_from 1 xs)) in
    rw (add-one, placed, one-add) at more

pub rank_of_all : (xs : List ℕ) (k : ℕ) → k ≡ length xs → rank_of_first k xs ≡ rank_of xs
unfolding rank_of_first rank_of
rank_of_all xs k end = ap (sum_by term_of) (take_all k (enumerate_from 1 xs) (omega (arith, length-enumerate_from 1 xs)))

-- it is below the number of choices of i numbers below m, if the last of them is below m
rank_of_first_below : (xs : List ℕ) (i m : ℕ) → IsStrictlyIncreasing xs → i ≤ length xs → ((j : ℕ) → suc j ≡ i → slice_index xs j < m)
    → rank_of_first i xs < coefficient m i
rank_of_first_below xs zero m up within last = omega (arith, coefficient_zero m, rank_of_none xs)
rank_of_first_below xs (suc i) m up within last =
    let c = slice_index xs i in
    let before = rank_of_first_below xs i c up (omega arith) (λ j e. subst (λ (t : ℕ). slice_index xs j < slice_index xs t) (add-one j ∙ e) (up j (omega arith))) in
    omega (arith, before, rank_of_more xs i (omega arith), pascal c i, coefficient_grows (suc c) m (suc i) (omega (arith, last i refl)))

-- ---- the rank of a choice

pub rank_is_below : RankIsBelow
rank_is_below = λ n xs h.
    omega (arith, rank_of_first_below xs (length xs) n h.increasing (omega arith) (λ j e. h.below j 0 (omega arith)), rank_of_all)

-- each sum on the way is at most the rank
pub next_rank_at_most : (xs : List ℕ) (i : ℕ) → i < length xs → rank_of_first i xs + coefficient (slice_index xs i) (i + 1) ≤ rank_of xs
unfolding rank_of_first rank_of
next_rank_at_most xs i within = rw add-one (omega (arith, rank_of_more xs i within, sum_by-take-le term_of (enumerate_from 1 xs) (suc i)))

pub next_rank : (xs : List ℕ) (i : ℕ) → i < length xs → rank_of_first (i + 1) xs ≡ rank_of_first i xs + coefficient (slice_index xs i) (i + 1)
next_rank xs i within = rw add-one (rank_of_more xs i within)

-- ---- the choice of a rank

-- the first i numbers increase, stay below the bound, and have this rank
pub record IsFirst (xs : List ℕ) (i bound r : ℕ) : Type 0 where
  pub increasing : (j : ℕ) → j + 1 < i → slice_index xs j < slice_index xs (j + 1)
  pub below : (j : ℕ) → j < i → slice_index xs j < bound
  pub rank : rank_of_first i xs ≡ r

-- two lists of one length that have the same numbers from i on
pub record SameFrom (i : ℕ) (xs ys : List ℕ) : Type 0 where
  pub size : length xs ≡ length ys
  pub same : (j : ℕ) → i ≤ j → j < length ys → slice_index xs j ≡ slice_index ys j

-- the choice of rank r is written from place i on: whatever i numbers below the bound have the rank that is left complete it
pub record IsWrittenFrom (n k r i bound rest : ℕ) (written : List ℕ) : Type 0 where
  pub below : rest < coefficient bound i
  pub completes : (xs : List ℕ) → SameFrom i xs written → IsFirst xs i bound rest → IsChoiceOfRank n k r xs

-- what is left after the largest coefficient is below the one before it
rest_below : (c i rest : ℕ) → coefficient c (i + 1) ≤ rest → rest < coefficient (c + 1) (i + 1) → rest - coefficient c (i + 1) < coefficient c i
rest_below c i rest part greatest =
    let rule : coefficient (c + 1) (i + 1) ≡ coefficient c i + coefficient c (i + 1) = rw (add-one c, add-one i) (pascal c i) in
    omega arith

pub none_written : {n r : ℕ} {ys : List ℕ} → r < coefficient n (length ys) → IsWrittenFrom n (length ys) r (length ys) n r ys
none_written {n} below = record {
  below = below;
  completes = λ xs same h. record {
    size = same.size;
    choice = record {
      increasing = λ j k. h.increasing j (omega arith);
      below = All-from_get_or (λ (c : ℕ). c < n) xs 0 (λ j k. h.below j (omega arith));
    };
    rank = sym (rank_of_all xs _ (sym same.size)) ∙ h.rank;
  };
}

pub one_more_written : {n k r i j bound rest c : ℕ} {ys : List ℕ} → j + 1 ≡ i → j < length ys → c < bound → coefficient c (j + 1) ≤ rest
    → rest < coefficient (c + 1) (j + 1)
    → IsWrittenFrom n k r i bound rest ys → IsWrittenFrom n k r j c (rest - coefficient c (j + 1)) (slice_set ys j c)
one_more_written {i = i} {j = j} {bound = bound} {rest = rest} {c = c} {ys = ys} next within below part greatest h = record {
  below = rest_below c j rest part greatest;
  completes = λ xs same first.
      let after : SameFrom (j + 1) xs ys × (slice_index xs j ≡ c) = grind (arith, length, slice_set, length-set, get_or-set_other, get_or-set_same) in
      let more : IsFirst xs (j + 1) bound rest = grind (arith, next_rank) in
      h.completes xs (rw next at after.0) (rw next at more);
}

pub all_written : {n k r bound rest : ℕ} {ys : List ℕ} → IsWrittenFrom n k r 0 bound rest ys → IsChoiceOfRank n k r ys
all_written {bound = bound} {rest = rest} {ys = ys} h =
    let none : rest ≡ 0 = omega (arith, h.below, coefficient_zero bound) in
    h.completes ys (record { size = refl; same = λ j from within. refl }) (grind (arith, rank_of_none))

-- ---- the order of choices

last_differs : {xs ys : List ℕ} (i : ℕ) → slice_index xs i < slice_index ys i → IsBefore (suc i) xs ys
last_differs i lesser = grind arith

still_before : {xs ys : List ℕ} {i : ℕ} → slice_index xs i ≡ slice_index ys i → IsBefore i xs ys → IsBefore (suc i) xs ys
still_before {xs} {ys} {i} same h = grind arith

-- of two lists one is before the other, if they are not the same
compare : (k : ℕ) (xs ys : List ℕ) → ((j : ℕ) → j < k → slice_index xs j ≡ slice_index ys j) ⊎ (IsBefore k xs ys ⊎ IsBefore k ys xs)
compare zero xs ys = inl (λ j h. absurd (omega arith))
compare (suc i) xs ys = elim (cases_lt (slice_index xs i) (slice_index ys i)) [
  | inl less ↦ inr (inl (last_differs i less))
  | inr from ↦ elim (cases_lt (slice_index ys i) (slice_index xs i)) [
    | inl more ↦ inr (inr (last_differs i more))
    | inr to ↦ elim (compare i xs ys) [
      | inl same ↦ inl (λ j h. grind (arith, same j))
      | inr (inl before) ↦ inr (inl (still_before (omega arith) before))
      | inr (inr after) ↦ inr (inr (still_before (omega arith) after))
    ]
  ]
]

before_first : (k : ℕ) (xs ys : List ℕ) → IsStrictlyIncreasing xs → k ≤ length xs → k ≤ length ys → IsBefore k xs ys
    → rank_of_first k xs < rank_of_first k ys
before_first zero xs ys up in_xs in_ys h = absurd (omega (arith, h.within))
before_first (suc i) xs ys up in_xs in_ys h = elim (cases_lt h.place i) [
  | inl after ↦
      let rest : IsBefore i xs ys = grind arith in
      let here = ap (λ (t : ℕ). coefficient t (suc i)) (h.same_after i after (omega arith)) in
      omega (arith, before_first i xs ys up (omega arith) (omega arith) rest, rank_of_more xs i (omega arith), rank_of_more ys i (omega arith))
  | inr last ↦
      -- whatever the numbers before it, a lesser number makes the rank less
      let e : h.place ≡ i = omega (arith, h.within) in
      let most = rank_of_first_below xs (suc i) (slice_index ys i) up (omega arith)
      (λ j same. let here : j ≡ i = omega arith in rw here (rw e at h.lesser)) in
      omega (arith, most, rank_of_more ys i (omega arith))
]

before_less : {xs ys : List ℕ} {k : ℕ} → IsStrictlyIncreasing xs → length xs ≡ k → length ys ≡ k → IsBefore k xs ys → rank_of xs < rank_of ys
before_less {xs} {ys} {k} up xs_size ys_size h = omega (arith, before_first k xs ys up (omega arith) (omega arith) h, rank_of_all)

-- a choice is before another exactly if its rank is less
pub before_exactly : {n : ℕ} {xs ys : List ℕ} → IsChoice n xs → IsChoice n ys → length xs ≡ length ys
    → IsBefore (length ys) xs ys ↔ (rank_of xs < rank_of ys)
before_exactly {n} {xs} {ys} x y size = (
  before_less x.increasing size refl,
  λ less. elim (compare (length ys) xs ys) [
    | inl same ↦ absurd (omega (arith, ap rank_of (ext_get_or 0 xs ys size (λ j h. same j (omega arith)))))
    | inr either ↦ grind (arith, before_less y.increasing refl size)
  ],
)

-- the steps of the sum, and what is known of the whole sum
pub ruleset rank_steps = (rank_of_none, rank_of_all, next_rank, next_rank_at_most, rank_is_below)

-- choices of one size and rank are the same
pub choice_of_rank_is_only : ChoiceOfRankIsOnly
choice_of_rank_is_only = λ n k r xs x ys y. elim (compare k ys xs) [
  | inl same ↦ ext_get_or 0 ys xs (y.size ∙ sym x.size) (λ j h. same j (omega (arith, y.size)))
  | inr either ↦ absurd (grind (arith, before_less y.choice.increasing y.size x.size, before_less x.choice.increasing x.size y.size))
]

-- ---- numbers that follow one another

-- each number of a choice is below the one after it, or n at the end, and such numbers are a choice
below_last : (n : ℕ) (xs : List ℕ) → ((j : ℕ) → j < length xs → slice_index xs j < slice_index_or xs (j + 1) n) → (more j : ℕ)
    → j + 1 + more ≡ length xs → slice_index xs j < n
below_last n xs above zero j size = omega (arith, above j (omega arith), get_or_past xs (j + 1) n (omega arith))
below_last n xs above (suc more) j size =
    omega (arith, above j (omega arith), get_or_default xs (j + 1) n 0 (omega arith), below_last n xs above more (j + 1) (omega arith))

pub choice_by_neighbours : {n : ℕ} {xs : List ℕ} → ((j : ℕ) → j < length xs → slice_index xs j < slice_index_or xs (j + 1) n) → IsChoice n xs
choice_by_neighbours {n} {xs} above = record {
  increasing = λ j within. omega (arith, above j (omega arith), get_or_default xs (j + 1) n 0 within);
  below = All-from_get_or (λ (c : ℕ). c < n) xs 0 (λ j within. below_last n xs above (length xs - (j + 1)) j (omega arith));
}

-- they have the largest rank below the number after them
rank_of_run : (n : ℕ) (xs : List ℕ) (i : ℕ) → i ≤ length xs → ((j : ℕ) → j < i → slice_index xs j + 1 ≡ slice_index_or xs (j + 1) n)
    → rank_of_first i xs + 1 ≡ coefficient (slice_index_or xs i n) i
rank_of_run n xs zero within run = omega (arith, rank_of_none xs, coefficient_zero (slice_index_or xs zero n))
rank_of_run n xs (suc i) within run =
    let before = rw (get_or_default xs i n 0 (omega arith)) at (rank_of_run n xs i (omega arith) (λ j h. run j (omega arith))) in
    let next : suc (slice_index xs i) ≡ slice_index_or xs (suc i) n = simp add-one at (run i (omega arith)) in
    rw (← next) (omega (arith, before, rank_of_more xs i (omega arith), pascal (slice_index xs i) i))

pub last_rank : (n : ℕ) (xs : List ℕ) → IsLastChoice n xs → rank_of xs + 1 ≡ coefficient n (length xs)
last_rank n xs run =
    rw (rank_of_all xs (length xs) refl, get_or_past xs (length xs) n (omega arith)) at (rank_of_run n xs (length xs) (omega arith) run)

-- ---- one number raised

-- ys has one more than xs at place i, 0, 1, 2 and so on before it, and the same after it
pub record IsRaisedAt (i : ℕ) (xs ys : List ℕ) : Type 0 where
  pub size : length ys ≡ length xs
  pub before : (j : ℕ) → j < i → slice_index ys j ≡ j
  pub here : slice_index ys i ≡ slice_index xs i + 1
  pub after : (j : ℕ) → i < j → slice_index ys j ≡ slice_index xs j

pub raised_is : {i : ℕ} {xs ys : List ℕ} → i < length xs → length ys ≡ length (slice_set xs i (slice_index xs i + 1))
    → ((j : ℕ) → j < i → slice_index ys j ≡ j)
    → ((j : ℕ) → i ≤ j → slice_index ys j ≡ slice_index (slice_set xs i (slice_index xs i + 1)) j) → IsRaisedAt i xs ys
raised_is {i} {xs} within size before after = grind (arith, length-set, slice_index, get_or-set_same, get_or-set_other)

rank_from_zero : (ys : List ℕ) (i : ℕ) → i ≤ length ys → ((j : ℕ) → j < i → slice_index ys j ≡ j) → rank_of_first i ys ≡ 0
rank_from_zero ys zero within h = rank_of_none ys
rank_from_zero ys (suc i) within h =
    let none : coefficient (slice_index ys i) (suc i) ≡ 0 = rw (h i (omega arith)) (none_above i (suc i) (omega arith)) in
    omega (arith, rank_from_zero ys i (omega arith) (λ j k. h j (omega arith)), rank_of_more ys i (omega arith))

raised_rank : {n i : ℕ} {xs ys : List ℕ} → IsFirstToRise n xs i → IsRaisedAt i xs ys → (k : ℕ) → i < k → k ≤ length xs
    → rank_of_first k ys ≡ rank_of_first k xs + 1
raised_rank first h zero above within = absurd (omega arith)
raised_rank {n} {i} {xs} {ys} first h (suc k) above within = elim (cases_lt i k) [
  | inl later ↦
      let same = ap (λ (t : ℕ). coefficient t (suc k)) (h.after k later) in
      omega (arith, raised_rank first h k later (omega arith), rank_of_more xs k (omega arith), rank_of_more ys k (omega (arith, h.size)), same)
  | inr last ↦
      let e : k ≡ i = omega arith in
      let here = ap (λ (t : ℕ). coefficient t (suc i)) (h.here ∙ add-one _) in
      let run = rw (get_or_default xs i n 0 first.within) at (rank_of_run n xs i (omega (arith, first.within)) first.none_before) in
      let none = rank_from_zero ys i (omega (arith, h.size, first.within)) h.before in
      rw e (omega (arith, run, none, here, rank_of_more xs i first.within, rank_of_more ys i (omega (arith, h.size, first.within)), pascal (slice_index xs i) i))
]

from_place : (xs : List ℕ) → IsStrictlyIncreasing xs → (i : ℕ) → i < length xs → i ≤ slice_index xs i
from_place xs up zero within = omega arith
from_place xs up (suc i) within =
    omega (arith, from_place xs up i (omega arith), simp add-one at (up i (omega arith)))

-- the number at the first place that can rise, one more, begins the choice of the next rank
pub next_choice_is : {n i : ℕ} {xs ys : List ℕ} → IsChoice n xs → IsFirstToRise n xs i → IsRaisedAt i xs ys
    → IsChoiceOfRank n (length xs) (rank_of xs + 1) ys
next_choice_is {n} {i} {xs} {ys} choice first h = record {
  size = h.size;
  choice = record {
    increasing = grind (arith, from_place, get_or_default);
    below = All-from_get_or (λ (c : ℕ). c < n) ys 0 (λ j within. grind (arith, from_place, get_or_default, get_or_past));
  };
  rank = omega (arith, raised_rank first h (length xs) first.within (omega arith), rank_of_all, h.size);
}

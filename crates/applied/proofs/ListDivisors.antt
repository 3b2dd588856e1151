-- Greatest common divisors and least common multiples of lists.
use Rattle.num_integer.proofs.ForCallers.{Divides_refl, Divides_zero, gcd_divisor, gcd_fits_is, lcm_positive, no_minus_one, one_divides, only_lcm, zero_fits}
use Rattle.applied.proofs.Common.{◌≡◌, ◌<◌, ◌+◌, ◌≤ℤ◌, ◌<ℤ◌, ◌∷◌, ◌++◌, ◌≢◌, append-nil, append_assoc, GcdOfFitsExactly, ℕ, ℤ, pos, negsuc, neg_ℤ, unsigned_abs, List, [], length, get_or, map, take, Option, Some, All, arith, inl, inr, refl, subst, sym, ints, map_more, All-head, All-pop, All-push, All-tail, All-weaker, AnswersWhere, Divides, IsGreatestCommonDivisor, IsRange, Divides_antisym, Divides_trans, answers_as, linear, sizes, within_fits, zero_or_not, gcd_exists, GcdOfFits, IsGreatestCommonDivisorOf, take-map, HoldsAt, ◌∙◌, get_or-map, length-map, take_at, All-map, All-take, IsLeastCommonMultiple, EachFits, answer_only, divisor_at_most, fits_below, lcm_exists, IsLeastCommonMultipleOf, gcd_swap}
use Rattle.applied.proofs.ReducedPairs.{gcd_with_magnitude}

-- ---- one number more

-- what follows from a property of each number, and holds of one more at the end, is a property of each number of the longer list
each_and_one : (P Q : ℤ → Type 0) (numbers : List ℤ) {x : ℤ} → ((y : ℤ) → P y → Q y) → All P numbers → Q x → All Q (numbers ++ x ∷ [])
each_and_one P Q numbers {x} weaker each last = All-push Q numbers x (All-weaker P Q weaker numbers each) last

-- a property of each number of the longer list is one of the numbers before the last, and of the last
before_and_last : (P : ℤ → Type 0) (numbers : List ℤ) {x : ℤ} → All P (numbers ++ x ∷ []) → All P numbers × P x
before_and_last P numbers {x} each = All-pop P (numbers ++ x ∷ []) numbers (Some x) refl each

-- ---- the gcd of one number more

-- the greatest common divisor of no numbers is 0
pub gcd_of_none : IsGreatestCommonDivisorOf [] (pos 0)
gcd_of_none = grind (ints, Divides_zero)

-- the gcd of a list with one number more at its end is the gcd of the list's gcd and this number
pub gcd_of_more : {numbers : List ℤ} {g x h : ℤ} → IsGreatestCommonDivisorOf numbers g → IsGreatestCommonDivisor g x h
    → IsGreatestCommonDivisorOf (numbers ++ x ∷ []) h
gcd_of_more {numbers} {g} {x} {h} before both = record {
  from_zero = both.from_zero;
  divides_each = each_and_one _ (Divides h) numbers (λ y divides. Divides_trans both.divides_left divides) before.divides_each both.divides_right;
  greatest = λ d each. let split = before_and_last (Divides d) numbers each in both.greatest d (before.greatest d split.0) split.1;
}

-- ---- each list has a gcd

-- induction: if the first numbers have a result, and each further number gives the next one, the whole list has one
pub each_list : (Fit : ℤ → Type 0) (Is : List ℤ → ℤ → Type 0) → ((xs : List ℤ) (x g : ℤ) → Fit x → Is xs g → (h : ℤ) × Is (xs ++ x ∷ []) h)
    → (first rest : List ℤ) (g : ℤ) → Is first g → All Fit rest → (h : ℤ) × Is (first ++ rest) h
each_list Fit Is more first [] g own each = (g, rw (append-nil first) own)
each_list Fit Is more first (x ∷ rest) g own each =
    let next = more first x g (All-head Fit x rest each) own in
    rw (append_assoc first (x ∷ []) rest) at (each_list Fit Is more (first ++ x ∷ []) rest next.0 next.1 (All-tail Fit x rest each))

-- two greatest common divisors of one list are equal
pub only_gcd_of : {numbers : List ℤ} {g h : ℤ} → IsGreatestCommonDivisorOf numbers g → IsGreatestCommonDivisorOf numbers h → g ≡ h
only_gcd_of x y = Divides_antisym x.from_zero y.from_zero (y.greatest _ x.divides_each) (x.greatest _ y.divides_each)

pub gcd_of_exists : (numbers : List ℤ) → (g : ℤ) × IsGreatestCommonDivisorOf numbers g
gcd_of_exists numbers = each_list (λ x. x ≡ x) IsGreatestCommonDivisorOf (λ first x g _ own. let h = gcd_exists g x in (h.0, gcd_of_more own h.1))
    [] numbers (pos 0) gcd_of_none (λ k d within. refl)

-- ---- when the gcd fits

pub gcd_of_fits_exactly : (fits : ℤ → Type 0) → GcdOfFitsExactly fits
gcd_of_fits_exactly fits = λ low high numbers range each. (
  λ h. elim (zero_or_not low) [
    | inl none ↦
        -- in a type without -1 each list has one that fits
        let g = each_list fits (λ first g. IsGreatestCommonDivisorOf first g × fits g)
        (λ first x g x_fits own. let both = gcd_exists g x in
        (both.0, (gcd_of_more own.0 both.1, (gcd_fits_is range own.1 x_fits).0 (λ one. absurd (no_minus_one range none one)) both.0 both.1)))
        [] numbers (pos 0) (gcd_of_none, zero_fits range) each in
        λ z is. subst fits (only_gcd_of g.1.0 is) g.1.1
    | inr signed ↦ h ((range.between (negsuc 0)).1 (omega (linear, range.low_end, range.positive)))
  ],
  λ h _. h,
)

-- ---- the result of `gcd_of`

pub gcd_of_result : (fits : ℤ → Type 0) {numbers : List ℤ} {m g : ℤ} → IsGreatestCommonDivisorOf numbers m → g ≡ m → fits g
    → GcdOfFits fits numbers × (fits g × IsGreatestCommonDivisorOf numbers g)
gcd_of_result fits {numbers} is same g_fits =
    let own = rw (← same) at is in (λ _ z other. subst fits (only_gcd_of own other) g_fits, (g_fits, own))

-- the negation of a negative divisor, if it fits
pub checked_gcd_of : {X : Type 0} (value : X → ℤ) {fits : ℤ → Type 0} {low high : ℤ} {numbers : List ℤ} {d : ℤ} → IsRange fits low high → fits d
    → d <ℤ pos 0 → IsGreatestCommonDivisorOf numbers (pos (unsigned_abs d))
    → (r : Option X) → AnswersWhere (fits (neg_ℤ d)) (λ x. fits (value x) × (value x ≡ neg_ℤ d)) r
    → AnswersWhere (GcdOfFits fits numbers) (λ x. fits (value x) × IsGreatestCommonDivisorOf numbers (value x)) r
checked_gcd_of value {fits} {numbers = numbers} {d = d} range d_fits below is r =
    let same : pos (unsigned_abs d) ≡ neg_ℤ d = omega sizes in
    let own = subst (IsGreatestCommonDivisorOf numbers) same is in
    let minus_one : fits (negsuc 0) = within_fits range d_fits (inr (omega linear, omega linear)) in
    answers_as r (λ negated_fits _ z other. subst fits (only_gcd_of own other) negated_fits, λ each. each minus_one (neg_ℤ d) own) (λ x found. (found.0, subst (IsGreatestCommonDivisorOf numbers) (sym found.1) own))

-- if the magnitude of d is the gcd of the first i numbers, one number more has that of r
pub gcd_of_next : {X : Type 0} (value : X → ℤ) (numbers : List X) (i : ℕ) (d r : ℤ) {x : X}
    → IsGreatestCommonDivisorOf (map value (take i numbers)) (pos (unsigned_abs d)) → i < length numbers → x ≡ get_or numbers i x
    → IsGreatestCommonDivisor d (value x) (pos (unsigned_abs r)) → IsGreatestCommonDivisorOf (map value (take (i + 1) numbers)) (pos (unsigned_abs r))
gcd_of_next value numbers i d r {x =
    x} before within at both = rw (map_more value numbers i x within, ← at) (gcd_of_more before (gcd_with_magnitude both))

-- a divisor of the number is the gcd of both, up to its sign
pub gcd_of_multiple : {d x : ℤ} → Divides d x → IsGreatestCommonDivisor d x (pos (unsigned_abs d))
gcd_of_multiple divides = gcd_swap (gcd_divisor divides)

-- if the first numbers have the gcd 1, all of them do
pub gcd_of_one : {X : Type 0} (value : X → ℤ) (numbers : List X) (i : ℕ) {d : ℤ} → d ≡ pos 1
    → IsGreatestCommonDivisorOf (map value (take i numbers)) (pos (unsigned_abs d))
    → IsGreatestCommonDivisorOf (map value numbers) (pos (unsigned_abs d))
gcd_of_one value numbers i {d} one before =
    let first = rw (← take-map value i numbers, one) at before in
    rw one record {
      from_zero = omega sizes;
      divides_each = λ k e within. one_divides _;
      greatest = λ e each. first.greatest e (All-take (λ x. Divides e x) i (map value numbers) each);
    }

-- ---- the lcm of one number more

-- the least common multiple of no numbers is 1
pub lcm_of_none : IsLeastCommonMultipleOf [] (pos 1)
lcm_of_none = grind (ints, one_divides)

-- the lcm of a list with one number more at its end is the lcm of the list's lcm and this number
pub lcm_of_more : {numbers : List ℤ} {l x m : ℤ} → IsLeastCommonMultipleOf numbers l → IsLeastCommonMultiple l x m
    → IsLeastCommonMultipleOf (numbers ++ x ∷ []) m
lcm_of_more {numbers} {l} {x} {m} before both = record {
  from_zero = both.from_zero;
  each_divides = each_and_one _ (λ y. Divides y m) numbers (λ y divides. Divides_trans divides both.left_divides) before.each_divides
      both.right_divides;
  least = λ n each. let split = before_and_last (λ y. Divides y n) numbers each in both.least n (before.least n split.0) split.1;
}

-- the lcm of the first numbers of a list divides that of the list
pub prefix_divides : {first : List ℤ} (rest : List ℤ) {m l : ℤ} → IsLeastCommonMultipleOf first m → IsLeastCommonMultipleOf (first ++ rest) l
    → Divides m l
prefix_divides {first} rest {m} {l} h k =
    h.least l (rw (take_at first rest (length first) refl) at (All-take (λ x. Divides x l) (length first) (first ++ rest) k.each_divides))

-- ---- each list has an lcm

-- two least common multiples of one list are equal
pub only_lcm_of : {numbers : List ℤ} {l m : ℤ} → IsLeastCommonMultipleOf numbers l → IsLeastCommonMultipleOf numbers m → l ≡ m
only_lcm_of x y = Divides_antisym x.from_zero y.from_zero (x.least _ y.each_divides) (y.least _ x.each_divides)

pub lcm_of_exists : (numbers : List ℤ) → (l : ℤ) × IsLeastCommonMultipleOf numbers l
lcm_of_exists numbers = each_list (λ x. x ≡ x) IsLeastCommonMultipleOf (λ first x l _ own. let m = lcm_exists l x in (m.0, lcm_of_more own m.1))
    [] numbers (pos 1) lcm_of_none (λ k d within. refl)

-- numbers that are not 0 have a positive one
pub positive_lcm_of : (numbers : List ℤ) → All (λ x. x ≢ pos 0) numbers → (l : ℤ) × (IsLeastCommonMultipleOf numbers l × (pos 0 <ℤ l))
positive_lcm_of numbers nonzero = each_list (λ x. x ≢ pos 0) (λ first l. IsLeastCommonMultipleOf first l × (pos 0 <ℤ l))
    (λ first x l some own.
    let both = lcm_exists l x in
    (both.0, (lcm_of_more own.0 both.1, lcm_positive both.1 (λ none. omega (linear, own.1)) some)))
    [] numbers (pos 1) (lcm_of_none, omega ints) nonzero

-- a list with a 0 has the least common multiple 0
pub lcm_of_zero : {numbers : List ℤ} (k : ℕ) → k < length numbers → HoldsAt (λ x. x ≡ pos 0) numbers k → IsLeastCommonMultipleOf numbers (pos 0)
lcm_of_zero {numbers} k within zero = record {
  from_zero = omega ints;
  each_divides = λ i d inside. Divides_zero _;
  least = λ m each. rw (zero (pos 0)) at (each k (pos 0) within);
}

pub lcm_of_with_zero : {X : Type 0} (value : X → ℤ) (numbers : List X) (k : ℕ) → k < length numbers → HoldsAt (λ x. value x ≡ pos 0) numbers k
    → IsLeastCommonMultipleOf (map value numbers) (pos 0)
lcm_of_with_zero value [] k within zero = absurd (omega arith)
lcm_of_with_zero value (x ∷ numbers) k within zero =
    lcm_of_zero k (omega (arith, length-map (x ∷ numbers) value)) (λ d. get_or-map value (x ∷ numbers) k x d within ∙ zero x)

-- ---- the result of `lcm_of`

pub lcm_of_result : (fits : ℤ → Type 0) {numbers : List ℤ} {l : ℤ} → fits l → IsLeastCommonMultipleOf numbers l
    → EachFits fits (IsLeastCommonMultipleOf numbers) × (fits l × IsLeastCommonMultipleOf numbers l)
lcm_of_result fits {numbers} l_fits own = answer_only {P = IsLeastCommonMultipleOf numbers} own (λ y. only_lcm_of own) l_fits refl

-- a multiple of the number is the lcm of both
pub lcm_of_divisor_fits : (fits : ℤ → Type 0) {l x : ℤ} → fits l → pos 0 ≤ℤ l → Divides x l
    → EachFits fits (IsLeastCommonMultiple l x) × (fits l × IsLeastCommonMultiple l x l)
lcm_of_divisor_fits fits {l} {x} l_fits up divides =
    let own : IsLeastCommonMultiple l x l = record { from_zero = up; left_divides = Divides_refl l; right_divides = divides; least = λ m h _. h } in
    answer_only {P = IsLeastCommonMultiple l x} own (λ y. only_lcm own) l_fits refl

-- ---- the loop of `lcm_of`

module _ {X : Type 0} (value : X → ℤ) (numbers : List X) where
  pub lcm_of_next : (i : ℕ) {l m : ℤ} {x : X} → IsLeastCommonMultipleOf (map value (take i numbers)) l → i < length numbers → x ≡ get_or numbers i x
      → IsLeastCommonMultiple l (value x) m → IsLeastCommonMultipleOf (map value (take (i + 1) numbers)) m
  lcm_of_next i {x = x} before within at both = rw (map_more value numbers i x within, ← at) (lcm_of_more before both)

  -- a multiple on the way that does not fit
  pub lcm_of_out_of_range : {fits : ℤ → Type 0} {low high : ℤ} (i : ℕ) {l : ℤ} {x : X} → IsRange fits low high → All (λ y. value y ≢ pos 0) numbers
      → IsLeastCommonMultipleOf (map value (take i numbers)) l → i < length numbers → x ≡ get_or numbers i x
      → ¬ (EachFits fits (IsLeastCommonMultiple l (value x))) → ¬ (EachFits fits (IsLeastCommonMultipleOf (map value numbers)))
  lcm_of_out_of_range i range nonzero before within at none each =
      let whole = positive_lcm_of (map value numbers) (All-map (λ y. y ≢ pos 0) value numbers nonzero) in
      none (λ m both.
      let next = rw (← take-map value (i + 1) numbers) at (lcm_of_next i before within at both) in
      let multiple = next.least whole.0 (All-take (λ y. Divides y whole.0) (i + 1) (map value numbers) whole.1.0.each_divides) in
      fits_below range (each whole.0 whole.1.0) next.from_zero (divisor_at_most whole.1.1 multiple))

-- Instalments: the list of those that are left, and the only list of an amount and a count.
use Rattle.applied.proofs.Common.{◌+◌, ◌/◌, map, truncated_is, ◌≡◌, ◌≢◌, ◌≤ℤ◌, ◌<ℤ◌, ◌+ℤ◌, ◌-ℤ◌, ◌*ℤ◌, ◌-◌, ◌<◌, ◌∙◌, ◌∷◌, [], All, List, ℕ, zero, suc, ℤ, pos, negsuc, unsigned_abs, All-cons, All-nil, ap, arith, by_lt_z, expand, inl, inr, ints, linear, multiples_apart, product_from_zero, products, refl, signed_sum, sizes, sym, within_fits, zero_or_not, IsOnly, IsRange}
use Rattle.applied.specs.Instalments.{AreInstalments, instalments_left}
use Rattle.num_integer.proofs.ForCallers.{only_truncated}
use Rattle.num_integer.specs.Division.{IsTruncated}
use Rattle.std.proofs.Common.{replicate, ◌%◌}
use Rattle.std.proofs.lemmas.List.Elements.{All-replicate}

-- ---- the list of those that are left

others_are_left : (n : ℕ) (other : ℤ) → replicate n other ≡ instalments_left n other other
others_are_left zero other = refl
others_are_left (suc n) other = refl

-- the next one is first, and the others are as many as are left after it
pub next_is_first : (left next other : ℤ) → pos 0 ≤ℤ left → left ≢ pos 0
    → instalments_left (unsigned_abs left) next other ≡ next ∷ instalments_left (unsigned_abs (left -ℤ pos 1)) other other
next_is_first (pos zero) next other up some = absurd (some refl)
next_is_first (pos (suc n)) next other up some =
    let fewer : unsigned_abs (pos (suc n) -ℤ pos 1) ≡ n = omega ints in
    rw fewer (ap (λ (xs : List ℤ). next ∷ xs) (others_are_left n other))
next_is_first (negsuc n) next other up some = absurd (omega ints)

-- what holds of the next one and of another holds of all
pub each_left : (P : ℤ → Type 0) (n : ℕ) (next other : ℤ) → P next → P other → All P (instalments_left n next other)
each_left P zero next other first rest = All-nil P
each_left P (suc n) next other first rest = All-cons P next (replicate n other) first (All-replicate P n other rest)

the_others : (n : ℕ) (first other : ℤ) → 0 < n → instalments_left n first other ≡ first ∷ replicate (n - 1) other
the_others zero first other up = absurd (omega arith)
the_others (suc n) first other up = let fewer : suc n - 1 ≡ n = omega arith in rw fewer refl

equal_sum : (n : ℕ) (x : ℤ) → signed_sum (replicate n x) ≡ pos n *ℤ x
equal_sum zero x = omega products
equal_sum (suc n) x =
    let rest : signed_sum (replicate n x) ≡ pos n *ℤ x = equal_sum n x in
    let step : pos (suc n) ≡ pos n +ℤ pos 1 = omega ints in
    rw (step, rest) (simp expand (omega products))

-- ---- they are the quotient rounded toward zero, and the first has the remainder too

module _ {amount count other rest : ℤ} (up : pos 0 <ℤ count) (h : IsTruncated amount count other rest) where
  of_positive : pos 0 ≤ℤ amount → (pos 0 ≤ℤ other) × (pos 0 ≤ℤ rest) × ((other +ℤ rest) ≤ℤ amount)
  of_positive from =
      let rest_up : pos 0 ≤ℤ rest = omega (sizes, h.sign) in
      let other_up : pos 0 ≤ℤ other = grind (products, sizes, h.division, multiples_apart other (pos 0) count up) in
      let more = simp expand at (product_from_zero other (count -ℤ pos 1) other_up (omega linear)) in
      (other_up, rest_up, omega (products, h.division))

  of_negative : amount ≤ℤ pos 0 → (other ≤ℤ pos 0) × (rest ≤ℤ pos 0) × (amount ≤ℤ (other +ℤ rest))
  of_negative to =
      let rest_down : rest ≤ℤ pos 0 = omega (sizes, h.sign) in
      let other_down : other ≤ℤ pos 0 = grind (products, sizes, h.division, multiples_apart (pos 0) other count up) in
      let more = simp expand at (product_from_zero (pos 0 -ℤ other) (count -ℤ pos 1) (omega linear) (omega linear)) in
      (other_down, rest_down, omega (products, h.division))

  -- the first fits as the amount does
  pub first_fits : {fits : ℤ → Type 0} {low high : ℤ} → IsRange fits low high → fits amount → fits (other +ℤ rest)
  first_fits range amount_fits = within_fits range amount_fits (by_lt_z amount (pos 0)
      (λ below. let of = of_negative (omega linear) in inr (omega linear, omega linear))
      (λ above. let of = of_positive above in inl (omega linear, omega linear)))

  pub instalments_are : {first : ℤ} → first ≡ other +ℤ rest → AreInstalments amount count (instalments_left (unsigned_abs count) first other)
  instalments_are {first} is =
      let counted : count ≡ pos (unsigned_abs count - 1) +ℤ pos 1 = omega sizes in
      let list = the_others (unsigned_abs count) first other (omega sizes) in
      record {
        first = first;
        other = other;
        others = unsigned_abs count - 1;
        counted = counted;
        equal = list;
        whole = rw list (
            let sum : signed_sum (replicate (unsigned_abs count - 1) other) ≡ pos (unsigned_abs count - 1) *ℤ other =
            equal_sum (unsigned_abs count - 1) other in
            let times : count *ℤ other ≡ (pos (unsigned_abs count - 1) +ℤ pos 1) *ℤ other = ap (λ (t : ℤ). t *ℤ other) counted in
            let each = simp expand at times in
            omega (products, h.division.equation, sum, each, is));
        of_positive = λ from. let of = of_positive from in (omega linear, omega (sizes, h.division.small));
        of_negative = λ to. let of = of_negative to in (omega linear, omega (sizes, h.division.small));
      }

-- ---- only one list is that of an amount and a count

quotient_of : {amount count : ℤ} {xs : List ℤ} → pos 0 <ℤ count → (h : AreInstalments amount count xs)
    → IsTruncated amount count h.other (h.first -ℤ h.other)
quotient_of {amount} {count} {xs} up h =
    let whole : h.first +ℤ signed_sum (replicate h.others h.other) ≡ amount = rw h.equal at h.whole in
    let sum : signed_sum (replicate h.others h.other) ≡ pos h.others *ℤ h.other = equal_sum h.others h.other in
    let each = simp expand at (ap (λ (t : ℤ). t *ℤ h.other) h.counted) in
    by_lt_z amount (pos 0)
    (λ below. let of = h.of_negative (omega linear) in record {
      division = record { equation = omega (products, whole, sum, each); small = omega sizes };
      sign = grind (linear, zero_or_not (h.first -ℤ h.other));
    })
    (λ above. let of = h.of_positive above in record {
      division = record { equation = omega (products, whole, sum, each); small = omega sizes };
      sign = elim (zero_or_not (h.first -ℤ h.other)) [ inl none ↦ inl none | inr some ↦ inr (inl (omega (linear, some), grind linear)) ];
    })

pub instalments_are_only : {amount count : ℤ} {xs : List ℤ} → pos 0 <ℤ count → AreInstalments amount count xs
    → IsOnly (AreInstalments amount count) xs
instalments_are_only up h ys k =
    let same = only_truncated (quotient_of up k) (quotient_of up h) in
    let first : k.first ≡ h.first = omega (linear, same.0, same.1) in
    let others : k.others ≡ h.others = omega (ints, h.counted, k.counted) in
    k.equal ∙ rw (first, others, same.0) (sym h.equal)

-- ---- natural numbers

replicated : (n : ℕ) (x : ℕ) → map (λ k. pos k) (replicate n x) ≡ replicate n (pos x)
replicated zero x = refl
replicated (suc n) x = ap (λ (xs : List ℤ). pos x ∷ xs) (replicated n x)

naturals : (xs ys : List ℕ) → map (λ k. pos k) xs ≡ map (λ k. pos k) ys → xs ≡ ys
naturals [] [] e = refl
naturals [] (y ∷ ys) e = absurd cc
naturals (x ∷ xs) [] e = absurd cc
naturals (x ∷ xs) (y ∷ ys) e = let rest : xs ≡ ys = naturals xs ys cc in cc

-- The instalments of a natural number, by `/` and `%`.
pub instalments_are_natural : {amount count : ℕ} (xs : List ℕ) → 0 < count → AreInstalments (pos amount) (pos count) (map (λ k. pos k) xs)
    → xs ≡ (amount / count + amount % count) ∷ replicate (count - 1) (amount / count)
instalments_are_natural {amount} {count} xs up h =
    let nonzero : pos count ≢ pos 0 = λ e. absurd (omega ints) in
    let parts : (h.other ≡ pos (amount / count)) × (h.first -ℤ h.other ≡ pos (amount % count)) =
    only_truncated (quotient_of (omega ints) h) (truncated_is (pos amount) (pos count) nonzero) in
    let first : h.first ≡ pos (amount / count + amount % count) = omega (ints, parts.0, parts.1) in
    let others : h.others ≡ count - 1 = omega (ints, h.counted) in
    naturals xs ((amount / count + amount % count) ∷ replicate (count - 1) (amount / count))
    (h.equal ∙ rw (first, others, parts.0) (ap (λ (ys : List ℤ). pos (amount / count + amount % count) ∷ ys) (sym (replicated (count - 1) (amount / count)))))

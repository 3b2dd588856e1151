-- The sums of the numbers in the same places of two lists.
use Rattle.std.proofs.lemmas.List.{get_or-set_other, get_or-set_same, length-set, map-set}
use Rattle.std.specs.Prelude.{false, true, ◌&&◌}
use Rattle.cellarcove_c.proofs.Common.{◌≡◌, ◌↔◌, ◌<◌, ◌+◌, ◌+ℤ◌, ◌∙◌, ℕ, ℤ, Bool, IsTrue, List, ap, arith, cases_lt, false≢true, get_or, get_or-map, inl, inr, length, length-map, map, pos, refl, set, subst, sym}

-- the sums of the first i numbers fit
abbrev pub SumsFitTo : (ℤ → Type 0) → ℕ → List ℤ → List ℤ → Type 0
SumsFitTo fits i a b = (k : ℕ) → k < i → fits (get_or a k (pos 0) +ℤ get_or b k (pos 0))

-- the first i numbers are added
pub record AreSumsTo (i : ℕ) (a b sums : List ℤ) : Type 0 where
  pub one_each : length sums ≡ length a
  pub each : (k : ℕ) → k < i → get_or sums k (pos 0) ≡ get_or a k (pos 0) +ℤ get_or b k (pos 0)

module _ {X : Type 0} (value : X → ℤ) (a b : List X) {i : ℕ} {x y : X} (in_a : i < length a) (same : length b ≡ length a) (x_is : x ≡ get_or a i x) (y_is : y ≡ get_or b i y) where
  -- the sum of the numbers in this place
  pub sum_at : get_or (map value a) i (pos 0) +ℤ get_or (map value b) i (pos 0) ≡ value x +ℤ value y
  sum_at =
      let left : get_or (map value a) i (pos 0) ≡ value x = get_or-map value a i x (pos 0) in_a ∙ ap value (sym x_is) in
      let right : get_or (map value b) i (pos 0) ≡ value y = get_or-map value b i y (pos 0) (omega (arith, in_a, same)) ∙ ap value (sym y_is) in
      rw (left, right) refl

  pub one_more_fits : (fits : ℤ → Type 0) (so_far now : Bool)
      → IsTrue so_far ↔ SumsFitTo fits i (map value a) (map value b) → IsTrue now ↔ fits (value x +ℤ value y)
      → IsTrue (so_far && now) ↔ SumsFitTo fits (i + 1) (map value a) (map value b)
  one_more_fits fits false now before this = (λ h. absurd (false≢true h), λ all. before.1 (λ k below. all k (omega (arith, below))))
  one_more_fits fits true now before this = (
    λ yes k upto. elim (cases_lt k i) [
      | inl below ↦ before.0 refl k below
      | inr beyond ↦
          let is : i ≡ k = omega (arith, upto, beyond) in
          subst (λ (t : ℕ). fits (get_or (map value a) t (pos 0) +ℤ get_or (map value b) t (pos 0))) is (rw sum_at (this.0 yes))
    ],
    λ all. this.1 (rw sum_at at (all i (omega arith))),
  )

  pub one_more_added : (sums : List X) (s : X) → value s ≡ value x +ℤ value y → AreSumsTo i (map value a) (map value b) (map value sums)
      → AreSumsTo (i + 1) (map value a) (map value b) (map value (set sums i s))
  one_more_added sums s is h =
      let written : map value (set sums i s) ≡ set (map value sums) i (value s) = map-set value sums i s in
      let room : i < length (map value sums) = omega (arith, h.one_each, in_a, length-map a value) in
      rw written (record {
        one_each = length-set (map value sums) i (value s) ∙ h.one_each;
        each = λ k upto. grind (arith, get_or-set_other (map value sums) i k (value s) (pos 0), get_or-set_same (map value sums) i (value s) (pos 0) room, h.each k, is, sum_at);
      })

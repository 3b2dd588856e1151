-- Lemmas on the order of fractions, which the order of `Ratio` cites.
use Rattle.std.specs.Prelude.{◌≡◌, ◌<ℤ◌, ◌*ℤ◌, ◌&&◌, ℤ, pos}
use Rattle.std.specs.Bool.{Decides, one_answer}
use Rattle.std.specs.Cmp.{Equal-is, int_cmp_is, int_cmp_total, int_ranked}
use Rattle.std.specs.Ordering.{MatchOrdering, int_cmp, int_eq, is_eq}
use Rattle.std.specs.declared.cmp.Ordering.{Ordering}
use Rattle.std.specs.declared.cmp.Ordering.TheVariants.{Equal, Greater, Less}
use Rattle.std.proofs.Common.{arith, refl, sym, ap, ◌∙◌}
use Rattle.std.proofs.lemmas.Bool.Decides.{Decides-and, Decides-int_eq}
use Rattle.num_integer.proofs.ForCallers.{comm, expand, linear, multiples_apart}
use Rattle.ratio64.specs.Fraction.{IsReduced, fraction_cmp}
use Rattle.ratio64.specs.Laws.{OrderAgreesWithEquality, OrderIsTotal}
use Rattle.ratio64.specs.ReducedPairs.{same_pair}

-- ---- numbers compare as they do times a positive number

times_lt : (k x y : ℤ) → pos 0 <ℤ k → x <ℤ y → (k *ℤ x) <ℤ (k *ℤ y)
times_lt k x y up h = omega (arith, linear, comm k x, comm k y, multiples_apart x y k up h)

ranked_times : (r : Ordering) (k x y : ℤ) → pos 0 <ℤ k → MatchOrdering r (x <ℤ y) (x ≡ y) (y <ℤ x)
    → MatchOrdering r ((k *ℤ x) <ℤ (k *ℤ y)) (k *ℤ x ≡ k *ℤ y) ((k *ℤ y) <ℤ (k *ℤ x))
ranked_times Less k x y up h = times_lt k x y up h
ranked_times Equal k x y up h = ap (λ (t : ℤ). k *ℤ t) h
ranked_times Greater k x y up h = times_lt k y x up h

pub int_cmp_times : (k x y : ℤ) → pos 0 <ℤ k → int_cmp x y ≡ int_cmp (k *ℤ x) (k *ℤ y)
int_cmp_times k x y up = int_cmp_is (k *ℤ x) (k *ℤ y) (int_cmp x y) (ranked_times (int_cmp x y) k x y up (int_ranked x y (int_cmp x y) refl))

-- ---- the fractions a/b, c/d and e/f over their common denominator

common_cmp : (a b c d k x y : ℤ) → pos 0 <ℤ k → k *ℤ (a *ℤ d) ≡ x → k *ℤ (c *ℤ b) ≡ y → fraction_cmp a b c d ≡ int_cmp x y
common_cmp a b c d k x y up e f = rw (← e, ← f) (int_cmp_times k (a *ℤ d) (c *ℤ b) up)

module _ (a b c d e f : ℤ) (b_up : pos 0 <ℤ b) (d_up : pos 0 <ℤ d) (f_up : pos 0 <ℤ f) where
  first : fraction_cmp a b c d ≡ int_cmp (a *ℤ (d *ℤ f)) (c *ℤ (b *ℤ f))
  first = common_cmp a b c d f (a *ℤ (d *ℤ f)) (c *ℤ (b *ℤ f)) f_up (simp expand) (simp expand)

  second : fraction_cmp c d e f ≡ int_cmp (c *ℤ (b *ℤ f)) (e *ℤ (b *ℤ d))
  second = common_cmp c d e f b (c *ℤ (b *ℤ f)) (e *ℤ (b *ℤ d)) b_up (simp expand) (simp expand)

  outer : fraction_cmp a b e f ≡ int_cmp (a *ℤ (d *ℤ f)) (e *ℤ (b *ℤ d))
  outer = common_cmp a b e f d (a *ℤ (d *ℤ f)) (e *ℤ (b *ℤ d)) d_up (simp expand) (simp expand)

  cmp_trans : fraction_cmp a b c d ≡ Less → fraction_cmp c d e f ≡ Less → fraction_cmp a b e f ≡ Less
  cmp_trans h k = outer ∙ int_cmp_total.trans (a *ℤ (d *ℤ f)) (c *ℤ (b *ℤ f)) (e *ℤ (b *ℤ d)) (sym first ∙ h) (sym second ∙ k)

  cmp_congr : fraction_cmp a b c d ≡ Equal → fraction_cmp a b e f ≡ fraction_cmp c d e f
  cmp_congr h = outer ∙ int_cmp_total.congr (a *ℤ (d *ℤ f)) (c *ℤ (b *ℤ f)) (e *ℤ (b *ℤ d)) (sym first ∙ h) ∙ sym second

pub order_is_total : (K : Type 0) (num den : K → ℤ) → OrderIsTotal K num den
order_is_total K num den up = record {
  antisymm = λ x y. int_cmp_total.antisymm (num x *ℤ den y) (num y *ℤ den x);
  trans = λ x y z. cmp_trans (num x) (den x) (num y) (den y) (num z) (den z) (up x) (up y) (up z);
  congr = λ x y z. cmp_congr (num x) (den x) (num y) (den y) (num z) (den z) (up x) (up y) (up z);
}

-- ---- the order and equality

cross_Decides : (a b c d : ℤ) → Decides (is_eq (fraction_cmp a b c d)) (a *ℤ d ≡ c *ℤ b)
cross_Decides a b c d = Decides-int_eq (a *ℤ d) (c *ℤ b)

pub order_agrees_with_equality : OrderAgreesWithEquality
order_agrees_with_equality a b c d =
    let cross = cross_Decides a b c d in
    (λ h. record { cross = cross.0 (ap is_eq h) }, λ e. (Equal-is (fraction_cmp a b c d)).0 (cross.1 e.cross))

-- two reduced pairs have the same parts exactly if the order has them equal
pub ties_of_reduced : {a b c d : ℤ} → IsReduced a b → IsReduced c d → (int_eq a c && int_eq b d) ≡ is_eq (fraction_cmp a b c d)
ties_of_reduced {a} {b} {c} {d} x y =
    let cross = cross_Decides a b c d in
    let parts : Decides (int_eq a c && int_eq b d) ((a ≡ c) × (b ≡ d)) = Decides-and _ _ (Decides-int_eq a c) (Decides-int_eq b d) in
    let pairs : Decides (is_eq (fraction_cmp a b c d)) ((a ≡ c) × (b ≡ d)) =
    (λ h. same_pair x y (record { cross = cross.0 h }), λ same. cross.1 (rw (same.0, same.1) refl)) in
    one_answer _ _ parts pairs

-- The order of fractions by cross multiplication.
use Rattle.ratio64.proofs.Common.{◌≡◌, ◌↔◌, ◌∙◌, ◌<◌, ◌*◌, ◌<ℤ◌, ◌*ℤ◌, ℕ, ℤ, pos, unsigned_abs, ints, refl, int_cmp_is, int_ranked, Equal, Greater, Less, ap, sym, fraction_cmp, AreEqual, IsReduced, same_pair}
use Rattle.ratio64.specs.FractionOrder.{order_agrees_with_equality, order_is_total}
use Rattle.std.specs.Ordering.{MatchOrdering, int_cmp, nat_cmp, ordering_reverse}
use Rattle.std.specs.Cmp.{nat_cmp_is}
use Rattle.std.specs.declared.cmp.Ordering.{Ordering}

pub less_exactly : (a b c d : ℤ) → (fraction_cmp a b c d ≡ Less) ↔ ((a *ℤ d) <ℤ (c *ℤ b))
less_exactly a b c d = (λ h. int_ranked (a *ℤ d) (c *ℤ b) Less (sym h), λ h. sym (int_cmp_is (a *ℤ d) (c *ℤ b) Less h))

pub equal_exactly : (a b c d : ℤ) → (fraction_cmp a b c d ≡ Equal) ↔ (a *ℤ d ≡ c *ℤ b)
equal_exactly a b c d = (λ h. int_ranked (a *ℤ d) (c *ℤ b) Equal (sym h), λ h. sym (int_cmp_is (a *ℤ d) (c *ℤ b) Equal h))

pub greater_exactly : (a b c d : ℤ) → (fraction_cmp a b c d ≡ Greater) ↔ ((c *ℤ b) <ℤ (a *ℤ d))
greater_exactly a b c d = (λ h. int_ranked (a *ℤ d) (c *ℤ b) Greater (sym h), λ h. sym (int_cmp_is (a *ℤ d) (c *ℤ b) Greater h))

-- Fractions compare as equal fractions do.
pub equal_fractions_compare_alike : {a b c d e f g h : ℤ} → pos 0 <ℤ b → pos 0 <ℤ d → pos 0 <ℤ f → pos 0 <ℤ h → AreEqual a b e f → AreEqual c d g h
    → fraction_cmp a b c d ≡ fraction_cmp e f g h
equal_fractions_compare_alike {a} {b} {c} {d} {e} {f} {g} {h} b_up d_up f_up h_up first second =
    let total = order_is_total ((p : ℤ × ℤ) × (pos 0 <ℤ p.1)) (λ x. x.0.0) (λ x. x.0.1) (λ x. x.1) in
    let left = total.congr ((a, b), b_up) ((e, f), f_up) ((c, d), d_up) ((order_agrees_with_equality a b e f).1 first) in
    let right = total.congr ((c, d), d_up) ((g, h), h_up) ((e, f), f_up) ((order_agrees_with_equality c d g h).1 second) in
    left ∙ total.antisymm ((e, f), f_up) ((c, d), d_up) ∙ ap ordering_reverse right ∙ sym (total.antisymm ((e, f), f_up) ((g, h), h_up))

natural_rank : (x y : ℕ) (r : Ordering) → MatchOrdering r (pos x <ℤ pos y) (pos x ≡ pos y) (pos y <ℤ pos x) → MatchOrdering r (x < y) (x ≡ y) (y < x)
natural_rank x y Less h = omega ints
natural_rank x y Equal h = ap unsigned_abs h
natural_rank x y Greater h = omega ints

-- integers that are natural numbers compare as these do
natural_cmp : (x y : ℕ) → int_cmp (pos x) (pos y) ≡ nat_cmp x y
natural_cmp x y =
    nat_cmp_is x y (int_cmp (pos x) (pos y)) (natural_rank x y (int_cmp (pos x) (pos y)) (int_ranked (pos x) (pos y) (int_cmp (pos x) (pos y)) refl))

-- So do fractions of natural numbers.
pub natural_fractions_compare_alike : (a b c d e f g h : ℕ) → 0 < b → 0 < d → 0 < f → 0 < h → a * f ≡ e * b → c * h ≡ g * d
    → nat_cmp (a * d) (c * b) ≡ nat_cmp (e * h) (g * f)
natural_fractions_compare_alike a b c d e f g h b_up d_up f_up h_up first second =
    sym (natural_cmp (a * d) (c * b))
    ∙ equal_fractions_compare_alike {a = pos a} {b = pos b} {c = pos c} {d = pos d} {e = pos e} {f = pos f} {g = pos g} {h = pos h} (omega ints) (omega ints) (omega ints) (omega ints) (record { cross = ap pos first }) (record { cross = ap pos second })
    ∙ natural_cmp (e * h) (g * f)

-- Reduced fractions of natural numbers have the same parts exactly if the fractions that they are equal to are equal.
pub natural_reduced_alike : (a b c d e f g h : ℕ) → IsReduced (pos a) (pos b) → IsReduced (pos c) (pos d) → 0 < f → 0 < h → a * f ≡ e * b
    → c * h ≡ g * d → ((a ≡ c) × (b ≡ d)) ↔ (e * h ≡ g * f)
natural_reduced_alike a b c d e f g h x y f_up h_up first second =
    let alike : fraction_cmp (pos a) (pos b) (pos c) (pos d) ≡ fraction_cmp (pos e) (pos f) (pos g) (pos h) =
    equal_fractions_compare_alike {a = pos a} {b = pos b} {c = pos c} {d = pos d} {e = pos e} {f = pos f} {g = pos g} {h = pos h} x.positive y.positive (omega ints) (omega ints) (record { cross = ap pos first }) (record { cross = ap pos second }) in
    let reduced = order_agrees_with_equality (pos a) (pos b) (pos c) (pos d) in
    let given = order_agrees_with_equality (pos e) (pos f) (pos g) (pos h) in (
      λ same. ap unsigned_abs (given.0 (sym alike ∙ reduced.1 (record { cross = rw (same.0, same.1) refl }))).cross,
      λ equal. let pair = same_pair x y (reduced.0 (alike ∙ given.1 (record { cross = ap pos equal }))) in (ap unsigned_abs pair.0, ap unsigned_abs pair.1),
    )

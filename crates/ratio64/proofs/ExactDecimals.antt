-- Fractions that are decimal numbers with so many places.
use Rattle.ratio64.proofs.Common.{◌≡◌, ◌<ℤ◌, ◌+ℤ◌, ◌*ℤ◌, ℤ, pos, ap, comm, expand, linear, sym, ◌∙◌, Divides, IsFloored, IsQuotient}
use Rattle.num_integer.proofs.ForCallers.{only_pair_by_range}

exact_quotient_is : {s d q r : ℤ} → pos 0 <ℤ d → IsFloored s d q r → Divides d s → q *ℤ d ≡ s
exact_quotient_is {s} {d} {q} up h k =
    let own : s ≡ k.factor *ℤ d +ℤ pos 0 = k.product ∙ comm d k.factor ∙ omega linear in
    let same = only_pair_by_range h own (omega linear) up in
    ap (λ (t : ℤ). t *ℤ d) (sym same.0) ∙ comm k.factor d ∙ sym k.product

-- the units of the decimal number
pub units_exact : (n : ℤ) {d s q : ℤ} → pos 0 <ℤ d → IsQuotient IsFloored s d q → Divides d s → (n *ℤ q) *ℤ d ≡ n *ℤ s
units_exact n {d} {s} {q} up h k =
    let same = exact_quotient_is up h.division k in
    rw (← same) (simp expand)

pub scale_divides : (n : ℤ) {d s : ℤ} → Divides d s → Divides d (n *ℤ s)
scale_divides n h = record { factor = n *ℤ h.factor; product = rw h.product (simp expand) }

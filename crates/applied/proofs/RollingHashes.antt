-- The hash of one more byte, and of the next window.
use Rattle.std.specs.Prelude.{◌%◌}
use Rattle.modular.proofs.ForCallers.{natural_residue, congruent_difference, congruent_product, congruent_sum, congruent_trans}
use Rattle.num_integer.proofs.ForCallers.{natural_power, int_pow_suc, int_pow_zero}
use Rattle.applied.proofs.Common.{◌≡◌, ◌<◌, ◌+◌, ◌^◌, ◌+ℤ◌, ◌-ℤ◌, ◌*ℤ◌, ◌∷◌, ◌++◌, ℕ, ℤ, pos, List, [], length, slice_index, take, int_pow, arith, ap, ◌∙◌, add-one, subst, sym, length_push, take-suc, expand, linear, products, congruent_refl, AreCongruent, IsResidue, weighted_sum}

-- one more byte at the end moves each before it up by one power
sum_with_last : (base : ℤ) (bytes : List ℕ) (last : ℕ) → weighted_sum base (bytes ++ last ∷ []) ≡ weighted_sum base bytes *ℤ base +ℤ pos last
sum_with_last base [] last = grind (arith, int_pow, int_pow_zero, products)
sum_with_last base (byte ∷ bytes) last =
    let power : int_pow base (length (bytes ++ last ∷ [])) ≡ base *ℤ int_pow base (length bytes) =
    ap (λ (k : ℕ). int_pow base k) (length_push bytes last ∙ add-one (length bytes)) ∙ int_pow_suc base (length bytes) in
    rw (power, sum_with_last base bytes last) (simp expand (omega linear))

hash_shifted : {m sum hash shifted r : ℤ} (base byte : ℤ) → AreCongruent m sum hash → IsResidue m (hash *ℤ base) shifted
    → IsResidue m (shifted +ℤ byte) r → IsResidue m (sum *ℤ base +ℤ byte) r
hash_shifted base byte h shift last = record {
  below = last.below;
  congruent = congruent_trans (congruent_sum (congruent_trans (congruent_product h (congruent_refl base)) shift.congruent) (congruent_refl byte)) last.congruent;
}

pub hash_more : {m hash shifted r : ℤ} (base : ℤ) (bytes : List ℕ) (i : ℕ) → i < length bytes → IsResidue m (weighted_sum base (take i bytes)) hash
    → IsResidue m (hash *ℤ base) shifted
    → IsResidue m (shifted +ℤ pos (slice_index bytes i)) r → IsResidue m (weighted_sum base (take (i + 1) bytes)) r
hash_more base bytes i within h shift last = rw (add-one i, take-suc bytes i 0 within, sum_with_last base (take i bytes) (slice_index bytes i))
    (hash_shifted base (pos (slice_index bytes i)) h.congruent shift last)

-- the weight of the first byte, as a residue
pub weight_of_first : {m weight : ℕ} (base count : ℕ) → 0 < m → weight ≡ base ^ count % m → IsResidue (pos m) (int_pow (pos base) count) (pos weight)
weight_of_first base count up is = rw (natural_power base count, is) (natural_residue (base ^ count) up)

pub next_window : {m hash weight first rest shifted r : ℤ} {count : ℕ} (base : ℤ) (leaving entering : ℕ) (kept : List ℕ) → length kept ≡ count
    → IsResidue m (weighted_sum base (leaving ∷ kept)) hash
    → IsResidue m (int_pow base count) weight → IsResidue m (pos leaving *ℤ weight) first → IsResidue m (hash -ℤ first) rest
    → IsResidue m (rest *ℤ base) shifted → IsResidue m (shifted +ℤ pos entering) r → IsResidue m (weighted_sum base (kept ++ entering ∷ [])) r
next_window {m} {weight = weight} {rest = rest} base leaving entering kept size h at_weight at_first at_rest shift last =
    let top : ℤ = pos leaving *ℤ int_pow base (length kept) in
    let near : AreCongruent m (int_pow base (length kept)) weight =
    subst (λ (k : ℕ). AreCongruent m (int_pow base k) weight) (sym size) at_weight.congruent in
    let gone = congruent_trans (congruent_product (congruent_refl (pos leaving)) near) at_first.congruent in
    let same : (top +ℤ weighted_sum base kept) -ℤ top ≡ weighted_sum base kept = omega linear in
    let stays = rw same at (congruent_trans (congruent_difference h.congruent gone) at_rest.congruent) in
    rw (sum_with_last base kept entering) (hash_shifted base (pos entering) stays shift last)

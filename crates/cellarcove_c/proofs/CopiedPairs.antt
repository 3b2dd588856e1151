-- Congruences, copied one by one.
use Rattle.cellarcove_c.proofs.Common.{◌≡◌, ◌<◌, ◌≤◌, ◌<ℤ◌, ◌+◌, ℕ, ℤ, pos, List, [], ◌∷◌, ◌++◌, length, map, All, Congruence, ◌∙◌, ap, arith, get_or, set, subst, sym, take, get_or-map, length-map, map_more, take_all, take_more_set, All-get_or, All-push}

-- the first i pairs are those of the first i congruences, and have a property
pub record AreCopied {C P : Type 0} (pair : C → P) (Has : P → Type 0) (congruences : List C) (pairs : List P) (i : ℕ) : Type 0 where
  pub copied : take i pairs ≡ map pair (take i congruences)
  pub each : All Has (take i pairs)

-- residue and modulus of a congruence are in range, and its modulus is positive
abbrev pub IsWithModulus : {X : Type 0} → (X → ℤ) → (ℤ → Type 0) → Congruence X → Type 0
IsWithModulus value fits c = fits (value c.residue) × fits (value c.modulus) × (pos 0 <ℤ value c.modulus)

module _ {C P : Type 0} (pair : C → P) (Has : P → Type 0) (congruences : List C) where
  -- with one more
  pub one_copied : (pairs : List P) (i : ℕ) {c : C} {p : P} → c ≡ get_or congruences i c → p ≡ pair c → i < length congruences → i < length pairs
      → AreCopied pair Has congruences pairs i → Has p → AreCopied pair Has congruences (set pairs i p) (i + 1)
  one_copied pairs i {c} {p} is same within room h has =
      let more = take_more_set pairs i p room in
      record {
        copied = more ∙ ap (λ (l : List P). l ++ p ∷ []) h.copied ∙ ap (λ (q : P). map pair (take i congruences) ++ q ∷ []) (same ∙ ap pair is) ∙ sym (map_more pair congruences i c within);
        each = subst (All Has) (sym more) (All-push Has (take i pairs) p h.each has);
      }

  -- with all of them
  pub all_copied : (pairs : List P) (i : ℕ) → length congruences ≤ i → length pairs ≡ length congruences
      → AreCopied pair Has congruences pairs i → (pairs ≡ map pair congruences) × All Has pairs
  all_copied pairs i done same h =
      let whole : take i pairs ≡ pairs = take_all i pairs (omega (arith, done, same)) in
      (sym whole ∙ h.copied ∙ ap (map pair) (take_all i congruences done), subst (All Has) whole h.each)

-- what all pairs have, that of a congruence has
pub copied_has : {C P : Type 0} (pair : C → P) (Has : P → Type 0) (congruences : List C) (i : ℕ) {c : C}
    → c ≡ get_or congruences i c → i < length congruences
    → All Has (map pair congruences) → Has (pair c)
copied_has pair Has congruences i {c} is within all =
    let long : length (map pair congruences) ≡ length congruences = length-map congruences pair in
    subst Has (get_or-map pair congruences i c (pair c) within ∙ ap pair (sym is)) (All-get_or Has (map pair congruences) i (pair c) (omega (arith, long)) all)

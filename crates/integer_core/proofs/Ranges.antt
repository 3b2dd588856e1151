-- What fits, by the range of a type.
use Rattle.integer_core.proofs.Common.{negsuc, ◌≡◌, ◌⊎◌, ◌≤ℤ◌, ◌<ℤ◌, ◌+ℤ◌, ◌-ℤ◌, ℕ, ℤ, pos, unsigned_abs, Width, ◌∙◌, arith, linear, sizes, IsLeastCommonMultiple, IsRange, EachFits}
use Rattle.integer_core.specs.Between.{Between}
use Rattle.integer_core.specs.NativeRanges.{IsNative}

-- z lies between 0 and n
abbrev pub LiesWithin : ℤ → ℤ → Type 0
LiesWithin n z = Between (pos 0) n z ⊎ Between n (pos 0) z

-- a number between 0 and a number that fits
pub within_fits : {fits : ℤ → Type 0} {low high n z : ℤ} → IsRange fits low high → fits n → LiesWithin n z → fits z
within_fits {n = n} {z = z} range n_fits within = (range.between z).1 (omega (arith, linear, (range.between n).0 n_fits))

-- the number 0 fits
pub zero_fits : {fits : ℤ → Type 0} {low high : ℤ} → IsRange fits low high → fits (pos 0)
zero_fits range = (range.between (pos 0)).1 (omega (arith, linear, range.low_end, range.positive))

-- the number 1 fits
pub one_fits : {fits : ℤ → Type 0} {low high : ℤ} → IsRange fits low high → fits (pos 1)
one_fits range = (range.between (pos 1)).1 (omega (arith, linear, range.low_end, range.positive))

-- a type without negative numbers has no -1
pub no_minus_one : {fits : ℤ → Type 0} {low high : ℤ} → IsRange fits low high → low ≡ pos 0 → ¬ (fits (negsuc 0))
no_minus_one range none fits_it = omega (arith, linear, (range.between (negsuc 0)).0 fits_it)

module _ {w : Width} {number : ℕ → ℤ} {fits wide : ℤ → Type 0} {low high : ℤ} (native : IsNative w number fits low high wide) where
  -- a number of the type that is not negative is a magnitude
  natural_is_magnitude : {z : ℤ} → pos 0 ≤ℤ z → fits z → wide z
  natural_is_magnitude {z} up z_fits = grind arith

  -- an lcm that fits is a magnitude
  pub lcm_is_magnitude : {a b l : ℤ} → EachFits fits (IsLeastCommonMultiple a b) → IsLeastCommonMultiple a b l → wide l
  lcm_is_magnitude each h = natural_is_magnitude h.from_zero (each _ h)

  -- the magnitude of a negative number x is one more than its distance d from -1, which a cast turns into m
  pub magnitude_by_distance : {wrap : ℤ → ℤ} {x d m : ℤ} → ((z : ℤ) → wide z → wrap z ≡ z) → d ≡ (pos 0 -ℤ (x +ℤ pos 1)) → fits d → x <ℤ pos 0 → m ≡ wrap d
      → (m +ℤ pos 1) ≡ pos (unsigned_abs x)
  magnitude_by_distance {d = d} wraps d_is d_fits negative m_is =
      omega (arith, sizes, m_is ∙ wraps d (natural_is_magnitude (omega (arith, linear, d_is)) d_fits), d_is)

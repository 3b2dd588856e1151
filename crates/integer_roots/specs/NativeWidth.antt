-- The range of a native type whose magnitudes have 64 bits. The ghost member `width_law` of `Roots` cites this lemma, and
-- so it is in specs/.
use Rattle.std.specs.Prelude.{◌^◌, ◌*◌, ◌<◌, ℕ, ℤ, unsigned_abs}
use Rattle.std.specs.Int.{Width, FitsUnsignedBits}
use Rattle.std.proofs.Common.{arith, inl, inr}
use Rattle.integer_core.specs.NativeRanges.{IsNative}
use Rattle.integer_core.specs.Range.{IsRange}
use Rattle.integer_core.proofs.Whole.{linear, sizes}
use Rattle.integer_roots.specs.RootOf.{IsWithin64Bits}

-- low and high are the ends of the type, and so are least and most
pub within_64_bits : {w : Width} {number : ℕ → ℤ} {fits : ℤ → Type 0} {low high least most : ℤ} → IsRange fits low high → IsNative w number fits least most (FitsUnsignedBits 64) → IsWithin64Bits low high
within_64_bits {low = low} {high = high} {least = least} {most = most} range native =
    let top = (range.between high).1 (omega (arith, linear, range.low_end, range.positive)) in
    let bottom = (range.between low).1 (omega (arith, linear, range.low_end, range.positive)) in
    let below = (native.range.between high).0 top in
    let above = (native.range.between low).0 bottom in
    let size : unsigned_abs high < 2 ^ 64 = native.magnitude high top in (
      omega (arith, sizes, range.positive),
      elim native.twice [
        | inl up ↦ inl (omega (arith, linear))
        | inr wide ↦ let half : 2 * unsigned_abs most < 2 ^ 64 = wide in inr (omega (arith, sizes, range.positive))
      ],
    )

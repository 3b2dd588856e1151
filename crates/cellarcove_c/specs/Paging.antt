-- Pages, and offsets on an alignment.
use Rattle.std.specs.Prelude.{◌≤ℤ◌, ◌<ℤ◌, ◌+ℤ◌, ◌*ℤ◌, ℤ, pos}
use Rattle.num_integer.specs.Divisors.{Divides}

-- The smallest number of pages that hold all items.
-- Examples: 10 items, pages of 4: 3; 0 items: 0; -9 items, pages of 4: -2.
pub record IsFewestPages (items page_size count : ℤ) : Type 0 where
  pub enough : items ≤ℤ (count *ℤ page_size)
  pub fewest : (other : ℤ) → items ≤ℤ (other *ℤ page_size) → count ≤ℤ other

-- No number with the property fits.
-- Examples in i64: of 'is 2^63'; not of 'is 5'.
abbrev pub NoneFits : (ℤ → Type 0) → (ℤ → Type 0) → Type 0
NoneFits fits Is = (z : ℤ) → Is z → ¬ (fits z)

-- The bytes to add to the offset, so that it is a multiple of the alignment. They are fewer than the alignment.
-- Examples: 13 and 8: 3; 16 and 8: 0; -13 and 8: 5.
pub record IsPadding (offset alignment padding : ℤ) : Type 0 where
  pub from_zero : pos 0 ≤ℤ padding
  pub below : padding <ℤ alignment
  pub aligned : Divides alignment (offset +ℤ padding)

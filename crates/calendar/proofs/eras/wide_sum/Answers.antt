use Rattle.calendar.proofs.Common.{refl, to_z-of_z}
use Rattle.calendar.proofs.FoundOrBeyond.{fits_wide}
use Rattle.calendar.proofs.eras.wide_sum.Goals as goal

pub overflow_mul-result : goal.overflow_mul-result
overflow_mul-result c =
    let (sum, product, wide_size, wide_count, wide_more) = fits_wide _ _ _ c.requires c.ranges.size c.ranges.count c.ranges.more in
    let size = c.ranges.size in
    let count = c.ranges.count in
    simp (c.from.ensures, c.from-2.ensures, to_z-of_z) product

pub overflow_add-result : goal.overflow_add-result
overflow_add-result c =
    let (sum, product, wide_size, wide_count, wide_more) = fits_wide _ _ _ c.requires c.ranges.size c.ranges.count c.ranges.more in
    let size = c.ranges.size in
    let count = c.ranges.count in
    let more = c.ranges.more in
    simp (c.from.ensures, c.from-2.ensures, c.from-3.ensures, to_z-of_z) sum

pub returns : goal.returns
returns c =
    let (sum, product, wide_size, wide_count, wide_more) = fits_wide _ _ _ c.requires c.ranges.size c.ranges.count c.ranges.more in
    let size = c.ranges.size in
    let count = c.ranges.count in
    let more = c.ranges.more in
    simp (c.from.ensures, c.from-2.ensures, c.from-3.ensures, to_z-of_z) refl

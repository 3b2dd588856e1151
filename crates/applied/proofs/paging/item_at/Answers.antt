use Rattle.applied.proofs.Common.{◌≡◌, ◌∙◌, ◌+ℤ◌, ◌*ℤ◌, answers_only, arith, expand, from_test, inr, linear, products, sym, within_fits, IsPlace}
use Rattle.applied.proofs.ItemRanges.{end_fits, page_fits, rest_fits}
use Rattle.applied.proofs.paging.item_at.Goals as goal

pub successor-requires-clause-sum_fits : goal.successor-requires-clause-sum_fits
successor-requires-clause-sum_fits g c =
    let before = c.is_negative-2.ensures.0 c.if-is_negative.true in
    within_fits g.met.T.Integer.range_law c.requires.in_range.0 (inr (omega (linear, before), omega (linear, before)))

pub difference-requires-clause-difference_fits : goal.difference-requires-clause-difference_fits
difference-requires-clause-difference_fits g c =
    rest_fits g.met.T.Integer.range_law c.requires.in_range.0 c.requires.in_range.2 (c.is_negative-2.ensures.0 c.if-is_negative.true) c.requires.place_from_zero c.requires.place_below

pub returns-in_err-next_page-clause-place : goal.returns-in_err-next_page-clause-place
returns-in_err-next_page-clause-place g c =
    let before = c.is_negative-2.ensures.0 c.if-is_negative.true in
    let none = rw c.successor.ensures.value at c.in_err-next_page.ensures in
    rw c.from_residual.ensures (λ each. none (end_fits g.met.T.Integer.range_law c.requires.place_from_zero c.requires.place_below each before))

pub returns-in_err-first-clause-place : goal.returns-in_err-first-clause-place
returns-in_err-first-clause-place g c =
    let up = from_test c.is_negative-2.ensures c.if-is_negative.false in
    rw c.from_residual-in_err-first.ensures (λ each.
    c.in_err-first.ensures (page_fits g.met.T.Integer.range_law c.requires.place_from_zero c.requires.place_below each up))

pub returns-in_ok-next_page-clause-place : goal.returns-in_ok-next_page-clause-place
returns-in_ok-next_page-clause-place g c =
    let value = g.T.Number.value in
    let is : value c.in_ok-next_page.next_page +ℤ value c.difference.result ≡ value c.args.page *ℤ value c.args.page_size +ℤ value c.args.place =
    rw (c.in_ok-next_page.ensures.1.1, c.successor.ensures.value, c.difference.ensures.value) (simp expand (omega products)) in
    answers_only g.T.Number.fits (λ item. IsPlace item (value c.args.page_size) (value c.args.page) (value c.args.place)) value c.sum.result
    (record { equation = is; from_zero = c.requires.place_from_zero; below = c.requires.place_below }) (λ y k. is ∙ sym k.equation) c.sum.ensures

pub returns-in_ok-next_page-clause-only : goal.returns-in_ok-next_page-clause-only
returns-in_ok-next_page-clause-only g c = grind (arith, returns-in_ok-next_page-clause-place g c)

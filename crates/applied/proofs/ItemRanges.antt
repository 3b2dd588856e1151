-- Items and their places, the items of a page, and items cut into parts whose sizes differ by at most 1.
use Rattle.applied.proofs.Common.{◌≡◌, ◌≤ℤ◌, ◌<ℤ◌, ◌+ℤ◌, ◌-ℤ◌, ◌*ℤ◌, EachFits, ℤ, pos, arith, refl, IsOnly, IsRange, expand, linear, product_from_zero, products, within_fits, IsPlace, by_lt_z, IsFloored, floored_range, multiples_apart, IsRangeOfPage, only_ceiled, ℕ, negsuc, zero, suc, ◌∙◌, ap, sym, clamps, ceiled_by_range, comm, fits_below, product_at_most, IsEvenCut, IsRangeOfPart, cut_at}

-- ---- what fits

-- p is a page, s the size of a page, and q the place of an item on its page

-- at a type that has a page before page 0, how far a place is before the end of its page fits
pub rest_fits : {fits : ℤ → Type 0} {low high p q s : ℤ} → IsRange fits low high → fits p → fits s → p <ℤ pos 0 → pos 0 ≤ℤ q → q <ℤ s → fits (q -ℤ s)
rest_fits {p = p} {q = q} {s = s} range page_fits size_fits before from_zero below = grind (arith, page_fits, linear)

-- if the item at a place fits, so does the end of its page, before page 0, and from page 0 on the first item of its page
module _ {fits : ℤ → Type 0} {low high p q s : ℤ} (range : IsRange fits low high) (from_zero : pos 0 ≤ℤ q) (below : q <ℤ s) (each : EachFits fits (λ item. IsPlace item s p q)) where
  item_fits : fits (p *ℤ s +ℤ q)
  item_fits = each _ record { equation = refl; from_zero = from_zero; below = below }

  pub end_fits : p <ℤ pos 0 → fits ((p +ℤ pos 1) *ℤ s)
  end_fits before = grind (arith, item_fits, expand, product_from_zero, linear, within_fits, products)

  pub page_fits : pos 0 ≤ℤ p → fits (p *ℤ s)
  page_fits up = grind (arith, item_fits, within_fits, product_from_zero)

-- ---- the range of a page

-- the range of a page: each of its items is on the page, and each item on the page is one of them
pub page_range_is : {page size items first end : ℤ} → pos 0 ≤ℤ first → first ≤ℤ end → end ≤ℤ items
    → ((item : ℤ) → first ≤ℤ item → item <ℤ end → (pos 0 ≤ℤ item) × ((page *ℤ size) ≤ℤ item) × (item <ℤ (page *ℤ size +ℤ size)))
    → ((item : ℤ) → pos 0 ≤ℤ item → item <ℤ items → (page *ℤ size) ≤ℤ item → item <ℤ (page *ℤ size +ℤ size) → (first ≤ℤ item) × (item <ℤ end))
    → (end ≤ℤ first → first ≡ items) → IsRangeOfPage page size items first end
page_range_is {page} {size} from_zero ordered to_items on back empty = record {
  from_zero = from_zero;
  ordered = ordered;
  to_items = to_items;
  exactly = λ item. (
    λ h.
        let there = on item h.0 h.1 in
        (there.0, omega linear, (item -ℤ page *ℤ size, record { equation = omega linear; from_zero = omega linear; below = omega linear })),
    λ h. back item h.0 h.1 (omega (linear, h.2.1.equation, h.2.1.from_zero)) (omega (linear, h.2.1.equation, h.2.1.below)),
  );
  empty = empty;
}

-- before page 0 there is no item
pub none_before : {page size items : ℤ} → pos 0 <ℤ size → pos 0 ≤ℤ items → page <ℤ pos 0 → IsRangeOfPage page size items items items
none_before {page} {size} up from_zero before = grind arith

-- nor on a page after that of the last item
pub none_after : {page size items full rest : ℤ} → pos 0 <ℤ size → pos 0 ≤ℤ items → IsFloored items size full rest → full <ℤ page
    → IsRangeOfPage page size items items items
none_after {page} {size} {full = full} up from_zero division after =
    let below = floored_range up division in
    let over = multiples_apart full page size up after in
    grind linear

-- any other page begins within the items
pub begins_in : {page size items full rest : ℤ} → pos 0 <ℤ size → IsFloored items size full rest → pos 0 ≤ℤ page → page ≤ℤ full
    → (pos 0 ≤ℤ (page *ℤ size)) × ((page *ℤ size) ≤ℤ items)
begins_in {page} {size} {full = full} up division from_zero to_full =
    let most = product_at_most {v = size} {y = size} from_zero to_full (omega linear) (omega linear) in
    (product_from_zero page size from_zero (omega linear), omega (linear, division.division.equation))

-- it ends with the items, or has all its items
module _ {page size items first left : ℤ} (within : (pos 0 ≤ℤ (page *ℤ size)) × ((page *ℤ size) ≤ℤ items)) (is : first ≡ page *ℤ size) (left_is : left ≡ items -ℤ first) where
  pub short_page : left <ℤ size → IsRangeOfPage page size items first items
  short_page less =
      rw is (page_range_is within.0 within.1 (omega linear) (λ item h k. (omega (linear, within.0), h, omega linear))
      (λ item h k l m. (l, k)) (λ none. omega (linear, within.1)))

  pub whole_page : {end : ℤ} → pos 0 <ℤ size → size ≤ℤ left → end ≡ first +ℤ size → IsRangeOfPage page size items first end
  whole_page up enough end_is =
      rw (end_is, is) (page_range_is within.0 (omega linear) (omega linear) (λ item h k. (omega (linear, within.0), h, k))
      (λ item h k l m. (l, m)) (λ none. absurd (omega linear)))

-- a range that is not empty lies within each other of the same page
lies_within : {page size items first end f e : ℤ} → IsRangeOfPage page size items first end → IsRangeOfPage page size items f e → first <ℤ end
    → (f ≤ℤ first) × (end ≤ℤ e)
lies_within {first = first} {end = end} h k some = grind linear

-- a page has one range
pub only_page_range : {page size items first end : ℤ} → IsRangeOfPage page size items first end
    → IsOnly (λ (f, e). IsRangeOfPage page size items f e) (first, end)
only_page_range {first = first} {end = end} h = λ (f, e) k.
    let same : (f ≡ first) × (e ≡ end) = grind (linear, lies_within h k, lies_within k h) in
    rw (same.0, same.1) refl

-- ---- where the parts begin

even_cut : {parts items size longer : ℤ} → items ≡ size *ℤ parts +ℤ longer → pos 0 ≤ℤ longer → longer <ℤ parts
    → IsEvenCut parts items (cut_at size longer)
even_cut {parts} {items} {size} {longer} equation up below = record {
  begins = omega (products, clamps);
  ends = omega (linear, clamps, comm parts size);
  sizes = λ part from_zero within.
      let next : (part +ℤ pos 1) *ℤ size ≡ part *ℤ size +ℤ size = simp expand (omega products) in
      by_lt_z part longer
      (λ early.
      let one : cut_at size longer (part +ℤ pos 1) -ℤ cut_at size longer part ≡ size +ℤ pos 1 = omega (linear, clamps) in
      let more : (size +ℤ pos 1) *ℤ parts ≡ size *ℤ parts +ℤ parts = simp expand (omega products) in
      rw one (record { remainder = longer -ℤ part -ℤ parts; division = ceiled_by_range (omega linear) (omega linear) (omega linear) }))
      (λ late.
      let none : cut_at size longer (part +ℤ pos 1) -ℤ cut_at size longer part ≡ size = omega (linear, clamps) in
      rw none (record { remainder = longer -ℤ part; division = ceiled_by_range (omega linear) (omega linear) (omega linear) }));
}

-- ---- the range of a part

-- each part begins within the items
cut_within : {parts items size longer part : ℤ} → pos 0 <ℤ parts → pos 0 ≤ℤ items → IsFloored items parts size longer → pos 0 ≤ℤ part → part ≤ℤ parts
    → (pos 0 ≤ℤ (part *ℤ size)) × ((part *ℤ size) ≤ℤ cut_at size longer part) × (cut_at size longer part ≤ℤ items)
cut_within {parts} {items} {size} {longer} {part} up from_zero division part_up within =
    let size_up : pos 0 ≤ℤ size = grind (products, multiples_apart size (pos 0) parts up) in
    let begins = product_from_zero part size part_up size_up in
    let most = product_at_most {u = part} {v = size} {x = parts} {y = size} part_up within size_up (omega linear) in
    (begins, omega (linear, clamps), omega (linear, clamps, comm parts size))

pub parts_positive : {part parts : ℤ} → pos 0 ≤ℤ part → part <ℤ parts → pos 0 <ℤ parts
parts_positive part_up within = omega linear

-- so where a part begins fits, and so does the product that leads to it
pub start_fits : {fits : ℤ → Type 0} {low high parts items size longer part at : ℤ} → IsRange fits low high → fits items → pos 0 ≤ℤ items
    → IsFloored items parts size longer → pos 0 ≤ℤ part → part <ℤ parts → pos 0 ≤ℤ at → at ≤ℤ parts → fits (at *ℤ size) × fits (cut_at size longer at)
start_fits range items_fit from_zero division part_up below at_up within =
    let start = cut_within (parts_positive part_up below) from_zero division at_up within in
    (fits_below range items_fit start.0 (omega linear), fits_below range items_fit (omega linear) start.2)

pub part_range : {parts items size longer part : ℤ} → pos 0 ≤ℤ items → IsFloored items parts size longer → pos 0 ≤ℤ part → part <ℤ parts
    → IsRangeOfPart part parts items (cut_at size longer part) (cut_at size longer (part +ℤ pos 1))
part_range {parts} {items} {size} {longer} {part} from_zero division part_up within =
    let up : pos 0 <ℤ parts = omega linear in
    let range = floored_range up division in
    let size_up : pos 0 ≤ℤ size = grind (products, multiples_apart size (pos 0) parts up) in
    let first = cut_within up from_zero division part_up (omega linear) in
    let end = cut_within {part = part +ℤ pos 1} up from_zero division (omega linear) (omega linear) in
    let next : (part +ℤ pos 1) *ℤ size ≡ part *ℤ size +ℤ size = simp expand (omega products) in
    record {
      from_zero = omega (linear, first.0, first.1);
      ordered = omega (linear, clamps);
      to_items = end.2;
      cut = cut_at size longer;
      even = even_cut division.division.equation range.0 range.1;
      begins = refl;
      ends = refl;
    }

-- ---- the only range

-- each even cut cuts at the same places
same_cut : {parts items : ℤ} {c d : ℤ → ℤ} (part : ℕ) → pos part ≤ℤ parts → IsEvenCut parts items c → IsEvenCut parts items d
    → d (pos part) ≡ c (pos part)
same_cut zero within h k = k.begins ∙ sym h.begins
same_cut {c = c} {d = d} (suc part) within h k =
    let before = same_cut part (omega linear) h k in
    let own = h.sizes (pos part) (omega linear) (omega linear) in
    let sizes = (only_ceiled own.division (k.sizes (pos part) (omega linear) (omega linear)).division).0 in
    let next : pos (suc part) ≡ pos part +ℤ pos 1 = omega linear in
    rw next (omega linear)

-- a part has one range
pub only_part_range : {part parts items first end : ℤ} → pos 0 ≤ℤ part → part <ℤ parts → IsRangeOfPart part parts items first end
    → IsOnly (λ (f, e). IsRangeOfPart part parts items f e) (first, end)
only_part_range {part = pos j} {first = first} {end = end} from_zero within h = λ (f, e) k.
    let next : pos j +ℤ pos 1 ≡ pos (suc j) = omega linear in
    let begins : f ≡ first = k.begins ∙ same_cut j (omega linear) h.even k.even ∙ sym h.begins in
    let ends : e ≡ end = k.ends ∙ ap k.cut next ∙ same_cut (suc j) (omega linear) h.even k.even ∙ sym (h.ends ∙ ap h.cut next) in
    rw (begins, ends) refl
only_part_range {part = negsuc j} from_zero within h = absurd (omega linear)

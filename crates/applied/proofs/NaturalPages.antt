-- Pages that have items, in natural numbers.
use Rattle.applied.proofs.Common.{◌∙◌, ◌≡◌, ◌↔◌, ◌⊎◌, ◌<◌, ◌≤◌, ◌+◌, ◌-◌, ◌*◌, ℕ, pos, suc, arith, refl, IsRangeOfPage}
use Rattle.applied.proofs.NaturalWords.{end_of_page_is_natural, first_of_page_is_natural}
use Rattle.std.proofs.Math.Nat.{lt_of_mul-lt-mul_right, mul-le-mul_right}
use Rattle.std.proofs.lemmas.Grind.{div_ceil_times}
use Rattle.std.specs.Int.{div_ceil}
use Rattle.std.specs.Prelude.{max, min}

-- A page, counted from 0, has an item exactly if it is one of the fewest pages that hold all items.
pub page_has_items : {items size : ℕ} (page : ℕ) → 0 < size → (page * size < items) ↔ (page < div_ceil items size)
page_has_items {items} {size} page up =
    let ceil = div_ceil_times items size up in
    (λ some. lt_of_mul-lt-mul_right size (omega arith), λ within. omega (arith, mul-le-mul_right {m = suc page} {n = div_ceil items size} size (omega arith)))

-- Counted from 1, a page is the first or has an item exactly if it is not beyond the last one.
pub numbered_page_has_items : {items size last : ℕ} (page : ℕ) → 0 < size → last ≡ max (div_ceil items size) 1 → 1 ≤ page
    → ((page ≡ 1) ⊎ ((page - 1) * size < items)) ↔ (page ≤ last)
numbered_page_has_items {items} page up is from =
    grind (arith, page_has_items {items = items} (page - 1) up)

-- The pages up to the last one, which is the first if there are no items, hold all items.
pub pages_hold : {items size last : ℕ} → 0 < size → last ≡ max (div_ceil items size) 1 → items ≤ last * size
pages_hold {items} {size} {last} up is =
    let more : div_ceil items size * size ≤ last * size = mul-le-mul_right size (omega arith) in
    omega (arith, (div_ceil_times items size up).0, more)

-- A page that begins within the items begins at its number times the page size, and ends where the next one begins, or with the items.
pub range_of_begun_page : {page size items first end : ℕ} → 0 < size → page * size ≤ items
    → IsRangeOfPage (pos page) (pos size) (pos items) (pos first) (pos end)
    → (first ≡ page * size) × (end ≡ min ((page + 1) * size) items)
range_of_begun_page {page} {size} up within h =
    let next : (page + 1) * size ≡ page * size + size = omega arith in
    (first_of_page_is_natural up h ∙ omega arith, end_of_page_is_natural up h ∙ rw next refl)

-- Counted from 1, a page begins where the one before it ends, and it ends at its number times the page size, or both with the items.
pub end_of_numbered_page : {page size items first end : ℕ} → 0 < size → 1 ≤ page
    → IsRangeOfPage (pos (page - 1)) (pos size) (pos items) (pos first) (pos end) → end ≡ min (page * size) items
end_of_numbered_page {page} {size} up from h =
    let next : (page - 1 + 1) * size ≡ (page - 1) * size + size = omega arith in
    let is : page - 1 + 1 ≡ page = omega arith in
    end_of_page_is_natural up h ∙ rw (← next, is) refl

pub ruleset range_of_numbered_page = (first_of_page_is_natural, end_of_numbered_page)

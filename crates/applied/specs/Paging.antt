-- Items on pages of equal size, and in parts of nearly equal size. Items, pages, places and parts are counted from 0.
use Rattle.std.specs.Prelude.{◌≡◌, ◌↔◌, ◌≤ℤ◌, ◌<ℤ◌, ◌+ℤ◌, ◌-ℤ◌, ◌*ℤ◌, ℤ, pos}
use Rattle.std.specs.Int.{int_min}
use Rattle.num_integer.specs.Division.{IsCeiled, IsQuotient}

-- The item is at this place of this page.
-- Examples: pages of 4 items: 10: page 2, place 2; 0: page 0, place 0; -1: page -1, place 3.
pub record IsPlace (item page_size page place : ℤ) : Type 0 where
  pub equation : item ≡ page *ℤ page_size +ℤ place
  pub from_zero : pos 0 ≤ℤ place
  pub below : place <ℤ page_size

-- Exactly the items from `first` on and before `end` are on the page. If the page has no item, `first` and `end` are `items`.
-- Examples: 10 items, pages of 4: page 0: 0 and 4; page 2: 8 and 10; pages 3 and -1: 10 and 10.
pub record IsRangeOfPage (page page_size items first end : ℤ) : Type 0 where
  pub from_zero : pos 0 ≤ℤ first
  pub ordered : first ≤ℤ end
  pub to_items : end ≤ℤ items
  pub exactly : (item : ℤ) → ((first ≤ℤ item) × (item <ℤ end)) ↔ ((pos 0 ≤ℤ item) × (item <ℤ items) × ((place : ℤ) × IsPlace item page_size page place))
  pub empty : end ≤ℤ first → first ≡ items

-- The function `cut` returns the item at which each part begins. The size of a part is (items - part) / parts, rounded up. So a part is as large as
-- the part before it, or smaller by 1.
-- Examples: 10 items, 3 parts: 0, 4, 7, 10; 2 items, 3 parts: 0, 1, 2, 2.
pub record IsEvenCut (parts items : ℤ) (cut : ℤ → ℤ) : Type 0 where
  pub begins : cut (pos 0) ≡ pos 0
  pub ends : cut parts ≡ items
  pub sizes : (part : ℤ) → pos 0 ≤ℤ part → part <ℤ parts → IsQuotient IsCeiled (items -ℤ part) parts (cut (part +ℤ pos 1) -ℤ cut part)

-- This is the item at which a part begins, if each part has `size` items and the first `longer` parts have one more.
-- Examples: size 3, longer 1: part 0: 0; part 1: 4; part 2: 7.
abbrev pub cut_at : ℤ → ℤ → ℤ → ℤ
cut_at size longer part = part *ℤ size +ℤ int_min part longer

-- The items are cut evenly into parts. The part begins at `first` and ends before `end`.
-- Examples: 10 items, 3 parts: part 0: 0 and 4; part 1: 4 and 7; part 2: 7 and 10.
pub record IsRangeOfPart (part parts items first end : ℤ) : Type 0 where
  pub from_zero : pos 0 ≤ℤ first
  pub ordered : first ≤ℤ end
  pub to_items : end ≤ℤ items
  pub cut : ℤ → ℤ
  pub even : IsEvenCut parts items cut
  pub begins : first ≡ cut part
  pub ends : end ≡ cut (part +ℤ pos 1)

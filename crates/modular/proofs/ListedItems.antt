-- A property of each item of a slice, in a loop over it.
use Rattle.modular.proofs.Common.{◌≡◌, ◌<◌, ◌+◌, ℕ, List, length, All, get_or, subst, sym, take, All-get_or, All-more}

module _ {X : Type 0} (Has : X → Type 0) (items : List X) (i : ℕ) where
  -- the item at an index has it
  pub at_item : {x : X} → x ≡ get_or items i x → i < length items → All Has items → Has x
  at_item {x} is within all = subst Has (sym is) (All-get_or Has items i x within all)

  -- with this item the items so far are one more
  pub one_item_more : {x : X} → x ≡ get_or items i x → i < length items → All Has (take i items) → Has x → All Has (take (i + 1) items)
  one_item_more {x} is within before has = All-more Has items i x within before (subst Has is has)

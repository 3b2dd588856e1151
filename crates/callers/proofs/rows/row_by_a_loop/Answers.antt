use Rattle.callers.proofs.Common.{List, [], append-nil, append_assoc, map, map-append, sym, ℤ, ◌++◌, ◌∙◌, ◌∷◌, ◌≡◌}
use Rattle.callers.proofs.rows.row_by_a_loop.Goals as goal

-- an item moves from the rest of the row to the list
moved : {X : Type 0} (value : X → ℤ) (all : List X) (item : X) {more : List X} {old rest row : List ℤ}
    → more ≡ all ++ item ∷ [] → old ≡ value item ∷ rest → map value all ++ old ≡ row
    → map value more ++ rest ≡ row
moved value all item pushed taken so_far = rw (pushed, map-append, append_assoc) (rw taken at so_far)

pub loop-item-init : goal.loop-item-init
loop-item-init g c = rw c.new-all.ensures.items (c.into_iter-item-iterator.ensures.into_iter_gives ∙ c.new-item-items.ensures.row)

pub loop-item-preserved : goal.loop-item-preserved
loop-item-preserved g c = moved g.T.Number.value c.loop-item.all.items c.in-Some.item c.in_ok-push.ensures.items c.in-Some.ensures.steps c.loop-item.invariant

pub returns : goal.returns
returns g c = sym (append-nil _) ∙ rw c.in-None.ensures.steps.0 at c.loop-item.invariant

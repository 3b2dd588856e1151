use Rattle.applied.proofs.Common.{◌≢◌, pos, AllWithin}
use Rattle.applied.proofs.lists.checked.has_zero.Given as goal

-- none of the numbers so far is 0
abbrev pub invariant-loop-number : goal.invariant-loop-number
invariant-loop-number g l = AllWithin (λ x. g.T.Number.value x ≢ pos 0) l.numbers 0 l.number-index

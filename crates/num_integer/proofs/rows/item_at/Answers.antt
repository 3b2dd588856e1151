use Rattle.num_integer.proofs.Common.{◌≡◌, ◌+ℤ◌, ◌-ℤ◌, ℤ, pos, arith, linear}
use Rattle.num_integer.proofs.rows.item_at.Goals as goal

-- the place after the one before is the place
back : (k : ℤ) → k -ℤ pos 1 +ℤ pos 1 ≡ k
back k = omega (arith, linear)

pub next_coefficient-requires-clause-next_fits : goal.next_coefficient-requires-clause-next_fits
next_coefficient-requires-clause-next_fits g c = rw (c.predecessor.ensures.value, back (g.T.Number.value c.args.k)) c.requires.item_fits

pub returns-else-is_zero-clause-item : goal.returns-else-is_zero-clause-item
returns-else-is_zero-clause-item g c = rw (c.predecessor.ensures.value, back (g.T.Number.value c.args.k)) at c.next_coefficient.ensures.next

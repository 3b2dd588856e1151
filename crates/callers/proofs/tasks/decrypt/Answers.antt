use Rattle.callers.proofs.Common.{AreCongruent, IsResidue, ap, arith, false, ints, odd_coprime, pos, rules, true, unsigned_abs, ◌*ℤ◌, ◌-ℤ◌, ◌<◌, ◌≡◌}
use Rattle.callers.proofs.AffineCiphers.{is_decrypted}
use Rattle.callers.proofs.tasks.decrypt.Goals as goal

pub unreachable-requires : goal.unreachable-requires
unreachable-requires c =
    let some : false ≡ true = c.in-None.ensures.coprime (rw c.from-3.ensures (odd_coprime c.args.key.factor 8 c.args.key.odd)) in
    cc

pub returns-clause-only : goal.returns-clause-only
returns-clause-only c = λ x x_low is.
    let low : c.args.byte < 256 = search rules in
    let moved : IsResidue (pos 256) (pos c.args.byte -ℤ pos c.args.key.shift) (pos c.difference_modulo-moved.result) = rw (← c.from.ensures, ← c.from-2.ensures) c.difference_modulo-moved.ensures.residue in
    let product : AreCongruent (pos 256) (pos c.from-3.result *ℤ pos x) (pos c.difference_modulo-moved.result) = rw c.from-3.ensures ((is_decrypted c.args.key.factor c.args.key.shift x low moved).1 is) in
    ap unsigned_abs (c.in-Some.ensures.answer.2 (pos x) (record { below = record { from_zero = omega (arith, ints); below = omega (arith, ints) }; product = product }))

use Rattle.intcalc_core.proofs.Common.{◌≡◌, ◌<◌, List, ℕ, false, length, ◌++◌, Appends}
use Rattle.intcalc_core.proofs.sink.put_all.Given as goal

-- what is added so far, and what is left; if some is added, the sink has not finished since
abbrev pub invariant-loop-rest : goal.invariant-loop-rest
invariant-loop-rest g l =
    let contents = g.S.Sink.contents in
    (done : List ℕ) × (Appends (contents l.fn.out) (contents l.out) done × (done ++ l.rest ≡ l.bytes) × (0 < length done → g.S.Sink.is_finished l.out ≡ false))

abbrev pub decreases-loop-rest : goal.decreases-loop-rest
decreases-loop-rest g l = length l.rest

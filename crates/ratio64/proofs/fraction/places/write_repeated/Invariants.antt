use Rattle.ratio64.proofs.ManyPlaces.{HasWrittenStyled, IsFlush, repeat}
use Rattle.ratio64.proofs.fraction.places.write_repeated.Given as goal

abbrev pub invariant-loop : goal.invariant-loop
invariant-loop g l = IsFlush l.fn.f → HasWrittenStyled g.W.Write.write_str_gives l.fn.f (repeat l.counter l.fn.text) l.f

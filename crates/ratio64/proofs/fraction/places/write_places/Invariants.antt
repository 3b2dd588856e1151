use Rattle.ratio64.proofs.ManyPlaces.{◌≡◌, ◌*◌, ◌/◌, ◌%◌, ◌^◌, HasWrittenStyled, IsFlush, last_digits}
use Rattle.ratio64.proofs.fraction.places.write_places.Given as goal

abbrev pub invariant-loop : goal.invariant-loop
invariant-loop g l =
    (l.rest ≡ l.fn.num * 10 ^ l.counter % l.fn.den)
    × (IsFlush l.fn.f → HasWrittenStyled g.W.Write.write_str_gives l.fn.f (last_digits l.counter (l.fn.num * 10 ^ l.counter / l.fn.den)) l.f)

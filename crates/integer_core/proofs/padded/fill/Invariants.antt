use Rattle.integer_core.proofs.ForAnswers.{◌≡◌, HasWrittenStyled, IsFlush, repeat, encode_utf8}
use Rattle.integer_core.proofs.padded.fill.Given as goal

abbrev pub invariant-loop : goal.invariant-loop
invariant-loop g l =
    (l.fill ≡ encode_utf8 l.fn.f.spec.fill)
    × (IsFlush l.fn.f → HasWrittenStyled g.W.Write.write_str_gives l.fn.f (repeat l.counter l.fill) l.f)

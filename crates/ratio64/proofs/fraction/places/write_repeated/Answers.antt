use Rattle.ratio64.proofs.ManyPlaces.{has_written_styled_append, has_written_styled_of_eq, refl, repeat_more}
use Rattle.ratio64.proofs.fraction.places.write_repeated.Goals as goal

pub loop-preserved : goal.loop-preserved
loop-preserved g c = λ flush.
    let so_far = c.loop.invariant flush in
    has_written_styled_of_eq _ _ _ _ _ (repeat_more c.loop.counter _)
    (has_written_styled_append _ _ _ _ _ _ so_far (c.in_ok-write_str.ensures.styled so_far.flush refl))

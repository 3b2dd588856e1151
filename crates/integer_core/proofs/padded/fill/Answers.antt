use Rattle.integer_core.proofs.ForAnswers.{refl, has_written_styled_append, has_written_styled_of_eq, repeat_more}
use Rattle.integer_core.proofs.padded.fill.Goals as goal

pub loop-preserved : goal.loop-preserved
loop-preserved g c = (
  c.loop.invariant.0,
  λ flush.
      let so_far = c.loop.invariant.1 flush in
      has_written_styled_of_eq _ _ _ _ _ (repeat_more c.loop.counter _)
      (has_written_styled_append _ _ _ _ _ _ so_far (c.in_ok-write_str.ensures.styled so_far.flush refl)),
)

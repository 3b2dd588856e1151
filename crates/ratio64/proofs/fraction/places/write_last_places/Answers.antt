use Rattle.ratio64.proofs.ManyPlaces.{◌≡◌, ◌∙◌, arith, has_written_styled_of_eq, kept_is_written, last_digits, some_padded, styled_decimal}
use Rattle.ratio64.proofs.fraction.places.write_last_places.Goals as goal

pub returns : goal.returns
returns g c = λ flush ok.
    let kept = kept_is_written _ _ _ c.new-last.ensures c.in_ok-write.ensures.writes in
    let digits : styled_decimal c.laid_out.result c.args.digits ≡ last_digits 19 c.args.digits =
    rw c.laid_out.ensures (some_padded 19 c.args.digits (omega arith) c.requires (omega (arith, c.requires))) in
    has_written_styled_of_eq _ _ _ _ _ (c.in_ok-text_of.ensures ∙ kept ∙ digits) (c.write_str.ensures.styled flush ok)

use Rattle.std.proofs.Common.{rules}
use Rattle.ratio64.proofs.Common.{FitsSigned, arith, w64, ◌≡◌, ◌+◌, ◌-◌, ◌/◌, ◌++◌, codes, decimal, den_of, is_negative, length, num_of, unsigned_abs, unwrap_or}
use Rattle.ratio64.proofs.ManyPlaces.{◌∙◌, ap, fill_text, has_written_styled_append, has_written_styled_of_eq, kept_is_written, number_pieces, refl, sign_text_with, spec_sign_plus, spec_width}
use Rattle.ratio64.proofs.WideSums.{part_size, positive_size}
use Rattle.ratio64.proofs.fraction.Ratio.pad_with_many_places.Goals as goal

pub returns : goal.returns
returns g c = λ flush ok.
    let x = c.args.self.now in
    let options = c.args.f.now.spec in
    let before = c.in_ok-fill.ensures flush refl in
    let sign = c.in_ok-write_str.ensures.styled before.flush refl in
    let zeros = c.in_ok-write_repeated.ensures sign.flush refl in
    let whole = c.in_ok-write_str-2.ensures.styled zeros.flush refl in
    let num : c.from-num.result ≡ unsigned_abs (num_of x) = search rules in
    let den : c.from-den.result ≡ unsigned_abs (den_of x) = search rules in
    let places = rw (num, den) at (c.in_ok-write_places.ensures whole.flush refl) in
    let same = places.spec ∙ whole.spec ∙ zeros.spec ∙ sign.spec ∙ before.spec in
    let fill = ap (λ options. fill_text options c.padding_around-before.result.2) same in
    let after = has_written_styled_of_eq _ _ _ _ _ fill (c.fill-2.ensures places.flush ok) in
    let from_places = has_written_styled_append _ _ _ _ _ _ places after in
    let from_whole = has_written_styled_append _ _ _ _ _ _ whole from_places in
    let from_zeros = has_written_styled_append _ _ _ _ _ _ zeros from_whole in
    let from_sign = has_written_styled_append _ _ _ _ _ _ sign from_zeros in
    let all = has_written_styled_append _ _ _ _ _ _ before from_sign in
    let sign_is : c.sign_of-sign.result.now ≡ sign_text_with (spec_sign_plus options) (is_negative (num_of x)) = search rules in
    let kept = kept_is_written _ _ _ c.new-whole.ensures c.in_ok-write.ensures.writes in
    let whole_is : c.in_ok-whole.whole.now ≡ decimal (unsigned_abs (num_of x) / unsigned_abs (den_of x)) ++ codes "." =
    rw (num, den) at (c.in_ok-whole.ensures ∙ kept) in
    let front = length c.sign_of-sign.result.now + length c.in_ok-whole.whole.now in
    let missing : c.missing-padding.result ≡ unwrap_or (spec_width options) 0 - front - c.args.places = search rules in
    let few = positive_size (den_of x) (search rules) x.reduced.positive in
    let low : FitsSigned w64 (num_of x) = search rules in
    let size = part_size (num_of x) low in
    let around = c.padding_around-before.ensures in
    let pieces = number_pieces options (num_of x) (den_of x) c.args.places x.reduced.positive few.1 (omega (arith, size)) c.requires in
    has_written_styled_of_eq _ _ _ _ _ (pieces sign_is whole_is missing around) all

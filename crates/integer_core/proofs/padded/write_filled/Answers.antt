use Rattle.integer_core.proofs.ForAnswers.{◌∙◌, ◌-◌, ap, length, refl, ℕ, unwrap_or, fill_before, padded_written, width_or_zero}
use Rattle.integer_core.proofs.padded.write_filled.Goals as goal

pub returns : goal.returns
returns g c = λ flush ok.
    let before = c.in_ok-fill.ensures flush refl in
    let text = c.in_ok-write_str.ensures.styled before.flush refl in
    let after = c.fill-2.ensures text.flush ok in
    let width = c.unwrap_or.ensures ∙ ap (λ o. unwrap_or o 0) c.width.ensures.value ∙ width_or_zero c.args.f.now.spec in
    let padding = c.saturating_sub-padding.ensures ∙ ap (λ (n : ℕ). n - length c.args.text.now) width in
    let part = c.padding_before-before.ensures.part ∙ ap (λ side. fill_before side c.saturating_sub-padding.result) c.align.ensures in
    padded_written g.W.Write.write_str_gives c.args.f.now c.args.text.now c.saturating_sub-padding.result c.padding_before-before.result _ _ _ padding part before text after

use Rattle.integer_core.proofs.ForAnswers.{◌∙◌, subst, List, ℕ, WritesStyledOnOk, padded_text, kept_is_written, padded_text_plain, plain_from_styled}
use Rattle.integer_core.proofs.padded.Text.pad.Goals as goal

pub returns-clause-styled : goal.returns-clause-styled
returns-clause-styled g c =
    let text = c.in_ok-as_str.ensures.text ∙ kept_is_written _ (λ bytes. bytes) (λ w bs v e. e) c.new-buffer.result _ c.write_to.new.f c.new-buffer.ensures c.in_ok-write_to.ensures in
    subst (λ (l : List ℕ). WritesStyledOnOk g.W.Write.write_str_gives c.args.f.now c.write_filled.result (padded_text c.args.f.now.spec l) c.write_filled.new.f) text c.write_filled.ensures

pub returns-clause-plain : goal.returns-clause-plain
returns-clause-plain g c = plain_from_styled g.W.Write.write_str_gives c.args.f.now c.write_filled.result _ _ c.write_filled.new.f (padded_text_plain c.args.f.now.spec _) (returns-clause-styled g c)

use Rattle.integer_core.proofs.ForAnswers.{None, subst, arith, List, ℕ, strip_prefix_char, WritesStyledOnOk, number_without_minus}
use Rattle.integer_core.proofs.padded.write_number.Goals as goal

pub returns-in-None : goal.returns-in-None
returns-in-None g c =
    let other = strip_prefix_char 45 c.args.text.now None c.in-None.ensures.cases (omega arith) in
    subst (λ (l : List ℕ). WritesStyledOnOk g.W.Write.write_str_gives c.args.f.now c.pad_integral-in-None.result l c.pad_integral-in-None.new.self)
    (number_without_minus c.args.f.now.spec c.args.text.now other) c.pad_integral-in-None.ensures.styled

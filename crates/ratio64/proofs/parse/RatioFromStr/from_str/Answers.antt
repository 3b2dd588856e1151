use Rattle.ratio64.proofs.Common.{refl, iff_false}
use Rattle.ratio64.proofs.ReadTexts.{other_text, spelled_text, split_cuts}
use Rattle.ratio64.proofs.parse.RatioFromStr.from_str.Goals as goal
use Rattle.ratio64.proofs.parse.RatioFromStr.from_str.Goals.{then-not-is_integer-via-then-not-is_integer, then-not-is_integer-via-else-not-is_integer+then-not-is_integer-2}

pub returns-then-not-is_integer : goal.returns-then-not-is_integer
returns-then-not-is_integer c =
    let cut = split_cuts _ _ c.split_once.result refl refl c.unwrap_or.ensures c.split_once.ensures.cases in
    other_text cut (elim c.then-not-is_integer.branch [
      | then-not-is_integer-via-then-not-is_integer w ↦ λ whole. iff_false c.is_integer.ensures.numeral w.if-not-is_integer.true whole.0
      | then-not-is_integer-via-else-not-is_integer+then-not-is_integer-2 w ↦ λ whole.
          iff_false w.is_integer-else-not-is_integer.ensures.numeral w.if-not-is_integer-2.true whole.1
    ])

pub returns : goal.returns
returns c =
    let cut = split_cuts _ _ c.split_once.result refl refl c.unwrap_or.ensures c.split_once.ensures.cases in
    let num = c.is_integer.ensures.numeral.0 c.if-not-is_integer.false in
    let den = c.is_integer-else-not-is_integer.ensures.numeral.0 c.if-not-is_integer-2.false in
    spelled_text cut num den c.fraction_of.ensures.fraction c.fraction_of.ensures.spelled

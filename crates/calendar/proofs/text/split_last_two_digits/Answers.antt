use Rattle.std.proofs.lemmas.Slice.Eq.{text_from_reads}
use Rattle.calendar.proofs.Common.{◌≡◌, ◌∷◌, ◌/◌, ◌%◌, ◌+◌, [], arith, ◌∙◌, nat_tests, iff_false}
use Rattle.calendar.proofs.DateTexts.{number_boundary, number_told, number_text}
use Rattle.calendar.proofs.text.split_last_two_digits.Goals as goal

pub returns : goal.returns
returns c = grind (arith, text_from_reads, number_text)

pub returns-then-not-is_char_boundary : goal.returns-then-not-is_char_boundary
returns-then-not-is_char_boundary c = λ front n small e.
    let told = number_told c.args.text.now front n small e in
    iff_false c.is_char_boundary.ensures.test c.if-not-is_char_boundary.true (rw c.saturating_sub-place.ensures (number_boundary c.args.text.now front n told))

pub returns-in_default : goal.returns-in_default
returns-in_default c = λ front n small e.
    let told = number_told c.args.text.now front n small e in
    let whole : c.as_bytes.result.now ≡ 45 ∷ (48 + n / 10) ∷ (48 + n % 10) ∷ [] =
    c.as_bytes.ensures.value ∙ c.split_at.ensures.back ∙ rw c.saturating_sub-place.ensures told.last_is in
    grind (arith, nat_tests, c.in_default.branch)

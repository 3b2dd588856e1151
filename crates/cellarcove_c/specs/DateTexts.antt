-- Dates that are read from a text.
use Rattle.std.specs.Prelude.{◌≡◌, ◌≢◌, ◌↔◌, ℕ, List, FitsSigned}
use Rattle.std.specs.Int.{w64}
use Rattle.calendar.specs.Dates.{HasParts}
use Rattle.calendar.specs.Text.{text_of}
use Rattle.calendar.specs.declared.date.Date.{Date}
use Rattle.cellarcove_c.specs.Answers.{Refuses}
use Rattle.cellarcove_c.specs.Dates.{zero_date}
use Rattle.cellarcove_c.specs.Statuses.{StatusIs, no_date}
use Rattle.cellarcove_c.specs.declared.dates.DateAnswer.{DateAnswer}
use Rattle.cellarcove_c.specs.declared.dates.Date.{Date as Parts}

-- These are the parts of the date that prints as the text.
-- Examples: of `2026-11-28`: 2026, 11 and 28; of `-0001-02-03`: -1, 2 and 3.
pub record HasText (text : List ℕ) (parts : Parts) : Type 0 where
  pub date : Date
  pub has_parts : HasParts date parts.year parts.month parts.day_of_month
  pub text_is : text ≡ text_of date

-- The result is the date that prints as the text, or `no_date` if the text is that of no date whose year fits.
-- Examples: `2026-11-28`: 0 and 2026, 11, 28; `1900-02-29`, `02026-11-28` and `2026-11-28Z`: 6 and zeros.
pub record ReadsDate (text : List ℕ) (answer : DateAnswer) : Type 0 where
  pub found : answer.status ≡ 0 → HasText text answer.date
  pub none : (answer.status ≡ no_date) ↔ ((date : Date) → FitsSigned w64 date.year → text ≢ text_of date)
  pub refusal : Refuses (StatusIs no_date) zero_date answer.status answer.date

-- Texts of digits.
use Rattle.integer_core.proofs.Common.{List, IsTrue, length, rules, true, ℕ, ◌<◌, ◌↔◌, ◌≡◌}
use Rattle.std.proofs.lemmas.Str.Parse.{IsNumeralModel, numerals_by_value}
use Rattle.std.specs.Char.{is_ascii_digit}
use Rattle.std.specs.List.{list_all}
use Rattle.std.specs.Str.Parse.{IsNumeral, digits_value}

pub decimal_model : IsNumeralModel (λ ds. list_all is_ascii_digit ds ≡ true) (digits_value 10)
decimal_model = numerals_by_value _ (search rules)

-- the test of each byte tells a numeral
pub tells_numeral : (ds : List ℕ) → 0 < length ds → IsTrue (list_all is_ascii_digit ds) ↔ IsNumeral 10 ds
tells_numeral ds some = (λ t. (some, decimal_model.to ds t), λ h. decimal_model.from ds h.1)

-- The text of a date is ASCII.
use Rattle.cellarcove_c.proofs.Common.{◌<◌, ◌-◌, ◌^◌, ◌++◌, ℕ, ℤ, suc, pos, negsuc, List, [], ◌∷◌, length, replicate, FitsSigned, decimal, w64, IsAscii, IsUtf8, arith, IsAscii-decimal, ints, IsAscii-append, IsUtf8-from_ascii, IsAscii-cons, IsAscii-from_all, IsAscii-push, All-replicate, month_length_range, padded, text_of, with_number, Date}
use Rattle.calendar.specs.Text.{year_text}

padded_ascii : (places n : ℕ) → n < 2 ^ 64 → IsAscii (padded places n)
padded_ascii places n small =
    let missing = places - length (decimal n) in
    let zeros = All-replicate (λ (b : ℕ). b < 128) missing 48 (omega arith) in
    IsAscii-append (replicate missing 48) (decimal n) (IsAscii-from_all _ zeros) (IsAscii-decimal n small)

year_ascii : (year : ℤ) → FitsSigned w64 year → IsAscii (year_text year)
unfolding year_text
year_ascii (pos n) fits = grind (arith, padded_ascii)
year_ascii (negsuc n) fits =
    IsAscii-cons 45 (padded 4 (suc n)) (omega arith) (padded_ascii 4 (suc n) (omega (arith, ints)))

with_ascii : (front : List ℕ) (n : ℕ) → n < 2 ^ 64 → IsAscii front → IsAscii (with_number front n)
with_ascii front n small h = IsAscii-append (front ++ 45 ∷ []) (padded 2 n) (IsAscii-push front 45 h (omega arith)) (padded_ascii 2 n small)

pub date_is_utf8 : (date : Date) → FitsSigned w64 date.year → IsUtf8 (text_of date)
date_is_utf8 date fits =
    let valid = date.valid in
    let most = month_length_range date.year date.month valid.month_from_one valid.month_to_twelve in
    let month = with_ascii (year_text date.year) date.month (omega arith) (year_ascii date.year fits) in
    IsUtf8-from_ascii (text_of date) (with_ascii (with_number (year_text date.year) date.month) date.day_of_month (omega (arith, most)) month)

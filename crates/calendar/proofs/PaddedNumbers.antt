-- Numbers with zeros in front.
use Rattle.std.specs.Char.{digit_value}
use Rattle.std.proofs.lemmas.Str.Parse.{IsNumeralModel, digit_at, digit_from_value, digits_value_short, numerals_by_value, parse_gives, tells_digits}
use Rattle.std.proofs.lemmas.Str.{digit_value_digit}
use Rattle.std.proofs.lemmas.Fmt.{decimal-digits_value, decimal_digit, decimal_is_IsNumeral, decimal_step, first_decimal, length-decimal-le, length-decimal-le_succ}
use Rattle.calendar.proofs.Common.{◌≡◌, ◌≢◌, ◌↔◌, ◌≤◌, ◌+◌, ◌-◌, ◌*◌, ◌/◌, ◌%◌, ◌^◌, ◌<◌, ◌++◌, ℕ, zero, suc, List, [], ◌∷◌, length, replicate, get_or, Option, Some, None, Result, Ok, arith, ap, inl, inr, refl, sym, ◌∙◌, cases_lt, length-append, length-replicate, decimal, AllDigits, ParsesUnsigned, digits_value, digits_value_after, IsShortest, padded}

pub decimal_numerals : IsNumeralModel (AllDigits 10) (digits_value 10)
decimal_numerals = numerals_by_value (AllDigits 10) tells_digits

-- zeros in front are digits, and leave the value as it is
zeros : (k : ℕ) (ds : List ℕ) → AllDigits 10 ds → AllDigits 10 (replicate k 48 ++ ds) × (digits_value 10 (replicate k 48 ++ ds) ≡ digits_value 10 ds)
zeros zero ds h = (h, refl)
zeros (suc k) ds h = let (digits, value) = zeros k ds h in ((omega arith, digits), value)

pub length_padded : (places n : ℕ) → length (padded places n) ≡ (places - length (decimal n)) + length (decimal n)
length_padded places n = simp (length-append, length-replicate)

pub padded_digits : (places n : ℕ) → n < 2 ^ 64 → AllDigits 10 (padded places n)
padded_digits places n small = (zeros (places - length (decimal n)) (decimal n) (decimal_is_IsNumeral n small).0.1).0

pub padded_value : (places n : ℕ) → n < 2 ^ 64 → digits_value 10 (padded places n) ≡ n
padded_value places n small =
    (zeros (places - length (decimal n)) (decimal n) (decimal_is_IsNumeral n small).0.1).1 ∙ (decimal_is_IsNumeral n small).1

-- numbers of two digits
pub two_places : (n : ℕ) → n < 100 → padded 2 n ≡ (48 + n / 10) ∷ (48 + n % 10) ∷ []
two_places n small = grind (arith, decimal_digit, decimal_step)

pub four_places : (n : ℕ) → n < 10000 → padded 4 n ≡ (48 + n / 100 / 10) ∷ (48 + n / 100 % 10) ∷ (48 + n % 100 / 10) ∷ (48 + n % 100 % 10) ∷ []
four_places n small = grind (arith, decimal_digit, decimal_step)

-- ---- four places or more

pub padded_shortest : (n : ℕ) → n < 2 ^ 64 → IsShortest (padded 4 n)
padded_shortest n small = grind (arith, length_padded, digit_at, padded_digits, first_decimal, length-decimal-le_succ)

-- digits of one length and one value are the same
same_digits : (a b : ℕ) (ds es : List ℕ) → AllDigits 10 ds → AllDigits 10 es → length ds ≡ length es
    → digits_value_after 10 a ds ≡ digits_value_after 10 b es → (a ≡ b) × (ds ≡ es)
same_digits a b [] [] d f l e = (e, refl)
same_digits a b (x ∷ xs) (y ∷ ys) d f l e =
    let rest = same_digits (a * 10 + digit_value x) (b * 10 + digit_value y) xs ys d.1 f.1 (omega arith) e in
    grind (arith, digit_value_digit, digit_from_value)
same_digits a b ds es d f l e = absurd (omega arith)

padded_is : (ds : List ℕ) → AllDigits 10 ds → IsShortest ds → digits_value 10 ds < 2 ^ 64 → ds ≡ padded 4 (digits_value 10 ds)
padded_is ds h so small =
    let lengths = length_padded 4 (digits_value 10 ds) in
    let same : length ds ≡ length (padded 4 (digits_value 10 ds)) = elim (cases_lt (get_or ds 0 0) 49) [
      | inl low ↦
          omega (arith, length-decimal-le 4 (digits_value 10 ds) (omega arith) (digits_value_short decimal_numerals ds 4 h (omega arith)) small)
      | inr high ↦ omega (arith, ap (λ (x : List ℕ). length x) (decimal-digits_value decimal_numerals ds h (omega arith) (λ e. absurd (omega arith)) small))
    ] in
    (same_digits 0 0 ds (padded 4 (digits_value 10 ds)) h (padded_digits 4 (digits_value 10 ds) small) same (sym (padded_value 4 (digits_value 10 ds) small))).1

-- what is written so is parsed as the number
pub number_read : {E : Type 0} (n : ℕ) (ds : List ℕ) (r : Result ℕ E) → n < 2 ^ 64 → ds ≡ padded 4 n → ParsesUnsigned 64 10 ds r → r ≡ Ok n
number_read n ds r small e h = grind (arith, parse_gives decimal_numerals, padded_shortest n, padded_value 4 n, padded_digits 4 n)

-- ---- what is read of a string: no number, or the one from the least to the most that is written so

abbrev pub Reads : Option ℕ → ℕ → ℕ → List ℕ → Type 0
Reads o least most ds = (n : ℕ) → (o ≡ Some n) ↔ ((least ≤ n) × (n ≤ most) × (ds ≡ padded 4 n))

pub unpadded_read : {least most : ℕ} {ds : List ℕ} → most < 2 ^ 64 → ¬ (IsShortest ds) → Reads None least most ds
unpadded_read small unpadded n = grind (arith, padded_shortest n)

pub no_number_read : {E : Type 0} {least most : ℕ} {ds : List ℕ} (r : Result ℕ E) → most < 2 ^ 64 → ParsesUnsigned 64 10 ds r → ((n : ℕ) → r ≢ Ok n)
    → Reads None least most ds
no_number_read {ds = ds} r small h none n = grind (arith, number_read n ds r)

pub outside_read : {E : Type 0} {least most : ℕ} {ds : List ℕ} (m : ℕ) (r : Result ℕ E) → most < 2 ^ 64 → ParsesUnsigned 64 10 ds r → r ≡ Ok m
    → ¬ ((least ≤ m) × (m ≤ most)) → Reads None least most ds
outside_read {least = least} {most = most} {ds = ds} m r small h is outside n = grind (arith, number_read)

pub number_inside_read : {E : Type 0} {least most : ℕ} {ds : List ℕ} (m : ℕ) (r : Result ℕ E) → most < 2 ^ 64 → ParsesUnsigned 64 10 ds r → r ≡ Ok m
    → IsShortest ds → (least ≤ m) × (m ≤ most) → Reads (Some m) least most ds
number_inside_read {least = least} {most = most} {ds = ds} m r small h is so within n = grind (arith, padded_is, number_read n ds r)

-- Dates as they are written, and as they are read.
use Rattle.std.specs.Str.{IsCharBoundary}
use Rattle.std.proofs.Math.Seq.{drop-append_seam, take-append_seam}
use Rattle.calendar.proofs.Common.{cond, ◌≡◌, ◌≢◌, ◌↔◌, ◌⊎◌, ◌+◌, ◌-◌, ◌*◌, ◌/◌, ◌%◌, ◌<◌, ◌≤◌, ◌++◌, ◌≤ℤ◌, ◌<ℤ◌, ℕ, ℤ, pos, negsuc, List, [], ◌∷◌, drop, take, length, get_or, Bool, false, Option, Some, None, MatchOption, arith, ap, append_assoc, refl, sym, ◌∙◌, ints, append-nil, get_or-drop, length-append, take-append-drop, decimal, HasParts, TextIsOnly, IsDate, Date, IsoWeek, padded, text_of, week_text, with_number, year_text}
use Rattle.std.specs.Fmt.{char_count, padded_integral, format_spec, styled_signed_decimal}
use Rattle.calendar.proofs.DateOrder.{of_parts}
use Rattle.calendar.proofs.PaddedNumbers.{two_places}
use Rattle.calendar.proofs.YearTexts.{only_year, year_texts}

-- ---- a number at the end

-- the three bytes of the hyphen and the number, and what is before them
pub record EndsInNumber (text front : List ℕ) (n : ℕ) : Type 0 where
  pub long : length text ≡ length front + 3
  pub front_is : take (length text - 3) text ≡ front
  pub last_is : drop (length text - 3) text ≡ 45 ∷ (48 + n / 10) ∷ (48 + n % 10) ∷ []

pub number_told : (text front : List ℕ) (n : ℕ) → n < 100 → text ≡ with_number front n → EndsInNumber text front n
number_told text front n small e =
    let whole : text ≡ front ++ (45 ∷ (48 + n / 10) ∷ (48 + n % 10) ∷ []) = e ∙ rw (two_places n small, append_assoc) refl in
    let long : length text ≡ length front + 3 = ap (λ (x : List ℕ). length x) whole ∙ length-append front (45 ∷ (48 + n / 10) ∷ (48 + n % 10) ∷ []) in
    let place : length text - 3 ≡ length front = omega arith in
    record {
      long = long;
      front_is = rw (place, whole) (take-append_seam front (45 ∷ (48 + n / 10) ∷ (48 + n % 10) ∷ []));
      last_is = rw (place, whole) (drop-append_seam front (45 ∷ (48 + n / 10) ∷ (48 + n % 10) ∷ []));
    }

-- the hyphen begins a character
pub number_boundary : (text front : List ℕ) (n : ℕ) → EndsInNumber text front n → IsCharBoundary text (length text - 3)
number_boundary text front n h =
    let hyphen = sym (get_or-drop (length text - 3) text 0 0) ∙ ap (λ (x : List ℕ). get_or x 0 0) h.last_is in
    grind arith

-- a text ends in one number only
pub only_number : (text a b : List ℕ) (m n : ℕ) → m < 100 → n < 100 → text ≡ with_number a m → text ≡ with_number b n → (a ≡ b) × (m ≡ n)
only_number text a b m n m_small n_small e f =
    grind (arith, number_told text a m m_small e, number_told text b n n_small f)

pub number_text : (text : List ℕ) (k tens ones : ℕ) → (48 ≤ tens) × (tens ≤ 57) → (48 ≤ ones) × (ones ≤ 57) → drop k text ≡ 45 ∷ tens ∷ ones ∷ []
    → text ≡ with_number (take k text) (10 * (tens - 48) + (ones - 48))
number_text text k tens ones t o e =
    sym (take-append-drop k text) ∙ grind (arith, two_places, append_assoc)

-- ---- months and days are of two digits

pub small_parts : (date : Date) → (date.month < 100) × (date.day_of_month < 100)
small_parts date = grind arith

-- the parts of a date's text, which ends in two numbers
pub parts_told : {text front year : List ℕ} {month day : ℕ} (date : Date) → (day < 100) × (text ≡ with_number front day)
    → (month < 100) × (front ≡ with_number year month) → text ≡ text_of date
    → (year ≡ year_text date.year) × (month ≡ date.month) × (day ≡ date.day_of_month)
parts_told date last middle e =
    let (front, day) = only_number _ _ _ _ _ last.0 (small_parts date).1 last.1 e in
    let (year, month) = only_number _ _ _ _ _ middle.0 (small_parts date).0 middle.1 front in
    (year, month, day)

-- each text is that of one date at most
pub only_text : TextIsOnly
only_text a b a_fits b_fits e =
    let (year, month, day) = parts_told {year = year_text a.year} b ((small_parts a).1, refl) ((small_parts a).0, refl) e in
    of_parts a b (only_year a.year b.year a_fits b_fits year) month day

-- ---- what `Date::new` returns

pub made_date : (o : Option Date) (date : Date) {year : ℤ} {month day : ℕ}
    → MatchOption o (¬ (IsDate year month day)) (λ made. HasParts made year month day) → year ≡ date.year → month ≡ date.month
    → day ≡ date.day_of_month → o ≡ Some date
made_date None date h year month day = absurd (h (rw (year, month, day) date.valid))
made_date (Some x) date h year month day = ap (λ (d : Date). Some d) (of_parts x date (h.year_is ∙ year) (h.month_is ∙ month) (h.day_is ∙ day))

-- no date, if the text is that of none
pub no_date : {o : Option Date} {date : Date} {text : List ℕ} → o ≡ None → text ≢ text_of date → (o ≡ Some date) ↔ (text ≡ text_of date)
no_date none other = grind arith

-- ---- printing

pub zero_padded : (places n : ℕ) → padded_integral (format_spec 32 0 4 places 18446744073709551615) false [] (decimal n) ≡ padded places n
unfolding padded_integral char_count
zero_padded places n = grind (arith, append-nil)

sign_padded : (negative : Bool) (n : ℕ)
    → padded_integral (format_spec 32 0 5 5 18446744073709551615) negative [] (decimal n) ≡ cond negative 45 43 ∷ padded 4 n
unfolding padded_integral char_count
sign_padded negative n = grind (arith, append-nil)

pub plain_year : (year : ℤ) → pos 0 ≤ℤ year → year ≤ℤ pos 9999
    → styled_signed_decimal (format_spec 32 0 4 4 18446744073709551615) year ≡ year_text year
plain_year (pos n) low high = grind (ints, zero_padded, year_texts (pos n))
plain_year (negsuc n) low high = absurd (omega ints)

pub signed_year : (year : ℤ) → (year <ℤ pos 0) ⊎ (pos 9999 <ℤ year)
    → styled_signed_decimal (format_spec 32 0 5 5 18446744073709551615) year ≡ year_text year
signed_year (pos n) outside = grind (ints, sign_padded, year_texts (pos n))
signed_year (negsuc n) outside = grind (ints, sign_padded, year_texts (negsuc n))

pub joined : (date : Date) (month day : List ℕ) → month ≡ padded 2 date.month → day ≡ padded 2 date.day_of_month
    → year_text date.year ++ (45 ∷ (month ++ (45 ∷ day))) ≡ text_of date
joined date month day m d = rw (m, d) (simp append_assoc)

pub joined_week : (week : IsoWeek) (number : List ℕ) → number ≡ padded 2 week.week → year_text week.year ++ (45 ∷ 87 ∷ number) ≡ week_text week
joined_week week number n = rw n (simp append_assoc)

-- The places of a fraction, one after the other, and the string of a fraction with 19 places or more.
use Rattle.ratio64.proofs.SpelledDecimals.{length_last}
use Rattle.ratio64.proofs.Common.{codes, decimal, decimal_is_IsNumeral, decimal_text, div-div-eq-div-mul, div-le_self, false, is_negative, le-div, length-append, linear, mul-le-mul, multiples_apart, neg_ℤ, sign_text, sizes, true, unsigned_abs, unsigned_abs-mul, unwrap_or, IsNumeral, ℤ, ◌*ℤ◌, ◌<ℤ◌, ◌==◌, ◌<◌, ◌≤◌, cases_lt, inl, inr, mul-le-mul_left, ◌-◌, ◌++◌, zero, suc, List, [], ◌∷◌, length, replicate, WritesInCalls, append_assoc, append-nil, pow-succ', mod-add-div}
pub use Rattle.ratio64.proofs.Common.{◌+◌, IsRoundedEven, pos, sym, ap, ◌∙◌, arith, ◌≡◌, ◌*◌, ◌/◌, ◌%◌, ◌^◌, ℕ, refl}
unfoldable pub use Rattle.ratio64.specs.Decimal.{last_digits}
pub use Rattle.ratio64.specs.Decimal.{ArePadding, point}
pub use Rattle.num_integer.specs.Padded.{FormatOptions, padded_number}
pub use Rattle.std.proofs.Output.{has_written_styled_append, has_written_styled_nil, has_written_styled_of_eq}
use Rattle.std.proofs.lemmas.Fmt.{contents_after_writes}
pub use Rattle.ratio64.proofs.DecimalTexts.{some_padded, ten_grows, ten_up}
pub use Rattle.ratio64.specs.Rounding.{half_even, rounded_even}
use Rattle.std.proofs.Common.{add-one, pow-add}
use Rattle.std.specs.Prelude.{Bool, if◌then◌else◌}
use Rattle.std.proofs.lemmas.Str.{encode_ascii}
use Rattle.std.specs.Char.{encode_utf8}
use Rattle.std.proofs.Math.Nat.{div-mul-le_self, mod-lt, mul-div-mul_right, mul-add-div_right, mul-add-mod_self_right}
pub use Rattle.std.specs.Fmt.{char_count, fill_text, number_padding, padded_integral, shown_prefix, sign_text_with, spec_sign_plus, spec_width, spec_zero_pad, styled_decimal, HasWrittenStyled, IsFlush, WritesStyledOnOk}
pub use Rattle.std.specs.List.{repeat}
use Rattle.ratio64.proofs.RoundedEven.{half_even_at_least, half_even_at_most, not_negative, half_even_more, natural_rounded_is}

-- ---- what is written

-- one more time, at the end
pub repeat_more : (n : ℕ) (xs : List ℕ) → repeat n xs ++ xs ≡ repeat (n + 1) xs
repeat_more n xs = rw add-one (by n)
  where
    by : (n : ℕ) → repeat n xs ++ xs ≡ repeat (suc n) xs
    by zero = sym (append-nil xs)
    by (suc n) = append_assoc xs (repeat n xs) xs ∙ ap (λ (l : List ℕ). xs ++ l) (by n)

-- what an empty buffer has kept is what was written into it
pub kept_is_written : (w text v : List ℕ) → w ≡ [] → WritesInCalls (λ before more after. after ≡ before ++ more) w text v → v ≡ text
kept_is_written w text v empty written =
    contents_after_writes _ (λ bytes. bytes) (λ w bs v e. e) w text v written ∙ ap (λ (l : List ℕ). l ++ text) empty

-- ---- long division

-- the next remainder and the next digit are those of ten times the remainder
module _ (n d : ℕ) (up : 0 < d) where
  ten_times : n * 10 ≡ n / d * 10 * d + n % d * 10
  ten_times = let all = mod-add-div n d in omega arith

  pub next_rest : n * 10 % d ≡ n % d * 10 % d
  next_rest = rw ten_times (mul-add-mod_self_right (n / d * 10) d (n % d * 10))

  pub next_quotient : n * 10 / d ≡ n / d * 10 + n % d * 10 / d
  next_quotient = rw ten_times (mul-add-div_right up (n / d * 10) (n % d * 10))

-- there are no digits yet
pub no_digits : (q : ℕ) → last_digits 0 q ≡ []
unfolding last_digits
no_digits q = refl

-- the digits with one more at their end
pub digit_added : (k q t : ℕ) → t < 10 → last_digits (suc k) (q * 10 + t) ≡ last_digits k q ++ (48 + t) ∷ []
unfolding last_digits
digit_added k q t small =
    let front : (q * 10 + t) / 10 ≡ q = omega arith in
    let last : (q * 10 + t) % 10 ≡ t = omega arith in
    rw (front, last) refl

-- the digits of a number whose last ones are those of another
pub digits_joined : (a b n t : ℕ) → t < 10 ^ b → last_digits (a + b) (n * 10 ^ b + t) ≡ last_digits a n ++ last_digits b t
unfolding last_digits
digits_joined a zero n t small =
    let places : a + zero ≡ a = omega arith in
    let same : n * 10 ^ zero + t ≡ n = omega arith in
    rw (places, same) (sym (append-nil (last_digits a n)))
digits_joined a (suc b) n t small =
    let places : a + suc b ≡ suc (a + b) = omega arith in
    let whole : n * 10 ^ suc b + t ≡ 10 * (n * 10 ^ b) + t = rw (pow-succ' 10 b) (omega arith) in
    let front : (n * 10 ^ suc b + t) / 10 ≡ n * 10 ^ b + t / 10 = omega arith in
    let last : (n * 10 ^ suc b + t) % 10 ≡ t % 10 = omega arith in
    let less : t / 10 < 10 ^ b = omega (arith, pow-succ' 10 b) in
    rw (places, front, last, digits_joined a b n (t / 10) less) (append_assoc (last_digits a n) (last_digits b (t / 10)) ((48 + t % 10) ∷ []))

-- ---- the last 19 places are rounded

module _ (n d : ℕ) (up : 0 < d) (few : d < 2 ^ 63) where
  -- no place before them changes
  pub rounded_last : half_even (n % d * 10 ^ 19) d < 10 ^ 19
  rounded_last =
      let m = n % d * 10 ^ 19 in
      let least : m / d * d ≤ m = div-mul-le_self m d in
      let rest : n % d < d = mod-lt n up in
      elim (cases_lt (m / d) (10 ^ 19 - 1)) [
        | inl less ↦ omega (arith, half_even_at_most m d)
        | inr most ↦ let product = mul-le-mul_left d most in absurd (omega arith)
      ]

  pub rounded_whole : half_even (n * 10 ^ 19) d ≡ n / d * 10 ^ 19 + half_even (n % d * 10 ^ 19) d
  rounded_whole =
      let all = mod-add-div n d in
      let apart : n * 10 ^ 19 ≡ 2 * (n / d * 5000000000000000000) * d + n % d * 10 ^ 19 = omega arith in
      rw apart (half_even_more (n / d * 5000000000000000000) (n % d * 10 ^ 19) d up ∙ omega arith)

-- ---- the places of num / d

module _ (num k d : ℕ) (up : 0 < d) {rest : ℕ} (is : rest ≡ num * 10 ^ k % d) where
  ten_more : num * 10 ^ (k + 1) ≡ num * 10 ^ k * 10
  ten_more = let power = pow-succ' 10 k in rw add-one (rw power (omega arith))

  pub next_digit_small : rest * 10 / d < 10
  next_digit_small =
      let below : num * 10 ^ k % d < d = mod-lt (num * 10 ^ k) up in
      let least = div-mul-le_self (rest * 10) d in
      elim (cases_lt (rest * 10 / d) 10) [
        | inl small ↦ small
        | inr large ↦ let product = mul-le-mul_left d large in absurd (omega arith)
      ]

  -- one more place
  pub rest_after : rest * 10 % d ≡ num * 10 ^ (k + 1) % d
  rest_after = rw (ten_more, is) (sym (next_rest (num * 10 ^ k) d up))

  pub place_after : last_digits k (num * 10 ^ k / d) ++ encode_utf8 (48 + rest * 10 / d) ≡ last_digits (k + 1) (num * 10 ^ (k + 1) / d)
  place_after =
      let ascii : 48 + rest * 10 / d < 128 = omega (arith, next_digit_small) in
      let one : encode_utf8 (48 + rest * 10 / d) ≡ (48 + rest * 10 / d) ∷ [] = encode_ascii (48 + rest * 10 / d) ascii in
      let quotient : num * 10 ^ (k + 1) / d ≡ num * 10 ^ k / d * 10 + rest * 10 / d = rw (ten_more, is) (next_quotient (num * 10 ^ k) d up) in
      rw (one, quotient, add-one) (sym (digit_added k (num * 10 ^ k / d) (rest * 10 / d) next_digit_small))

  -- the last places
  module _ (few : d < 2 ^ 63) {places q : ℕ} (all : k + 19 ≡ places) (last : IsRoundedEven (pos (rest * 10 ^ 19)) (pos d) (pos q)) where
    last_is : q ≡ half_even (num * 10 ^ k % d * 10 ^ 19) d
    last_is = rw (← is) (natural_rounded_is (rest * 10 ^ 19) d up last)

    pub last_small : q < 10 ^ 19
    last_small = rw last_is (rounded_last (num * 10 ^ k) d up few)

    pub last_after : last_digits k (num * 10 ^ k / d) ++ last_digits 19 q ≡ last_digits places (half_even (num * 10 ^ places) d)
    last_after =
        let power : num * 10 ^ places ≡ num * 10 ^ k * 10 ^ 19 = rw (← all, pow-add 10 k 19) (omega arith) in
        rw (power, rounded_whole (num * 10 ^ k) d up few, ← last_is, ← all) (sym (digits_joined k 19 (num * 10 ^ k / d) q last_small))

-- ---- the string of the decimal number

module _ (n : ℤ) (d p : ℕ) (up : 0 < d) (few : d < 2 ^ 63) (many : 19 ≤ p) where
  -- the digits before the point are those of the integer part
  whole_is : half_even (unsigned_abs n * 10 ^ p) d / 10 ^ p ≡ unsigned_abs n / d
  whole_is =
      let k = p - 19 in
      let m = unsigned_abs n * 10 ^ k in
      let parts : 10 ^ p ≡ 10 ^ 19 * 10 ^ k = rw (← pow-add 10 19 k) (ap (λ (t : ℕ). 10 ^ t) (omega arith)) in
      let power : unsigned_abs n * 10 ^ p ≡ m * 10 ^ 19 = rw parts (omega arith) in
      let size = rounded_whole m d up few in
      let rest = rounded_last m d up few in
      let front : half_even (m * 10 ^ 19) d / 10 ^ 19 ≡ m / d = omega (arith, size, rest) in
      let scaled : m / d / 10 ^ k ≡ unsigned_abs n / d = div-div-eq-div-mul m d (10 ^ k) ∙ mul-div-mul_right (unsigned_abs n) d (ten_up k) in
      rw (power, parts) (sym (div-div-eq-div-mul (half_even (m * 10 ^ 19) d) (10 ^ 19) (10 ^ k)) ∙ rw front scaled)

  -- a number other than 0 has a digit other than 0
  size_up : 0 < unsigned_abs n → 0 < half_even (unsigned_abs n * 10 ^ p) d
  size_up some =
      let least = ten_grows 19 p many in
      let product = mul-le-mul some least in
      let quotient = le-div 1 (unsigned_abs n * 10 ^ p) d up (omega arith) in
      omega (arith, half_even_at_least (unsigned_abs n * 10 ^ p) d)

point_is : (p : ℕ) → 0 < p → point p ≡ 46 ∷ []
point_is p some = grind arith

units_text : (negative : Bool) (size p : ℕ) → (negative ≡ true → 0 < size) → 0 < p
    → decimal_text (if negative then neg_ℤ (pos size) else pos size) p
    ≡ sign_text negative ++ ((decimal (size / 10 ^ p) ++ codes ".") ++ last_digits p size)
units_text false size p some many = rw (not_negative size, point_is p many) refl
units_text true zero p some many = absurd (omega (arith, some refl))
units_text true (suc size) p some many = rw (point_is p many) refl

product_sign : (n : ℤ) (t : ℕ) → 0 < t → is_negative (n *ℤ pos t) ≡ is_negative n
product_sign n t up = grind (linear, multiples_apart n (pos 0) (pos t), multiples_apart (pos 0) n (pos t))

-- the places of n / d
abbrev rounded_places : ℤ → ℤ → ℕ → List ℕ
rounded_places n d p = last_digits p (half_even (unsigned_abs n * 10 ^ p) (unsigned_abs d))

-- the string of n / d with 19 places or more
many_places_text : (n d : ℤ) (p : ℕ) → pos 0 <ℤ d → unsigned_abs d < 2 ^ 63 → 19 ≤ p
    → decimal_text (rounded_even (n *ℤ pos (10 ^ p)) d) p
    ≡ sign_text (is_negative n) ++ ((decimal (unsigned_abs n / unsigned_abs d) ++ codes ".") ++ rounded_places n d p)
many_places_text n d p up few many =
    let some : 0 < unsigned_abs d = omega sizes in
    let size = half_even (unsigned_abs n * 10 ^ p) (unsigned_abs d) in
    let negative : is_negative n ≡ true → 0 < size = λ e. size_up n (unsigned_abs d) p some few many (grind sizes) in
    let text = units_text (is_negative n) size p negative (omega arith) in
    rw (product_sign n (10 ^ p) (ten_up p), unsigned_abs-mul n (pos (10 ^ p))) (rw (whole_is n (unsigned_abs d) p some few many) at text)

-- ---- its padding

-- a number that begins with a digit has no minus
without_minus : (s : FormatOptions) (digits point places : List ℕ) → IsNumeral 10 digits
    → padded_number s ((digits ++ point) ++ places) ≡ padded_integral s false [] ((digits ++ point) ++ places)
without_minus s [] point places h = absurd (omega (arith, h.0))
without_minus s (first ∷ rest) point places h =
    let other : (first == 45) ≡ false = grind (arith, h.1.0) in
    rw other refl

signed_padded : (s : FormatOptions) (negative : Bool) (digits point places : List ℕ) → IsNumeral 10 digits
    → padded_number s (sign_text negative ++ ((digits ++ point) ++ places)) ≡ padded_integral s negative [] ((digits ++ point) ++ places)
signed_padded s true digits point places h = refl
signed_padded s false digits point places h = without_minus s digits point places h

repeated_zeros : (count : ℕ) → repeat count (48 ∷ []) ≡ replicate {A = ℕ} count 48
repeated_zeros zero = refl
repeated_zeros (suc count) = ap (λ (t : List ℕ). 48 ∷ t) (repeated_zeros count)

no_prefix : (s : FormatOptions) → shown_prefix s [] ≡ []
no_prefix s = grind arith

width_or_zero : (s : FormatOptions) → unwrap_or (spec_width s) 0 ≡ s.width
width_or_zero s = grind arith

in_pieces : (before sign zeros whole places after : List ℕ)
    → before ++ (sign ++ (zeros ++ (whole ++ (places ++ after)))) ≡ (before ++ sign ++ [] ++ zeros) ++ ((whole ++ places) ++ after)
in_pieces before sign zeros whole places after = grind (arith, append_assoc, append-nil)

-- the pieces that are written make the padded number
pieces_are : (s : FormatOptions) (negative : Bool) (whole places : List ℕ) (padding before noughts after : ℕ)
    → padding ≡ unwrap_or (spec_width s) 0 - (length (sign_text_with (spec_sign_plus s) negative) + length whole) - length places
    → ArePadding s padding before noughts after
    → fill_text s before ++ (sign_text_with (spec_sign_plus s) negative ++ (repeat noughts (48 ∷ []) ++ (whole ++ (places ++ fill_text s after))))
    ≡ padded_integral s negative [] (whole ++ places)
unfolding padded_integral char_count
pieces_are s negative whole places padding before noughts after e h =
    let sign = sign_text_with (spec_sign_plus s) negative in
    let total = length-append whole places in
    let missing : number_padding s negative [] (length (whole ++ places)) ≡ padding = rw (no_prefix s) (omega (arith, e, width_or_zero s, total)) in
    let zeros : repeat noughts (48 ∷ []) ≡ replicate {A = ℕ} (if spec_zero_pad s then padding else 0) 48 = rw h.zeros_are (repeated_zeros _) in
    rw (h.before_is, zeros, h.after_is, ← missing, no_prefix s) (in_pieces _ sign _ whole places _)

-- so the pieces of the decimal number do
pub number_pieces : (s : FormatOptions) (n d : ℤ) (p : ℕ) {padding before noughts after : ℕ} {sign whole : List ℕ}
    → pos 0 <ℤ d → unsigned_abs d < 2 ^ 63 → unsigned_abs n < 2 ^ 64 → 19 ≤ p
    → sign ≡ sign_text_with (spec_sign_plus s) (is_negative n) → whole ≡ decimal (unsigned_abs n / unsigned_abs d) ++ codes "."
    → padding ≡ unwrap_or (spec_width s) 0 - (length sign + length whole) - p → ArePadding s padding before noughts after
    → fill_text s before ++ (sign ++ (repeat noughts (48 ∷ []) ++ (whole ++ (rounded_places n d p ++ fill_text s after))))
    ≡ padded_number s (decimal_text (rounded_even (n *ℤ pos (10 ^ p)) d) p)
number_pieces s n d p {padding} {before} {noughts} {after} up few fits many sign_own whole_own missing h =
    let places = rounded_places n d p in
    let digits = decimal (unsigned_abs n / unsigned_abs d) in
    let long : length places ≡ p = length_last p (half_even (unsigned_abs n * 10 ^ p) (unsigned_abs d)) in
    let low : unsigned_abs n / unsigned_abs d < 2 ^ 64 = omega (arith, div-le_self (unsigned_abs n) (unsigned_abs d)) in
    let numeral = decimal_is_IsNumeral (unsigned_abs n / unsigned_abs d) low in
    let count = rw (sign_own, whole_own, ← long) at missing in
    rw (sign_own, whole_own, many_places_text n d p up few many, signed_padded s (is_negative n) digits (codes ".") places numeral.0)
    (pieces_are s (is_negative n) (digits ++ codes ".") places padding before noughts after count h)

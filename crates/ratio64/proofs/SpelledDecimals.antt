-- The strings of decimal numbers: what they spell.
use Rattle.std.proofs.lemmas.Str.{digit_value_digit}
use Rattle.std.proofs.lemmas.Int.Digits.{digits_push, digits_value_push}
use Rattle.ratio64.proofs.Common.{◌≡◌, ◌≢◌, ◌+◌, ◌/◌, ◌%◌, ◌^◌, ◌<◌, ◌++◌, ◌==◌, ℕ, zero, suc, ℤ, List, [], ◌∷◌, true, length, unsigned_abs, digit_value, decimal, sign_text, is_negative, IsNumeral, digits_value, append_assoc, arith, ap, inl, inr, refl, sym, ◌∙◌, cases_Bool, decimal_is_IsNumeral_wide, append-nil, length-append, div-div-eq-div-mul, div-le_self, pow-succ', SpellsDecimal, places_of, units_of, DecimalIsSpelled, SpelledDecimalIsOnly, last_digits, get_or, get_or_at, get_or_append_left, nil_from_length, take_at, drop_at, take, drop, ◌⊎◌}
use Rattle.ratio64.proofs.ReadTexts.{no_mark, no_mark_inside, sign_numeral, sign_spelled}

-- ---- the digits of a number, in two pieces

pub length_last : (k n : ℕ) → length (last_digits k n) ≡ k
unfolding last_digits
length_last zero n = refl
length_last (suc k) n = length-append (last_digits k (n / 10)) ((48 + n % 10) ∷ []) ∙ omega (arith, length_last k (n / 10))

-- the first digits and the last ones are digits of the number
pub in_pieces : (k n : ℕ) → n < 10 ^ 64
    → IsNumeral 10 (decimal (n / 10 ^ k) ++ last_digits k n) × (digits_value 10 (decimal (n / 10 ^ k) ++ last_digits k n) ≡ n)
unfolding last_digits
in_pieces zero n small =
    let whole : n / 10 ^ 0 ≡ n = omega arith in
    rw (whole, append-nil (decimal n)) (decimal_is_IsNumeral_wide n small)
in_pieces (suc k) n small =
    let rest = in_pieces k (n / 10) (omega arith) in
    let front = decimal (n / 10 / 10 ^ k) ++ last_digits k (n / 10) in
    let last = 48 + n % 10 in
    let whole : n / 10 ^ suc k ≡ n / 10 / 10 ^ k = rw (pow-succ' 10 k) (sym (div-div-eq-div-mul n 10 (10 ^ k))) in
    let joined : decimal (n / 10 / 10 ^ k) ++ (last_digits k (n / 10) ++ last ∷ []) ≡ front ++ last ∷ [] =
    sym (append_assoc (decimal (n / 10 / 10 ^ k)) (last_digits k (n / 10)) (last ∷ [])) in
    let digit : digit_value last ≡ n % 10 = omega (arith, digit_value_digit last (omega arith, omega arith)) in
    let long = length-append front (last ∷ []) in
    let pushed = digits_value_push 10 front last in
    rw (whole, joined) ((omega arith, digits_push 10 front last rest.0.1 (omega (arith, digit))), omega (arith, pushed, rest.1, digit))

-- ---- a decimal number is spelled by its string

pub decimal_spelled : DecimalIsSpelled
decimal_spelled x =
    let units = units_of x in
    let size = unsigned_abs units in
    let below = x.below in
    let places = places_of x in
    let whole = decimal (size / 10 ^ places) in
    let digits = decimal_is_IsNumeral_wide (size / 10 ^ places) (omega (arith, div-le_self size (10 ^ places))) in
    let number = sign_spelled units _ (in_pieces places size (omega arith)) in
    record {
      whole = sign_text (is_negative units) ++ whole;
      part = last_digits places size;
      parts = refl;
      part_places = length_last places size;
      whole_digits = sign_numeral units whole digits.0;
      spelled = rw (append_assoc (sign_text (is_negative units)) whole (last_digits places size)) number;
    }

-- ---- a string is cut at its only point

not_longer : (w v a b : List ℕ) → ((i : ℕ) → i < length v → get_or v i 0 ≢ 46) → w ++ (46 ∷ a) ≡ v ++ (46 ∷ b) → ¬ (length w < length v)
not_longer w v a b none e less =
    let here : get_or (w ++ (46 ∷ a)) (length w) 0 ≡ 46 = get_or_at w 46 a 0 (length w) refl in
    none (length w) less (sym (get_or_append_left v (46 ∷ b) 0 (length w) less) ∙ rw e at here)

module _ {text : List ℕ} {units : ℤ} {places : ℕ} (s : SpellsDecimal text units places) where
  no_point : (i : ℕ) → i < length s.whole → get_or s.whole i 0 ≢ 46
  no_point = no_mark 46 s.whole (omega arith) s.whole_digits

  pub alone : (places == 0) ≡ true → (text ≡ s.whole) × (s.part ≡ [])
  alone none = grind (arith, nil_from_length, append-nil)

  parts_are : ((text ≡ s.whole) × (s.part ≡ [])) ⊎ (text ≡ s.whole ++ (46 ∷ s.part))
  parts_are = elim (cases_Bool (places == 0)) [ inl none ↦ inl (alone none) | inr some ↦ inr (rw some at s.parts ∙ append_assoc s.whole _ _) ]

same_parts : {text : List ℕ} {u v : ℤ} {p q : ℕ} (s : SpellsDecimal text u p) (t : SpellsDecimal text v q) → (s.whole ≡ t.whole) × (s.part ≡ t.part)
same_parts s t = elim (parts_are s) [
  | inl first ↦ elim (parts_are t) [
    | inl second ↦ (sym first.0 ∙ second.0, first.1 ∙ sym second.1)
    | inr second ↦ absurd (no_mark_inside 46 s.whole (omega arith) s.whole_digits t.whole t.part (sym first.0 ∙ second))
  ]
  | inr first ↦ elim (parts_are t) [
    | inl second ↦ absurd (no_mark_inside 46 t.whole (omega arith) t.whole_digits s.whole s.part (sym second.0 ∙ first))
    | inr second ↦
        let e = sym first ∙ second in
        let left = not_longer s.whole t.whole s.part t.part (no_point t) e in
        let right = not_longer t.whole s.whole t.part s.part (no_point s) (sym e) in
        let size : length s.whole ≡ length t.whole = omega (arith, left, right) in
        let behind : 46 ∷ s.part ≡ 46 ∷ t.part = sym (drop_at s.whole _ _ refl) ∙ ap (drop (length s.whole)) e ∙ drop_at t.whole _ _ (sym size) in
        (sym (take_at s.whole _ _ refl) ∙ ap (take (length s.whole)) e ∙ take_at t.whole _ _ (sym size), cc)
  ]
]

pub only_spelled_decimal : SpelledDecimalIsOnly
only_spelled_decimal = λ text units places s. λ (u, p) t.
    let same = same_parts t s in
    let value : u ≡ units = t.spelled.value ∙ rw (same.0, same.1) (sym s.spelled.value) in
    let count : p ≡ places = sym t.part_places ∙ ap (λ (ds : List ℕ). length ds) same.1 ∙ s.part_places in
    rw (value, count) refl

-- The strings of decimal numbers: their digits as they are written.
use Rattle.ratio64.proofs.Common.{◌≡◌, ◌≤◌, ◌+◌, ◌-◌, ◌*◌, ◌/◌, ◌%◌, ◌^◌, ◌<◌, ◌++◌, ℕ, zero, suc, ℤ, List, [], ◌∷◌, false, length, pos, replicate, unsigned_abs, FitsSigned, OnOk, Result, WritesInCalls, decimal, sign_text, is_negative, w64, append_assoc, arith, ap, inl, inr, refl, subst, sym, ◌∙◌, cases_lt, ints, decimal_digit, decimal_step, append-nil, length-append, pow-succ', decimal_text, last_digits, pow-le-pow_right, mod-add-div, replicate_more, one-le-pow}
use Rattle.std.specs.Fmt.{char_count, padded_integral, format_spec, styled_decimal}

-- ---- powers of ten

pub ten_up : (k : ℕ) → 0 < 10 ^ k
ten_up k = omega (arith, one-le-pow k 10 (omega arith))

pub ten_grows : (k n : ℕ) → k ≤ n → 10 ^ k ≤ 10 ^ n
ten_grows k n low = pow-le-pow_right {n = 10} (omega arith) low

-- ---- the last digits

last_of_zero : (k : ℕ) → last_digits k 0 ≡ replicate k 48
unfolding last_digits
last_of_zero zero = refl
last_of_zero (suc k) = rw (last_of_zero k) (replicate_more k 48 ∙ ap (λ (t : ℕ). replicate t 48) {y = suc k} (omega arith))

-- a number with zeros in front of its digits
filled_is : (k n : ℕ) → n < 10 ^ suc k → n < 2 ^ 64 → replicate (suc k - length (decimal n)) 48 ++ decimal n ≡ last_digits (suc k) n
unfolding last_digits
filled_is zero n small fits = grind (arith, decimal_digit)
filled_is (suc k) n small fits = elim (cases_lt n 10) [
  | inl one ↦
      let none : n / 10 ≡ 0 = omega arith in
      let same : n % 10 ≡ n = omega arith in
      let lead : suc (suc k) - length (decimal n) ≡ suc k = rw (decimal_digit n one) (omega arith) in
      rw (lead, decimal_digit n one, none, same, last_of_zero (suc k)) refl
  | inr more ↦
      let rest = filled_is k (n / 10) (omega (arith, pow-succ' 10 (suc k))) (omega arith) in
      let long : length (decimal n) ≡ suc (length (decimal (n / 10))) = rw (decimal_step n more fits) (simp length-append (omega arith)) in
      let lead : suc (suc k) - length (decimal n) ≡ suc k - length (decimal (n / 10)) = omega arith in
      rw (lead, decimal_step n more fits, ← rest) (sym (append_assoc _ (decimal (n / 10)) _))
]

-- a multiple of the power changes no last digit
last_of_sum : (k n w : ℕ) → last_digits k (n + 10 ^ k * w) ≡ last_digits k n
unfolding last_digits
last_of_sum zero n w = refl
last_of_sum (suc k) n w =
    let whole : n + 10 ^ suc k * w ≡ n + 10 * (10 ^ k * w) = rw (pow-succ' 10 k) (omega arith) in
    let front : (n + 10 ^ suc k * w) / 10 ≡ n / 10 + 10 ^ k * w = omega arith in
    let last : (n + 10 ^ suc k * w) % 10 ≡ n % 10 = omega arith in
    rw (front, last, last_of_sum k (n / 10) w) refl

last_of_rest : (k n : ℕ) → last_digits k (n % 10 ^ k) ≡ last_digits k n
last_of_rest k n = sym (last_of_sum k (n % 10 ^ k) (n / 10 ^ k)) ∙ ap (last_digits k) (mod-add-div n (10 ^ k))

-- ---- what is written

zero_padded : (k n : ℕ)
    → padded_integral (format_spec 32 0 4 k 18446744073709551615) false [] (decimal n) ≡ replicate (k - length (decimal n)) 48 ++ decimal n
unfolding padded_integral char_count
zero_padded k n = grind (arith, append-nil)

pub some_padded : (k n : ℕ) → 0 < k → n < 10 ^ k → n < 2 ^ 64 → styled_decimal (format_spec 32 0 4 k 18446744073709551615) n ≡ last_digits k n
some_padded zero n some small fits = absurd (omega arith)
some_padded (suc k) n some small fits = grind (arith, zero_padded, filled_is)

pub integer_text : (units : ℤ) (places : ℕ) → places ≡ 0
    → sign_text (is_negative units) ++ decimal (unsigned_abs units / 10 ^ places) ≡ decimal_text units places
unfolding last_digits
integer_text units places none = grind (arith, append-nil)

pub places_text : (units : ℤ) (places : ℕ) → 0 < places → places ≤ 18
    → sign_text (is_negative units) ++ (decimal (unsigned_abs units / 10 ^ places) ++ (46 ∷ styled_decimal (format_spec 32 0 4 places 18446744073709551615) (unsigned_abs units % 10 ^ places))) ≡ decimal_text units places
places_text units places some few = grind (arith, ten_up, ten_grows, some_padded, last_of_rest, append_assoc)

-- the same text in another form
pub same_written : {W A E : Type 0} (took : W → List ℕ → W → Type 0) (r : Result A E) (w : W) (a b : List ℕ) (v : W) → a ≡ b
    → OnOk r (WritesInCalls took w a v) → OnOk r (WritesInCalls took w b v)
same_written took r w a b v e = subst (λ (t : List ℕ). OnOk r (WritesInCalls took w t v)) e

-- ---- which powers of ten fit

pub fitting_scale : (places : ℕ) → places ≤ 18 → FitsSigned w64 (pos (10 ^ places))
fitting_scale places few = let most = ten_grows places 18 few in record { sfits = omega ints }

pub few_places : (places : ℕ) → FitsSigned w64 (pos (10 ^ places)) → places ≤ 18
few_places places fits = elim (cases_lt 18 places) [
  | inl more ↦ let least = ten_grows 19 places (omega arith) in let low = fits.sfits in absurd (omega ints)
  | inr few ↦ few
]

-- what the goals about the text of a decimal need
pub ruleset decimal_steps = (integer_text, places_text, same_written, ten_up)

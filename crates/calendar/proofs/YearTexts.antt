-- Years as they are written.
use Rattle.calendar.proofs.Common.{◌≡◌, ◌≢◌, ◌↔◌, ◌⊎◌, ◌-◌, ◌^◌, ◌<◌, ◌≤◌, ◌<ℤ◌, ◌≤ℤ◌, ℕ, ℤ, pos, negsuc, neg_ℤ, unsigned_abs, List, ◌∷◌, get_or, FitsSigned, Option, Some, None, w64, arith, ap, inr, refl, nat_tests, ints, padded}
use Rattle.calendar.specs.Text.{year_text}
use Rattle.calendar.proofs.PaddedNumbers.{Reads, padded_shortest, padded_value}

-- a year from 0 to 9999 has no sign, a later one a plus, and an earlier one a minus
pub year_texts : (year : ℤ)
    → ((pos 0 ≤ℤ year) × (year <ℤ pos 10000) × (year_text year ≡ padded 4 (unsigned_abs year))) ⊎ ((pos 9999 <ℤ year) × (year_text year ≡ 43 ∷ padded 4 (unsigned_abs year)))
    ⊎ ((year <ℤ pos 0) × (year_text year ≡ 45 ∷ padded 4 (unsigned_abs year)))
unfolding year_text
year_texts (pos n) = grind (ints, nat_tests)
year_texts (negsuc n) = inr (inr (omega ints, refl))

-- ---- the forms of a year's text

-- the text is a year's exactly if these digits are of a number in the range, and the year is the number's value
pub record HasForm (value : ℕ → ℤ) (least most : ℕ) (ds text : List ℕ) : Type 0 where
  pub tells : (year : ℤ) → FitsSigned w64 year → text ≡ year_text year
      → (value (unsigned_abs year) ≡ year) × (least ≤ unsigned_abs year) × (unsigned_abs year ≤ most) × (ds ≡ padded 4 (unsigned_abs year))
  pub writes : (n : ℕ) → least ≤ n → n ≤ most → ds ≡ padded 4 n → text ≡ year_text (value n)

-- the digits begin with no sign
no_sign : (n c : ℕ) (ds : List ℕ) → n < 10000 → c < 48 → c ∷ ds ≢ padded 4 n
no_sign n c ds small low e = omega (arith, ap (λ (x : List ℕ). get_or x 0 0) e, (padded_shortest n (omega arith)).1.0)

pub minus_form : {ds text : List ℕ} → text ≡ 45 ∷ ds → HasForm (λ n. neg_ℤ (pos n)) 1 (2 ^ 63) ds text
minus_form {ds} starts = record {
  tells = λ year fits e. grind (ints, year_texts year, no_sign (unsigned_abs year) 45 ds);
  writes = λ n some small e. grind (ints, year_texts (neg_ℤ (pos n)));
}

pub plus_form : {ds text : List ℕ} → text ≡ 43 ∷ ds → HasForm pos 10000 (2 ^ 63 - 1) ds text
plus_form {ds} starts = record {
  tells = λ year fits e. grind (ints, year_texts year, no_sign (unsigned_abs year) 43 ds);
  writes = λ n large small e. grind (ints, year_texts (pos n));
}

pub plain_form : {text : List ℕ} → ((rest : List ℕ) → text ≢ 45 ∷ rest) → ((rest : List ℕ) → text ≢ 43 ∷ rest) → HasForm pos 0 9999 text text
plain_form no_minus no_plus = record {
  tells = λ year fits e. grind (ints, year_texts year, no_minus, no_plus);
  writes = λ n low small e. grind (ints, year_texts (pos n));
}

-- ---- two years of one text are the same

same_number : (m n : ℕ) → m < 2 ^ 64 → n < 2 ^ 64 → padded 4 m ≡ padded 4 n → m ≡ n
same_number m n m_small n_small e = grind (arith, padded_value 4 m, padded_value 4 n)

pub only_year : (x y : ℤ) → FitsSigned w64 x → FitsSigned w64 y → year_text x ≡ year_text y → x ≡ y
only_year x y x_fits y_fits e = grind (ints, year_texts x, year_texts y, same_number (unsigned_abs x) (unsigned_abs y), no_sign)

-- what is read of a text of the form: no year, or the one that has the text
pub no_year_read : {value : ℕ → ℤ} {least most : ℕ} {ds text : List ℕ} {o : Option ℤ} → HasForm value least most ds text → Reads None least most ds
    → o ≡ None → (year : ℤ) → FitsSigned w64 year → (o ≡ Some year) ↔ (text ≡ year_text year)
no_year_read form reads none year fits = grind (arith, form.tells year fits, reads (unsigned_abs year))

pub year_read : {value : ℕ → ℤ} {least most : ℕ} {ds text : List ℕ} (n : ℕ) {read : ℤ} → HasForm value least most ds text
    → Reads (Some n) least most ds → read ≡ value n → (year : ℤ) → FitsSigned w64 year → (Some read ≡ Some year) ↔ (text ≡ year_text year)
year_read n form reads is year fits = grind (arith, form.tells year fits, form.writes n, reads (unsigned_abs year), reads n)

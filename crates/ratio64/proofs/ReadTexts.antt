-- The strings of fractions, cut at the slash, and what they are read as.
use Rattle.ratio64.specs.declared.parse.ParseRatioError.{ParseRatioError}
use Rattle.ratio64.specs.RatioText.{AnswersSpelled, HasLongPart, ReadsFraction, SpellsFraction, SpellsWhole, answer_read}
use Rattle.std.specs.Ordering.{int_eq}
use Rattle.std.proofs.lemmas.Str.Parse.{not_in_digits}
use Rattle.std.proofs.lemmas.Bool.Decides.{Decides-int_eq}
use Rattle.ratio64.proofs.Common.{◌≡◌, ◌≢◌, ◌⊎◌, ◌++◌, ◌∷◌, [], ◌<◌, ℕ, suc, List, codes, length, ℤ, Option, Some, None, Result, Err, FitsSigned, false, pos, negsuc, unwrap_or, Ok, unsigned_abs, AllDigits, IsNumeral, digits_value, starts_with_minus, decimal, signed_decimal, w64, Bor, ap, append_assoc, arith, get_or, inl, inr, refl, sym, rules, subst, ◌∙◌, cases_Bool, decimal_is_IsNumeral, get_or_at, length-append, IsSplitOnceResult, split_after, split_parts, linear, ReadingIsOnly, TextIsReadBack, den_of, num_of, text_of, unsigned_part, whole_of, Ratio, is_negative, sign_text}
use Rattle.num_integer.proofs.ForCallers.{decimal_model}
use Rattle.ratio64.specs.declared.parse.ParseRatioError.TheVariants.{ZeroDenominator, NotFitting, NotAFraction, TooLong}
use Rattle.ratio64.proofs.ExactResults.{reduced_is_exact}
use Rattle.ratio64.proofs.FractionAnswers.{exact_answer, only_answer, only_of_parts}
use Rattle.ratio64.proofs.WideSums.{part_size}

-- ---- digits

-- neither a point nor a slash is among digits, with or without a `-` before them
not_in : (mark : ℕ) (ds : List ℕ) → AllDigits 10 ds → mark < 48 → (i : ℕ) → i < length ds → get_or ds i 0 ≢ mark
not_in mark ds h low = not_in_digits decimal_model ds mark (decimal_model.from ds h) (λ w. omega arith)

pub no_mark : (mark : ℕ) (text : List ℕ) → (45 < mark) × (mark < 48) → IsNumeral 10 (unsigned_part text)
    → (i : ℕ) → i < length text → get_or text i 0 ≢ mark
no_mark mark [] is h i inside = absurd (omega arith)
no_mark mark (c ∷ cs) is h i inside = grind (arith, not_in mark)

pub no_mark_inside : (mark : ℕ) (text : List ℕ) → (45 < mark) × (mark < 48) → IsNumeral 10 (unsigned_part text)
    → (front back : List ℕ) → text ≢ front ++ (mark ∷ back)
no_mark_inside mark text is h front back e =
    no_mark mark text is h (length front) (rw e (simp length-append (omega arith))) (rw e (get_or_at front mark back 0 (length front) refl))

-- ---- the cut at the first slash

-- the string is num/den, or only num if den is 1
abbrev pub AreParts : List ℕ → List ℕ → List ℕ → Type 0
AreParts text num den = (text ≡ num ++ codes "/" ++ den) ⊎ ((text ≡ num) × (den ≡ codes "1"))

-- what `split_once` cuts at the slash, or the string and `1`
module _ {text : List ℕ} (t one : Bor (List ℕ)) (same : t.now ≡ text) (is_one : one.now ≡ codes "1") where
  cut : (r : Option (Bor (List ℕ) × Bor (List ℕ))) → IsSplitOnceResult 47 text r
      → AreParts text (unwrap_or r (t, one)).0.now (unwrap_or r (t, one)).1.now
  cut None h = inr (sym same, is_one)
  cut (Some x) h = inl ((split_parts 47 text (Some x) h (omega arith)).0 ∙ sym (append_assoc x.0.now (codes "/") x.1.now))

  only_cut : (r : Option (Bor (List ℕ) × Bor (List ℕ))) (num den : List ℕ) → IsSplitOnceResult 47 text r → IsNumeral 10 (unsigned_part num)
      → AreParts text num den
      → ((unwrap_or r (t, one)).0.now ≡ num) × ((unwrap_or r (t, one)).1.now ≡ den)
  only_cut None num den h digits parts = elim parts [
    | inl slash ↦ absurd (split_after 47 text num den None h (omega arith) (slash ∙ append_assoc num _ _) (no_mark 47 num (omega arith) digits))
    | inr alone ↦ (same ∙ alone.0, is_one ∙ sym alone.1)
  ]
  only_cut (Some x) num den h digits parts = elim parts [
    | inl slash ↦ split_after 47 text num den (Some x) h (omega arith) (slash ∙ append_assoc num _ _) (no_mark 47 num (omega arith) digits)
    | inr alone ↦ absurd (no_mark_inside 47 num (omega arith) digits x.0.now x.1.now (sym alone.0 ∙ (split_parts 47 text (Some x) h (omega arith)).0))
  ]

-- the parts that the string is cut into, which are the only ones if the first is an integer
pub record AreCut (text num den : List ℕ) : Type 0 where
  pub parts : AreParts text num den
  pub only : (n d : List ℕ) → IsNumeral 10 (unsigned_part n) → AreParts text n d → (num ≡ n) × (den ≡ d)

pub split_cuts : {text : List ℕ} {x : Bor (List ℕ) × Bor (List ℕ)} (t one : Bor (List ℕ)) (r : Option (Bor (List ℕ) × Bor (List ℕ))) → t.now ≡ text
    → one.now ≡ codes "1" → x ≡ unwrap_or r (t, one) → IsSplitOnceResult 47 text r → AreCut text x.0.now x.1.now
split_cuts t one r same is_one is h = rw is (record { parts = cut t one same is_one r h; only = λ n d. only_cut t one same is_one r n d h })

-- ---- what the string is read as

-- no fraction, if a part is no integer
pub other_text : {text num den : List ℕ} → AreCut text num den → ¬ (IsNumeral 10 (unsigned_part num) × IsNumeral 10 (unsigned_part den))
    → ReadsFraction text (Err NotAFraction)
other_text {text} {num} {den} cuts unspelled =
    let none : (a b : ℤ) → ¬ (SpellsFraction text a b) = λ a b s.
    let same = cuts.only s.num s.den s.num_spelled.digits s.parts in
    unspelled (subst (λ ds. IsNumeral 10 (unsigned_part ds)) (sym same.0) s.num_spelled.digits, subst (λ ds. IsNumeral 10 (unsigned_part ds)) (sym same.1) s.den_spelled.digits) in
    record { not_a_fraction = (λ e. none, λ _. refl); answer = λ a b s. absurd (none a b s) }

-- the fraction of the two parts, if both are integers
pub spelled_text : {text num den : List ℕ} {result : Result Ratio ParseRatioError} → AreCut text num den → IsNumeral 10 (unsigned_part num)
    → IsNumeral 10 (unsigned_part den)
    → AnswersSpelled (whole_of num) (whole_of den) result → result ≢ Err NotAFraction → ReadsFraction text result
spelled_text {text} {num} {den} cuts left right answer spelled =
    let num_spelled : SpellsWhole num (whole_of num) = record { digits = left; value = refl } in
    let den_spelled : SpellsWhole den (whole_of den) = record { digits = right; value = refl } in
    let own : SpellsFraction text (whole_of num) (whole_of den) =
    record { num = num; den = den; parts = cuts.parts; num_spelled = num_spelled; den_spelled = den_spelled } in
    record {
      not_a_fraction = (λ e. absurd (spelled e), λ none. absurd (none (whole_of num) (whole_of den) own));
      answer = λ a b s.
          let same = cuts.only s.num s.den s.num_spelled.digits s.parts in
          rw (s.num_spelled.value, s.den_spelled.value, ← same.0, ← same.1) answer;
    }

-- ---- what is printed

pub numeral_without_minus : (ds : List ℕ) → IsNumeral 10 ds → starts_with_minus ds ≡ false
numeral_without_minus ds h = grind (arith, not_in_digits, decimal_model)

pub sign_numeral : (z : ℤ) (ds : List ℕ) → IsNumeral 10 ds → IsNumeral 10 (unsigned_part (sign_text (is_negative z) ++ ds))
sign_numeral (pos n) ds h = grind (arith, numeral_without_minus)
sign_numeral (negsuc n) ds h = h

pub sign_spelled : (z : ℤ) (ds : List ℕ) → IsNumeral 10 ds × (digits_value 10 ds ≡ unsigned_abs z) → SpellsWhole (sign_text (is_negative z) ++ ds) z
sign_spelled (pos n) ds h = grind (arith, numeral_without_minus)
sign_spelled (negsuc n) ds h = record { digits = h.0; value = rw h.1 refl }

number_spelled : (z : ℤ) → FitsSigned w64 z → SpellsWhole (signed_decimal z) z
number_spelled (pos n) fits =
    let h = decimal_is_IsNumeral n (let low = fits.sfits in omega arith) in
    let bare = numeral_without_minus (decimal n) h.0 in
    record { digits = rw bare h.0; value = rw bare (ap pos (sym h.1)) }
number_spelled (negsuc n) fits = sign_spelled (negsuc n) _ (decimal_is_IsNumeral (suc n) (let low = fits.sfits in omega arith))

-- the string of a fraction writes it
pub text_spelled : (x : Ratio) → FitsSigned w64 (num_of x) → FitsSigned w64 (den_of x) → SpellsFraction (text_of x) (num_of x) (den_of x)
text_spelled x num_fits den_fits =
    let text = signed_decimal (num_of x) in
    let num = number_spelled (num_of x) num_fits in
    let den = number_spelled (den_of x) den_fits in
    let one : SpellsWhole (codes "1") (pos 1) = record { digits = search rules; value = refl } in
    elim (cases_Bool (int_eq (den_of x) (pos 1))) [
      | inl whole ↦
          let is_one : den_of x ≡ pos 1 = (Decides-int_eq (den_of x) (pos 1)).0 whole in
          rw whole (record { num = text; den = codes "1"; parts = inr (refl, refl); num_spelled = num; den_spelled = rw is_one one })
      | inr other ↦
          rw other (record { num = text; den = signed_decimal (den_of x); parts = inl refl; num_spelled = num; den_spelled = den })
    ]

-- and is read as that fraction
pub printed_is_read : TextIsReadBack
printed_is_read x r num_fits den_fits h =
    let spelled = h.answer (num_of x) (den_of x) (text_spelled x num_fits den_fits) in
    let given = spelled.answer (λ long. omega (arith, part_size (num_of x) num_fits, part_size (den_of x) den_fits)) in
    given.1 ∙ ap answer_read (only_answer _ _ given.0 (Ok x) given.2 (exact_answer x (reduced_is_exact x.reduced) num_fits den_fits))

-- ---- results that cannot differ are the same

pub same_number : (a b : ℤ) → ¬ (¬ (a ≡ b)) → a ≡ b
same_number a b h = grind linear

same_error : (e f : ParseRatioError) → ¬ (¬ (e ≡ f)) → e ≡ f
same_error NotAFraction NotAFraction h = refl
same_error TooLong TooLong h = refl
same_error ZeroDenominator ZeroDenominator h = refl
same_error NotFitting NotFitting h = refl
same_error _ _ h = absurd (h (λ e. absurd cc))

pub same_result : {A E : Type 0} → ((x y : A) → ¬ (¬ (x ≡ y)) → x ≡ y) → ((e f : E) → ¬ (¬ (e ≡ f)) → e ≡ f) → (r s : Result A E) → ¬ (¬ (r ≡ s))
    → r ≡ s
same_result values errors (Ok x) (Ok y) h = ap Ok (values x y (λ other. h (λ same. let one : x ≡ y = cc in other one)))
same_result values errors (Err e) (Err f) h = ap Err (errors e f (λ other. h (λ same. let one : e ≡ f = cc in other one)))
same_result values errors _ _ h = absurd (h (λ same. absurd cc))

same_fraction : (x y : Ratio) → ¬ (¬ (x ≡ y)) → x ≡ y
same_fraction x y h =
    only_of_parts x y (same_number _ _ (λ other. h (λ e. other (ap num_of e)))) (same_number _ _ (λ other. h (λ e. other (ap den_of e))))

-- ---- a string has one result

-- that of the fraction that it writes
only_spelled : {a b : ℤ} {r s : Result Ratio ParseRatioError} → AnswersSpelled a b r → AnswersSpelled a b s → r ≡ s
only_spelled {a} {b} h k =
    let long_or_short : HasLongPart a b ⊎ ¬ (HasLongPart a b) = grind arith in
    elim long_or_short [
      | inl long ↦ h.too_long.1 long ∙ sym (k.too_long.1 long)
      | inr short ↦
          let own = h.answer short in
          let other = k.answer short in
          own.1 ∙ ap answer_read (only_answer a b own.0 other.0 own.2 other.2) ∙ sym other.1
    ]

-- or `NotAFraction`, since two results can differ for no other reason
pub only_reading : ReadingIsOnly
only_reading text r s h k = same_result same_fraction same_error r s (λ other.
    let none : (a b : ℤ) → ¬ (SpellsFraction text a b) = λ a b spelled. other (only_spelled (h.answer a b spelled) (k.answer a b spelled)) in
    other (h.not_a_fraction.1 none ∙ sym (k.not_a_fraction.1 none)))

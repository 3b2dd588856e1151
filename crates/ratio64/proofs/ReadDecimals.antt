-- The strings of decimal numbers, cut at the point, and what they are read as.
use Rattle.ratio64.proofs.Common.{◌≡◌, ◌≢◌, ◌≤◌, ◌<◌, ◌+◌, ◌-◌, ◌*◌, ◌^◌, ◌*ℤ◌, ◌++◌, ◌==◌, ℕ, suc, zero, ℤ, List, [], ◌∷◌, true, false, length, take, drop, pos, neg_ℤ, unsigned_abs, AllDigits, IsNumeral, digit_value, digits_value, starts_with_minus, Bor, Option, Some, None, Result, Ok, Err, arith, ap, inl, inr, refl, subst, sym, ◌∙◌, cases_Bool, length-append, append-nil, nil_from_length, pow-succ', cancel, comm, linear, neg_mul, append_assoc, cases_lt, le_refl, mul-le-mul, mul-le-mul_left, to_z, of_z, w128, unsigned_abs-mul, positive_is_nonzero, IsSplitOnceResult, split_after, split_parts, SpellsDecimal, places_of, units_of, unsigned_part, whole_of}
use Rattle.ratio64.proofs.DecimalTexts.{ten_grows, ten_up}
use Rattle.ratio64.proofs.WideSums.{read}
use Rattle.ratio64.proofs.ReadTexts.{no_mark, no_mark_inside, numeral_without_minus}
use Rattle.ratio64.proofs.SpelledDecimals.{alone, only_spelled_decimal}
use Rattle.ratio64.specs.Decimal.{point}
use Rattle.ratio64.specs.DecimalText.{AnswersDecimal, AreKept, AreParts, ReadsDecimal}
use Rattle.ratio64.specs.declared.decimal.Decimal.{Decimal}
use Rattle.ratio64.specs.declared.decimal.reading.ParseDecimalError.{ParseDecimalError}
use Rattle.ratio64.specs.declared.decimal.reading.ParseDecimalError.TheVariants.{NotADecimal, TooManyPlaces, NotFitting}
use Rattle.std.proofs.lemmas.Int.Digits.{digits_value-lt}
use Rattle.std.proofs.lemmas.List.{length-drop, length-take, take-append-drop}
use Rattle.num_integer.proofs.ForCallers.{decimal_model}
use Rattle.std.proofs.lemmas.List.{drop_all}
use Rattle.std.proofs.lemmas.Str.Parse.{digit_at, parse_digits}
use Rattle.std.specs.Result.{OkIff, result_unwrap_or}
use Rattle.std.specs.Str.{IsCharBoundary}
use Rattle.std.specs.Str.Parse.{ParsesUnsigned, digits_value_after}
use Rattle.std.specs.Prelude.{Bool, if◌then◌else◌, min}

-- ---- digits after digits

shifted : (n d t v w u : ℕ) → w ≡ (0 * 10 + d) * t + v → u ≡ 10 * t → (n * 10 + d) * t + v ≡ n * u + w
shifted n d t v w u e f = rw (e, f) (omega arith)

digits_after : (n : ℕ) (ds : List ℕ) → digits_value_after 10 n ds ≡ n * 10 ^ length ds + digits_value 10 ds
digits_after n [] = omega arith
digits_after n (c ∷ cs) =
    let value : digits_value 10 (c ∷ cs) ≡ (0 * 10 + digit_value c) * 10 ^ length cs + digits_value 10 cs =
    digits_after (0 * 10 + digit_value c) cs in
    let up : 10 ^ length (c ∷ cs) ≡ 10 * 10 ^ length cs = pow-succ' 10 (length cs) in
    digits_after (n * 10 + digit_value c) cs ∙ shifted n (digit_value c) (10 ^ length cs) (digits_value 10 cs) _ _ value up

after_append : (n : ℕ) (xs ys : List ℕ) → digits_value_after 10 n (xs ++ ys) ≡ digits_value_after 10 (digits_value_after 10 n xs) ys
after_append n [] ys = refl
after_append n (x ∷ xs) ys = after_append (n * 10 + digit_value x) xs ys

pub digits_joined : (xs ys : List ℕ) → digits_value 10 (xs ++ ys) ≡ digits_value 10 xs * 10 ^ length ys + digits_value 10 ys
digits_joined xs ys = after_append 0 xs ys ∙ digits_after (digits_value 10 xs) ys

pub all_digits_joined : (xs ys : List ℕ) → AllDigits 10 xs → AllDigits 10 ys → AllDigits 10 (xs ++ ys)
all_digits_joined [] ys h k = k
all_digits_joined (x ∷ xs) ys h k = (h.0, all_digits_joined xs ys h.1 k)

all_digits_behind : (xs ys : List ℕ) → AllDigits 10 (xs ++ ys) → AllDigits 10 ys
all_digits_behind [] ys h = h
all_digits_behind (x ∷ xs) ys h = all_digits_behind xs ys h.1

pub all_digits_dropped : (k : ℕ) (ds : List ℕ) → AllDigits 10 ds → AllDigits 10 (drop k ds)
all_digits_dropped zero ds h = h
all_digits_dropped (suc k) [] h = h
all_digits_dropped (suc k) (c ∷ cs) h = all_digits_dropped k cs h.1

pub all_digits_taken : (k : ℕ) (ds : List ℕ) → AllDigits 10 ds → AllDigits 10 (take k ds)
all_digits_taken zero ds h = tt
all_digits_taken (suc k) [] h = h
all_digits_taken (suc k) (c ∷ cs) h = (h.0, all_digits_taken k cs h.1)

-- ---- digits that `parse` reads

pub plain_digits : (ds : List ℕ) → starts_with_minus ds ≡ false → unsigned_part ds ≡ ds
plain_digits ds plain = rw plain refl

-- for `grind`: a string without a minus is a numeral exactly if it is an integer
pub ruleset tells_numeral = (numeral_without_minus, plain_digits)

module _ {E : Type 0} (ds : List ℕ) (digits : AllDigits 10 ds) where
  parsed : (r : Result ℕ E) → ParsesUnsigned 64 10 ds r → OkIff r ((0 < length ds) × (digits_value 10 ds < 2 ^ 64)) (digits_value 10 ds)
  parsed r h = parse_digits decimal_model 64 ds r h (decimal_model.from ds digits)

  pub few_digits : length ds ≤ 18 → (r : Result ℕ E) → ParsesUnsigned 64 10 ds r → result_unwrap_or r 0 ≡ digits_value 10 ds
  few_digits few (Ok n) h = (parsed (Ok n) h).1
  few_digits few (Err e) h =
      let small = digits_value-lt 10 ds digits in
      let most = ten_grows (length ds) 18 few in
      elim (cases_lt 0 (length ds)) [
        | inl some ↦ absurd (parsed (Err e) h (some, omega arith))
        | inr none ↦ sym (ap (digits_value 10) (nil_from_length ds (omega arith)))
      ]

-- ---- the first 18 digits

pub short_kept : (ds : List ℕ) → length ds ≤ 18 → (ds ≡ take 18 ds) × (digits_value 10 (drop 18 ds) ≡ 0)
short_kept ds few =
    let none = drop_all 18 ds few in
    (sym (take-append-drop 18 ds) ∙ ap (λ es. take 18 ds ++ es) none ∙ append-nil (take 18 ds), ap (digits_value 10) none)

pub long_cut : (ds : List ℕ) → AllDigits 10 ds → 18 < length ds → IsCharBoundary ds 18
long_cut ds digits long = (omega arith, λ inside high. let here = digit_at ds 18 digits inside in absurd (omega (arith, here, high)))

pub dropped_numeral : (ds : List ℕ) → AllDigits 10 ds → 18 < length ds → IsNumeral 10 (drop 18 ds)
dropped_numeral ds digits long = (omega (arith, length-drop 18 ds), all_digits_dropped 18 ds digits)

pub length_kept : (ds : List ℕ) → length (take 18 ds) ≤ 18
length_kept ds = omega (arith, length-take 18 ds)

-- ---- an integer and digits behind it

pub front_kept : (w ds : List ℕ) → IsNumeral 10 (unsigned_part w)
    → (starts_with_minus (w ++ ds) ≡ starts_with_minus w) × (unsigned_part (w ++ ds) ≡ unsigned_part w ++ ds)
front_kept [] ds h = absurd (omega (arith, h.0))
front_kept (c ∷ cs) ds h = elim (cases_Bool (c == 45)) [
  | inl minus ↦ rw minus (refl, refl)
  | inr plain ↦ rw plain (refl, refl)
]

-- ---- the cut at the point

parts_spelled : {text w q : List ℕ} → text ≡ w ++ point (length q) ++ q → IsNumeral 10 (unsigned_part w) → AllDigits 10 q → AreParts text w q
parts_spelled {text} {w} {q} e whole part =
    let kept = front_kept w q whole in
    let long = length-append (unsigned_part w) q in
    let digits : IsNumeral 10 (unsigned_part (w ++ q)) = rw kept.1 (omega (arith, whole.0, long), all_digits_joined _ q whole.1 part) in
    record {
      whole_digits = whole;
      part_digits = part;
      spelled = record {
        whole = w;
        part = q;
        parts = e;
        part_places = refl;
        whole_digits = whole;
        spelled = record { digits = digits; value = refl };
      };
    }

spelled_part : {text : List ℕ} {u : ℤ} {p : ℕ} (s : SpellsDecimal text u p) → AllDigits 10 s.part
spelled_part s =
    let kept = front_kept s.whole s.part s.whole_digits in
    let all : IsNumeral 10 (unsigned_part s.whole ++ s.part) = rw kept.1 at s.spelled.digits in
    all_digits_behind (unsigned_part s.whole) s.part all.1

-- where the point stands in a string that spells a decimal number, if it has one
at_point : {text : List ℕ} {u : ℤ} {p : ℕ} (s : SpellsDecimal text u p) → (p == 0) ≡ false → (text ≡ s.whole ++ (46 ∷ s.part)) × (0 < length s.part)
at_point s some = (rw some at s.parts ∙ append_assoc s.whole _ _, grind (arith, s.part_places))

pub alone_unspelled : (text : List ℕ) (r : Option (Bor (List ℕ) × Bor (List ℕ))) → r ≡ None → IsSplitOnceResult 46 text r
    → ¬ (IsNumeral 10 (unsigned_part text)) → (u : ℤ) (p : ℕ) → ¬ (SpellsDecimal text u p)
alone_unspelled text r none h other u p s = elim (cases_Bool (p == 0)) [
  | inl whole ↦ other (subst (λ ds. IsNumeral 10 (unsigned_part ds)) (sym (alone s whole).0) s.whole_digits)
  | inr some ↦ split_after 46 text s.whole s.part None (subst (IsSplitOnceResult 46 text) none h) (omega arith) (at_point s some).0 (no_mark 46 s.whole (omega arith) s.whole_digits)
]

module _ {text : List ℕ} (x : Bor (List ℕ) × Bor (List ℕ)) (h : IsSplitOnceResult 46 text (Some x)) where
  pub cut_spelled : IsNumeral 10 (unsigned_part x.0.now) → IsNumeral 10 x.1.now → AreParts text x.0.now x.1.now
  cut_spelled whole part =
      let some : (length x.1.now == 0) ≡ false = grind (arith, part.0) in
      let cut = (split_parts 46 text (Some x) h (omega arith)).0 in
      parts_spelled (rw some (cut ∙ sym (append_assoc x.0.now (46 ∷ []) x.1.now))) whole part.1

  pub cut_unspelled : ¬ (IsNumeral 10 (unsigned_part x.0.now) × IsNumeral 10 x.1.now) → (u : ℤ) (p : ℕ) → ¬ (SpellsDecimal text u p)
  cut_unspelled other u p s = elim (cases_Bool (p == 0)) [
    | inl whole ↦ no_mark_inside 46 text (omega arith) (subst (λ ds. IsNumeral 10 (unsigned_part ds)) (sym (alone s whole).0) s.whole_digits) x.0.now x.1.now (split_parts 46 text (Some x) h (omega arith)).0
    | inr some ↦
        let at = at_point s some in
        let same = split_after 46 text s.whole s.part (Some x) h (omega arith) at.0 (no_mark 46 s.whole (omega arith) s.whole_digits) in
        other (subst (λ ds. IsNumeral 10 (unsigned_part ds)) (sym same.0) s.whole_digits, subst (IsNumeral 10) (sym same.1) (at.1, spelled_part s))
  ]

-- ---- the number that is kept

-- the number with a minus if there is one
abbrev pub signed : Bool → ℕ → ℤ
signed b n = if b then neg_ℤ (pos n) else pos n

signed_times : (b : Bool) (n t : ℕ) → signed b n *ℤ pos t ≡ signed b (n * t)
signed_times true n t = neg_mul (pos n) (pos t)
signed_times false n t = refl

pub signed_size : (b : Bool) (n : ℕ) → unsigned_abs (signed b n) ≡ n
signed_size true zero = refl
signed_size true (suc n) = refl
signed_size false n = refl

not_multiple : (k a t v : ℕ) → 0 < v → v < t → k * t ≢ a * t + v
not_multiple k a t v some small e = elim (cases_lt a k) [
  | inl more ↦ let h : suc a * t ≤ k * t = mul-le-mul (omega arith) (le_refl t) in omega arith
  | inr less ↦ let h : k * t ≤ a * t = mul-le-mul less (le_refl t) in omega arith
]

pub only_kept : {u k l : ℤ} {p : ℕ} → AreKept u p k → AreKept u p l → k ≡ l
only_kept {k = k} {l = l} {p = p} x y =
    let up = ten_up (p - 18) in
    let scale = pos (10 ^ (p - 18)) in
    cancel scale k l (positive_is_nonzero (omega linear)) (comm scale k ∙ x.product ∙ sym y.product ∙ comm l scale)

module _ (w part : List ℕ) (whole : IsNumeral 10 (unsigned_part w)) (digits : AllDigits 10 part) where
  -- the integer whose digits stand before and after the point
  whole_joined : (ds : List ℕ) → whole_of (w ++ ds) ≡ signed (starts_with_minus w) (digits_value 10 (unsigned_part w ++ ds))
  whole_joined ds =
      let kept = front_kept w ds whole in
      ap (λ (b : Bool). signed b (digits_value 10 (unsigned_part (w ++ ds)))) kept.0 ∙ ap (λ (es : List ℕ). signed (starts_with_minus w) (digits_value 10 es)) kept.1

  pub joined_size : (ds : List ℕ) → unsigned_abs (whole_of (w ++ ds)) ≡ digits_value 10 (unsigned_part w ++ ds)
  joined_size ds = rw (whole_joined ds) (signed_size (starts_with_minus w) _)

  in_two : digits_value 10 (unsigned_part w ++ part) ≡ digits_value 10 (unsigned_part w ++ take 18 part) * 10 ^ (length part - 18) + digits_value 10 (drop 18 part)
  in_two =
      let cut = sym (take-append-drop 18 part) in
      let all : unsigned_part w ++ part ≡ (unsigned_part w ++ take 18 part) ++ drop 18 part =
      ap (λ ds. unsigned_part w ++ ds) cut ∙ sym (append_assoc (unsigned_part w) (take 18 part) (drop 18 part)) in
      rw (all, ← (length-drop 18 part)) (digits_joined (unsigned_part w ++ take 18 part) (drop 18 part))

  pub own_kept : digits_value 10 (drop 18 part) ≡ 0 → AreKept (whole_of (w ++ part)) (length part) (whole_of (w ++ take 18 part))
  own_kept none =
      let same : digits_value 10 (unsigned_part w ++ take 18 part) * 10 ^ (length part - 18) ≡ digits_value 10 (unsigned_part w ++ part) =
      omega (arith, in_two) in
      record { product = rw (whole_joined part, whole_joined (take 18 part)) (signed_times (starts_with_minus w) _ _ ∙ ap (signed (starts_with_minus w)) same) }

  pub none_kept : 0 < digits_value 10 (drop 18 part) → (k : ℤ) → ¬ (AreKept (whole_of (w ++ part)) (length part) k)
  none_kept some k h =
      let sizes : unsigned_abs k * 10 ^ (length part - 18) ≡ digits_value 10 (unsigned_part w ++ part) =
      sym (unsigned_abs-mul k (pos (10 ^ (length part - 18)))) ∙ ap unsigned_abs h.product ∙ joined_size part in
      let small = digits_value-lt 10 (drop 18 part) (all_digits_dropped 18 part digits) in
      not_multiple (unsigned_abs k) (digits_value 10 (unsigned_part w ++ take 18 part)) (10 ^ (length part - 18)) (digits_value 10 (drop 18 part)) some (rw (length-drop 18 part) at small) (sizes ∙ in_two)

  -- the units as `i128` computes them
  pub kept_units : {r size : ℤ} → digits_value 10 (unsigned_part w ++ take 18 part) < 2 ^ 127
      → size ≡ pos (digits_value 10 (unsigned_part w ++ take 18 part))
      → r ≡ (if starts_with_minus w then neg_ℤ (to_z w128 (of_z w128 size)) else to_z w128 (of_z w128 size))
      → (to_z w128 (of_z w128 r) ≡ whole_of (w ++ take 18 part)) × (unsigned_abs (to_z w128 (of_z w128 r)) < 2 ^ 127)
  kept_units {r} {size} small e f =
      let size_read : to_z w128 (of_z w128 size) ≡ pos (digits_value 10 (unsigned_part w ++ take 18 part)) = read size (rw e small) ∙ e in
      let own : r ≡ whole_of (w ++ take 18 part) = f ∙ rw size_read (sym (whole_joined (take 18 part))) in
      let below : unsigned_abs r < 2 ^ 127 = rw (own, joined_size (take 18 part)) small in
      (read r below ∙ own, rw (read r below) below)

pub places_kept : (ds : List ℕ) → length (take 18 ds) ≡ min (length ds) 18
places_kept ds = omega (arith, length-take 18 ds)

-- the digits before the point write at most what all digits write
pub whole_at_most : (xs ys : List ℕ) → digits_value 10 xs ≤ digits_value 10 (xs ++ ys)
whole_at_most xs ys =
    let h : digits_value 10 xs * 1 ≤ digits_value 10 xs * 10 ^ length ys = mul-le-mul_left (digits_value 10 xs) (ten_up (length ys)) in
    omega (arith, h, digits_joined xs ys)

pub whole_size_is : (w : List ℕ) → unsigned_abs (whole_of w) ≡ digits_value 10 (unsigned_part w)
whole_size_is w = signed_size (starts_with_minus w) (digits_value 10 (unsigned_part w))

-- ---- what the string is read as

pub too_many_answer : {u : ℤ} {p : ℕ} → ((k : ℤ) → ¬ (AreKept u p k)) → AnswersDecimal u p (Err TooManyPlaces)
too_many_answer none =
    record { number = tt; too_many_places = (λ e. none, λ h. refl); not_fitting = (λ e. absurd cc, λ big. absurd (none big.0 big.1)) }

pub not_fitting_answer : {u : ℤ} {p : ℕ} (k : ℤ) → AreKept u p k → 2 ^ 127 ≤ unsigned_abs k → AnswersDecimal u p (Err NotFitting)
not_fitting_answer k h big =
    record { number = tt; too_many_places = (λ e. absurd cc, λ none. absurd (none k h)); not_fitting = (λ e. (k, h, big), λ more. refl) }

pub number_answer : {u : ℤ} {p : ℕ} (x : Decimal) → AreKept u p (units_of x) → places_of x ≡ min p 18 → AnswersDecimal u p (Ok x)
number_answer x h places = record {
  number = (h, places);
  too_many_places = (λ e. absurd cc, λ none. absurd (none (units_of x) h));
  not_fitting = (λ e. absurd cc, λ big. let same = only_kept big.1 h in let small = x.below in absurd (omega (arith, ap unsigned_abs same, big.2)));
}

pub parts_read : {text w part : List ℕ} {result : Result Decimal ParseDecimalError} → AreParts text w part
    → AnswersDecimal (whole_of (w ++ part)) (length part) result → result ≢ Err NotADecimal → ReadsDecimal text result
parts_read {text} {w} {part} {result} own answer spelled = record {
  not_a_decimal = (λ e. absurd (spelled e), λ none. absurd (none _ _ own.spelled));
  answer = λ u p s.
      let same = only_spelled_decimal text u p s (whole_of (w ++ part), length part) own.spelled in
      subst (λ (t : ℤ × ℕ). AnswersDecimal t.0 t.1 result) same answer;
}

pub other_read : {text : List ℕ} → ((u : ℤ) (p : ℕ) → ¬ (SpellsDecimal text u p)) → ReadsDecimal text (Err NotADecimal)
other_read none = record { not_a_decimal = (λ e. none, λ h. refl); answer = λ u p s. absurd (none u p s) }

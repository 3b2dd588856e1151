-- Results that exist, and numbers that fit an `i64` or lie beyond it.
use Rattle.std.specs.Result.{OkIff, result_ok}
use Rattle.std.proofs.Math.Nat.{mul-le-mul}
use Rattle.calendar.proofs.Common.{◌<◌, ◌^◌, ◌+ℤ◌, ◌*ℤ◌, unsigned_abs, w128, arith, ◌≡◌, ℤ, FitsSigned, MatchOption, Option, Result, Ok, Err, Some, None, w64, SomeIff, refl, subst, sym, IsSome}

-- A result is there if something meets its condition.
pub is_found : {A : Type 0} (P : A → Type 0) (o : Option A) → (x : A) × P x → MatchOption o ((x : A) → ¬ (P x)) P → IsSome o
is_found P None (x, holds) none = absurd (none x holds)
is_found P (Some found) exists is = refl

-- a product of a small number and one of 64 bits fits 128 bits, and so does its sum with another
pub fits_wide : (size count more : ℤ) → unsigned_abs size < 2 ^ 18 → FitsSigned w64 size → FitsSigned w64 count → FitsSigned w64 more
    → FitsSigned w128 (size *ℤ count +ℤ more) × FitsSigned w128 (size *ℤ count) × FitsSigned w128 size × FitsSigned w128 count × FitsSigned w128 more
fits_wide size count more small size_fits count_fits more_fits = grind (arith, mul-le-mul)

-- a number that is the only one, if it fits, and else no number that fits
pub only_or_beyond : (P : ℤ → Type 0) (o : Option ℤ) {found : ℤ} → ((a b : ℤ) → P a → P b → a ≡ b) → SomeIff o (FitsSigned w64 found) found → P found
    → MatchOption o ((z : ℤ) → P z → ¬ (FitsSigned w64 z)) P
only_or_beyond P None {found} only beyond h = λ z k fits. beyond (subst (λ (x : ℤ). FitsSigned w64 x) (only z found k h) fits)
only_or_beyond P (Some x) only fits h = subst P (sym fits.1) h

-- a number, if it fits, and else one that does not
pub found_or_beyond : (P : ℤ → Type 0) (o : Option ℤ) {found : ℤ} → MatchOption o (¬ (FitsSigned w64 found)) (λ x. FitsSigned w64 found × (x ≡ found))
    → P found → MatchOption o ((z : ℤ) × P z × ¬ (FitsSigned w64 z)) P
found_or_beyond P None {found} beyond h = (found, h, beyond)
found_or_beyond P (Some x) fits h = subst P (sym fits.1) h

-- the same number, if it fits
pub same_some : (o : Option ℤ) {x y : ℤ} → y ≡ x → SomeIff o (FitsSigned w64 x) x → SomeIff o (FitsSigned w64 y) y
same_some o same h = rw same h

-- the value of a conversion that succeeds if it fits
pub some_from_ok : {A E : Type 0} (P : Type 0) (x : A) (r : Result A E) {o : Option A} → OkIff r P x → o ≡ result_ok r → SomeIff o P x
some_from_ok P x (Ok n) h e = rw e h
some_from_ok P x (Err d) h e = rw e h

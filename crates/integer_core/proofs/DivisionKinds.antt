-- What the three kinds of division share.
use Rattle.integer_core.proofs.Common.{◌≡◌, ℤ, pos, inl, refl, EachKind, IsCeiled, IsDivision, IsFloored, IsOnly, IsTruncated}
use Rattle.integer_core.proofs.Quotients.{only_ceiled, only_floored, only_truncated}

-- a kind has one quotient and remainder at most, and each division without a remainder
pub record IsKind (Kind : ℤ → ℤ → ℤ → ℤ → Type 0) : Type 0 where
  pub division : {n d q r : ℤ} → Kind n d q r → IsDivision n d q r
  pub only : {n d q r p s : ℤ} → Kind n d q r → Kind n d p s → (q ≡ p) × (r ≡ s)
  pub exact : {n d q : ℤ} → IsDivision n d q (pos 0) → Kind n d q (pos 0)

pub truncated : IsKind IsTruncated
truncated = record { division = λ h. h.division; only = only_truncated; exact = λ h. record { division = h; sign = inl refl } }

pub floored : IsKind IsFloored
floored = record { division = λ h. h.division; only = only_floored; exact = λ h. record { division = h; sign = inl refl } }

pub ceiled : IsKind IsCeiled
ceiled = record { division = λ h. h.division; only = only_ceiled; exact = λ h. record { division = h; sign = inl refl } }

pub each_kind : {P : (ℤ → ℤ → ℤ → ℤ → Type 0) → Type 0} → ((Kind : ℤ → ℤ → ℤ → ℤ → Type 0) → IsKind Kind → P Kind) → EachKind P
each_kind each = (each IsTruncated truncated, each IsFloored floored, each IsCeiled ceiled)

-- of each kind, the pair of a quotient and its remainder is the only one
pub division_is_only : EachKind (λ Kind. (n d q r : ℤ) → Kind n d q r → IsOnly (λ (p, s). Kind n d p s) (q, r))
division_is_only =
    each_kind {P = λ Kind. (n d q r : ℤ) → Kind n d q r → IsOnly (λ (p, s). Kind n d p s) (q, r)}
    (λ Kind kind n d q r h. λ (p, s) other. let same = kind.only other h in rw (same.0, same.1) refl)

-- The runs of a loop: its invariant on them, and that each is the only one from its first state.
use Rattle.integer_core.proofs.Common.{◌≡◌, ◌+◌, ◌∷◌, ℕ, List, [], length, refl, subst, arith, IsOnly, IsRun, RunHasIterations}

-- n iterations lead from the first state to s: whatever makes m iterations from s makes n more from the first
pub record Reaches {S : Type 0} (iteration : S → S → Type 0) (ends : S → Type 0) (first s : S) (n : ℕ) : Type 0 where
  pub onward : (m k : ℕ) → k ≡ n + m → RunHasIterations iteration ends s m → RunHasIterations iteration ends first k

module _ {S : Type 0} {iteration : S → S → Type 0} {ends : S → Type 0} where
  pub reaches_first : {first : S} → Reaches iteration ends first first 0
  reaches_first = grind arith

  pub reaches_iteration : {first s t : S} {n : ℕ} → Reaches iteration ends first s n → iteration s t → Reaches iteration ends first t (n + 1)
  reaches_iteration {t = t} h iterations_to = record {
    onward = λ m k e i. h.onward (m + 1) k (omega arith) (record { rest = t ∷ i.rest; run = (iterations_to, i.run); iterations = omega (arith, i.iterations) });
  }

  -- a second state reached that each run from s can begin with instead
  pub reaches_instead : {first s t : S} {n : ℕ} → Reaches iteration ends first s n → ((m : ℕ) → RunHasIterations iteration ends t m → RunHasIterations iteration ends s m)
      → Reaches iteration ends first t n
  reaches_instead h instead = record { onward = λ m k e i. h.onward m k e (instead m i) }

  pub reaches_last : {first s : S} {n : ℕ} → Reaches iteration ends first s n → ends s → RunHasIterations iteration ends first n
  reaches_last {n = n} h is_end = h.onward 0 n (omega arith) (record { rest = []; run = is_end; iterations = refl })

  -- if each state has at most one iteration, and an end has no iteration, every run from a state has the same number of iterations
  module _ (one_iteration : (s t : S) → iteration s t → IsOnly (iteration s) t) (no_iteration : (s t : S) → ends s → ¬ (iteration s t)) where
    one_length : (s : S) (xs ys : List S) → IsRun iteration ends (s ∷ xs) → IsRun iteration ends (s ∷ ys) → length xs ≡ length ys
    one_length s [] [] h i = refl
    one_length s [] (u ∷ ys) h i = absurd (no_iteration s u h i.0)
    one_length s (t ∷ xs) [] h i = absurd (no_iteration s t i h.0)
    one_length s (t ∷ xs) (u ∷ ys) h i =
        omega (arith, one_length t xs ys h.1 (subst (λ (v : S). IsRun iteration ends (v ∷ ys)) (one_iteration s t h.0 u i.0) i.1))

    pub only_iterations : {first : S} {n : ℕ} → RunHasIterations iteration ends first n → IsOnly (RunHasIterations iteration ends first) n
    only_iterations {first} h m i = omega (arith, one_length first h.rest i.rest h.run i.run, h.iterations, i.iterations)

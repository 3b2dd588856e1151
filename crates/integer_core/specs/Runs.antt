-- The runs of a loop: lists of states, each of which follows from the one before by one iteration of the loop.
use Rattle.std.specs.Prelude.{◌≡◌, ℕ, List, [], ◌∷◌, length}

-- Each state follows from the one before by an iteration, and the loop ends at the last.
-- Examples: of Euclid's loop from 46 and 240: five states; from 4 and 12: one state; the empty list is no run.
abbrev pub IsRun : {S : Type 0} → (S → S → Type 0) → (S → Type 0) → List S → Type 0
IsRun iteration ends [] = ⊥
IsRun iteration ends (s ∷ []) = ends s
IsRun iteration ends (s ∷ (t ∷ rest)) = iteration s t × IsRun iteration ends (t ∷ rest)

-- The run that begins with the first state has n iterations, one fewer than it has states.
-- Examples: from 46 and 240: 4; from 4 and 12: 0; from 13 and 8: 5.
pub record RunHasIterations {S : Type 0} (iteration : S → S → Type 0) (ends : S → Type 0) (first : S) (n : ℕ) : Type 0 where
  pub rest : List S
  pub run : IsRun iteration ends (first ∷ rest)
  pub iterations : length rest ≡ n

-- What is written in a row, and what is written into a formatter.
use Rattle.std.proofs.Common.{subst, ◌≡◌, ◌++◌, ℕ, List, Result, OnOk}
use Rattle.std.proofs.Output.{writes_in_calls_append}
use Rattle.std.proofs.lemmas.Result.{on_ok_weaker}
use Rattle.std.specs.Fmt.{HasWritten, IsPlainFormatter, WritesInCalls}
use Rattle.std.specs.declared.fmt.Formatter.{Formatter}

module _ {W : Type 0} (took : W → List ℕ → W → Type 0) where
  -- a text, and then another if the second write succeeds
  pub then_written : {A E : Type 0} (r : Result A E) (w : W) (a : List ℕ) (v : W) (b : List ℕ) (u : W) → WritesInCalls took w a v → OnOk r (WritesInCalls took v b u) → OnOk r (WritesInCalls took w (a ++ b) u)
  then_written r w a v b u first = on_ok_weaker r (writes_in_calls_append took w a v b u first)

  -- the same text in another form
  pub same_written : {A E : Type 0} (r : Result A E) (w : W) (a b : List ℕ) (v : W) → a ≡ b → OnOk r (WritesInCalls took w a v) → OnOk r (WritesInCalls took w b v)
  same_written r w a b v e = subst (λ (t : List ℕ). OnOk r (WritesInCalls took w t v)) e

  -- what one write into a formatter does
  abbrev pub FormatterTook : Formatter W → List ℕ → Formatter W → Type 0
  FormatterTook f bs g = IsPlainFormatter f → HasWritten took f bs g

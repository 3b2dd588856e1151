-- The line and the status for a list of words.
use Rattle.std.specs.Prelude.{◌≡◌, ℕ, ℤ, List, ◌++◌, codes, Option, Some, None, Result, Ok, Err, true, false}
use Rattle.std.specs.Fmt.{decimal, signed_decimal}
use Rattle.std.specs.Io.KnownBytes.{Appends}
use Rattle.intcalc_core.specs.declared.calls.Kind.{Kind}
use Rattle.intcalc_core.specs.declared.calls.Call.{Call}
use Rattle.intcalc_core.specs.declared.calls.Answer.{Answer}
use Rattle.intcalc_core.specs.declared.calls.Answer.TheVariants.{One, Two, Three, Truth}
use Rattle.intcalc_core.specs.declared.calls.Refusal.{Refusal}
use Rattle.intcalc_core.specs.Refusal.{number_of, name_of}
use Rattle.intcalc_core.specs.Outcome.{Outcome}
use Rattle.intcalc_core.specs.Words.{IsRequest}

-- A number after the first is written after a space.
-- Examples: 3: ` 3`; -1: ` -1`; 0: ` 0`.
abbrev pub next_number : ℤ → List ℕ
next_number n = codes " " ++ signed_decimal n

-- An answer is printed as its numbers in decimal, with one space between them, or as `true` or `false`.
-- Examples: `One(3)`: `3`; `Two(-3, 1)`: `-3 1`; `Truth(true)`: `true`.
abbrev pub text_of_answer : Answer → List ℕ
text_of_answer (One a) = signed_decimal a
text_of_answer (Two a b) = signed_decimal a ++ next_number b
text_of_answer (Three a b c) = signed_decimal a ++ next_number b ++ next_number c
text_of_answer (Truth true) = codes "true"
text_of_answer (Truth false) = codes "false"

-- A refusal is printed as `refused`, its number and its name.
-- Examples: `refused 1 OutOfType`; `refused 2 ZeroDivisor`; `refused 7 NoPair`.
abbrev pub text_of_refusal : Refusal → List ℕ
text_of_refusal refusal =
    codes "refused " ++ decimal (number_of refusal) ++ codes " " ++ name_of refusal

-- A result is printed as its answer or its refusal.
-- Examples: 3: `3`; -3 and 1: `-3 1`; ZeroDivisor: `refused 2 ZeroDivisor`.
abbrev pub text_of : Result Answer Refusal → List ℕ
text_of (Ok answer) = text_of_answer answer
text_of (Err refusal) = text_of_refusal refusal

-- The status is 0 for an answer, and 1 for a refusal.
-- Examples: 3: 0; -3 and 1: 0; ZeroDivisor: 1.
abbrev pub status_of : Result Answer Refusal → ℕ
status_of (Ok answer) = 0
status_of (Err refusal) = 1

-- The reply to a request is the printed result and its status, and to no request it is `usage` and 2.
-- Examples: `i64 div_mod_floor -8 3`: `-3 1`, 0; `i64 div_floor 1 0`: `refused 2 ZeroDivisor`, 1; no request: `usage`, 2.
abbrev pub IsReply : Option (Kind × Call) → List ℕ → ℕ → Type 0
IsReply None text status = (text ≡ codes "usage") × (status ≡ 2)
IsReply (Some asked) text status =
    (r : Result Answer Refusal) × Outcome asked.0 asked.1 r × (text ≡ text_of r) × (status ≡ status_of r)

-- The line for the words is the reply, ended by a line feed, and the status is that of the reply.
-- Examples: `i64 div_mod_floor -8 3`: `-3 1`, 0; `i64 div_floor 1 0`: `refused 2 ZeroDivisor`, 1; `gcd 1`: `usage`, 2.
pub record IsLine (words : List (List ℕ)) (line : List ℕ) (status : ℕ) : Type 0 where
  pub request : Option (Kind × Call)
  pub asked : IsRequest words request
  pub text : List ℕ
  pub reply : IsReply request text status
  pub ended : line ≡ text ++ codes "\n"

-- The bytes of a sink have grown by the line for the words, if it shows them, and the status is that of the line.
-- Examples: `i64 gcd 4 6`: from `a` to `a2` and a line feed, 0; of a sink that shows no bytes: 0.
abbrev pub PrintsLine : List (List ℕ) → Option (List ℕ) → Option (List ℕ) → ℕ → Type 0
PrintsLine words before after status = (line : List ℕ) × IsLine words line status × Appends before after line

use Rattle.calendar.proofs.Common.{ℕ, List, [], ◌∷◌, Result, Ok, Err, IsOk, OnOk, WritesInCalls, append-nil, refl, rules}
use Rattle.calendar.proofs.text.write_ascii.Goals as goal

-- one call
one_call : {W A E : Type 0} (took : W → List ℕ → W → Type 0) (r : Result A E) (w : W) (text : List ℕ) (v : W) → (IsOk r → took w text v)
    → OnOk r (WritesInCalls took w text v)
one_call took (Ok x) w text v wrote = record { parts = text ∷ []; calls = (v, wrote refl, refl); whole = append-nil text }
one_call took (Err e) w text v wrote = search rules

pub returns : goal.returns
returns g c = search (rules, one_call, c.in_ok-map_err.field-0.now, g.W.Write.write_str_gives, c.write_str.new.self, c.write_str.ensures.ok)

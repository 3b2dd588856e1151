-- The words of the program's arguments.
use Rattle.std.specs.Prelude.{ℕ, List, [], map, drop, Result, Ok, Err}
use Rattle.std.specs.String.{string_bytes}
use Rattle.std.specs.Vec.Iter.{into_iter_items}
use Rattle.std.specs.declared.string.String.{String}
use Rattle.std.specs.declared.vec.IntoIter.{IntoIter}

-- The words are the bytes of all arguments but the first, which is the name of the program.
-- Examples: `intcalc i64 gcd 1 2`: `i64`, `gcd`, `1`, `2`; `intcalc`: no word; no arguments at all: no word.
abbrev pub words_of : {A : Type 0} → IntoIter (String A) A → List (List ℕ)
words_of args = map string_bytes (drop 1 (into_iter_items args))

-- The words that std read are those of the arguments, and no word if it could not read them.
-- Examples: `intcalc i64 gcd 1 2`: four; `intcalc`: no word; an argument that is not UTF-8: no word.
abbrev pub words_read : {A E : Type 0} → Result (IntoIter (String A) A) E → List (List ℕ)
words_read (Ok args) = words_of args
words_read (Err e) = []

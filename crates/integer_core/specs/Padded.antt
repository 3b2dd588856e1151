-- What a text of more than one part writes under the options of a format.
use Rattle.std.specs.Prelude.{ℕ, ◌-◌, ◌/◌, ◌++◌, ◌==◌, List, [], ◌∷◌, length, true, false, Option, Some, None, if◌then◌else◌}
use Rattle.std.specs.Fmt.{fill_text, padded_integral, spec_align}
use Rattle.std.specs.declared.fmt.Alignment.{Alignment}
use Rattle.std.specs.declared.fmt.Alignment.TheVariants.{Left, Right, Center}

-- The arguments of a function.
abbrev pub ArgumentOf : {A B : Type 0} → (A → B) → Type 0
ArgumentOf {A = A} f = A

-- The options of a format, such as those of `{:*^+7}`.
abbrev pub FormatOptions : Type 0
FormatOptions = ArgumentOf spec_align

-- How much of the padding stands before a text: all of it, half of it or nothing. A text that the format sends to no side
-- goes to the left.
-- Examples: of 5 on the right: 5; of 5 in the center: 2; of 5 on no side: 0.
abbrev pub fill_before : Option Alignment → ℕ → ℕ
fill_before (Some Right) padding = padding
fill_before (Some Center) padding = padding / 2
fill_before (Some Left) padding = 0
fill_before None padding = 0

-- The text, and the fill of the format before and after it up to the width. A precision cuts nothing off.
-- Examples: of `2/3` under `{:*>5}`: `**2/3`; under `{:*^6}`: `*2/3**`; under `{:5}`: `2/3  `; under `{:2}` and `{:.1}`: `2/3`.
unfoldable pub padded_text : FormatOptions → List ℕ → List ℕ
padded_text spec text =
    let padding = spec.width - length text in
    let before = fill_before (spec_align spec) padding in
    fill_text spec before ++ (text ++ fill_text spec (padding - before))

-- The text of a number, which may begin with `-`, as integers are written.
-- Examples: of `-3/2` under `{:7}`: `   -3/2`; under `{:07}`: `-0003/2`; of `3/2` under `{:+}`: `+3/2`.
abbrev pub padded_number : FormatOptions → List ℕ → List ℕ
padded_number spec [] = padded_integral spec false [] []
padded_number spec (first ∷ rest) =
    if first == 45 then padded_integral spec true [] rest else padded_integral spec false [] (first ∷ rest)

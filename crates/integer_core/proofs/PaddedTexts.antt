-- Texts and numbers under the options of a format.
use Rattle.std.proofs.Common.{◌≡◌, ◌≢◌, ◌∙◌, ◌-◌, ◌++◌, ◌+◌, ℕ, zero, suc, Bool, false, List, [], ◌∷◌, Result, arith, length, sym, ap, subst, add-one, cond, eqb, eqb-true, append-nil, append_assoc, unwrap_or}
pub use Rattle.std.proofs.Output.{has_written_styled_append, has_written_styled_of_eq}
use Rattle.std.proofs.lemmas.Fmt.{contents_after_writes}
pub use Rattle.std.specs.Fmt.{HasWrittenStyled, IsDefaultSpec, IsPlainFormatter, WritesInCalls, WritesOnOk, WritesStyledOnOk, fill_text, padded_integral, sign_text, spec_align, spec_width, IsFlush}
pub use Rattle.std.specs.List.{repeat}
use Rattle.std.specs.declared.fmt.Error.{Error}
use Rattle.std.specs.declared.fmt.Formatter.{Formatter}
pub use Rattle.integer_core.specs.Padded.{FormatOptions, fill_before, padded_number, padded_text}

-- one more time, at the end
pub repeat_more : (n : ℕ) (xs : List ℕ) → repeat n xs ++ xs ≡ repeat (n + 1) xs
repeat_more n xs = rw add-one (by n)
  where
    by : (n : ℕ) → repeat n xs ++ xs ≡ repeat (suc n) xs
    by zero = sym (append-nil xs)
    by (suc n) = append_assoc xs (repeat n xs) xs ∙ ap (λ (l : List ℕ). xs ++ l) (by n)

-- a width of 0 is no width
pub width_or_zero : (s : FormatOptions) → unwrap_or (spec_width s) 0 ≡ s.width
width_or_zero s = grind arith

-- without a width a text is written as it is
pub padded_text_plain : (s : FormatOptions) (text : List ℕ) → IsDefaultSpec s → padded_text s text ≡ text
unfolding padded_text
padded_text_plain s text plain = grind (arith, append-nil)

-- without a width and a `+` a number is its sign and its digits
padded_integral_plain : (s : FormatOptions) (negative : Bool) (digits : List ℕ) → IsDefaultSpec s → padded_integral s negative [] digits ≡ sign_text negative ++ digits
unfolding padded_integral
padded_integral_plain s negative digits plain = grind (arith, append-nil)

-- without options a number is written as it is
pub padded_number_plain : (s : FormatOptions) (text : List ℕ) → IsDefaultSpec s → padded_number s text ≡ text
padded_number_plain s text plain = grind (arith, eqb, cond, padded_integral, padded_integral_plain, eqb-true)

-- a number without `-` at its front
pub number_without_minus : (s : FormatOptions) (text : List ℕ) → ((rest : List ℕ) → text ≢ 45 ∷ rest) → padded_integral s false [] text ≡ padded_number s text
number_without_minus s text other = grind arith

module _ {W : Type 0} (took : W → List ℕ → W → Type 0) where
  -- what an empty writer has kept is what was written into it
  pub kept_is_written : (contents : W → List ℕ) (appends : (w : W) (bs : List ℕ) (v : W) → took w bs v → contents v ≡ contents w ++ bs)
      → (w : W) (bs : List ℕ) (v : W) → contents w ≡ [] → WritesInCalls took w bs v → contents v ≡ bs
  kept_is_written contents appends w bs v empty written = contents_after_writes took contents appends w bs v written ∙ ap (λ (l : List ℕ). l ++ bs) empty

  module _ (f : Formatter W) where
    -- what holds under all options holds without options
    pub plain_from_styled : (r : Result (Unit {0}) Error) (shown text : List ℕ) (g : Formatter W) → (IsDefaultSpec f.spec → shown ≡ text) → WritesStyledOnOk took f r shown g → WritesOnOk took f r text g
    plain_from_styled r shown text g same written = λ (plain : IsPlainFormatter f) ok.
        let w = written plain.flush ok in
        record {
          wrote = subst (λ (l : List ℕ). WritesInCalls took f.writer l g.writer) (same plain.bare) w.wrote;
          plain = record { bare = subst IsDefaultSpec (sym w.spec) plain.bare; flush = w.flush };
        }

    -- the fill, the text and the fill are the padded text
    pub padded_written : (text : List ℕ) (padding before : ℕ) (g h k : Formatter W) → padding ≡ f.spec.width - length text → before ≡ fill_before (spec_align f.spec) padding
        → HasWrittenStyled took f (fill_text f.spec before) g → HasWrittenStyled took g text h → HasWrittenStyled took h (fill_text h.spec (padding - before)) k
        → HasWrittenStyled took f (padded_text f.spec text) k
    unfolding padded_text
    padded_written text padding before g h k count side x y z =
        has_written_styled_of_eq took f (fill_text f.spec before ++ (text ++ fill_text h.spec (padding - before))) _ k (rw (y.spec ∙ x.spec, side, count))
        (has_written_styled_append took f _ g _ k x (has_written_styled_append took g _ h _ k y z))

use Rattle.std.proofs.Common.{◌≡◌, ◌∷◌, ◌++◌, [], rules}
use Rattle.std.proofs.lemmas.List.Elements.{All-append, All-cons, All-nil}
use Rattle.tests.proofs.tests.results.values.Goals as goal

pub loop-number-preserved : goal.loop-number-preserved
loop-number-preserved g c =
    let grown : c.push.new.self.items ≡ c.loop-number.values.items ++ (c.in_ok-value.value ∷ []) = search rules in
    rw grown (All-append (λ x. g.T.Number.fits (g.T.Number.value x)) _ _ c.loop-number.invariant
    (All-cons (λ x. g.T.Number.fits (g.T.Number.value x)) _ [] c.in_ok-value.ensures (All-nil (λ x. g.T.Number.fits (g.T.Number.value x)))))

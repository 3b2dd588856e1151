use Rattle.std.proofs.Common.{rules}
use Rattle.ratio64.proofs.Common.{◌≡◌, ◌^◌, ◌∙◌, linear, places_of, pos, units_of}
use Rattle.ratio64.proofs.DecimalOrder.{compared, same_places}
use Rattle.ratio64.proofs.DecimalTexts.{ten_up}
use Rattle.std.specs.Ordering.{int_cmp, ordering_then}
use Rattle.ratio64.proofs.decimal.order.DecimalOrd.cmp.Goals as goal

pub returns-then-self-other : goal.returns-then-self-other
returns-then-self-other c =
    let x = c.args.self.now in
    let y = c.args.other.now in
    let own : c.cmp.result ≡ int_cmp (units_of x) (units_of y) = search rules in
    let same : places_of x ≡ places_of y = search rules in
    own ∙ same_places x y same

pub returns : goal.returns
returns c =
    let x = c.whole_and_rest in
    let y = c.whole_and_rest-2 in
    let own : c.cmp-2.result ≡ ordering_then (int_cmp x.result.0 y.result.0) (int_cmp x.result.1 y.result.1) = search rules in
    let up = ten_up 18 in
    rw (x.ensures.number, y.ensures.number) (own ∙ compared x.result.0 y.result.0 x.result.1 y.result.1 (pos (10 ^ 18)) (omega linear) x.ensures.rest y.ensures.rest)

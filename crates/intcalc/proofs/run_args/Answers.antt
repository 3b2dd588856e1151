use Rattle.std.proofs.Common.{rules, ◌≡◌, ◌∙◌, ap, map, sym}
use Rattle.std.proofs.lemmas.Iterator.{YieldsList-from_map_by, YieldsList-from_slice, items_from_drains}
use Rattle.std.proofs.lemmas.Iterator.Adapters.{YieldsList-from_skip, YieldsList-from_vec}
use Rattle.std.proofs.lemmas.List.{map-id}
use Rattle.std.specs.String.{string_bytes}
use Rattle.std.specs.Vec.Iter.{into_iter_items}
use Rattle.intcalc.specs.Arguments.{words_of}
use Rattle.intcalc.proofs.run_args.Goals as goal

pub returns-clause-line : goal.returns-clause-line
returns-clause-line g c =
    let given = into_iter_items c.args.args in
    let skipped = YieldsList-from_skip 1 (YieldsList-from_vec given (search rules) (search rules)) (search rules) in
    let texts = items_from_drains c.in_ok-texts.ensures.ran.0 c.in_ok-texts.ensures.ran.1 skipped in
    let borrowed = YieldsList-from_slice c.in_ok-texts.texts.items (search rules) in
    let read = YieldsList-from_map_by _ (λ w. w.now) string_bytes borrowed (search rules) (λ x r q k. search rules) in
    let words = items_from_drains c.in_ok-words.ensures.ran.0 c.in_ok-words.ensures.ran.1 read in
    let same : map (λ w. w.now) c.deref-2.result.now ≡ words_of c.args.args =
    ap (map (λ w. w.now)) (c.deref-2.ensures.value ∙ c.in_ok-words.ensures.ran.2.0) ∙ words
    ∙ ap (map string_bytes) (c.in_ok-texts.ensures.ran.2.0 ∙ sym (map-id _) ∙ texts) in
    λ went. rw same at c.run.ensures.line went

use Rattle.std.proofs.Common.{rules}
use Rattle.ratio64.proofs.Common.{◌<◌, ◌≤◌, length}
use Rattle.ratio64.proofs.ReadDecimals.{dropped_numeral, long_cut, short_kept}
use Rattle.ratio64.proofs.decimal.reading.kept.Goals as goal

pub returns-then-part-le18 : goal.returns-then-part-le18
returns-then-part-le18 c = let few : length c.args.part.now ≤ 18 = search rules in short_kept c.args.part.now few

pub split_at-requires : goal.split_at-requires
split_at-requires c = let long : 18 < length c.args.part.now = search rules in long_cut c.args.part.now c.requires long

pub is_zero-requires : goal.is_zero-requires
is_zero-requires c =
    let long : 18 < length c.args.part.now = search rules in
    rw c.split_at.ensures.back (dropped_numeral c.args.part.now c.requires long)

use Rattle.ratio64.proofs.WideSums.{product_below, product_by_positive, wide_product}
use Rattle.ratio64.proofs.reduction.product.Goals as goal

pub returns : goal.returns
returns c =
    let value = wide_product c.ranges.a c.ranges.b c.from.ensures c.from-2.ensures in
    record {
      value = value;
      below = rw value (product_below _ _ c.ranges.a c.ranges.b);
      below_of_positive = λ up. rw value (product_by_positive _ _ c.ranges.a c.ranges.b up);
    }

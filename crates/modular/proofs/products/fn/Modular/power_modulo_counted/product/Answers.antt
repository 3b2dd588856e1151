use Rattle.modular.proofs.BelowModulus.{below_fits, below_positive}
use Rattle.modular.proofs.products.fn.Modular.power_modulo_counted.product.Goals as goal

pub product_modulo-requires : goal.product_modulo-requires
product_modulo-requires g c =
    let range = g.met.Self.Integer.range_law in
    let fits = c.requires.in_range in
    record {
      in_range = (below_fits range fits c.requires.x_below, below_fits range fits c.requires.y_below, fits);
      positive = below_positive c.requires.x_below;
    }

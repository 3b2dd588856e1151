use Rattle.theorems.proofs.Common.{◌≡◌, arith, nat_tests, to_z-of_z, IsResidue, residue_of_congruent, residue_is_only}
use Rattle.theorems.proofs.residues.residue_is_idempotent.Goals as goal

pub returns : goal.returns
returns c =
    let a = c.ranges.a in
    let m = c.ranges.m in
    let rest = c.residue.ensures.in_range in
    let first : IsResidue c.args.m c.args.a c.residue.result = simp to_z-of_z at c.residue.ensures.residue in
    let second : IsResidue c.args.m c.residue.result c.residue-2.result = simp to_z-of_z at c.residue-2.ensures.residue in
    let third : IsResidue c.args.m c.args.a c.residue-3.result = simp to_z-of_z at c.residue-3.ensures.residue in
    let same : c.residue-2.result ≡ c.residue-3.result = residue_is_only _ _ _ third _ (residue_of_congruent first.congruent second) in
    rw same (grind (arith, nat_tests))

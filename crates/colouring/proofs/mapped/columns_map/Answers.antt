use Rattle.std.proofs.Common.{◌≡◌, ap, arith, rules}
use Rattle.std.proofs.lemmas.Bool.Decides.{nat_tests}
use Rattle.mesh_decl.specs.Mesh.{map_dim}
use Rattle.colouring.proofs.mapped.columns_map.Goals as goal

pub returns : goal.returns
returns c =
    let dim : c.map_ends-dim.result.2 ≡ map_dim c.args.mesh.now c.in_ok-map.field-0.map = ap (λ z. z.2) c.map_ends-dim.ensures in
    record {
      some = grind (arith, nat_tests);
      within = search rules;
      dim = omega (arith, dim);
      columns = c.are_columns.ensures c.if-not-are_columns.false;
    }

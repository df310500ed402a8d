-- Nodes one behind another.
use Rattle.std.proofs.Common.{◌≡◌, List, [], ◌∷◌, ◌++◌, refl, ap}
use Rattle.std.specs.List.{flat_map}
use Rattle.mesh_draw.specs.Tree.{Node, nodes_of, printed, all_printed}

-- nodes print one behind another
pub in_order : (ns : List Node) → all_printed (nodes_of ns) ≡ flat_map printed ns
in_order [] = refl
in_order (n ∷ ns) = ap (λ z. printed n ++ z) (in_order ns)

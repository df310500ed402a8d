use Rattle.std.proofs.Common.{◌≡◌, ◌++◌, take, map}
use Rattle.std.specs.List.{flat_map}
use Rattle.mesh_draw.specs.Tree.{attribute_of, attribute_text}
use Rattle.mesh_draw.proofs.markup.tags.put_head.Given as goal

abbrev pub invariant-loop-attribute : goal.invariant-loop-attribute
invariant-loop-attribute l =
    l.out.items ≡ l.initial.out.items ++ flat_map attribute_text (map attribute_of (take l.attribute-index l.attributes))

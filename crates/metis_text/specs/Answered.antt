-- What a refusal to write owners tells.
use Rattle.std.specs.Prelude.{◌<◌}
use Rattle.mesh_decl.specs.Mesh.{MeshValue, set_count}
use Rattle.metis_text.specs.Written.{HasName}
use Rattle.metis_text.specs.declared.owner_text.write.WriteRefusal.{WriteRefusal}
use Rattle.metis_text.specs.declared.owner_text.write.WriteRefusal.TheVariants.{Unnamed, OutOfMemory}

-- the refusal names a set that no text can name; want of memory is free
abbrev pub IsUnnamed : MeshValue → WriteRefusal → Type 0
IsUnnamed g (Unnamed s) = (s < set_count g) × ¬ HasName g s
IsUnnamed g OutOfMemory = Unit {0}

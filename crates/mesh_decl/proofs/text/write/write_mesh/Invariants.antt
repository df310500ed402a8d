use Rattle.std.proofs.Common.{All, ◌≡◌, ◌++◌, map}
use Rattle.std.specs.List.{flat_map}
use Rattle.std.specs.Map.Iter.{deref_pair}
use Rattle.op_num.specs.Lines.{line_of}
use Rattle.mesh_decl.specs.Spelling.{Named, header}
use Rattle.mesh_decl.specs.Canonical.{entry_text, HasI32}
use Rattle.mesh_decl.proofs.text.write.write_mesh.Given as goal

abbrev pub invariant-loop-name : goal.invariant-loop-name
invariant-loop-name l = record {
  text : l.out.items ≡ line_of (header l.form) ++ flat_map (entry_text l.form) (map deref_pair l.yielded);
  numbers : All (λ (e : Named). HasI32 e.1) (map deref_pair l.yielded);
}

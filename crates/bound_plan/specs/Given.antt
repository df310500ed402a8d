-- The laws of the lower crates on which the proofs rest.
use Rattle.std.specs.Prelude.{◌≡◌, ◌≢◌, ◌↔◌, ◌<◌, ℕ, Bool, true, List, Contains}
use Rattle.mesh_decl.specs.declared.owners.Owners.{Owners}
use Rattle.mesh_decl.specs.declared.owners.Perms.{Perms}
use Rattle.mesh_decl.specs.Mesh.{MeshValue, IsMesh, IsMapAt, IsDatAt, set_count, map_count, dat_count, set_size, map_from, map_to, map_dim, target}
use Rattle.mesh_decl.specs.Owners.{IsNumbering, ArePerms, owner_of, perm_in}
use Rattle.lemmas.specs.Below.{HasNumbers}
use Rattle.local_mesh.specs.Halo.{has_copy, owns, executes, imports, imports_execute, is_core}
use Rattle.local_mesh.specs.declared.types.LocalSet.{LocalSet}
use Rattle.local_mesh.specs.LocalMesh.{IsLocalSet, AreRankMeshes}
use Rattle.local_mesh.specs.declared.types.RankMesh.{RankMesh}
use Rattle.loop_plan.specs.Pairs.{sets_of, imports_from}
use Rattle.colouring.specs.Laws.{CommonTargetsConflict}
use Rattle.local_mesh.specs.Numbers.{OwnedComeFirst, ExecutedComeFirst, OriginalsAreDistinct}
use Rattle.schedule_steps.specs.Outline.{Outline}
use Rattle.schedule_steps.specs.declared.step.Step.{Step}
use Rattle.schedule_steps.specs.Steps.{Accepted}
use Rattle.schedule_steps.specs.Alike.{AlikeOutlines}
use Rattle.run_model.specs.Laws.{ActsAreThere, LoopsAreThere, ElementsRunKernels, LoopsKeepRange, LoopsKeepReads, WindowsAreReached}
use Rattle.kernel_model.specs.declared.types.faults.KernelFault.{KernelFault}
use Rattle.kernel_model.specs.Independence.{ShapeStays}
use Rattle.schedule_model.specs.Cells.{Data, DatCell}
use Rattle.schedule_model.specs.Effects.{is_modified}
use Rattle.schedule_model.specs.Program.{Free, elements}
use Rattle.schedule_model.specs.Setup.{Setup}
use Rattle.schedule_model.specs.Arguments.{reaches}
use Rattle.schedule_model.specs.LoopParts.{LoopParts}
use Rattle.run_model.specs.ElementRun.{ElementRunsAreIndependentByTouches}
use Rattle.run_model.specs.OnWindows.{ElementRunsOnWindows}
use Rattle.run_model.specs.Constants.{ConstantsAreNumbered, ConstantsAreRead}
use Rattle.run_model.specs.Ranges.{FirstValuesInRange, HostsKeepRange}

-- of local numbers
pub record NumberLaws : Type 0 where
  pub owned : OwnedComeFirst
  pub executed : ExecutedComeFirst
  pub distinct : OriginalsAreDistinct
  pub copies : (g : MeshValue) (o : Owners) (p : Perms) (s r : ℕ) (l : LocalSet)
      → IsNumbering (set_size g s) (perm_in p s)
      → IsLocalSet g o p s r l
      → (x : ℕ) → Contains l.original x ↔ ((x < set_size g s) × (has_copy g o s x r ≡ true))

-- of items
pub record ItemLaws : Type 0 where
  pub loops : LoopsAreThere

-- of outlines
abbrev pub AlikeAcceptAlike : Type 0
AlikeAcceptAlike = (o n : Outline) → AlikeOutlines o n → (l : List Step) → Accepted o l → Accepted n l

-- of halos and of meshes
pub record HaloLaws : Type 0 where
  pub imported : (g : MeshValue) (o : Owners) (s x r : ℕ) → (imports_execute g o s x r ≡ true)
      ↔ ((owner_of o s x ≢ r)
      × ((m : ℕ) × (i : ℕ) × (m < map_count g) × (map_from g m ≡ s) × (i < map_dim g m) × (owner_of o (map_to g m) (target g m x i) ≡ r)))
  pub targets : (g : MeshValue) (o : Owners) (m x i r : ℕ)
      → m < map_count g
      → x < set_size g (map_from g m)
      → executes g o (map_from g m) x r ≡ true
      → i < map_dim g m
      → has_copy g o (map_to g m) (target g m x i) r ≡ true
  pub core : (g : MeshValue) (o : Owners) (s x m i : ℕ)
      → is_core g o s x ≡ true
      → m < map_count g
      → map_from g m ≡ s
      → i < map_dim g m
      → owner_of o (map_to g m) (target g m x i) ≡ owner_of o s x
  pub others : (g : MeshValue) (o : Owners) (s x r : ℕ) → imports g o s x r ≡ true → owner_of o s x ≢ r
  pub maps : (g : MeshValue) → IsMesh g → (m : ℕ) → m < map_count g → IsMapAt g m
  pub dats : (g : MeshValue) → IsMesh g → (d : ℕ) → d < dat_count g → IsDatAt g d
  pub messages : (g : MeshValue) (o : Owners) (p : Perms) (meshes : List RankMesh)
      → ArePerms g p
      → AreRankMeshes g o p meshes
      → (s r t : ℕ)
      → s < o.ranks
      → r < o.ranks
      → t < set_count g
      → (imports_from (sets_of meshes s) (sets_of meshes r) t ≡ true)
      ↔ ((x : ℕ) × (x < set_size g t) × (imports g o t x r ≡ true) × (owns o t x s ≡ true))
  pub conflicts : CommonTargetsConflict
  pub listed : (n : ℕ) (t : ℕ → Bool) → HasNumbers n t

-- the laws of kernels and of the values of runs
pub record KernelLaws : Type 0 where
  pub runs : ElementsRunKernels
  pub independent : ElementRunsAreIndependentByTouches
  pub read : ConstantsAreRead
  pub range : LoopsKeepRange
  pub reads : LoopsKeepReads
  pub first : FirstValuesInRange
  pub hosts : HostsKeepRange

-- the law on windows of dats that a Free loop modifies
abbrev pub ExactlyModified : Type 0
ExactlyModified =
    (p : Setup KernelFault) (f : LoopParts p) (k e : ℕ) (c : DatCell) → p.program.kind k ≡ Free → e < elements p.program k
    → (is_modified (p.touch k e (Data c)) ≡ true) ↔ ((p.modifies k c.dat ≡ true)
    × (a : ℕ) × (a < f.args (p.program.site k)) × (reaches f.entry f.dim f.width e (f.arg (p.program.site k) a) (Data c) ≡ true))

-- the laws on which frames rest
pub record FrameLaws : Type 0 where
  pub windows : WindowsAreReached
  pub modified : ExactlyModified
  pub on_windows : ElementRunsOnWindows
  pub shape : ShapeStays
  pub constants : ConstantsAreNumbered
  pub acts : ActsAreThere

-- The machine starts with the first cells.
use Rattle.std.proofs.Common.{◌≡◌, ◌<◌, ◌+◌, ◌*◌, ℕ, pos, true, List, [], map, length, get_or, refl, sym, ap, subst, ◌∙◌, arith}
use Rattle.std.specs.Prelude.{slice_index, slice_index_or, nat_lt, ◌&&◌}
use Rattle.std.proofs.lemmas.Bool.{and_parts, ltb-true}
use Rattle.std.proofs.lemmas.List.{get_or-map, length-map, get_or_default}
use Rattle.mesh_decl.specs.declared.owners.Owners.{Owners}
use Rattle.mesh_decl.specs.Mesh.{MeshValue, IsMesh, IsDatAt, no_mesh, set_size, dat_count, dat_set, dat_dim, dat_values}
use Rattle.local_mesh.specs.declared.types.RankMesh.{RankMesh}
use Rattle.local_mesh.specs.declared.types.LocalSet.{LocalSet}
use Rattle.local_mesh.specs.LocalMesh.{originals_in, cells_before, AreClosed, AreBases, IsRankMesh}
use Rattle.local_mesh.specs.Numbers.{RankMeshesAreClosed}
use Rattle.local_mesh.specs.Lists.{sets_of}
use Rattle.schedule_model.specs.Cells.{Cell, Data, Variable, DatCell}
use Rattle.bound_program.specs.Values.{BoundValue}
use Rattle.run_model.specs.Hosts.{variables_of, variable_cells}
use Rattle.run_model.specs.Constants.{no_constant}
use Rattle.run_model.specs.Programs.{program_of}
use Rattle.run_model.specs.Arguments.{dat_width}
use Rattle.run_model.specs.Memory.{has_cell, FirstMemoryHolds}
use Rattle.run_model.specs.Variables.{of_vars, HoldsVariables, CellsAreHeld}
use Rattle.bound_plan.specs.Places.{originals, original_at, bases_of, cells_of, cell_at}
use Rattle.bound_plan.specs.Machine.{Stand, ElementsStand}
use Rattle.rank_layout.specs.First.{first_cells, first_variables, FirstCellsStand, MeshesAreClosed}
use Rattle.rank_layout.proofs.MessagesStand.{bases_at}
use Rattle.mesh_decl.proofs.Public.{in_range}
use Rattle.rank_layout.proofs.RankMeshes.{sets_at, cells_at, some_at}
use Rattle.rank_layout.proofs.FirstCells.{whole, cell_is}

-- each cell of a rank is a value of an element
abbrev CellsAreOfCopies : Type 0
CellsAreOfCopies =
    (g : MeshValue) (sets : List LocalSet) (starts : List ℕ) (total : ℕ)
    → AreBases g sets starts total
    → (c : ℕ) → c < total
    → (d : ℕ) × (l : ℕ) × (i : ℕ)
    × (d < dat_count g) × (l < length (originals_in sets (dat_set g d))) × (i < dat_dim g d) × (slice_index starts d + l * dat_dim g d + i ≡ c)

itself : (meshes : List RankMesh) (r : ℕ) → r < length meshes → (m : RankMesh) × (m ≡ get_or meshes r m)
itself meshes r lt =
    let d = some_at meshes r lt in
    (get_or meshes r d, get_or_default meshes r d (get_or meshes r d) lt)

-- ---- one rank

module _ (b : BoundValue) (o : Owners) (meshes : List RankMesh) (r : ℕ) (m : RankMesh)
    (dats : (d : ℕ) → d < dat_count b.mesh → IsDatAt b.mesh d)
    (stand : Stand b o meshes r) (shut : AreClosed b.mesh m.sets.items) (laid : AreBases b.mesh m.sets.items m.bases.items m.cells)
    (copies : CellsAreOfCopies)
    (sets : m.sets.items ≡ sets_of meshes r) (bases : m.bases.items ≡ bases_of meshes r) where
  pub width_is : length (first_cells b.mesh m) ≡ m.cells
  width_is = whole b.mesh m dats shut ∙ sym laid.cells

  pub value_is : (i : ℕ) → i < m.cells → get_or (first_cells b.mesh m) i (pos 0) ≡ (program_of b).start (Data (cell_at meshes b.mesh r i))
  value_is i li =
      let w = copies b.mesh m.sets.items m.bases.items m.cells laid i li in
      let d : ℕ = w.0 in
      let k : ℕ = w.1 in
      let j : ℕ = w.2 in
      let ld : d < dat_count b.mesh = w.3 in
      let lk : k < length (originals_in m.sets.items (dat_set b.mesh d)) = w.4 in
      let lj : j < dat_dim b.mesh d = w.5 in
      let at : slice_index m.bases.items d + k * dat_dim b.mesh d + j ≡ i = w.6 in
      let start : slice_index m.bases.items d ≡ cells_before b.mesh m.sets.items d = laid.bases d ld in
      let mine : i ≡ cells_before b.mesh m.sets.items d + (k * dat_dim b.mesh d + j) = omega (arith, at, start) in
      let ours : i ≡ slice_index (bases_of meshes r) d + k * dat_dim b.mesh d + j =
      sym at ∙ ap (λ z. slice_index z d + k * dat_dim b.mesh d + j) bases in
      let here : k < length (originals meshes r (dat_set b.mesh d)) = subst (λ z. k < length (originals_in z (dat_set b.mesh d))) sets lk in
      let cell : cell_at meshes b.mesh r i ≡ record { dat = d; element = original_at meshes r (dat_set b.mesh d) k; component = j } =
      ap (cell_at meshes b.mesh r) ours ∙ stand.values d k j ld here lj in
      ap (λ z. get_or (first_cells b.mesh m) z (pos 0)) mine
      ∙ cell_is b.mesh m dats shut d k j ld lk lj
      ∙ ap (λ z. slice_index_or (dat_values b.mesh d) (slice_index (originals_in z (dat_set b.mesh d)) k * dat_dim b.mesh d + j) (pos 0)) sets
      ∙ sym (ap (λ (c : DatCell). (program_of b).start (Data c)) cell)

-- ---- the variables

module _ (first : FirstMemoryHolds) (held : CellsAreHeld) (b : BoundValue) where
  no_dats : (d : ℕ) → d < dat_count (of_vars b.vars).mesh → IsDatAt (of_vars b.vars).mesh d
  no_dats d ld = absurd (omega arith)

  holds : HoldsVariables b.vars (first_variables b.vars) (program_of b).start
  holds =
      let h = first (of_vars b.vars) no_dats in
      record {
        length = h.length;
        values = λ c has. h.values c has ∙ same c has;
      }
    where
      same : (c : Cell) → has_cell (of_vars b.vars) c ≡ true → (program_of (of_vars b.vars)).start c ≡ (program_of b).start c
      same (Data c) has =
          let none : c.dat < 0 = ltb-true c.dat 0
          (and_parts (nat_lt c.dat 0) (nat_lt c.element (set_size no_mesh (dat_set no_mesh c.dat)) && nat_lt c.component (dat_width (of_vars b.vars) c.dat)) has).0 in
          absurd (omega (arith, none))
      same (Variable v) has = refl

  variables_are : first_variables b.vars ≡ map (variables_of (program_of b).start) (variable_cells b)
  variables_are = held b (first_variables b.vars) (program_of b).start holds

  pub count_is : length (first_variables b.vars) ≡ length (variable_cells b)
  count_is = ap length variables_are ∙ length-map (variable_cells b) (variables_of (program_of b).start)

  pub variable_is : (i : ℕ) → i < length (variable_cells b)
      → get_or (first_variables b.vars) i (pos 0) ≡ (program_of b).start (Variable (slice_index_or (variable_cells b) i no_constant))
  variable_is i li =
      ap (λ z. get_or z i (pos 0)) variables_are
      ∙ get_or-map (variables_of (program_of b).start) (variable_cells b) i no_constant (pos 0) li

-- ---- the law

pub first_cells_stand : ((g : MeshValue) → IsMesh g → (d : ℕ) → d < dat_count g → IsDatAt g d)
    → ElementsStand → RankMeshesAreClosed → CellsAreOfCopies → FirstMemoryHolds → CellsAreHeld → FirstCellsStand
first_cells_stand dats standing closed copies first held b o n meshes p pl =
    let are = pl.distributed.are_meshes in
    let range = in_range b.mesh pl.fits.mesh in
    let there : (r : ℕ) → r < o.ranks → r < length meshes = λ r lr. omega (arith, are.count) in
    let mesh : (r : ℕ) → r < o.ranks → (m : RankMesh) × (m ≡ get_or meshes r m) = λ r lr. itself meshes r (there r lr) in
    let rank_mesh : (r : ℕ) (lr : r < o.ranks) → IsRankMesh b.mesh o n r (mesh r lr).0 =
    λ r lr. subst (IsRankMesh b.mesh o n r) (sym (mesh r lr).1) (are.ranks r (mesh r lr).0 lr) in
    let shut : (r : ℕ) (lr : r < o.ranks) → AreClosed b.mesh (mesh r lr).0.sets.items =
    λ r lr. closed b.mesh o n r (mesh r lr).0 range pl.distributed.are_perms (rank_mesh r lr) in
    let cells : (r : ℕ) (lr : r < o.ranks) → get_or (map (first_cells b.mesh) meshes) r [] ≡ first_cells b.mesh (mesh r lr).0 =
    λ r lr. get_or-map (first_cells b.mesh) meshes r (mesh r lr).0 [] (there r lr) ∙ ap (first_cells b.mesh) (sym (mesh r lr).1) in
    let width : (r : ℕ) (lr : r < o.ranks) → (mesh r lr).0.cells ≡ cells_of meshes r =
    λ r lr. cells_at meshes r (mesh r lr).0 (there r lr) (mesh r lr).1 in
    record {
      ranks = length-map meshes (first_cells b.mesh) ∙ are.count;
      widths = λ r lr.
          ap length (cells r lr)
          ∙ width_is b o meshes r (mesh r lr).0 (dats b.mesh pl.fits.mesh) (standing b o n meshes p pl r lr) (shut r lr) (rank_mesh r lr).bases copies
          (sets_at meshes r (mesh r lr).0 (there r lr) (mesh r lr).1) (bases_at meshes r (mesh r lr).0 (there r lr) (mesh r lr).1)
          ∙ width r lr;
      values = λ r i lr li.
          ap (λ z. get_or z i (pos 0)) (cells r lr)
          ∙ value_is b o meshes r (mesh r lr).0 (dats b.mesh pl.fits.mesh) (standing b o n meshes p pl r lr) (shut r lr) (rank_mesh r lr).bases copies
          (sets_at meshes r (mesh r lr).0 (there r lr) (mesh r lr).1) (bases_at meshes r (mesh r lr).0 (there r lr) (mesh r lr).1)
          i (let w = width r lr in omega (arith, w, li));
      count = count_is first held b;
      variables_are = variable_is first held b;
    }

pub meshes_are_closed : RankMeshesAreClosed → MeshesAreClosed
meshes_are_closed closed b o n meshes p pl r m lt =
    let are = pl.distributed.are_meshes in
    let lr : r < o.ranks = omega (arith, are.count, lt) in
    closed b.mesh o n r (get_or meshes r m) (in_range b.mesh pl.fits.mesh)
    pl.distributed.are_perms (are.ranks r m lr)

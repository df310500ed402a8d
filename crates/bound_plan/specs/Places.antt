-- Where elements and cells stand on a rank, by its local mesh.
use Rattle.std.specs.Prelude.{ℕ, zero, suc, ◌+◌, ◌-◌, ◌*◌, ◌/◌, ◌%◌, cond, ◌==◌, nat_lt, List, [], ◌∷◌, map, slice_index, slice_index_or}
use Rattle.mesh_decl.specs.Mesh.{MeshValue, dat_count, dat_set, dat_dim}
use Rattle.local_mesh.specs.declared.types.RankMesh.{RankMesh}
use Rattle.local_mesh.specs.LocalMesh.{originals_in}
use Rattle.schedule_model.specs.Cells.{DatCell}
use Rattle.loop_plan.specs.Pairs.{sets_of}

-- where a number first stands in a list, or the list's length
abbrev pub first_place : List ℕ → ℕ → ℕ
first_place [] x = 0
first_place (y ∷ ys) x = cond (y == x) 0 (suc (first_place ys x))

-- of the first n numbers of the list, which don't fall, the last that is at most i
abbrev pub last_upto : List ℕ → ℕ → ℕ → ℕ
last_upto starts zero i = 0
last_upto starts (suc n) i = cond (nat_lt i (slice_index starts n)) (last_upto starts n i) n

module _ (meshes : List RankMesh) where
  -- rank, set: the original numbers of what the rank has, by local number
  abbrev pub originals : ℕ → ℕ → List ℕ
  originals r s = originals_in (sets_of meshes r) s

  -- rank, set, local number: the element
  abbrev pub original_at : ℕ → ℕ → ℕ → ℕ
  original_at r s x = slice_index (originals r s) x

  -- rank, set, element: its local number
  abbrev pub local_at : ℕ → ℕ → ℕ → ℕ
  local_at r s e = first_place (originals r s) e

  -- where each dat begins in the rank's buffer
  unfoldable pub bases_of : ℕ → List ℕ
  bases_of r = slice_index_or (map (λ (m : RankMesh). m.bases.items) meshes) r []

  -- how many cells the rank's buffer has
  unfoldable pub cells_of : ℕ → ℕ
  cells_of r = slice_index (map (λ (m : RankMesh). m.cells) meshes) r

  module _ (g : MeshValue) where
    -- rank, cell: where the cell stands in the rank's buffer
    abbrev pub place_of : ℕ → DatCell → ℕ
    place_of r c = slice_index (bases_of r) c.dat + local_at r (dat_set g c.dat) c.element * dat_dim g c.dat + c.component

    -- rank, index: the dat that has the index of the rank's buffer
    abbrev pub dat_at : ℕ → ℕ → ℕ
    dat_at r i = last_upto (bases_of r) (dat_count g) i

    -- how far the index stands behind its dat's first one
    abbrev pub offset_at : ℕ → ℕ → ℕ
    offset_at r i = i - slice_index (bases_of r) (dat_at r i)

    -- rank, index: the cell that stands there
    abbrev pub cell_at : ℕ → ℕ → DatCell
    cell_at r i = record {
      dat = dat_at r i;
      element = original_at r (dat_set g (dat_at r i)) (offset_at r i / dat_dim g (dat_at r i));
      component = offset_at r i % dat_dim g (dat_at r i);
    }

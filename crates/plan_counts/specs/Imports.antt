-- How many elements of each set each rank imports from each other, as a table.
use Rattle.std.specs.Prelude.{◌≡◌, ◌<◌, ◌+◌, ◌*◌, ℕ, List, [], ◌∷◌, Vec, map, length, sum_by, slice_index, slice_index_or}
use Rattle.std.specs.declared.alloc.Global.{Global}
use Rattle.mesh_decl.specs.Mesh.{MeshValue, set_count, dat_set, dat_dim}
use Rattle.local_mesh.specs.declared.types.RankMesh.{RankMesh}
use Rattle.loop_plan.specs.declared.types.Pair.{Pair}
use Rattle.loop_plan.specs.Values.{ItemPlanValue}
use Rattle.schedule_check.specs.Mail.{imported_from, rows_of}

-- by sender and receiver, numbers
abbrev pub Numbers : Type 0
Numbers = Vec (Vec ℕ Global) Global

-- the numbers of each set, by sender and receiver
abbrev pub numbers_of : List Numbers → List (List (Vec ℕ Global))
numbers_of sets = map (λ (n : Numbers). n.items) sets

-- sender, receiver: the number there, and 0 where there is none
abbrev pub number_in : List (Vec ℕ Global) → ℕ → ℕ → ℕ
number_in rows s r = slice_index (slice_index_or (rows_of rows) s []) r

-- set, sender, receiver: the same of a table
abbrev pub tabled : List Numbers → ℕ → ℕ → ℕ → ℕ
tabled sets t s r = number_in (slice_index_or (numbers_of sets) t []) s r

-- the numbers are how many elements of a set the receiver imports that the sender owns
abbrev pub AreOfSet : List RankMesh → (t : ℕ) → List (Vec ℕ Global) → Type 0
AreOfSet meshes t rows = (s r : ℕ) → s < length meshes → r < length meshes → number_in rows s r ≡ imported_from meshes s r t

-- the same for each set
abbrev pub AreImports : MeshValue → List RankMesh → List Numbers → Type 0
AreImports g meshes sets =
    (t s r : ℕ) → t < set_count g → s < length meshes → r < length meshes → tabled sets t s r ≡ imported_from meshes s r t

-- the cells of a message of these dats by a table
abbrev pub cells_by : MeshValue → List Numbers → List ℕ → ℕ → ℕ → ℕ
cells_by g sets [] s r = 0
cells_by g sets (d ∷ ds) s r = dat_dim g d * tabled sets (dat_set g d) s r + cells_by g sets ds s r

-- and of all messages of an item
abbrev pub sent_by : MeshValue → List Numbers → ItemPlanValue → ℕ
sent_by g sets p = sum_by (λ (q : Pair). cells_by g sets p.exchange q.from q.to) p.pairs

-- The bytes of a dump: what each rank holds of each dat, by local numbers.
use Rattle.std.specs.Prelude.{◌≡◌, ℕ, zero, suc, ℤ, List, [], ◌∷◌, ◌++◌, map, length, take, drop, slice_index, codes}
use Rattle.std.specs.List.{flat_map}
use Rattle.std.specs.Fmt.{decimal, signed_decimal}
use Rattle.mesh_decl.specs.Mesh.{MeshValue, set_count, dat_count, dat_set, dat_dim, dat_name}
use Rattle.local_mesh.specs.declared.types.LocalSet.{LocalSet}
use Rattle.local_mesh.specs.declared.types.RankMesh.{RankMesh}
use Rattle.local_mesh.specs.LocalMesh.{originals_in, AreBases}
use Rattle.local_mesh.specs.Numbers.{own_in}

-- an element's number in the mesh and its values, between single spaces, and LF
abbrev pub copy_text : ℕ → List ℤ → List ℕ
copy_text e zs = decimal e ++ flat_map (λ z. codes " " ++ signed_decimal z) zs ++ codes "\n"

-- those of elements with these numbers, whose values stand one behind another
abbrev pub copies_text : ℕ → List ℕ → List ℤ → List ℕ
copies_text dim [] zs = []
copies_text dim (e ∷ es) zs = copy_text e (take dim zs) ++ copies_text dim es (drop dim zs)

-- how many elements of a set a rank imports to execute
abbrev pub exec_in : List LocalSet → ℕ → ℕ
exec_in sets s = slice_index (map (λ (l : LocalSet). l.exec) sets) s

-- how many elements of a set a rank imports to read
abbrev pub nonexec_in : List LocalSet → ℕ → ℕ
nonexec_in sets s = slice_index (map (λ (l : LocalSet). l.nonexec) sets) s

-- how many elements a rank owns, imports to execute and imports to read, each with a space before it, and LF
abbrev pub sizes_text : (own exec nonexec : ℕ) → List ℕ
sizes_text own exec nonexec = codes " " ++ decimal own ++ codes " " ++ decimal exec ++ codes " " ++ decimal nonexec ++ codes "\n"

-- `rank R D OWN EXEC NONEXEC`, with the name of a dat
abbrev pub counts_text : ℕ → List ℕ → (own exec nonexec : ℕ) → List ℕ
counts_text r name own exec nonexec = (codes "rank " ++ decimal r ++ codes " " ++ name) ++ sizes_text own exec nonexec

module _ (g : MeshValue) (r : ℕ) (m : RankMesh) where
  -- that line of a dat
  abbrev pub dat_counts : ℕ → List ℕ
  dat_counts d =
      counts_text r (dat_name g d) (own_in m.sets.items (dat_set g d)) (exec_in m.sets.items (dat_set g d))
      (nonexec_in m.sets.items (dat_set g d))

  -- a dat in the rank's memory: that line, and the copies
  abbrev pub dat_text : List ℤ → ℕ → List ℕ
  dat_text memory d =
      dat_counts d ++ copies_text (dat_dim g d) (originals_in m.sets.items (dat_set g d)) (drop (slice_index m.bases.items d) memory)

  -- the first dats
  abbrev pub dats_text : List ℤ → ℕ → List ℕ
  dats_text memory zero = []
  dats_text memory (suc d) = dats_text memory d ++ dat_text memory d

-- the ranks from rank r on
abbrev pub ranks_text : MeshValue → ℕ → List RankMesh → List (List ℤ) → List ℕ
ranks_text g r [] memories = []
ranks_text g r (m ∷ ms) [] = []
ranks_text g r (m ∷ ms) (memory ∷ memories) = dats_text g r m memory (dat_count g) ++ ranks_text g (suc r) ms memories

-- the dump of all memories
abbrev pub dump_text : MeshValue → List RankMesh → List (List ℤ) → List ℕ
dump_text g meshes memories = codes "dump\n" ++ ranks_text g 0 meshes memories

-- a rank's memory has the cells of its dats
pub record IsHeld (g : MeshValue) (m : RankMesh) (memory : List ℤ) : Type 0 where
  pub sets : length m.sets.items ≡ set_count g
  pub bases : AreBases g m.sets.items m.bases.items m.cells
  pub cells : length memory ≡ m.cells

-- each rank's has
abbrev pub AreHeld : MeshValue → List RankMesh → List (List ℤ) → Type 0
AreHeld g [] memories = memories ≡ []
AreHeld g (m ∷ ms) [] = ⊥
AreHeld g (m ∷ ms) (memory ∷ memories) = IsHeld g m memory × AreHeld g ms memories

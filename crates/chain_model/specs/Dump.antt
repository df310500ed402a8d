-- The bytes of a dump of stores: what each rank holds of each dat, by original numbers.
use Rattle.std.specs.Prelude.{ℕ, List, ◌++◌, map, length, is_some, codes}
use Rattle.std.specs.List.{flat_map}
use Rattle.std.specs.Fmt.{decimal}
use Rattle.lemmas.specs.Below.{listed}
use Rattle.mesh_decl.specs.Mesh.{MeshValue, dat_count, dat_set, dat_dim, dat_name, set_size}
use Rattle.run_model.specs.Dump.{copy_text}
use Rattle.run_model.specs.Windows.{numbers}
use Rattle.chain_model.specs.Machine.{Holding, value_in}

module _ (g : MeshValue) where
  -- the elements of a dat's set whose pairs are held
  abbrev pub held_in : Holding → ℕ → List ℕ
  held_in h d = listed (set_size g (dat_set g d)) (λ y. is_some (h d y))

  -- an element's number and its values
  abbrev pub pair_text : Holding → ℕ → ℕ → List ℕ
  pair_text h d y = copy_text y (map (value_in (h d y)) (numbers (dat_dim g d)))

  -- `rank R D COUNT`, and the pairs
  abbrev pub held_text : ℕ → Holding → ℕ → List ℕ
  held_text r h d =
      (codes "rank " ++ decimal r ++ codes " " ++ dat_name g d ++ codes " " ++ decimal (length (held_in h d)) ++ codes "\n")
      ++ flat_map (pair_text h d) (held_in h d)

  -- a rank's store, dat by dat
  abbrev pub store_text : ℕ → Holding → List ℕ
  store_text r h = flat_map (held_text r h) (numbers (dat_count g))

  -- the stores of so many ranks
  abbrev pub stores_text : ℕ → (ℕ → Holding) → List ℕ
  stores_text ranks stores = codes "dump\n" ++ flat_map (λ r. store_text r (stores r)) (numbers ranks)

-- A map whose targets are gone through once: all else that may be wrong with it is judged before, its targets as it is added.
use Rattle.std.specs.Prelude.{ℕ, suc, ◌+◌, Bool, List, ◌++◌, length}
use Rattle.c_tree.specs.declared.lexer.tokens.Pos.{Pos}
use Rattle.c_tree.specs.declared.expressions.Ident.{Ident}
use Rattle.c_tree.specs.declared.expressions.NumberLiteral.{NumberLiteral}
use Rattle.mesh_decl.specs.Spelling.{Named}
use Rattle.mesh_decl.specs.declared.decl.MapRefusal.{MapRefusal}
use Rattle.mesh_decl.specs.declared.decl.MapRefusal.TheVariants.{Target, OutOfMemory}
use Rattle.mesh_decl.specs.Mesh.{map_count, set_size}
use Rattle.bound_program.specs.declared.refusals.founds.Found.{Found}
use Rattle.bound_program.specs.declared.refusals.founds.Turn.TheVariants.{InOrder}
use Rattle.bound_program.specs.declared.refusals.refusals.BindRefusal.{BindRefusal}
use Rattle.bound_program.specs.declared.refusals.refusals.BindRefusal.TheVariants as refusal
use Rattle.bound_program.specs.declared.refusals.refusals.Counted.TheVariants as counted
use Rattle.bound_program.specs.Refusals.{place, found_over}
use Rattle.bound_program.specs.Limits.{max_maps}
use Rattle.main_declarations.specs.Names.{means}
use Rattle.main_declarations.specs.Meanings.{array_of, count_of, or_none, or_zero, set_of}
use Rattle.main_declarations.specs.SoFar.{Declared}
use Rattle.main_declarations.specs.Declarations.{awaited, first_stray, place_found, set_found, dim_found, data_found, target_found, stray_found, cells_found}

module _ (places : List Pos) where
  -- the refusal of the map of that number, whose values have this name
  abbrev pub target_refusal : ℕ → Ident → MapRefusal → BindRefusal
  target_refusal m x (Target element k) = refusal.MapTarget (place places x.at) m element k
  target_refusal m x OutOfMemory = refusal.OutOfMemory

  module _ (entries : List Named) where
    -- what is wrong with a map between these sets, with these values, its targets aside
    abbrev pub shape_found : Declared → ℕ → Ident → Ident → NumberLiteral → Ident → List Found
    shape_found k t from to n x =
        set_found places k from ++ set_found places k to ++ dim_found places n
        ++ data_found places (array_of entries x.name (means k.names x.name))
        (awaited k.mesh (set_of (means k.names from.name)) (count_of n)) x
        ++ cells_found places t (k.filled + length (or_none (array_of entries x.name (means k.names x.name))))

    -- what is wrong with the declaration of a map, its targets aside
    abbrev pub shape_decl_found : Declared → Bool → ℕ → Ident → Ident → NumberLiteral → Ident → List Found
    shape_decl_found k nested t from to n x =
        place_found places k nested t ++ found_over InOrder max_maps (suc (map_count k.mesh)) t counted.Maps ++ shape_found k t from to n x

    -- what is wrong with its targets
    abbrev pub targets_found : Declared → Ident → Ident → NumberLiteral → Ident → List Found
    targets_found k from to n x =
        target_found places k.mesh (count_of n) x (array_of entries x.name (means k.names x.name))
        (awaited k.mesh (set_of (means k.names from.name)) (count_of n)) (set_of (means k.names to.name))

    -- the same, where nothing else is wrong
    abbrev pub strays_found : Declared → Ident → NumberLiteral → Ident → List Found
    strays_found k to n x =
        stray_found places (map_count k.mesh) (count_of n) x
        (first_stray (set_size k.mesh (or_zero (set_of (means k.names to.name)))) 0
        (or_none (array_of entries x.name (means k.names x.name))))

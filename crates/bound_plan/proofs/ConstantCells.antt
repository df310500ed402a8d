-- The constants that kernels read are variables into which no loop merges amounts.
use Rattle.std.proofs.Common.{◌≡◌, ◌<◌, ℕ, suc, List, [], ◌∷◌, length, get_or, ◌⊎◌, inl, inr, Option, Some, None, refl, sym, ◌∙◌, ⊎_elim, arith}
use Rattle.op_num.specs.Reduction.{Reduction}
use Rattle.mesh_decl.specs.declared.owners.Owners.{Owners}
use Rattle.mesh_decl.specs.declared.owners.Perms.{Perms}
use Rattle.local_mesh.specs.declared.types.RankMesh.{RankMesh}
use Rattle.schedule_model.specs.Cells.{VarCell}
use Rattle.schedule_model.specs.Program.{Free}
use Rattle.schedule_model.specs.Setup.{Setup}
use Rattle.schedule_model.specs.Layout.{Layout, IsVariable, AreConstants}
use Rattle.bound_program.specs.Values.{BoundValue}
use Rattle.run_model.specs.Programs.{kind_of, loop_of, item_at}
use Rattle.run_model.specs.Kernels.{constants}
use Rattle.run_model.specs.Constants.{no_constant, IsNumbered, ConstantsAreNumbered}
use Rattle.loop_plan.specs.Values.{PlanValue}
use Rattle.bound_plan.specs.Setups.{setup_of}
use Rattle.bound_plan.specs.Layouts.{layout_of}
use Rattle.bound_plan.specs.Laws.{Planned}
use Rattle.bound_plan.specs.Variables.{reduces_at}
use Rattle.bound_plan.specs.Given.{NumberLaws, ItemLaws}
use Rattle.bound_plan.proofs.Placed.{site_fits}
use Rattle.bound_plan.proofs.Touched.{Merges, merges}
use Rattle.bound_plan.proofs.Indexed.{indexed}

-- it is a constant of the layout
abbrev IsConstant : {F : Type 0} → Setup F → Layout F → VarCell → Type 0
IsConstant p l v = IsVariable p l v × ((k : ℕ) → p.program.kind k ≡ Free → p.reduces (p.program.site k) v ≡ None)

all_are : {F : Type 0} (p : Setup F) (l : Layout F) (xs : List VarCell) → ((j : ℕ) → j < length xs → IsConstant p l (get_or xs j no_constant)) → AreConstants p l xs
all_are p l [] h = tt
all_are p l (x ∷ xs) h = let w : IsConstant p l x = h 0 (omega arith) in (w.0, w.1, all_are p l xs (λ j lt. h (suc j) (omega arith)))

some_or_none : (r : Option Reduction) → (r ≡ None) ⊎ ((o : Reduction) × (r ≡ Some o))
some_or_none None = inl refl
some_or_none (Some o) = inr (o, refl)

module _ (numbers : NumberLaws) (items : ItemLaws) (law : ConstantsAreNumbered) (b : BoundValue) (o : Owners) (n : Perms) (meshes : List RankMesh) (p : PlanValue) (pl : Planned b o n meshes p) where
  none_merged : (j : ℕ) (v : VarCell) → IsNumbered b j v → (k : ℕ) → kind_of (item_at b k) ≡ Free → reduces_at b (loop_of (item_at b k)) v ≡ None
  none_merged j v is k free = ⊎_elim
      (λ z. z)
      (λ (w : (q : Reduction) × (reduces_at b (loop_of (item_at b k)) v ≡ Some q)).
      let m : Merges b (loop_of (item_at b k)) (site_fits numbers items b o n meshes p pl k free) v w.0 =
      merges b (loop_of (item_at b k)) (site_fits numbers items b o n meshes p pl k free) v w.0 w.1 in
      let q : Some is.first ≡ None = sym is.constant ∙ m.constant in
      let z : ⊥ = cc in absurd z)
      (some_or_none (reduces_at b (loop_of (item_at b k)) v))

  pub constants_are : AreConstants (setup_of b o meshes p) (layout_of b o meshes p) (constants b)
  constants_are = all_are (setup_of b o meshes p) (layout_of b o meshes p) (constants b)
      (λ j l.
      let is = (law b pl.fits.constants).cells j l in
      (indexed b (get_or (constants b) j no_constant) is.variable is.component, λ k free. none_merged j (get_or (constants b) j no_constant) is k free))

-- What the tables say of the setup and the layout.
use Rattle.std.proofs.Common.{◌≡◌, ◌<◌, ◌≤◌, ℕ, suc, Bool, true, false, List, [], ◌∷◌, map, length, get_or, Some, None, refl, sym, ap, ◌∙◌, subst, ⊎_elim, arith}
use Rattle.std.specs.Prelude.{nat_eq, nat_lt, slice_index}
use Rattle.std.specs.Map.{lookup}
use Rattle.std.proofs.lemmas.Bool.{cases_Bool, cond-true, cond-false, lt-ltb}
use Rattle.mesh_decl.specs.declared.owners.Owners.{Owners}
use Rattle.local_mesh.specs.declared.types.RankMesh.{RankMesh}
use Rattle.schedule_model.specs.Cells.{VarCell}
use Rattle.bound_program.specs.Values.{BoundValue, no_site}
use Rattle.bound_program.specs.Fits.{Fits, SiteFits, site_at}
use Rattle.run_model.specs.Kernels.{constants}
use Rattle.run_model.specs.Constants.{no_constant, AreNumbered, ConstantsAreNumbered}
use Rattle.run_model.specs.Hosts.{variable_cells}
use Rattle.run_model.specs.Arguments.{var_width}
use Rattle.run_model.specs.Programs.{item_at, loop_of}
use Rattle.loop_plan.specs.Values.{PlanValue, SitePlanValue, or_none, site_plan, places_in}
use Rattle.loop_plan.specs.StepOutline.{loop_at}
use Rattle.rank_state.specs.declared.scalars.Scalar.{Scalar}
use Rattle.rank_state.specs.declared.scalars.Scalar.TheVariants.{Value, Amount}
use Rattle.rank_state.specs.Indices.{InLength}
use Rattle.rank_state.specs.Shows.{AreScalars}
use Rattle.bound_plan.specs.Setups.{setup_of}
use Rattle.bound_plan.specs.Layouts.{layout_of}
use Rattle.bound_plan.specs.Variables.{variable_index, variable_at, reduced_by, reduces_at}
use Rattle.bound_plan.specs.Laws.{CellsHaveOneIndex}
use Rattle.bound_plan.proofs.Public.{indexed, first_reduces}
use Rattle.rank_layout.specs.Tables.{Slot, no_slot, slots, most, places_on, tables_of}
use Rattle.rank_layout.specs.Made.{EachIsScalar}
use Rattle.rank_layout.specs.TableLaws.{TablesAreIndexed, SlotsStand, PlacesStand, ScalarsStand}
use Rattle.rank_layout.proofs.SlotNumbers.{slot_is}

-- ---- constants

module _ (b : BoundValue) (numbered : AreNumbered b) where
  constant_is : (j : ℕ) → j < length (constants b)
      → (variable_index b (get_or (constants b) j no_constant) < length (variable_cells b))
      × (variable_at b (variable_index b (get_or (constants b) j no_constant)) ≡ get_or (constants b) j no_constant)
  constant_is j lj = let n = numbered.cells j lj in indexed b (get_or (constants b) j no_constant) n.variable n.component

all_below : (f : VarCell → ℕ) (n : ℕ) (xs : List VarCell) → ((j : ℕ) → j < length xs → f (get_or xs j no_constant) < n) → InLength n (map f xs)
all_below f n [] h = tt
all_below f n (x ∷ xs) h = (h 0 (omega arith), all_below f n xs (λ j l. h (suc j) (omega arith)))

all_same : (f : VarCell → ℕ) (g : ℕ → VarCell) (xs : List VarCell) → ((j : ℕ) → j < length xs → g (f (get_or xs j no_constant)) ≡ get_or xs j no_constant)
    → xs ≡ map g (map f xs)
all_same f g [] h = refl
all_same f g (x ∷ xs) h = let first = h 0 (omega arith) in let rest = all_same f g xs (λ j l. h (suc j) (omega arith)) in cc

-- ---- places

-- the plan of a loop is none, or one of all
plan_among : (r : ℕ) (t : ℕ → Bool) (xs : List (ℕ × SitePlanValue))
    → slice_index (or_none (lookup t xs)).places r ≤ most (map (λ (e : ℕ × SitePlanValue). slice_index e.1.places r) xs)
plan_among r t [] = omega arith
plan_among r t (e ∷ es) = ⊎_elim
    (λ (h : t e.0 ≡ true).
    let here : slice_index (or_none (lookup t (e ∷ es))).places r ≡ slice_index e.1.places r =
    ap (λ z. slice_index (or_none z).places r) (cond-true (t e.0) (Some e.1) (lookup t es) h) in
    omega (arith, here))
    (λ (h : t e.0 ≡ false).
    let there : slice_index (or_none (lookup t (e ∷ es))).places r ≡ slice_index (or_none (lookup t es)).places r =
    ap (λ z. slice_index (or_none z).places r) (cond-false (t e.0) (Some e.1) (lookup t es) h) in
    let rest = plan_among r t es in
    omega (arith, there, rest))
    (cases_Bool (t e.0))

enough : (p : PlanValue) (s r : ℕ) → places_in p s r ≤ places_on p r
unfolding site_plan
enough p s r = plan_among r (nat_eq s) p.sites

pub tables_are_indexed : CellsHaveOneIndex → ConstantsAreNumbered → TablesAreIndexed
tables_are_indexed law numbers b o n meshes p pl =
    let one = law b o n meshes p pl in
    let numbered = numbers b pl.fits.constants in
    record {
      place_at = one.places;
      index_at = one.variables;
      constants_are = all_same (variable_index b) (variable_at b) (constants b) (λ j l. (constant_is b numbered j l).1);
      constants_fit = all_below (variable_index b) (length (variable_cells b)) (constants b) (λ j l. (constant_is b numbered j l).0);
      counts_fit = λ k r free lr. enough p (loop_at b meshes p k) r;
    }

-- ---- slots

slot_reduces : (b : BoundValue) → Fits b → (k : ℕ) → k < length (slots b)
    → reduces_at b (get_or (slots b) k no_slot).site (get_or (slots b) k no_slot).cell ≡ Some (get_or (slots b) k no_slot).how
slot_reduces b fits k lk =
    let w = slot_is b k lk in
    let fit : SiteFits b (site_at b w.site) = fits.sites w.site no_site w.there in
    let v = w.is.var in
    let merges : reduced_by (site_at b w.site).args v ≡ Some w.is.how =
    first_reduces (site_at b w.site).args fit.apart w.arg v w.is.access w.is.how w.arg_there w.is.is_arg w.is.reduces in
    subst (λ (x : Slot). reduces_at b x.site x.cell ≡ Some x.how) (sym w.is.is_slot)
    (cond-true (nat_lt w.component (var_width b v)) (reduced_by (site_at b w.site).args v) None (lt-ltb w.component (var_width b v) w.is.below) ∙ merges)

pub slots_stand : SlotsStand
slots_stand b o n meshes p lists t pl made = record {
  count = made.slot_count;
  operations = λ i lt. slot_reduces b pl.fits i lt ∙ ap Some (made.operations i lt);
}

pub places_stand : PlacesStand
places_stand b o meshes p lists t made = record { ranks = made.place_count; each = made.places }

-- ---- scalars

scalars_are : (b : BoundValue) (o : Owners) (meshes : List RankMesh) (p : PlanValue) (k : ℕ) (xs : List Scalar) → EachIsScalar b (loop_of (item_at b k)) xs
    → AreScalars (setup_of b o meshes p) (layout_of b o meshes p) (tables_of b p) k xs
scalars_are b o meshes p k [] h = tt
scalars_are b o meshes p k (Value at ∷ xs) h = (h.0, scalars_are b o meshes p k xs h.1)
scalars_are b o meshes p k (Amount at slot how ∷ xs) h = (h.0, scalars_are b o meshes p k xs h.1)

pub scalars_stand : ScalarsStand
scalars_stand b o meshes p k scalars are = record {
  are_scalars = scalars_are b o meshes p k scalars are.each;
  once = are.once;
  slots = are.covers;
  cells = are.reduced;
}

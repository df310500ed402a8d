-- What is looked up of a loop on a rank is what the runs of its elements take.
use Rattle.std.proofs.Common.{◌≡◌, ◌<◌, ◌≤◌, ℕ, Bool, false, true, List, ℤ, map, length, get_or, Some, sym, ap, ◌∙◌, subst, arith}
use Rattle.kernel_model.specs.declared.types.kernels.RKernel.{RKernel}
use Rattle.kernel_model.specs.Resolved.{IsResolved}
use Rattle.kernel_code.specs.declared.code.Code.{Code}
use Rattle.kernel_model.specs.Effects.{faults_first}
use Rattle.local_mesh.specs.declared.types.RankMesh.{RankMesh}
use Rattle.schedule_steps.specs.declared.step.Step.TheVariants.{Begin}
use Rattle.schedule_steps.specs.Steps.{IsStep}
use Rattle.schedule_model.specs.Layout.{by_place}
use Rattle.bound_program.specs.declared.sites.Site.{Site}
use Rattle.bound_program.specs.Values as value
use Rattle.bound_program.specs.Fits.{SiteFits}
use Rattle.bound_program.specs.Values.{BoundValue, SiteValue}
use Rattle.run_model.specs.Arguments.{arg_width}
use Rattle.run_model.specs.Constants.{AreNumbered}
use Rattle.run_model.specs.Kernels.{constants, kernel_at}
use Rattle.run_model.specs.Programs.{item_at, loop_of}
use Rattle.run_model.specs.Laws as the
use Rattle.rank_state.specs.declared.scalars.Scalar.{Scalar}
use Rattle.rank_state.specs.Windows.{Reads, Merges}
use Rattle.rank_layout.specs.Made.{row_of, writes_by}
use Rattle.rank_program.specs.declared.program.DistributedProgram.{DistributedProgram}
use Rattle.rank_program.specs.declared.local_loops.LocalLoop.{LocalLoop}
use Rattle.rank_program.specs.declared.rank_elements.RankElements.{RankElements}
use Rattle.rank_program.specs.Here.{scalars_in}
use Rattle.rank_program.specs.LocalLoops.{IsLoopOf}
use Rattle.rank_program.specs.Sound.{Sound, program_in, plan_in, setup_in, layout_in, tables_in}
use Rattle.rank_layout.specs.StepLaws.{IsBegin, StepsStand}
use Rattle.rank_layout.specs.WindowLaws.{ElementWindowsStand}
use Rattle.rank_layout.proofs.Public.{cells_at}
use Rattle.rank_program.proofs.BegunParts.{begins}
use Rattle.rank_program.proofs.ElementScalars.{are_read, have_slots}
use Rattle.rank_program.proofs.HereParts.{site_fits, windows_here, few_scalars}
use Rattle.rank_program.proofs.ItemParts.{kernel_there, kernel_of, takes, resolved}

module _ (c : DistributedProgram) (sound : Sound c) (stand : StepsStand) (k r x : ℕ) (step : IsStep (by_place (setup_in c) (layout_in c)) (Begin k r x)) where
  abbrev b : BoundValue
  b = program_in c

  abbrev site : SiteValue
  site = the.site_of b k

  begun : IsBegin b c.owners.now c.meshes.now (plan_in c) k r x
  begun = begins c sound stand k r x step

  fits : SiteFits b site
  fits = site_fits c sound stand k r x step

  -- of the loop's number
  module _ (n : ℕ) (loop : n ≡ loop_of (item_at b k)) where
    pub marks_are : (rows : _) → rows ≡ c.tables.writes.items → (marks : List Bool) → marks ≡ row_of rows n → marks ≡ map (writes_by site.args) site.args
    marks_are rows all marks at = at ∙ ap (λ l. row_of l n) all ∙ ap (row_of c.tables.writes.items) loop ∙ sound.made.writes (loop_of (item_at b k)) begun.loop

    pub scalars_are : (rows : _) → rows ≡ c.tables.scalars.items → (scalars : List Scalar) → scalars ≡ row_of rows n → scalars ≡ scalars_in c k
    scalars_are rows all scalars at = at ∙ ap (λ l. row_of l n) all ∙ ap (row_of c.tables.scalars.items) loop

    pub faults_are : (f : RKernel) → kernel_at b.kernels site.kernel ≡ Some f → (clean : Bool) → clean ≡ get_or c.tables.faults_first.items n false
        → clean ≡ true → faults_first (map (arg_width b) site.args) f ≡ true
    faults_are f kernel clean read holds =
        sym (sound.made.faults_first (loop_of (item_at b k)) begun.loop f kernel) ∙ ap (λ i. get_or c.tables.faults_first.items i false) (sym loop) ∙ sym read ∙ holds

  -- of its scalars
  module _ (windows : ElementWindowsStand) (m : RankMesh) (part : m ≡ get_or c.meshes.now r m) (scalars : List Scalar) (are : scalars ≡ scalars_in c k) where
    pub variables_are : (n : ℕ) → n ≡ (layout_in c).variables → Reads n scalars
    variables_are n long =
        subst (λ z. Reads z scalars) (sym long)
        (subst (Reads (layout_in c).variables) (sym are) (are_read (setup_in c) (layout_in c) (tables_in c) k (scalars_in c k) (windows_here c sound stand k r x step windows m part).are_scalars))

    pub partials_are : Merges (tables_in c).slots scalars
    partials_are =
        subst (Merges (tables_in c).slots) (sym are) (have_slots (setup_in c) (layout_in c) (tables_in c) k (scalars_in c k) (windows_here c sound stand k r x step windows m part).are_scalars)

    pub stride_is : length scalars ≤ (tables_in c).stride
    stride_is = let few = few_scalars c sound stand k r x step windows in let same = ap length are in omega (arith, few, same)

  pub width_is : (m : RankMesh) → m ≡ get_or c.meshes.now r m → m.cells ≡ (layout_in c).width r
  width_is m part = cells_at c.meshes.now r m begun.here part

  -- the loop as it is read, and the code of its kernel
  module _ (read : Site) (is : value.site_of read ≡ site) where
    pub code_there : read.kernel < length c.codes.now
    code_there =
        let lt = kernel_there b.kernels site.kernel (length site.args) fits.kernel in
        let at : read.kernel ≡ site.kernel = ap (λ (s : SiteValue). s.kernel) is in
        omega (arith, lt, at, sound.codes.count)

    module _ (d : Code) where
      abbrev pub kernel_read : RKernel
      kernel_read = (get_or c.codes.now read.kernel d).kernel.now

      kernel_same : kernel_read ≡ get_or b.kernels site.kernel kernel_read
      kernel_same = sound.codes.of_kernel read.kernel d kernel_read code_there ∙ ap (λ (s : SiteValue). get_or b.kernels s.kernel kernel_read) is

      pub kernel_is : kernel_at b.kernels site.kernel ≡ Some kernel_read
      kernel_is = kernel_of b sound.planned.fits site fits kernel_read kernel_same

      pub params_are : length site.args ≡ kernel_read.params
      params_are = takes b sound.planned.fits site fits kernel_read kernel_same

      pub resolved_in : AreNumbered b → (n : ℕ) → n ≡ length (constants b) → IsResolved n kernel_read
      resolved_in numbered n long = resolved b sound.planned.fits site fits kernel_read kernel_same numbered n long

-- what holds of a loop holds of the elements and values that it is of
module _ (e : RankElements) (cs : List ℤ) (l : LocalLoop) (of : IsLoopOf e cs l) (P : DistributedProgram → (k r : ℕ) → (xs : List ℕ) → (cs vs : List ℤ) → Type 0) where
  pub of_loop : P l.program.now l.item l.rank l.places.now l.constants.now l.variables.now
      → P e.program.now e.item e.rank e.places.now cs e.variables.now
  of_loop h =
      subst (λ ws. P e.program.now e.item e.rank e.places.now cs ws) of.variables
      (subst (λ ds. P e.program.now e.item e.rank e.places.now ds l.variables.now) of.constants
      (subst (λ ys. P e.program.now e.item e.rank ys l.constants.now l.variables.now) of.places
      (subst (λ q. P e.program.now e.item q l.places.now l.constants.now l.variables.now) of.rank
      (subst (λ j. P e.program.now j l.rank l.places.now l.constants.now l.variables.now) of.item
      (subst (λ d. P d l.item l.rank l.places.now l.constants.now l.variables.now) of.program h)))))

  pub to_loop : P e.program.now e.item e.rank e.places.now cs e.variables.now
      → P l.program.now l.item l.rank l.places.now l.constants.now l.variables.now
  to_loop h =
      subst (λ d. P d l.item l.rank l.places.now l.constants.now l.variables.now) (sym of.program)
      (subst (λ j. P e.program.now j l.rank l.places.now l.constants.now l.variables.now) (sym of.item)
      (subst (λ q. P e.program.now e.item q l.places.now l.constants.now l.variables.now) (sym of.rank)
      (subst (λ ys. P e.program.now e.item e.rank ys l.constants.now l.variables.now) (sym of.places)
      (subst (λ ds. P e.program.now e.item e.rank e.places.now ds l.variables.now) (sym of.constants)
      (subst (λ ws. P e.program.now e.item e.rank e.places.now cs ws) (sym of.variables) h)))))

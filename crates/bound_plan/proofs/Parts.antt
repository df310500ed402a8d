-- The parts of the setup: arguments, halos, messages and colours of its Free loops.
use Rattle.std.proofs.Common.{◌≡◌, ◌<◌, ℕ, true, List, length, get_or, Some, None, refl, sym, ap, subst, ◌∙◌}
use Rattle.op_num.specs.Reduction.{Reduction}
use Rattle.op_num.specs.Access as laws
use Rattle.op_num.specs.Access.{OpRead, OpReduce, access_of}
use Rattle.mesh_decl.specs.declared.owners.Owners.{Owners}
use Rattle.mesh_decl.specs.declared.owners.Perms.{Perms}
use Rattle.mesh_decl.specs.Mesh.{map_count, map_from, map_to, map_dim, dat_set}
use Rattle.local_mesh.specs.declared.types.RankMesh.{RankMesh}
use Rattle.schedule_model.specs.Cells.{VarCell}
use Rattle.schedule_model.specs.Program.{Free}
use Rattle.schedule_model.specs.Arguments.{Direct, Indirect, is_on, modifying, reading}
use Rattle.schedule_model.specs.Arguments as theorem
use Rattle.schedule_model.specs.LoopParts.{LoopParts}
use Rattle.bound_program.specs.declared.sites.Arg.{Arg}
use Rattle.bound_program.specs.declared.sites.Arg.TheVariants.{Dat}
use Rattle.bound_program.specs.Values.{BoundValue}
use Rattle.bound_program.specs.Classes.{modifies}
use Rattle.bound_program.specs.Fits.{SiteFits, ArgFits, site_at}
use Rattle.run_model.specs.Programs.{kind_of, loop_of, item_at}
use Rattle.run_model.specs.Laws.{site_of}
use Rattle.run_model.specs.Arguments.{no_arg, argument_of, argument_at, entries, dat_width, var_width}
use Rattle.loop_plan.specs.Values.{PlanValue, item_plan}
use Rattle.loop_plan.specs.Needs.{item_scatters, needs}
use Rattle.bound_plan.specs.Setups.{setup_of}
use Rattle.bound_plan.specs.Laws.{Planned}
use Rattle.bound_plan.specs.Variables.{reduces_at}
use Rattle.bound_plan.specs.Given.{NumberLaws, ItemLaws, HaloLaws}
use Rattle.bound_plan.proofs.Loops.{free_args_are, loop_args_are}
use Rattle.bound_plan.proofs.Trace.{class_is}
use Rattle.bound_plan.proofs.Globals as variables
use Rattle.bound_plan.proofs.DatArgs as args
use Rattle.bound_plan.proofs.Halos as halo
use Rattle.bound_plan.proofs.Placed.{site_fits, scatters_is}
use Rattle.bound_plan.proofs.Coloured.{coloured}
use Rattle.bound_plan.proofs.Touched.{Merges, merges, merged_touch, constant_touch}

module _ (numbers : NumberLaws) (items : ItemLaws) (halos : HaloLaws) (b : BoundValue) (o : Owners) (n : Perms) (meshes : List RankMesh) (p : PlanValue) (pl : Planned b o n meshes p) where
  module _ (k : ℕ) (free : kind_of (item_at b k) ≡ Free) where
    pub fits : SiteFits b (site_of b k)
    fits = site_fits numbers items b o n meshes p pl k free

    arg_fits : (a : ℕ) (y : Arg) → a < length (site_of b k).args → get_or (site_of b k).args a no_arg ≡ y → ArgFits b (site_of b k).set y
    arg_fits a y l e = subst (ArgFits b (site_of b k).set) e (fits.args a no_arg l)

    pub direct_set : (a d : ℕ) (x : laws.Access) → a < length (site_of b k).args → argument_at (site_of b k) a ≡ Direct d x → dat_set b.mesh d ≡ (site_of b k).set
    direct_set a d x l e =
        let w = args.direct_is (get_or (site_of b k).args a no_arg) d x e in
        (arg_fits a (Dat d _ w.0) l w.1).2

    pub indirect_set : (a d m i : ℕ) (x : laws.Access) → a < length (site_of b k).args → argument_at (site_of b k) a ≡ Indirect d m i x
        → (m < map_count b.mesh) × (map_from b.mesh m ≡ (site_of b k).set) × (map_to b.mesh m ≡ dat_set b.mesh d) × (i < map_dim b.mesh m)
    indirect_set a d m i x l e =
        let w = args.indirect_is (get_or (site_of b k).args a no_arg) d m i x e in
        let f = (arg_fits a (Dat d (Some w.0) w.1) l w.2).2 in
        subst (λ z. (z < map_count b.mesh) × (map_from b.mesh z ≡ (site_of b k).set) × (map_to b.mesh z ≡ dat_set b.mesh d) × (i < map_dim b.mesh z)) w.3
        (f.0, f.1, f.2, subst (λ z. z < map_dim b.mesh w.0.map) w.4 f.3)

    pub named_once : (a c v : ℕ) (x : laws.Access) (r : Reduction) → a < length (site_of b k).args → c < length (site_of b k).args
        → argument_at (site_of b k) a ≡ theorem.Global v x → argument_at (site_of b k) c ≡ theorem.Global v (OpReduce r) → a ≡ c
    named_once a c v x r la lc ea ec =
        let u = args.global_is (get_or (site_of b k).args a no_arg) v x ea in
        let w = args.global_is (get_or (site_of b k).args c no_arg) v (OpReduce r) ec in
        variables.named_once (site_of b k).args fits.apart a c v u.0 w.0 r la lc u.1 w.1 (variables.reducing_is w.0 r w.2)

    pub reduces_only : (v : VarCell) (r : Reduction) → reduces_at b (loop_of (item_at b k)) v ≡ Some r
        → (a : ℕ) × (a < length (site_of b k).args) × (argument_at (site_of b k) a ≡ theorem.Global v.variable (OpReduce r)) × (v.component < var_width b v.variable)
    reduces_only v r h =
        let w : Merges b (loop_of (item_at b k)) fits v r = merges b (loop_of (item_at b k)) fits v r h in (
          w.argument.number,
          w.argument.there,
          ap argument_of w.argument.is ∙ ap (theorem.Global v.variable) (variables.reduction_is w.argument.access r w.argument.how),
          w.component,
        )

    pub modifies_is : (a d : ℕ) → a < length (site_of b k).args → is_on d (argument_at (site_of b k) a) ≡ true
        → modifying (theorem.access_of (argument_at (site_of b k) a)) ≡ true → modifies (site_of b k).args d ≡ true
    modifies_is a d l on m =
        let w : args.OnDat (get_or (site_of b k).args a no_arg) d = args.on_dat (get_or (site_of b k).args a no_arg) d on in
        args.modifies_is (site_of b k).args d a w.via w.access l w.is (ap modifying (sym w.how) ∙ m)

    pub scattering : (a d m i : ℕ) (r : Reduction) → a < length (site_of b k).args → argument_at (site_of b k) a ≡ Indirect d m i (OpReduce r) → item_scatters b k ≡ true
    scattering a d m i r l e =
        let w = args.indirect_is (get_or (site_of b k).args a no_arg) d m i (OpReduce r) e in
        scatters_is numbers items b o n meshes p pl k free ∙ args.scatters_is (site_of b k).args a d w.0 w.1 r l w.2 w.5

    pub needs_indirect : (a d m i : ℕ) → a < length (site_of b k).args → argument_at (site_of b k) a ≡ Indirect d m i OpRead → needs (site_of b k).args d ≡ true
    needs_indirect a d m i l e =
        let w = args.indirect_is (get_or (site_of b k).args a no_arg) d m i OpRead e in
        args.needs_through (site_of b k).args a d w.0 w.1 l w.2 w.5

    pub needs_direct : (a d : ℕ) (x : laws.Access) → a < length (site_of b k).args → argument_at (site_of b k) a ≡ Direct d x → reading x ≡ true → item_scatters b k ≡ true
        → needs (site_of b k).args d ≡ true
    needs_direct a d x l e r s =
        let w = args.direct_is (get_or (site_of b k).args a no_arg) d x e in
        args.needs_directly (site_of b k).args a d w.0 l w.1 (ap reading w.2 ∙ r) (sym (scatters_is numbers items b o n meshes p pl k free) ∙ s)

  unfoldable pub parts : LoopParts (setup_of b o meshes p)
  parts = record {
    args = λ s. length (site_at b s).args;
    arg = λ s. argument_at (site_at b s);
    maps = map_count b.mesh;
    from_set = map_from b.mesh;
    to_set = map_to b.mesh;
    arity = map_dim b.mesh;
    entry = entries b;
    dim = dat_width b;
    width = var_width b;
    direct_set = λ k a d x f l e. direct_set k f a d x l e;
    indirect_set = λ k a d m i x f l e. indirect_set k f a d m i x l e;
    in_range = λ m e i lm le li. (halos.maps b.mesh pl.fits.mesh m lm).within e i le li;
    named_once = λ k a c v x r f la lc ea ec. named_once k f a c v x r la lc ea ec;
    reduces_only = λ k v r f h. reduces_only k f v r h;
    touch_is = λ k e c f le. refl;
    variable_touch = λ k e v r f le h. merged_touch b (loop_of (item_at b k)) (fits k f) e v r h;
    constant_touch = λ k e v f le h. constant_touch b (loop_of (item_at b k)) (fits k f) e v h;
    free_is = λ k c d f l on m. args.free_is (site_of b k).args c d (sym (fits k f).class ∙ class_is b None b.trace k pl.fits.items f) l on m;
    modifies_is = λ k a d f l on m. ap (λ z. modifies z d) (loop_args_are b k f) ∙ modifies_is k f a d l on m;
    modifies_only = λ k d f h.
        let w : args.Modifying (site_of b k).args d = args.modifies_only (site_of b k).args d (ap (λ z. modifies z d) (sym (loop_args_are b k f)) ∙ h) in
        (w.number, w.there, w.on, w.modifies);
    scatters_is = λ k a d m i r f l e. scattering k f a d m i r l e;
    needs_indirect = λ k a d m i f l e. ap (λ z. needs z d) (free_args_are b k f) ∙ needs_indirect k f a d m i l e;
    needs_direct = λ k a d x f l e r s. ap (λ z. needs z d) (free_args_are b k f) ∙ needs_direct k f a d x l e r s;
    execute_if = λ r s e m i lr le ne lm fm li h. halo.execute_if halos b.mesh pl.fits.mesh o r s e m i ne lm fm li h;
    execute_other = λ r s e lr le h. halo.execute_other halos b.mesh pl.fits.mesh o r s e h;
    nonexecute_if = λ r m e i lr lm li le h ne none. halo.nonexecute_if halos b.mesh pl.fits.mesh o r m e i lm li le h ne none;
    nonexecute_other = λ r s e lr le h. halo.nonexecute_other halos b.mesh pl.fits.mesh o r s e h;
    core_own = λ r s e lr le h. halo.core_own halos b.mesh pl.fits.mesh o r s e h;
    core_targets = λ r s e m i lr le h lm fm li. halo.core_targets halos b.mesh pl.fits.mesh o r s e m i h lm fm li;
    sent = λ k r d e f lr h le i. halo.sent halos b.mesh pl.fits.mesh o n meshes pl.distributed (item_plan p k).exchange r d e lr h le i;
    coloured = λ k r x y a c d f lr lx ly ex ey ne la lc oa oc q s qa sc same.
        coloured numbers items halos b o n meshes p pl k f r lr x y a c d lx ly ex ey ne la lc oa oc q s qa sc same;
  }

-- Every bound program fits, constants aside.
use Rattle.std.proofs.Common.{◌<◌, ◌^◌, List, [], length, Ok, Err, refl, arith}
use Rattle.std.specs.Prelude.{All, None}
use Rattle.std.proofs.lemmas.List.Elements.{All-nil, All-weaker}
use Rattle.c_tree.specs.Tree.{ProgramTree}
use Rattle.kernel_model.specs.declared.types.kernels.RKernel.{RKernel}
use Rattle.kernel_model.specs.declared.types.kernels.Resolved.{Resolved}
use Rattle.mesh_decl.specs.declared.decl.SetDecl.{SetDecl}
use Rattle.mesh_decl.specs.Mesh.{MeshValue, no_mesh, IsMesh, IsMap, IsDat}
use Rattle.mesh_decl.specs.Spelling.{Named}
use Rattle.bound_program.specs.Values.{BoundValue}
use Rattle.bound_program.specs.Refusals.{Judged, ◌>>=◌}
use Rattle.bound_program.specs.Limits.{max_trace}
use Rattle.bound_program.specs.Steps.{Block}
use Rattle.main_declarations.specs.SoFar.{Declared, Walked, quiet, nothing_declared}
use Rattle.loop_bind.specs.Text.{outermost, judged_hosts}
use Rattle.main_declarations.specs.File.{judged_tops}
use Rattle.bound_program.specs.Trace.{events}
use Rattle.bound_program.specs.Limited.{UnrolledValue, unrolled}
use Rattle.loop_bind.specs.Weights.{weight_of_all, within_weight, weighed, trace, with_told}
use Rattle.loop_bind.specs.Bound.{text, happens, finished, unrolled_text, bound}
use Rattle.bound_program.specs.Fits.{SiteFits, ItemsFit, EndsWithHost}
use Rattle.loop_bind.specs.Sources.{TopIsRead, HostsAreRead, HaveNumbers, TopsTake}
use Rattle.loop_bind.proofs.FitsTargets.{AllAssignVariables, MainAssignsVariables}
use Rattle.main_declarations.proofs.Public.{Gives, gives_then, gives_any}
use Rattle.loop_bind.proofs.FitsState.{NameFits, NameIsOwn, ExternFits, HasDim, HasMapDim, so_far, Lawful}
use Rattle.loop_bind.proofs.FitsVars.{site_more}
use Rattle.loop_bind.proofs.FitsFile.{TopLawful, tops_are}
use Rattle.loop_bind.proofs.FitsMain.{Walks, WalksOn}
use Rattle.loop_bind.proofs.FitsText.{hosts_are}
use Rattle.loop_bind.proofs.FitsTrace.{main_fits, Unrolls, unrolls, Last, lasts, ends_with_host}
use Rattle.loop_bind.proofs.FitsTold.{told_same, all_one, items_moved}

-- what fits, constants aside
pub record Parts (b : BoundValue) : Type 0 where
  pub mesh : IsMesh b.mesh
  pub sites : All (SiteFits b) b.sites
  pub items : ItemsFit b None b.trace
  pub last : EndsWithHost b.trace
  pub few : length b.trace < 2 ^ 32

module _ (ks : List RKernel) (es : List Named) where
  no_sets : IsMesh no_mesh
  no_sets = record {
    few_sets = omega arith;
    few_maps = omega arith;
    few_dats = omega arith;
    sizes = All-nil (λ (d : SetDecl). d.size < 2 ^ 32);
    maps = All-nil (IsMap []);
    dats = All-nil (IsDat []);
  }

  nothing_lawful : TopLawful ks es nothing_declared
  nothing_lawful = record {
    lawful = record {
      mesh = no_sets;
      few_sets = omega arith;
      few_maps = omega arith;
      few_dats = omega arith;
      dims = All-nil HasDim;
      map_dims = All-nil HasMapDim;
      cells = refl;
      file = All-nil (NameFits ks no_mesh [] 0);
      own = All-nil (NameFits ks no_mesh [] 0);
      mine = All-nil NameIsOwn;
      externs = All-nil (ExternFits es [] []);
      sites = All-nil (SiteFits (so_far ks nothing_declared));
    };
    externs = refl;
    sites = refl;
  }

module _ (p : ProgramTree) (r : Resolved) (es : List Named) where
  abbrev ks : List RKernel
  ks = r.kernels.items

  pub text_walks : TopsTake ks 0 p.tops → All TopIsRead p.tops → HostsAreRead p.main.body → HaveNumbers es → MainAssignsVariables p r es → Gives (Walks ks es) (text p r es)
  text_walks takes tops body numbers assigns = go (judged_tops p.places r.consts.items es nothing_declared p.tops)
      (tops_are ks es p.places r.consts.items nothing_declared p.tops numbers (nothing_lawful ks es) takes tops) assigns
    where
      moved : (k : Declared) (j : Judged Walked) → Gives (WalksOn ks es k) j → Gives (Walks ks es) j
      moved k (Ok b) w = w.walks
      moved k (Err e) w = tt

      by_file : Judged Declared → Type 0
      by_file (Ok k) = AllAssignVariables p.places r.consts.items es (quiet k) outermost p.main.body
      by_file (Err e) = Unit {0}

      go : (j : Judged Declared) → Gives (TopLawful ks es) j → by_file j → Gives (Walks ks es) (j >>= λ k. judged_hosts p.places r.consts.items es (quiet k) outermost p.main.body)
      go (Err e) h a = tt
      go (Ok k) h a =
          moved k (judged_hosts p.places r.consts.items es (quiet k) outermost p.main.body)
          (hosts_are ks es p.places r.consts.items (quiet k) outermost p.main.body (record { lawful = h.lawful; steps = tt }) body a)

  -- ---- the trace

  both : {A : Type 0} (P Q : A → Type 0) (j : Judged A) → Gives P j → Gives Q j → Gives (λ x. P x × Q x) j
  both P Q (Ok x) h i = (h, i)
  both P Q (Err e) h i = tt

  weighed_gives : (P : UnrolledValue → Type 0) (g : MeshValue) (u : UnrolledValue) → P u → Gives P (weighed g u)
  weighed_gives P g u h =
      gives_then (λ x. Unit {0}) P (within_weight (weight_of_all g u.items)) (λ x. Ok u) (gives_any (within_weight (weight_of_all g u.items))) (λ x i. h)

  pub walk_unrolls : (w : Walked) → Walks ks es w → Gives (λ u. Unrolls (so_far ks w.declared) None max_trace u × Last u) (trace w.declared.mesh (happens w))
  walk_unrolls w h =
      gives_then P P (unrolled max_trace (happens w)) (weighed w.declared.mesh)
      (both (Unrolls (so_far ks w.declared) None max_trace) Last (unrolled max_trace (happens w))
      (unrolls (so_far ks w.declared) max_trace None (happens w) (main_fits (so_far ks w.declared) w.declared.cells h.lawful.cells w.steps h.steps))
      (lasts max_trace (events w.declared.sites [] (Block w.steps))))
      (λ u i. weighed_gives P w.declared.mesh u i)
    where
      P : UnrolledValue → Type 0
      P u = Unrolls (so_far ks w.declared) None max_trace u × Last u

  pub finished_fits : (k : Declared) (u : UnrolledValue) → Lawful ks es k → Unrolls (so_far ks k) None max_trace u → Last u → Parts (finished r k u)
  finished_fits k u h i l =
      let s = told_same u.values k.vars (all_one (so_far ks k) u.values i.values) in
      record {
        mesh = h.mesh;
        sites = All-weaker (SiteFits (so_far ks k)) (SiteFits (finished r k u)) (λ t f. site_more k.mesh ks k.sites k.sites k.vars (with_told u.values k.vars) [] u.items s.kept t f) k.sites h.sites;
        items = items_moved k.mesh ks k.sites k.vars (with_told u.values k.vars) [] u.items s None u.items i.items;
        last = ends_with_host u.items l.last;
        few = omega (arith, i.few);
      }

  -- the maps are those of the text
  pub maps_narrow : TopsTake ks 0 p.tops → All TopIsRead p.tops → HostsAreRead p.main.body → HaveNumbers es → MainAssignsVariables p r es → Gives (λ b. All HasMapDim b.mesh.maps) (bound p r es)
  maps_narrow takes tops body numbers assigns =
      gives_then (Walks ks es) (λ b. All HasMapDim b.mesh.maps) (text p r es) (unrolled_text r) (text_walks takes tops body numbers assigns)
      (λ w h. gives_then (λ u. Unit {0}) (λ b. All HasMapDim b.mesh.maps) (trace w.declared.mesh (happens w)) (λ u. Ok (finished r w.declared u)) (gives_any (trace w.declared.mesh (happens w)))
      (λ u i. h.lawful.map_dims))

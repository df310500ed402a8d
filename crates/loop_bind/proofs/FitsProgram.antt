-- Every bound program fits.
use Rattle.std.proofs.Common.{◌≡◌, ℕ, List, [], Ok, Err, refl, sym, subst}
use Rattle.std.specs.Prelude.{All, None}
use Rattle.std.proofs.lemmas.List.Elements.{All-nil}
use Rattle.c_tree.specs.Tree.{ProgramTree}
use Rattle.kernel_model.specs.declared.types.kernels.ConstDecl.{ConstDecl}
use Rattle.kernel_model.specs.declared.types.kernels.Resolved.{Resolved}
use Rattle.mesh_decl.specs.Spelling.{Named}
use Rattle.bound_program.specs.Values.{BoundValue}
use Rattle.bound_program.specs.Refusals.{Judged}
use Rattle.bound_program.specs.Limits.{max_trace}
use Rattle.main_declarations.specs.SoFar.{Declared, Walked, quiet, nothing_declared}
use Rattle.loop_bind.specs.Text.{outermost, judged_hosts}
use Rattle.main_declarations.specs.File.{judged_tops}
use Rattle.loop_bind.specs.Weights.{trace}
use Rattle.loop_bind.specs.Bound.{text, happens, finished, unrolled_text, bound}
use Rattle.loop_bind.specs.FileVariables.{FileVariable, file_variables, all_constant_names}
use Rattle.bound_program.specs.Fits.{Fits, KernelFits}
use Rattle.loop_bind.specs.Hidden.{AllNameNoOwn}
use Rattle.loop_bind.specs.ResolvedSources.{IsResolvedSource, NamedNamesAreAll}
use Rattle.loop_bind.specs.Sources.{HaveNumbers}
use Rattle.loop_bind.specs.Resolvable.{BoundProgramsFit, BoundMapsAreNarrow}
use Rattle.name_resolution.specs.Programs.{named_in}
use Rattle.loop_bind.proofs.FitsHidden.{hosts_unhidden, are_same}
use Rattle.main_declarations.proofs.Public.{Gives, gives_then}
use Rattle.loop_bind.proofs.FitsState.{HasMapDim, so_far}
use Rattle.loop_bind.proofs.FitsTargets.{AllAssignVariables, MainAssignsVariables}
use Rattle.loop_bind.proofs.FitsScopeWalk.{Scoped, tops_scoped, hosts_assign}
use Rattle.loop_bind.specs.Assigned.{after_tops}
use Rattle.loop_bind.proofs.FitsMain.{Walks}
use Rattle.loop_bind.proofs.FitsTrace.{Unrolls, Last}
use Rattle.loop_bind.proofs.FitsTold.{all_one}
use Rattle.loop_bind.proofs.FitsBound.{Parts, text_walks, walk_unrolls, maps_narrow, finished_fits}
use Rattle.loop_bind.proofs.FitsFileConsts.{EntryNamed, FileConsts, tops_are_consts}
use Rattle.loop_bind.proofs.FitsMainConsts.{EntryOfMain, MainConsts}
use Rattle.loop_bind.proofs.FitsConstWalk.{Have, hosts_go}
use Rattle.loop_bind.proofs.FitsConstants.{Match, tagged_match, match_told, constants_fit, kernels_fit}

module _ (named_names : NamedNamesAreAll) (p : ProgramTree) (r : Resolved) (es : List Named) (h : IsResolvedSource p r) (numbers : HaveNumbers es) where
  abbrev cs : List ConstDecl
  cs = r.consts.items

  abbrev fs : List FileVariable
  fs = file_variables p.tops

  abbrev done : List (List ℕ)
  done = all_constant_names p.main.body

  -- ---- the constants behind the text

  both : {A : Type 0} (P Q : A → Type 0) (j : Judged A) → Gives P j → Gives Q j → Gives (λ x. P x × Q x) j
  both P Q (Ok x) h i = (h, i)
  both P Q (Err e) h i = tt

  no_file : FileConsts cs [] nothing_declared
  no_file = record { tagged = tt; long = refl; file = All-nil (EntryNamed cs []); own = refl }

  begins : (k : Declared) → FileConsts cs fs k → MainConsts cs fs h.apart [] k
  begins k f = record { tagged = f.tagged; file = f.file; own = subst (All EntryOfMain) (sym f.own) (All-nil EntryOfMain) }

  text_constants : Gives (Have cs fs h.apart p.places es done) (text p r es)
  text_constants =
      gives_then (FileConsts cs fs) (Have cs fs h.apart p.places es done) (judged_tops p.places cs es nothing_declared p.tops) (λ k. judged_hosts p.places cs es (quiet k) outermost p.main.body)
      (tops_are_consts cs p.places es [] nothing_declared p.tops no_file)
      (λ k f. hosts_go cs fs h.apart p.places es [] (quiet k) outermost p.main.body (begins k f))

  -- ---- what is assigned

  no_names : Scoped [] [] nothing_declared
  no_names = record { file = tt; own = tt }

  assigns : MainAssignsVariables p r es
  assigns = go (judged_tops p.places cs es nothing_declared p.tops) (tops_scoped p.places cs es [] [] nothing_declared p.tops no_names)
    where
      by_file : Judged Declared → Type 0
      by_file (Ok k) = AllAssignVariables p.places cs es (quiet k) outermost p.main.body
      by_file (Err e) = Unit {0}

      go : (j : Judged Declared) → Gives (Scoped (after_tops [] p.tops) []) j → by_file j
      go (Ok k) g = hosts_assign p.places cs es (after_tops [] p.tops) [] (quiet k) outermost p.main.body g h.assigns
      go (Err e) g = tt

  -- ---- what an `op_decl_const` names

  text_unhidden : Gives (λ (w : Walked). AllNameNoOwn [] p.main.body) (text p r es)
  text_unhidden =
      gives_then (λ k. FileConsts cs fs k × Scoped (after_tops [] p.tops) [] k) (λ (w : Walked). AllNameNoOwn [] p.main.body)
      (judged_tops p.places cs es nothing_declared p.tops) (λ k. judged_hosts p.places cs es (quiet k) outermost p.main.body)
      (both (FileConsts cs fs) (Scoped (after_tops [] p.tops) []) (judged_tops p.places cs es nothing_declared p.tops)
      (tops_are_consts cs p.places es [] nothing_declared p.tops no_file)
      (tops_scoped p.places cs es [] [] nothing_declared p.tops no_names))
      (λ k i. hosts_unhidden cs fs h.apart p.places es (after_tops [] p.tops) [] [] (quiet k) outermost p.main.body (begins k i.0) i.1)

  -- ---- the whole

  record Whole (w : Walked) : Type 0 where
    walks : Walks r.kernels.items es w
    constants : MainConsts cs fs h.apart done w.declared
    unhidden : AllNameNoOwn [] p.main.body

  whole : (j : Judged Walked) → Gives (Walks r.kernels.items es) j → Gives (Have cs fs h.apart p.places es done) j → Gives (λ (w : Walked). AllNameNoOwn [] p.main.body) j → Gives Whole j
  whole (Ok w) a b c = record { walks = a; constants = b; unhidden = c }
  whole (Err e) a b c = tt

  fits_are : (b : BoundValue) → b.kernels ≡ r.kernels.items → Parts b → Match b.vars cs → Fits b
  fits_are b same parts m = record {
    mesh = parts.mesh;
    kernels = subst (All (KernelFits b)) (sym same) (kernels_fit b cs h.resolved.consts m r.kernels.items h.resolved.kernels h.uses);
    constants = constants_fit b cs h.resolved.consts m;
    sites = parts.sites;
    items = parts.items;
    last = parts.last;
    few = parts.few;
  }

  whole_fits : (w : Walked) → Whole w → Gives Fits (unrolled_text r w)
  whole_fits w i =
      gives_then (λ u. Unrolls (so_far r.kernels.items w.declared) None max_trace u × Last u) Fits (trace w.declared.mesh (happens w))
      (λ u. Ok (finished r w.declared u)) (walk_unrolls p r es w i.walks)
      (λ u j. fits_are (finished r w.declared u) refl (finished_fits p r es w.declared u i.walks.lawful j.0 j.1)
      (match_told u.values w.declared.vars cs (all_one (so_far r.kernels.items w.declared) u.values j.0.values)
      (tagged_match cs done fs w.declared.vars cs i.constants.tagged (are_same (named_in p) done (named_names p i.unhidden) fs cs h.constants) h.found)))

  all_fit : Gives Fits (bound p r es)
  all_fit =
      gives_then Whole Fits (text p r es) (unrolled_text r) (whole (text p r es) (text_walks p r es h.takes h.tops h.body numbers assigns) text_constants text_unhidden) whole_fits

  maps_are_narrow : Gives (λ b. All HasMapDim b.mesh.maps) (bound p r es)
  maps_are_narrow = maps_narrow p r es h.takes h.tops h.body numbers assigns

pub bound_programs_fit : NamedNamesAreAll → BoundProgramsFit
bound_programs_fit named_names p r es b h n e = subst (Gives Fits) e (all_fit named_names p r es h n)

pub bound_maps_are_narrow : NamedNamesAreAll → BoundMapsAreNarrow
bound_maps_are_narrow named_names p r es b h n e = subst (Gives (λ b. All HasMapDim b.mesh.maps)) e (maps_are_narrow named_names p r es h n)

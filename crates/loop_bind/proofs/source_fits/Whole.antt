-- A source that was read and resolves is a resolved source.
use Rattle.std.proofs.Common.{◌≡◌, List, [], map, Ok, sym, subst, ap}
use Rattle.std.specs.Prelude.{All}
use Rattle.c_tree.specs.Tree.{ProgramTree}
use Rattle.kernel_model.specs.declared.types.kernels.ConstDecl.{ConstDecl}
use Rattle.kernel_model.specs.declared.types.kernels.RKernel.{RKernel}
use Rattle.kernel_model.specs.declared.types.kernels.Resolved.{Resolved}
use Rattle.kernel_model.specs.Resolved.{IsResolvedProgram}
use Rattle.kernel_model.specs.View.{ResolvedTree, rkernel_of, resolved_of}
use Rattle.name_resolution.specs.Numbers.{KernelsFit}
use Rattle.name_resolution.specs.Programs.{constants, kernels, named_in, file_of, Resolves}
use Rattle.bound_program.specs.Fits.{UsesConstants}
use Rattle.loop_bind.specs.FileVariables.{file_variables, AreConstants, AreFound, AreOfOne}
use Rattle.loop_bind.specs.ResolvedSources.{ResolvedSourcesAre}
use Rattle.loop_bind.proofs.source_fits.Apart.{variables_apart}
use Rattle.loop_bind.proofs.source_fits.Assigned.{main_assigns}
use Rattle.loop_bind.proofs.source_fits.Found.{constants_found}
use Rattle.loop_bind.proofs.source_fits.KernelNumbers.{numbers_fit}
use Rattle.loop_bind.proofs.source_fits.Kernels.{constants_used}
use Rattle.loop_bind.proofs.source_fits.Listed.{constants_listed}
use Rattle.loop_bind.proofs.source_fits.Marks.{read_whole}
use Rattle.loop_bind.proofs.source_fits.Takes.{tops_take}

-- the kernels and constants that a source comes to are those of a resolved program, where their numbers are of 32 bits
abbrev pub KernelsAreResolved : Type 0
KernelsAreResolved = (p : ProgramTree) (r : Resolved) → Resolves p (Ok (resolved_of r)) → KernelsFit (resolved_of r).kernels → IsResolvedProgram r

pub sources_are : KernelsAreResolved → ResolvedSourcesAre
sources_are kernels_are source p r reads resolves =
    let none = resolves.0 in
    let same : map rkernel_of r.kernels.items ≡ kernels (named_in p) p.places [] p.tops = ap (λ (t : ResolvedTree). t.kernels) resolves.1 in
    let consts : constants (file_of p) ≡ r.consts.items = sym (ap (λ (t : ResolvedTree). t.consts) resolves.1) in
    let read = read_whole source p reads none in
    record {
      resolved = kernels_are p r resolves (subst (λ (t : ResolvedTree). KernelsFit t.kernels) (sym resolves.1) (numbers_fit source p reads));
      takes = tops_take r.kernels.items (named_in p) p.places [] [] p.tops same;
      uses = subst (λ (cs : List ConstDecl). All (λ (k : RKernel). UsesConstants (AreOfOne cs) k.body.statement) r.kernels.items) consts (constants_used p r.kernels.items none same);
      constants = subst (AreConstants (named_in p) (file_variables p.tops)) consts (constants_listed p reads.prints.grouped.0 none);
      found = subst AreFound consts (constants_found p);
      apart = variables_apart p none;
      tops = read.tops;
      body = read.body;
      assigns = main_assigns p none;
    }

use Rattle.std.proofs.Common.{All, sym, subst}
use Rattle.bound_program.specs.Values.{bound_of, site_of}
use Rattle.rank_layout.specs.Numbered.{ArgThere}
use Rattle.rank_program.proofs.KernelRun.{args_there}
use Rattle.rank_program.proofs.kernel_run.put_frame.Goals as goal

pub put_windows-cells-requires-clause-there : goal.put_windows-cells-requires-clause-there
put_windows-cells-requires-clause-there c =
    subst (λ xs. All (ArgThere (bound_of c.args.bound.now) c.args.element) xs) (sym c.deref.ensures.value)
    (args_there (bound_of c.args.bound.now) (site_of c.args.site.now) c.args.element c.requires.site c.requires.element)

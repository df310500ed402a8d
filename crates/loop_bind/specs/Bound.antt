-- The bound program of a source and the entries of a mesh text, or the first refusal.
use Rattle.std.specs.Prelude.{List, Ok}
use Rattle.kernel_model.specs.declared.types.kernels.Resolved.{Resolved}
use Rattle.c_tree.specs.Tree.{ProgramTree}
use Rattle.mesh_decl.specs.Spelling.{Named}
use Rattle.bound_program.specs.Values.{BoundValue}
use Rattle.bound_program.specs.Refusals.{Judged, ◌>>=◌}
use Rattle.main_declarations.specs.SoFar.{Declared, Walked, quiet, nothing_declared}
use Rattle.bound_program.specs.Steps.{Block}
use Rattle.main_declarations.specs.File.{judged_tops}
use Rattle.loop_bind.specs.Text.{judged_hosts, outermost}
use Rattle.bound_program.specs.Trace.{Event, main_events}
use Rattle.bound_program.specs.Limited.{UnrolledValue}
use Rattle.loop_bind.specs.Weights.{trace, with_told}

-- what the text declares, and its statements
abbrev pub text : ProgramTree → Resolved → List Named → Judged Walked
text p r es =
    judged_tops p.places r.consts.items es nothing_declared p.tops
    >>= λ k. judged_hosts p.places r.consts.items es (quiet k) outermost p.main.body

-- what happens as `main` is unrolled
abbrev pub happens : Walked → List Event
happens w = main_events w.declared.sites (Block w.steps)

-- the program, of what the names resolved to, what was declared, and what `main` unrolled to
abbrev pub finished : Resolved → Declared → UnrolledValue → BoundValue
finished r k u = record {
  mesh = k.mesh;
  kernels = r.kernels.items;
  sites = k.sites;
  vars = with_told u.values k.vars;
  trace = u.items;
}

-- the program whose text was judged, or why `main` can't be unrolled
abbrev pub unrolled_text : Resolved → Walked → Judged BoundValue
unrolled_text r w = trace w.declared.mesh (happens w) >>= λ u. Ok (finished r w.declared u)

-- The text is judged in its order; then `main` is unrolled in the order of execution; then what it prints is weighed.
abbrev pub bound : ProgramTree → Resolved → List Named → Judged BoundValue
bound p r es = text p r es >>= unrolled_text r

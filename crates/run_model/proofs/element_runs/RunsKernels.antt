-- A setup whose loops run kernels has what the theorem on schedules asks of kernels.
use Rattle.std.proofs.Common.{◌≡◌, ℕ, true, false, sym, ap, ◌∙◌, subst, refl, ⊎_elim}
use Rattle.std.specs.Prelude.{◌&&◌, ◌==◌, nat_lt}
use Rattle.std.proofs.lemmas.Bool.{cases_Bool, false≢true, and_parts}
use Rattle.op_num.specs.Access.{Access, OpRead, OpWrite, OpRw, OpReduce}
use Rattle.schedule_model.specs.Cells.{Data, DatCell}
use Rattle.schedule_model.specs.Effects.{Independent}
use Rattle.schedule_model.specs.Program.{is_loop}
use Rattle.schedule_model.specs.Arguments.{Argument, Direct, Indirect, Global, access_of, modifying, is_on, Entries, reaches}
use Rattle.run_model.specs.ElementRun.{ElementRunsAreIndependentByTouches, ElementRunsKeepRange, ElementRunsKeepReads}
use Rattle.run_model.specs.RunsKernels.{SetupsHaveKernels}

read_only : (x : Access) → modifying x ≡ false → x ≡ OpRead
read_only OpRead h = refl
read_only OpWrite h = absurd (false≢true (sym h))
read_only OpRw h = absurd (false≢true (sym h))
read_only (OpReduce o) h = absurd (false≢true (sym h))

-- an argument that reaches a cell is on its dat
on_dat : (entry : Entries) (dim width : ℕ → ℕ) (e : ℕ) (c : DatCell) (x : Argument) → reaches entry dim width e x (Data c) ≡ true → is_on c.dat x ≡ true
on_dat entry dim width e c (Direct d x) h = (and_parts (d == c.dat) ((e == c.element) && nat_lt c.component (dim d)) h).0
on_dat entry dim width e c (Indirect d m i x) h = (and_parts (d == c.dat) ((entry m e i == c.element) && nat_lt c.component (dim d)) h).0
on_dat entry dim width e c (Global v x) h = absurd (false≢true h)

pub have_kernels : ElementRunsKeepRange → ElementRunsKeepReads → ElementRunsAreIndependentByTouches → SetupsHaveKernels
have_kernels range reads independent p f r = record {
  start_in_range = r.start_in_range;
  run_in_range = λ k e s t lp lt g ran.
      range f.entry f.dim f.width (f.arg (p.program.site k)) (f.args (p.program.site k)) e (r.modes (p.program.site k)) (r.cell_of k e) (r.kernel (p.program.site k)) r.is_constant (p.program.run k e)
      (r.runs k e lp lt) s t g ran;
  host_in_range = r.host_in_range;
  independent = λ k e fr lt. subst (Independent (p.program.run k e)) (λ i c. sym (r.touches k e c fr lt) i)
      (independent f.entry f.dim f.width (f.arg (p.program.site k)) (f.args (p.program.site k)) e (r.modes (p.program.site k))
      (r.cell_of k e) (r.kernel (p.program.site k)) r.is_constant (p.program.run k e)
      (r.runs k e (ap is_loop fr) lt) (r.obeys k (ap is_loop fr)) (r.read_constants k e fr lt));
  stays = λ k e s t c od lt ran un.
      reads f.entry f.dim f.width (f.arg (p.program.site k)) (f.args (p.program.site k)) e (r.modes (p.program.site k)) (r.cell_of k e) (r.kernel (p.program.site k)) r.is_constant (p.program.run k e)
      (r.runs k e (ap is_loop od) lt) (r.obeys k (ap is_loop od)) s t ran (Data c)
      (λ a at h. ⊎_elim
      (λ (m : modifying (access_of (f.arg (p.program.site k) a)) ≡ true).
      absurd (false≢true (sym un ∙ r.ordered_modifies k a c.dat od at (on_dat f.entry f.dim f.width e c (f.arg (p.program.site k) a) h) m)))
      (λ (m : modifying (access_of (f.arg (p.program.site k) a)) ≡ false). read_only (access_of (f.arg (p.program.site k) a)) m)
      (cases_Bool (modifying (access_of (f.arg (p.program.site k) a)))));
}

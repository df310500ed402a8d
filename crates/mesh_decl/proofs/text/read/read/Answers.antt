use Rattle.std.proofs.Common.{◌≡◌, ◌+◌, subst, ap, sym, ◌∙◌, inr, arith}
use Rattle.mesh_decl.specs.Reading.{Between, End, run_from, step, finish}
use Rattle.op_num.proofs.Public.{run_refused}
use Rattle.mesh_decl.proofs.text.Running.{step-end, run_done, total-more}
use Rattle.mesh_decl.specs.Spelling.{total, size_of}
use Rattle.mesh_decl.specs.Answered.{Fitting, next_state}
use Rattle.mesh_decl.proofs.text.read.read.Goals as goal

pub overflow_add-total : goal.overflow_add-total
overflow_add-total c =
    let fit = subst (Fitting c.loop-entries.entries.entries) c.in-Some.is c.in_ok-name.ensures.fitting in
    omega (arith, fit.1, c.entry_size-total.ensures c.in-Some.name)

pub loop-entries-preserved : goal.loop-entries-preserved
loop-entries-preserved c =
    let fit = subst (Fitting c.loop-entries.entries.entries) c.in-Some.is c.in_ok-name.ensures.fitting in
    let sum = total-more c.loop-entries.entries.entries (c.in-Some.name, c.in-Some.entry) in
    let size = c.entry_size-total.ensures c.in-Some.name in
    let grown = c.in_ok-add_entry.ensures.ok in
    let total_is : total c.add_entry.new.entries.entries ≡ total c.loop-entries.entries.entries + size_of (c.in-Some.name, c.in-Some.entry) = ap total grown ∙ sum in
    record {
      runs = c.loop-entries.invariant.runs ∙ c.in_ok-name.ensures.leads
          ∙ ap (λ o. run_from (next_state c.in_ok-form.form c.loop-entries.entries.entries o) c.read_entry.new.tokens) c.in-Some.is
          ∙ ap (λ es. run_from (Between c.in_ok-form.form es) c.read_entry.new.tokens) (sym grown);
      total = omega arith;
      room = omega (arith, fit.1);
    }

pub returns-in-None : goal.returns-in-None
returns-in-None c =
    c.loop-entries.invariant.runs ∙ c.in_ok-name.ensures.leads
    ∙ ap (λ o. run_from (next_state c.in_ok-form.form c.loop-entries.entries.entries o) c.read_entry.new.tokens) c.in_default.is
    ∙ run_done c.loop-entries.entries.entries c.read_entry.new.tokens (sym c.in-None.ensures.token)

pub returns-in-Some-next : goal.returns-in-Some-next
returns-in-Some-next c =
    rw c.line.ensures (inr (c.loop-entries.invariant.runs ∙ c.in_ok-name.ensures.leads
    ∙ ap (λ o. run_from (next_state c.in_ok-form.form c.loop-entries.entries.entries o) c.read_entry.new.tokens) c.in_default.is
    ∙ run_refused step finish (End c.loop-entries.entries.entries) _ _ c.in-Some-next.token _
    (record { first = sym c.in-Some-next.ensures.token; rest = c.in-Some-next.ensures.rest })
    (step-end c.loop-entries.entries.entries c.in-Some-next.token)))

use Rattle.std.proofs.Common.{◌-◌, [], sym, ap, ◌∙◌, arith, rules, w32, FitsSigned}
use Rattle.std.proofs.lemmas.Int.{to_z-of_z}
use Rattle.mesh_decl.specs.declared.text.entry.MeshRefusal.TheVariants.{OutOfMemory}
use Rattle.mesh_decl.specs.Reading.{filled, run_from, step, finish}
use Rattle.op_num.proofs.Public.{passes_on, further}
use Rattle.mesh_decl.proofs.text.Running.{length-more}
use Rattle.mesh_decl.proofs.text.read.read_values.Goals as goal

pub returns-in_err-times-clause-leads : goal.returns-in_err-times-clause-leads
returns-in_err-times-clause-leads c es name =
    passes_on step finish OutOfMemory (filled c.args.form es name c.args.count []) _ _ _ _ _ c.from_residual-in_err-times.ensures.1
    (further step finish OutOfMemory (filled c.args.form es name c.args.count [])
    (filled c.args.form es name c.loop-left.left c.loop-left.values.items) _ _ _ (c.loop-left.invariant.runs es name)
    (c.in_err-times.ensures.leads es name c.loop-left.values.items))

pub loop-left-preserved : goal.loop-left-preserved
loop-left-preserved c =
    let fits : FitsSigned w32 c.in_ok-times.value = search rules in
    let value = to_z-of_z w32 c.in_ok-times.value fits in
    let items = rw value at c.in_ok-add_values.ensures.ok in
    record {
      runs = λ es name. c.loop-left.invariant.runs es name
          ∙ c.in_ok-times.ensures.leads es name c.loop-left.values.items
          ∙ ap (λ xs. run_from (filled c.args.form es name (c.loop-left.left - c.in_ok-times.times) xs) c.next_values.new.tokens) (sym items);
      size = length-more c.loop-left.values.items c.add_values.new.values.items c.in_ok-times.times c.loop-left.left c.args.count
          c.in_ok-times.value items c.loop-left.invariant.size c.in_ok-times.ensures.some.1;
      fewer = omega (arith, c.in_ok-times.ensures.fewer, c.loop-left.invariant.fewer);
    }

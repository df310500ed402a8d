use Rattle.std.proofs.Common.{length, ap, sym, ◌∙◌, arith}
use Rattle.std.proofs.lemmas.List.{length-map, get_or-map}
use Rattle.bound_program.specs.Values.{VarValue, var_of, no_var}
use Rattle.run_model.specs.Acts.{program_of}
use Rattle.run_model.proofs.gather.host_acts.Places.{var_reaches}
use Rattle.run_model.proofs.gather.host_acts.acts.var_place.Goals as goal

pub returns-clause-from : goal.returns-clause-from
returns-clause-from c = c.requires.begins.each c.args.var c.requires.var

pub returns-clause-within : goal.returns-clause-within
returns-clause-within c =
    let vs = c.args.all.now.vars.now in
    var_reaches (program_of c.args.all.now) (c.memory_holds.ensures.order (program_of c.args.all.now)) c.args.var _ (length c.as_slice.result.now) c.requires.var
    (c.requires.begins.each c.args.var c.requires.var)
    (ap length c.as_slice.ensures ∙ ap (λ (v : VarValue). length v.start) (sym (get_or-map var_of vs c.args.var c.index-all-var.result no_var (omega (arith, length-map vs var_of, c.requires.var)))))

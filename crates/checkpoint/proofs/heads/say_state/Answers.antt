use Rattle.std.proofs.Common.{◌++◌, map, ap, ◌∙◌, sym}
use Rattle.std.specs.Prelude.{codes}
use Rattle.std.specs.Fmt.{decimal}
use Rattle.mesh_decl.specs.Mesh.{dat_count}
use Rattle.bound_program.specs.Values.{item_of}
use Rattle.run_model.specs.Windows.{numbers}
use Rattle.checkpoint.specs.Cut.{says, says_vars, says_dat}
use Rattle.checkpoint.proofs.ItemsMade.{first-made, all-made}
use Rattle.checkpoint.proofs.heads.say_state.Goals as goal

pub returns : goal.returns
returns c = λ b mesh vars.
    let first = says (codes "\nop2state 1\nitem " ++ decimal c.args.item ++ codes "\n") in
    all-made (map item_of c.args.trace.now.items) (map item_of c.push.new.self.items) (map item_of c.say_vars.new.trace.items) (map item_of c.say_dats.new.trace.items)
    (map item_of c.say_done.new.trace.items) (says_vars 0 0 b.vars) (map says_dat (numbers (dat_count b.mesh))) first (says (codes "done\n"))
    (first-made c.args.trace.now.items c.push.new.self.items c.in_ok-says_item.field-0 first c.in_ok-says_item.ensures c.in_ok-push.ensures.items)
    (c.in_ok-say_vars.ensures ∙ ap (λ vs. map item_of c.push.new.self.items ++ says_vars 0 0 vs) (sym vars))
    (c.in_ok-say_dats.ensures ∙ ap (λ g. map item_of c.say_vars.new.trace.items ++ map says_dat (numbers (dat_count g))) (sym mesh))
    c.in_ok-say_done.ensures

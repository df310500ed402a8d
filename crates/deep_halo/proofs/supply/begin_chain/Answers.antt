use Rattle.std.proofs.Common.{◌≡◌, Bool, true, cond, sym, subst, ◌∙◌}
use Rattle.chain_model.specs.Counts.{begins_at}
use Rattle.chain_model.specs.Slices.{slicing_of}
use Rattle.chain_model.specs.Machine.{exchanged}
use Rattle.deep_halo.specs.Running.{StoresStand}
use Rattle.deep_halo.specs.Programs.{program_of_run, owners_of_run}
use Rattle.deep_halo.proofs.supply.begin_chain.Goals as goal

pub returns-then-begins_chain-clause-stores : goal.returns-then-begins_chain-clause-stores
returns-then-begins_chain-clause-stores c st stand held =
    let b = program_of_run c.args.program.now in
    let o = owners_of_run c.args.program.now in
    let begins : begins_at b c.args.item ≡ true = sym c.begins_chain.ensures ∙ c.if-begins_chain.true in
    subst (λ (t : Bool). StoresStand b o c.supply.new.memory (cond t (exchanged (slicing_of b o) c.args.item st) st)) (sym begins) (c.supply.ensures st stand held)

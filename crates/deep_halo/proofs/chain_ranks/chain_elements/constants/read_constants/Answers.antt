use Rattle.std.proofs.Common.{◌≤◌, length, ◌∙◌, arith}
use Rattle.std.proofs.lemmas.List.{length-map}
use Rattle.schedule_model.specs.Cells.{Variable}
use Rattle.bound_program.specs.Values.{var_of}
use Rattle.deep_halo.specs.Sound.{program_in, ranks_in}
use Rattle.deep_halo.proofs.chain_ranks.chain_elements.Reading.{read_all}
use Rattle.deep_halo.proofs.chain_ranks.chain_elements.constants.read_constants.Goals as goal

pub loop-var-preserved : goal.loop-var-preserved
loop-var-preserved c f holds = c.read_variable.ensures f holds (c.loop-var.invariant f holds)

pub returns : goal.returns
returns c f holds =
    let b = program_in c.args.blocks.now in
    let n : length b.vars ≤ c.loop-var.var = omega (
      arith,
      length-map c.args.blocks.now.bound.now.vars.items var_of,
      c.loop-var-test.false,
      c.len-var-end.ensures,
      c.args.blocks.now.bound.now.vars.ok,
    ) in
    read_all b c.requires.sound.fits.constants (λ v. f (ranks_in c.args.blocks.now) (Variable v))
    (c.constants_are_read.ensures.numbered b c.requires.sound.fits.constants) c.loop-var.var c.loop-var.values n
    (c.loop-var.auto.values ∙ c.requires.values) (c.loop-var.invariant f holds)

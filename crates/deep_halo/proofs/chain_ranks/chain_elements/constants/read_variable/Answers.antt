use Rattle.std.proofs.Common.{◌≡◌, length, Some, None, refl, sym, ap, ◌∙◌}
use Rattle.schedule_model.specs.Cells.{Variable}
use Rattle.bound_program.specs.Values.{VarValue, var_of}
use Rattle.bound_program.specs.Fits.{var_at}
use Rattle.run_model.specs.Arguments.{var_width}
use Rattle.deep_halo.specs.Sound.{program_in, ranks_in}
use Rattle.deep_halo.proofs.chain_ranks.chain_elements.Reading.{var_read, read_more, read_skipped, last_cells}
use Rattle.deep_halo.proofs.chain_ranks.chain_elements.constants.read_variable.Goals as goal

pub returns-in-Some : goal.returns-in-Some
returns-in-Some c f holds are =
    let b = program_in c.args.blocks.now in
    let x = c.index-found.result.now in
    let is : var_at b c.args.var ≡ var_of x = var_read b c.args.blocks.now.bound.now.vars.items c.args.var x refl c.requires.var c.index-found.ensures in
    let some : (var_at b c.args.var).constant ≡ Some c.in-Some.first = ap (λ (v : VarValue). v.constant) is ∙ c.in-Some.is in
    let wide : length c.as_slice-count.result.now ≡ var_width b c.args.var = ap length c.as_slice-count.ensures ∙ ap (λ (v : VarValue). length v.start) (sym is) in
    read_more b c.requires.sound.fits.constants (λ v. f (ranks_in c.args.blocks.now) (Variable v)) c.args.var c.in-Some.first
    (length c.as_slice-count.result.now) c.args.values.now c.copy_from.new.target
    c.requires.var some wide
    (last_cells b (ranks_in c.args.blocks.now) c.args.var c.last_at.result (length c.as_slice-count.result.now) c.args.memory.now c.copy_from.new.target f c.in-Some.first c.requires.var holds
    c.last_at.ensures.is wide c.copy_from.ensures.copied)
    c.copy_from.ensures.others are

pub returns-in_default : goal.returns-in_default
returns-in_default c f holds are =
    let b = program_in c.args.blocks.now in
    let x = c.index-found.result.now in
    let is : var_at b c.args.var ≡ var_of x = var_read b c.args.blocks.now.bound.now.vars.items c.args.var x refl c.requires.var c.index-found.ensures in
    let none : (var_at b c.args.var).constant ≡ None = ap (λ (v : VarValue). v.constant) is ∙ c.in_default.is in
    read_skipped b c.requires.sound.fits.constants (λ v. f (ranks_in c.args.blocks.now) (Variable v)) c.args.var c.args.values.now none are

use Rattle.std.proofs.Common.{◌≡◌, false, sym, subst, ◌∙◌}
use Rattle.bound_program.specs.declared.sites.Arg.{Arg}
use Rattle.bound_program.specs.declared.sites.Arg.TheVariants.{Dat}
use Rattle.bound_program.specs.Fits.{ArgFits}
use Rattle.chain_model.specs.Slices.{needs}
use Rattle.chain_needs.specs.Slices.{IsPairOf}
use Rattle.deep_halo.specs.Sound.{program_in}
use Rattle.deep_halo.specs.Cells.{Hold}
use Rattle.deep_halo.proofs.chain_memory.chain_stores.Writing.{held_as}
use Rattle.deep_halo.specs.Dropping.{dropped_by}
use Rattle.deep_halo.proofs.chain_ranks.chain_elements.Drops.{drops}
use Rattle.deep_halo.proofs.chain_ranks.chain_elements.dropping.drop_arg.Goals as goal

pub needs-requires : goal.needs-requires
needs-requires c =
    let b = program_in c.args.blocks.now in
    let o = c.args.blocks.now.owners.now in
    let fits : ArgFits b c.args.set (Dat c.in-Dat.dat c.in-Dat.via c.in-Dat.access) = subst (ArgFits b c.args.set) c.in-Dat.is c.requires.fits in
    (b, o, c.requires.slices, record { item = c.requires.begun; rank = c.requires.rank; dat = fits.0; element = c.target_of-target.ensures.within })

pub returns-then-not-needs : goal.returns-then-not-needs
returns-then-not-needs c f holds =
    let b = program_in c.args.blocks.now in
    let o = c.args.blocks.now.owners.now in
    let fits : ArgFits b c.args.set (Dat c.in-Dat.dat c.in-Dat.via c.in-Dat.access) = subst (ArgFits b c.args.set) c.in-Dat.is c.requires.fits in
    let pair : IsPairOf b o c.args.begun c.args.rank c.in-Dat.dat c.target_of-target.result =
    record { item = c.requires.begun; rank = c.requires.rank; dat = fits.0; element = c.target_of-target.ensures.within } in
    let none : needs b o c.args.begun c.args.rank c.in-Dat.dat c.target_of-target.result ≡ false = sym (c.needs.ensures b o c.requires.slices pair) ∙ c.if-not-needs.true in
    subst (λ (x : Arg). Hold c.args.blocks.now c.clear_pair.new.memory (dropped_by b o c.args.begun c.args.rank c.args.element x f)) (sym c.in-Dat.is)
    (held_as b o.ranks c.clear_pair.new.memory _ (dropped_by b o c.args.begun c.args.rank c.args.element (Dat c.in-Dat.dat c.in-Dat.via c.in-Dat.access) f)
    (λ m x le h. drops b o c.args.begun c.args.rank c.args.element c.in-Dat.dat c.in-Dat.via c.in-Dat.access c.target_of-target.result f c.target_of-target.ensures.is none m x)
    (c.clear_pair.ensures f holds))

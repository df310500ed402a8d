use Rattle.std.proofs.Common.{◌<◌, length, Some, refl, sym, ap, ◌∙◌, arith}
use Rattle.bound_program.specs.Values.{SiteValue}
use Rattle.run_model.specs.Kernels.{kernel_at}
use Rattle.deep_halo.specs.Sound.{program_in}
use Rattle.deep_halo.proofs.chain_memory.Kernels.{loop_kernel}
use Rattle.deep_halo.proofs.chain_memory.loops.loop_of.Goals as goal

pub bounds-blocks-found : goal.bounds-blocks-found
bounds-blocks-found c =
    let w = loop_kernel (program_in c.args.blocks.now) c.args.blocks.now.bound.now.sites.items c.args.site c.index-found.result.now
    c.requires.sound.fits refl c.requires.site c.index-found.ensures in
    omega (arith, w.1.below, c.requires.sound.codes.count)

pub returns-clause-is : goal.returns-clause-is
returns-clause-is c =
    let b = program_in c.args.blocks.now in
    let k = c.index-found.result.now.kernel in
    let w = loop_kernel b c.args.blocks.now.bound.now.sites.items c.args.site c.index-found.result.now c.requires.sound.fits refl c.requires.site c.index-found.ensures in
    let lt : k < length c.args.blocks.now.codes.now = omega (arith, w.1.below, c.requires.sound.codes.count) in
    let of = c.requires.sound.codes.of_kernel k c.index-blocks-found.result w.1.kernel lt in
    record {
      there = c.requires.site;
      set = ap (λ (s : SiteValue). s.set) (sym w.0);
      args = c.deref.ensures.value ∙ ap (λ (s : SiteValue). s.args) (sym w.0);
      code = c.requires.sound.codes.each k c.index-blocks-found.result lt;
      kernel = ap (λ (s : SiteValue). kernel_at b.kernels s.kernel) w.0 ∙ w.1.found ∙ ap Some (sym (of ∙ w.1.read w.1.kernel));
    }

pub returns-clause-room : goal.returns-clause-room
returns-clause-room c n room =
    let w = loop_kernel (program_in c.args.blocks.now) c.args.blocks.now.bound.now.sites.items c.args.site c.index-found.result.now c.requires.sound.fits refl c.requires.site c.index-found.ensures in
    room c.index-found.result.now.kernel c.index-blocks-found.result
    (let q : c.index-found.result.now.kernel < length c.args.blocks.now.codes.now =
    omega (arith, w.1.below, c.requires.sound.codes.count) in q)

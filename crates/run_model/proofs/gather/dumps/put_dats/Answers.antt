use Rattle.std.proofs.Common.{◌++◌, sym, ap, ◌∙◌, append_assoc, add-one}
use Rattle.run_model.specs.Dump.{dat_text, dats_text}
use Rattle.run_model.proofs.gather.Growing.{grows_on}
use Rattle.run_model.proofs.gather.dumps.put_dats.Goals as goal

pub loop-dat-preserved : goal.loop-dat-preserved
loop-dat-preserved c =
    let l = c.loop-dat in
    record {
      text =
          c.in_ok-put_dat.ensures.ok
          ∙ (ap (λ z. z ++ dat_text c.args.mesh.now c.args.rank c.args.part.now c.args.memory.now l.dat) l.invariant.text
          ∙ (append_assoc c.args.out.now.items (dats_text c.args.mesh.now c.args.rank c.args.part.now c.args.memory.now l.dat)
          (dat_text c.args.mesh.now c.args.rank c.args.part.now c.args.memory.now l.dat)
          ∙ ap (λ n. c.args.out.now.items ++ dats_text c.args.mesh.now c.args.rank c.args.part.now c.args.memory.now n) (sym (add-one l.dat))));
      grows = grows_on c.args.out.now.items l.out.items c.put_dat.new.out.items l.invariant.grows c.put_dat.ensures.grows;
    }

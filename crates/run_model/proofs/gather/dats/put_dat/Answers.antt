use Rattle.run_model.proofs.gather.Headers.{printed_in_parts}
use Rattle.run_model.proofs.gather.dats.put_dat.Goals as goal

pub returns-clause-ok : goal.returns-clause-ok
returns-clause-ok c =
    printed_in_parts c.put_elements.result c.args.out.now.items c.put_names.new.out.items c.put_numbers.new.out.items
    c.put_elements.new.out.items c.args.file.now c.args.mesh.now c.args.dat c.args.values.now c.in_ok-put_names.ensures.ok
    c.in_ok-put_numbers.ensures.ok c.put_elements.ensures.ok

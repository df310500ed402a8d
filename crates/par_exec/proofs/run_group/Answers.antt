use Rattle.std.proofs.Common.{◌≡◌, ◌*◌, ◌/◌, length, ◌∙◌, arith, rules}
use Rattle.std.proofs.Math.Nat.{mod-add-div}
use Rattle.par_exec.proofs.Halves.{replaced-each}
use Rattle.par_exec.proofs.run_group.Goals as goal

pub returns-clause-together : goal.returns-clause-together
returns-clause-together g c =
    let whole : length c.args.staging.now ≡ length c.args.staging.now / c.args.stride * c.args.stride = grind (arith, mod-add-div (length c.args.staging.now) c.args.stride, c.requires.whole) in
    let kept : length c.run_windows.new.staging ≡ length c.args.staging.now = search rules in
    replaced-each (g.J.Job.new_window c.args.jobs.now) c.args.stride 0 (length c.args.staging.now / c.args.stride) c.args.staging.now
    c.run_windows.new.staging whole (kept ∙ whole) c.run_windows.ensures

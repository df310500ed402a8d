use Rattle.std.proofs.Common.{◌<◌, ◌^◌, sym, subst, ◌∙◌, arith}
use Rattle.bound_program.specs.Values.{bound_of}
use Rattle.deep_halo.specs.Cells.{BlocksHold, first_in_last}
use Rattle.kernel_code.specs.Codes.{AreCodesOf}
use Rattle.deep_halo.proofs.Outcomes.{prints_it}
use Rattle.deep_halo.proofs.runs.run_chains.Goals as goal

pub run_program-requires-clause-holds : goal.run_program-requires-clause-holds
run_program-requires-clause-holds c =
    c.in_ok-memory.ensures (bound_of c.args.bound.now) c.is_in_range.ensures (c.deref-2.ensures.value ∙ c.in_ok-first.ensures.first)

pub run_program-requires-clause-is : goal.run_program-requires-clause-is
run_program-requires-clause-is c =
    let b = bound_of c.args.bound.now in
    let ranks = c.args.owners.now.ranks in
    let holds : BlocksHold b ranks c.in_ok-memory.memory.items (first_in_last b ranks) =
    c.in_ok-memory.ensures b c.is_in_range.ensures (c.deref-2.ensures.value ∙ c.in_ok-first.ensures.first) in record {
      sound = record {
        fits = c.requires.fits;
        owners = c.requires.owners;
        codes = subst (λ xs. AreCodesOf b.kernels xs) (sym c.deref-3.ensures.value)
            (subst (λ xs. AreCodesOf xs c.in_ok-codes.codes.items) c.deref.ensures.value c.in_ok-codes.ensures);
        layout = c.in_ok-layout.ensures;
        room = subst (λ n. n < 2 ^ 64) holds.count (omega (arith, c.in_ok-memory.memory.small));
      };
      slices = c.requires.slices;
    }

pub returns-clause-sequential : goal.returns-clause-sequential
returns-clause-sequential c chainable =
    prints_it (bound_of c.args.bound.now) c.args.owners.now c.args.dump c.run_program.result
    (c.chains_run_as_sequential.ensures.prints (bound_of c.args.bound.now) c.args.owners.now chainable) c.run_program.ensures

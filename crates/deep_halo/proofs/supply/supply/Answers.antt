use Rattle.deep_halo.proofs.chain_ranks.OneElement.{read, has_read}
use Rattle.deep_halo.specs.Programs.{program_of_run, owners_of_run}
use Rattle.deep_halo.proofs.Exchanges.{exchanged_stand}
use Rattle.deep_halo.proofs.supply.supply.Goals as goal

pub returns : goal.returns
returns c st stand held =
    let x = c.args.program.now in
    let b = program_of_run x in
    let o = owners_of_run x in
    let own = c.drop_copies.ensures st stand held in
    exchanged_stand b o c.requires.is.sound.owners st (read b c.drop_copies.new.memory) own.pairs own.variables c.args.item c.exchange_copies.new.memory
    (c.exchange_copies.ensures (read b c.drop_copies.new.memory) (has_read b o.ranks c.drop_copies.new.memory own.count)) c.is_in_range.ensures

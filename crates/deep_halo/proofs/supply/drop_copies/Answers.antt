use Rattle.std.proofs.Common.{◌<◌, ◌≤◌, ℕ, Option, Some, None, subst, ◌∙◌, arith}
use Rattle.schedule_model.specs.Cells.{Data, Variable}
use Rattle.deep_halo.proofs.chain_ranks.OneElement.{read, has_read}
use Rattle.deep_halo.specs.Programs.{IsHolding, program_of_run, owners_of_run}
use Rattle.deep_halo.proofs.Exchanges.{own_first, own_dropped}
use Rattle.deep_halo.proofs.supply.drop_copies.Goals as goal

pub returns-in-Some : goal.returns-in-Some
returns-in-Some c st stand held =
    let x = c.args.program.now in
    let b = program_of_run x in
    let o = owners_of_run x in
    let holds : (r : ℕ) → r < o.ranks → IsHolding b o (Some c.in-Some.last) r (st.stores r) =
    subst (λ (z : Option ℕ). (r : ℕ) → r < o.ranks → IsHolding b o z r (st.stores r)) c.in-Some.is held in
    let drop = c.exchange_copies.ensures (read b c.args.memory.now) (has_read b o.ranks c.args.memory.now stand.count) in
    record {
      count = drop.count;
      pairs = λ r d lr h. drop.cells r (Data d) (let q : r ≤ o.ranks = omega (arith, lr) in q) h ∙ own_dropped b o c.requires.is.sound.owners st c.args.memory.now stand c.in-Some.last holds r d lr h;
      variables = λ v h. drop.cells o.ranks (Variable v) (let q : o.ranks ≤ o.ranks = omega arith in q) h ∙ stand.variables v h;
    }

pub returns-in-None : goal.returns-in-None
returns-in-None c st stand held =
    let x = c.args.program.now in
    let b = program_of_run x in
    let o = owners_of_run x in
    let holds : (r : ℕ) → r < o.ranks → IsHolding b o None r (st.stores r) =
    subst (λ (z : Option ℕ). (r : ℕ) → r < o.ranks → IsHolding b o z r (st.stores r)) c.in-None.is held in
    record {
      count = stand.count;
      pairs = λ r d lr h. own_first b o c.requires.is.sound.owners st c.args.memory.now stand holds r d lr h;
      variables = stand.variables;
    }

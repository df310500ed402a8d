use Rattle.std.proofs.Common.{◌≡◌, ◌++◌, ℕ, ap, ◌∙◌, append_assoc, arith}
use Rattle.std.specs.Prelude.{codes}
use Rattle.std.specs.List.{flat_map}
use Rattle.run_model.specs.Windows.{numbers}
use Rattle.chain_model.specs.Dump.{store_text}
use Rattle.deep_halo.specs.Sound.{ranks_in}
use Rattle.deep_halo.specs.Programs.{program_of_run}
use Rattle.deep_halo.proofs.Texts.{text_more}
use Rattle.deep_halo.proofs.dumps.put_stores.Goals as goal

pub loop-rank-preserved : goal.loop-rank-preserved
loop-rank-preserved c st stand holding =
    text_more (λ r. store_text (program_of_run c.args.program.now).mesh r (st.stores r)) c.loop-rank.rank c.extend_from_slice.new.self.items c.loop-rank.out.items c.put_store.new.out.items
    (c.loop-rank.invariant st stand holding)
    (c.in_ok-put_store.ensures st stand (holding c.loop-rank.rank c.loop-rank-test.true))

pub returns : goal.returns
returns c st stand holding =
    let texts = λ (n : ℕ). flat_map (λ r. store_text (program_of_run c.args.program.now).mesh r (st.stores r)) (numbers n) in
    let last : c.loop-rank.rank ≡ ranks_in c.args.program.now.blocks.now = omega (arith, c.loop-rank-test.false, c.loop-rank.auto.rank-end) in
    c.loop-rank.invariant st stand holding ∙ ap (λ n. c.extend_from_slice.new.self.items ++ texts n) last
    ∙ ap (λ z. z ++ texts (ranks_in c.args.program.now.blocks.now)) c.in_ok-extend_from_slice.ensures.items
    ∙ append_assoc c.args.out.now.items (codes "dump\n") (texts (ranks_in c.args.program.now.blocks.now))

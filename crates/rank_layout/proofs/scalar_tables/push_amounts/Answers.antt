use Rattle.std.proofs.Common.{◌≡◌, ◌+◌, ◌∙◌, ℕ, map, length, ap, refl, arith, length-append}
use Rattle.std.proofs.lemmas.List.FromFn.{length-map-range_with_len}
use Rattle.run_model.specs.Windows.{numbers}
use Rattle.rank_state.specs.declared.scalars.Scalar.TheVariants.{Amount}
use Rattle.rank_layout.proofs.ScalarLists.{range_more}
use Rattle.rank_layout.proofs.scalar_tables.push_amounts.Goals as goal

pub loop-i-preserved : goal.loop-i-preserved
loop-i-preserved c =
    let long = ap length c.loop-i.invariant.0 ∙ length-append c.args.slots.now.items (map (λ (k : ℕ). c.args.how) (numbers c.loop-i.i)) in
    let many = length-map-range_with_len (λ (k : ℕ). c.args.how) 0 c.loop-i.i in
    let slot : c.len.result ≡ length c.args.slots.now.items + c.loop-i.i = omega (arith, c.len.ensures, c.loop-i.slots.ok.0, long, many) in (
      range_more (λ (k : ℕ). c.args.how) c.args.slots.now.items c.loop-i.slots.items c.push-in-loop-i.new.self.items c.loop-i.i c.args.how
          c.loop-i.invariant.0 refl c.in_ok-push-2.ensures.items,
      range_more (λ k. Amount (c.args.from + k) (length c.args.slots.now.items + k) c.args.how) c.args.scalars.now.items c.loop-i.scalars.items
          c.push.new.self.items c.loop-i.i (Amount (c.args.from + c.loop-i.i) c.len.result c.args.how) c.loop-i.invariant.1
          (ap (λ z. Amount (c.args.from + c.loop-i.i) z c.args.how) slot) c.in_ok-push.ensures.items,
    )

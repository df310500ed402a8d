use Rattle.std.proofs.Common.{Bool, cond, nat_eq, List, ℤ, sym, subst, ◌∙◌}
use Rattle.std.proofs.lemmas.Bool.{eq-eqb, ne_eqb}
use Rattle.mesh_decl.specs.Owners.{owner_of}
use Rattle.run_model.specs.Variables.{of_vars}
use Rattle.deep_halo.specs.Sound.{ranks_in}
use Rattle.deep_halo.specs.Cells.{BlocksHold}
use Rattle.deep_halo.specs.Merging.{merged_all}
use Rattle.deep_halo.specs.Loops.{program_of_loop, owners_of_loop}
use Rattle.deep_halo.proofs.chain_ranks.elements.take_over.Goals as goal
use Rattle.deep_halo.proofs.chain_ranks.elements.take_over.Goals.{then-rank_of-rank, else-rank_of-rank}

pub returns-clause-partials : goal.returns-clause-partials
returns-clause-partials c f p holds parts =
    let b = program_of_loop c.args.work.now in
    let n = ranks_in c.args.work.now.blocks.now in
    let xs = c.args.work.now.all.now.args.now in
    let own = owner_of (owners_of_loop c.args.work.now) c.args.work.now.all.now.set c.args.element in
    elim c.if-rank_of-rank.branch as (λ x. BlocksHold (of_vars b.vars) n c.if-rank_of-rank.partials (cond (nat_eq own c.args.rank) (merged_all c.args.rank xs xs f p) p)) [
      | then-rank_of-rank w ↦
          subst (λ (z : Bool). BlocksHold (of_vars b.vars) n c.if-rank_of-rank.partials (cond z (merged_all c.args.rank xs xs f p) p))
          (sym (eq-eqb own c.args.rank (sym c.rank_of.ensures ∙ w.if-rank_of-rank.true)))
          (subst (λ (zs : List ℤ). BlocksHold (of_vars b.vars) n zs (merged_all c.args.rank xs xs f p)) (sym w.partials-is) (w.merge_globals.ensures f p holds parts))
      | else-rank_of-rank w ↦
          subst (λ (z : Bool). BlocksHold (of_vars b.vars) n c.if-rank_of-rank.partials (cond z (merged_all c.args.rank xs xs f p) p))
          (sym (ne_eqb own c.args.rank (λ q. w.if-rank_of-rank.false (c.rank_of.ensures ∙ q))))
          (subst (λ (zs : List ℤ). BlocksHold (of_vars b.vars) n zs p) (sym w.partials-is) parts)
    ]

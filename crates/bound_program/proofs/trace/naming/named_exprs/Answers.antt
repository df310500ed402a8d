use Rattle.std.proofs.Common.{◌∙◌, ◌++◌, ◌+◌, ◌∷◌, [], sym, ap, subst, arith, List, map, take}
use Rattle.std.proofs.lemmas.List.{take_all, take_more}
use Rattle.kernel_model.specs.View.{RExprTree, rexpr_of}
use Rattle.bound_program.specs.Naming.{SpellAll}
use Rattle.bound_program.proofs.trace.Renamed.{grows_then, spell_grown, spell_more, map_pushed}
use Rattle.bound_program.proofs.trace.naming.named_exprs.Goals as goal

pub loop-e-preserved : goal.loop-e-preserved
loop-e-preserved c =
    let es = c.args.es.now in
    let i = c.loop-e.e-index in
    let before = c.loop-e.names.items in
    let after = c.named_expr.new.names.items in
    let e = c.e-item.result in
    let x = c.in_ok-e.e in
    let had = spell_grown before after (map rexpr_of c.loop-e.named.items) (map rexpr_of (take i es)) c.loop-e.invariant.1 c.named_expr.ensures.grows in
    let both = spell_more after (map rexpr_of c.loop-e.named.items) (map rexpr_of (take i es)) (rexpr_of x) (rexpr_of e) had c.in_ok-e.ensures.spells in
    let xs = map_pushed rexpr_of c.loop-e.named.items x c.push.new.self.items c.in_ok-push.ensures.items in
    let ys = map_pushed rexpr_of (take i es) e (take (i + 1) es) (take_more es i e c.loop-e-test.true ∙ ap (λ y. take i es ++ y ∷ []) (sym c.e-item.is)) in (
      grows_then c.args.names.now.items before after c.loop-e.invariant.0 c.named_expr.ensures.grows,
      subst (λ (zs : List RExprTree). SpellAll after zs (map rexpr_of (take (i + 1) es))) (sym xs)
          (subst (λ (zs : List RExprTree). SpellAll after (map rexpr_of c.loop-e.named.items ++ rexpr_of x ∷ []) zs) (sym ys) both),
    )

pub returns-clause-spell : goal.returns-clause-spell
returns-clause-spell c =
    subst (λ (zs : List RExprTree). SpellAll c.loop-e.names.items (map rexpr_of c.loop-e.named.items) zs)
    (ap (map rexpr_of) (take_all c.loop-e.e-index c.args.es.now (omega (arith, c.loop-e-test.false))))
    c.loop-e.invariant.1

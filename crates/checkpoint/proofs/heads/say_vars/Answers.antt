use Rattle.std.proofs.Common.{◌≡◌, ◌+◌, ◌++◌, length, map, ap, ◌∙◌, arith, rules}
use Rattle.bound_program.specs.Values.{item_of, var_of}
use Rattle.checkpoint.specs.Cut.{says_vars}
use Rattle.checkpoint.proofs.ItemsMade.{vars-passed, vars-said, vars-end}
use Rattle.checkpoint.proofs.heads.say_vars.Goals as goal
use Rattle.checkpoint.proofs.heads.say_vars.Goals.{then-not-var+in_ok-says_var+in_ok-push, else-not-var}

pub loop-var-preserved : goal.loop-var-preserved
loop-var-preserved c =
    let n : c.in-Some.past ≡ c.loop-var.from + length c.var-item.result.start = c.in-Some.ensures.1 ∙ ap (λ k. c.loop-var.from + length k) c.as_slice-count.ensures in
    elim c.if-not-var.branch [
      | then-not-var+in_ok-says_var+in_ok-push w ↦ record {
        few = omega arith;
        rest = rw (w.trace-is, w.number-is, w.from-is, n)
            (vars-said (map item_of c.args.trace.now.items ++ says_vars 0 0 (map var_of c.args.vars.now)) c.loop-var.trace.items w.push.new.self.items w.in_ok-says_var.field-0
            c.loop-var.number c.loop-var.from c.args.vars.now c.loop-var.var-index c.var-item.result c.loop-var-test.true c.var-item.is (search rules)
            (rw c.as_slice-count.ensures at w.in_ok-says_var.ensures) w.in_ok-push.ensures.items c.loop-var.invariant.rest);
      }
      | else-not-var w ↦ record {
        few = omega arith;
        rest = rw (w.trace-is, w.number-is, w.from-is, n)
            (vars-passed (map item_of c.loop-var.trace.items) (map item_of c.args.trace.now.items ++ says_vars 0 0 (map var_of c.args.vars.now))
            c.loop-var.number c.loop-var.from c.args.vars.now c.loop-var.var-index c.var-item.result c.loop-var-test.true c.var-item.is (search rules) c.loop-var.invariant.rest);
      }
    ]

pub returns : goal.returns
returns c = vars-end (map item_of c.loop-var.trace.items) (map item_of c.args.trace.now.items ++ says_vars 0 0 (map var_of c.args.vars.now))
    c.loop-var.number c.loop-var.from c.args.vars.now c.loop-var.var-index c.loop-var-test.false c.loop-var.invariant.rest

use Rattle.std.proofs.Common.{◌≡◌, ◌-◌, true, false, sym, ap, ◌∙◌, arith}
use Rattle.std.specs.Prelude.{is_err}
use Rattle.op_num.specs.Spelling.{integer_of, i32_judged}
use Rattle.mesh_draw.proofs.fields.NumberLines.{has_so, is_short, is_wrong, is_more, is_end, no_number}
use Rattle.mesh_draw.proofs.fields.numbers.has_numbers.Goals as goal

pub returns-in_default : goal.returns-in_default
returns-in_default c =
    has_so c.args.dim c.args.line.now false
    (sym (is_short c.args.dim c.loop.counter c.loop.words c.in_default.ensures.0 c.loop-test.true) ∙ c.loop.invariant)

pub returns-then-is_err : goal.returns-then-is_err
returns-then-is_err c =
    let read = no_number (i32_judged (integer_of c.in-Some.word.now)) true (sym c.if-is_err.true ∙ c.is_err.ensures.value ∙ ap is_err c.read_i32.ensures) in
    has_so c.args.dim c.args.line.now false
    (sym (is_wrong c.args.dim c.loop.counter c.loop.words c.next.new.self c.in-Some.word.now c.in-Some.ensures read) ∙ c.loop.invariant)

pub loop-preserved : goal.loop-preserved
loop-preserved c =
    let read = no_number (i32_judged (integer_of c.in-Some.word.now)) false (sym c.if-is_err.false ∙ c.is_err.ensures.value ∙ ap is_err c.read_i32.ensures) in
    is_more c.args.dim c.loop.counter c.loop.words c.next.new.self c.in-Some.word.now c.in-Some.ensures read c.loop-test.true ∙ c.loop.invariant

pub returns : goal.returns
returns c =
    let all : c.args.dim - c.loop.counter ≡ 0 = (let end = c.loop.auto.counter-end in let test = c.loop-test.false in omega arith) in
    has_so c.args.dim c.args.line.now c.is_none.result
    (is_end (c.args.dim - c.loop.counter) c.loop.words c.next-2.new.self c.next-2.result c.is_none.result all c.is_none.ensures c.next-2.ensures ∙ c.loop.invariant)

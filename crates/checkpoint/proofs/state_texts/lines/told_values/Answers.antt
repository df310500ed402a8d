use Rattle.std.proofs.Common.{[], ◌∷◌, ◌++◌, sym, ap, ◌∙◌, arith, w32}
use Rattle.std.proofs.lemmas.Int.{to_z-of_z}
use Rattle.op_num.specs.Spelling.{integer_of}
use Rattle.checkpoint.proofs.state_texts.Telling.{seen_none, seen_more, judged_fits, told_short, told_wrong, told_end, told_empty}
use Rattle.checkpoint.proofs.state_texts.lines.told_values.Goals as goal

pub returns-then-count-eq0 : goal.returns-then-count-eq0
returns-then-count-eq0 c = told_empty c.args.line.now c.args.values.now.items c.is_empty.result c.is_empty.ensures c.args.count c.if-count-eq0.true

pub loop-told-init : goal.loop-told-init
loop-told-init c = seen_none c.args.line.now c.new-words.result c.args.values.now.items c.new-words.ensures

pub returns-in_default : goal.returns-in_default
returns-in_default c = told_short c.args.line.now c.loop-told.words c.args.values.now.items c.loop-told.values.items c.loop-told._told c.args.count c.loop-told.invariant
    c.in_default.ensures.0 c.loop-told-test.true

pub returns-in_default-read_i32 : goal.returns-in_default-read_i32
returns-in_default-read_i32 c = told_wrong c.args.line.now c.loop-told.words c.args.values.now.items c.loop-told.values.items c.loop-told._told c.args.count c.loop-told.invariant
    c.in-Some.word.now c.next.new.self c.in_default-read_i32.field-0 c.in-Some.ensures c.loop-told-test.true (sym c.read_i32.ensures ∙ c.in_default-read_i32.is)

pub loop-told-preserved : goal.loop-told-preserved
loop-told-preserved c = seen_more c.args.line.now c.loop-told.words c.next.new.self c.args.values.now.items c.loop-told.values.items c.push.new.self.items c.loop-told._told
    c.in-Some.word.now c.in-Ok.value c.loop-told.invariant c.in-Some.ensures (sym c.read_i32.ensures ∙ c.in-Ok.is)
    (c.in_ok-push.ensures.items ∙ ap (λ z. c.loop-told.values.items ++ z ∷ [])
    (to_z-of_z w32 c.in-Ok.value (judged_fits (integer_of c.in-Some.word.now) c.in-Ok.value (sym c.read_i32.ensures ∙ c.in-Ok.is))))

pub returns : goal.returns
returns c = told_end c.args.line.now c.loop-told.words c.args.values.now.items c.loop-told.values.items c.loop-told._told c.args.count c.loop-told.invariant
    c.next-2.new.self c.next-2.result c.is_none.result c.is_none.ensures c.next-2.ensures
    (let l = c.loop-told.auto._told-end in let g = c.loop-told-test.false in omega arith) (let n = c.if-count-eq0.false in omega arith)

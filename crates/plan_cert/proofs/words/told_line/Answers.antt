use Rattle.std.proofs.Common.{◌∙◌, Some, sym, subst}
use Rattle.std.proofs.lemmas.Slice.Eq.{strip_prefix_is}
use Rattle.std.proofs.lemmas.Bool.Decides.{Decides-eqb}
use Rattle.op_num.proofs.Public.{front_there, front_missing}
use Rattle.plan_cert.specs.Told.{ToldIs}
use Rattle.plan_cert.proofs.Telling.{first_there, blocks_there, inner_word_there, inner_there, none_behind, word_left, no_word_left, line_told}
use Rattle.plan_cert.proofs.words.told_line.Goals as goal

pub returns-in_default : goal.returns-in_default
returns-in_default c = λ bs cs t.
    front_missing c.args.line.now c.args.front.now c.strip_prefix.result (strip_prefix_is Decides-eqb _ _ c.strip_prefix.result c.strip_prefix.ensures.cases) c.in_default.is _ t.is

pub returns-then-not-is_next : goal.returns-then-not-is_next
returns-then-not-is_next c = λ bs cs t.
    let e = front_there c.args.line.now c.args.front.now c.strip_prefix.result c.in-Some.behind (strip_prefix_is Decides-eqb _ _ c.strip_prefix.result c.strip_prefix.ensures.cases) c.in-Some.is in
    first_there c.args.front.now c.args.line.now c.in-Some.behind.now c.args.blocks c.args.places bs cs e t c.new-words.result c.new-words.ensures (c.is_next.ensures.other c.if-not-is_next.true)

pub returns-in_default-2 : goal.returns-in_default-2
returns-in_default-2 c = λ bs cs t.
    let e = front_there c.args.line.now c.args.front.now c.strip_prefix.result c.in-Some.behind (strip_prefix_is Decides-eqb _ _ c.strip_prefix.result c.strip_prefix.ensures.cases) c.in-Some.is in
    blocks_there c.args.front.now c.args.line.now c.in-Some.behind.now c.args.blocks c.args.places bs cs e t c.new-words.result
    c.is_next.new.words c.new-words.ensures (c.is_next.ensures.there c.if-not-is_next.false)
    c.told_colours.new.words c.in_ok-blocks.field-0 c.in_default-2.is c.in_ok-blocks.ensures

pub returns-then-not-is_next-2 : goal.returns-then-not-is_next-2
returns-then-not-is_next-2 c = λ bs cs t.
    let e = front_there c.args.line.now c.args.front.now c.strip_prefix.result c.in-Some.behind (strip_prefix_is Decides-eqb _ _ c.strip_prefix.result c.strip_prefix.ensures.cases) c.in-Some.is in
    inner_word_there c.args.front.now c.args.line.now c.in-Some.behind.now c.args.blocks c.args.places bs cs e t c.new-words.result
    c.is_next.new.words c.new-words.ensures (c.is_next.ensures.there c.if-not-is_next.false)
    c.told_colours.new.words c.in_ok-blocks.field-0 c.in-Some-2.blocks c.in-Some-2.is c.in_ok-blocks.ensures
    (c.is_next-2.ensures.other c.if-not-is_next-2.true)

pub returns-in_default-3 : goal.returns-in_default-3
returns-in_default-3 c = λ bs cs t.
    let e = front_there c.args.line.now c.args.front.now c.strip_prefix.result c.in-Some.behind (strip_prefix_is Decides-eqb _ _ c.strip_prefix.result c.strip_prefix.ensures.cases) c.in-Some.is in
    inner_there c.args.front.now c.args.line.now c.in-Some.behind.now c.args.blocks c.args.places bs cs e t c.new-words.result
    c.is_next.new.words c.new-words.ensures (c.is_next.ensures.there c.if-not-is_next.false)
    c.told_colours.new.words c.in_ok-blocks.field-0 c.in-Some-2.blocks c.in-Some-2.is c.in_ok-blocks.ensures
    c.is_next-2.new.words (c.is_next-2.ensures.there c.if-not-is_next-2.false)
    c.told_colours-2.new.words c.in_ok-inner.field-0 c.in_default-3.is c.in_ok-inner.ensures

pub returns-then-is_some : goal.returns-then-is_some
returns-then-is_some c = λ bs cs t.
    let e = front_there c.args.line.now c.args.front.now c.strip_prefix.result c.in-Some.behind (strip_prefix_is Decides-eqb _ _ c.strip_prefix.result c.strip_prefix.ensures.cases) c.in-Some.is in
    word_left c.told_colours-2.new.words c.next.new.self c.next.result c.next.ensures (sym c.is_some.ensures ∙ c.if-is_some.true)
    (none_behind c.args.front.now c.args.line.now c.in-Some.behind.now c.args.blocks c.args.places bs cs e t c.new-words.result
    c.is_next.new.words c.new-words.ensures (c.is_next.ensures.there c.if-not-is_next.false)
    c.told_colours.new.words c.in_ok-blocks.field-0 c.in-Some-2.blocks c.in-Some-2.is c.in_ok-blocks.ensures
    c.is_next-2.new.words (c.is_next-2.ensures.there c.if-not-is_next-2.false)
    c.told_colours-2.new.words c.in_ok-inner.field-0 c.in-Some-3.inner c.in-Some-3.is c.in_ok-inner.ensures)

pub returns : goal.returns
returns c =
    let e = front_there c.args.line.now c.args.front.now c.strip_prefix.result c.in-Some.behind (strip_prefix_is Decides-eqb _ _ c.strip_prefix.result c.strip_prefix.ensures.cases) c.in-Some.is in
    let b : ToldIs c.is_next.new.words c.told_colours.new.words c.args.blocks (Some c.in-Some-2.blocks) =
    subst (ToldIs c.is_next.new.words c.told_colours.new.words c.args.blocks) c.in-Some-2.is c.in_ok-blocks.ensures in
    let i : ToldIs c.is_next-2.new.words c.told_colours-2.new.words c.args.places (Some c.in-Some-3.inner) =
    subst (ToldIs c.is_next-2.new.words c.told_colours-2.new.words c.args.places) c.in-Some-3.is c.in_ok-inner.ensures in
    line_told c.args.front.now c.args.line.now c.in-Some.behind.now c.args.blocks c.args.places
    c.is_next.new.words c.told_colours.new.words c.is_next-2.new.words c.told_colours-2.new.words b.0 i.0 c.in-Some-2.blocks.items c.in-Some-3.inner.items
    e (sym c.new-words.ensures ∙ c.is_next.ensures.there c.if-not-is_next.false) b.1 b.2 b.3 (c.is_next-2.ensures.there c.if-not-is_next-2.false) i.1 i.2 i.3
    (no_word_left c.told_colours-2.new.words c.next.new.self c.next.result c.next.ensures (sym c.is_some.ensures ∙ c.if-is_some.false))

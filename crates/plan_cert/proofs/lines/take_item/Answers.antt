use Rattle.std.proofs.Common.{◌≡◌, ◌++◌, ◌∙◌, ℕ, List, [], ap, refl, arith}
use Rattle.op_num.specs.Lines.{line_of}
use Rattle.mesh_decl.specs.Mesh.{MeshValue, dat_count}
use Rattle.local_mesh.proofs.Public.{listed_within}
use Rattle.bound_program.specs.Values.{ItemValue, bound_of}
use Rattle.loop_plan.specs.Needs.{item_at, exchanged_at}
use Rattle.loop_plan.specs.ItemPlans.{plan_in}
use Rattle.loop_plan.specs.PlanText.{item_line}
use Rattle.plan_cert.proofs.Reading.{next_number, text_taken, text_refused}
use Rattle.plan_cert.proofs.lines.take_item.Goals as goal

pub put_item_at-requires-clause-few : goal.put_item_at-requires-clause-few
put_item_at-requires-clause-few c = c.requires.fits.few

pub put_item_at-requires-clause-plan : goal.put_item_at-requires-clause-plan
put_item_at-requires-clause-plan c = let n = c.requires.plans.count in let l = c.requires.item in omega arith

pub put_item_at-requires-clause-dats : goal.put_item_at-requires-clause-dats
put_item_at-requires-clause-dats c =
    let b = bound_of c.args.bound.now in
    listed_within (dat_count b.mesh) (dat_count b.mesh) (exchanged_at b c.args.item) (plan_in c.args.plans.now c.args.item).exchange (c.requires.plans.each c.args.item c.requires.item).exchange refl

abbrev Line : MeshValue → ℕ → ItemValue → List ℕ → List ℕ
Line g k i dats = line_of (item_line g k i dats)

-- what was written is the line
written : (g : MeshValue) (k : ℕ) (i : ItemValue) (dats mine none old text : List ℕ) → old ≡ [] → text ≡ old ++ Line g k i dats → dats ≡ mine → none ≡ text → none ≡ Line g k i mine
written g k i dats mine none old text e w m d = d ∙ (w ∙ (ap (λ (z : List ℕ). z ++ Line g k i dats) e ∙ ap (λ z. Line g k i z) m))

pub returns-then-not-take : goal.returns-then-not-take
returns-then-not-take c = λ size.
    let b = bound_of c.args.bound.now in (
      0,
      next_number c.args.lines.now c.take.new.self c.taken-line.result c.taken-line.ensures.taken (c.take.ensures.kept c.if-not-take.true),
      text_refused b c.args.ranks.now size 5 _ c.deref.result.now
          (written b.mesh c.args.item (item_at b c.args.item) (plan_in c.args.plans.now c.args.item).exchange _ c.deref.result.now
          c.clear.new.self.items c.put_item_at.new.out.items c.clear.ensures.items c.in_ok-put_item_at.ensures
          (c.requires.plans.each c.args.item c.requires.item).exchange c.deref.ensures.value)
          c.args.lines.now (c.take.ensures.other c.if-not-take.true),
    )

pub returns : goal.returns
returns c = λ size.
    let b = bound_of c.args.bound.now in
    text_taken b c.args.ranks.now size 5 _ c.deref.result.now
    (written b.mesh c.args.item (item_at b c.args.item) (plan_in c.args.plans.now c.args.item).exchange _ c.deref.result.now
    c.clear.new.self.items c.put_item_at.new.out.items c.clear.ensures.items c.in_ok-put_item_at.ensures
    (c.requires.plans.each c.args.item c.requires.item).exchange c.deref.ensures.value)
    c.args.lines.now c.take.new.self (c.take.ensures.taken c.if-not-take.false)

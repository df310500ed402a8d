use Rattle.std.proofs.Common.{◌≡◌, ◌<◌, ◌≤◌, ◌^◌, ◌∙◌, ℕ, List, [], ◌++◌, sym, ap, subst, length, arith}
use Rattle.op_num.specs.Lines.{line_of}
use Rattle.local_mesh.specs.declared.types.LocalSet.{LocalSet}
use Rattle.local_mesh.specs.LocalMesh.{originals_in, executed_in}
use Rattle.mesh_decl.specs.Mesh.{MeshValue}
use Rattle.bound_program.specs.Values.{bound_of}
use Rattle.loop_plan.specs.PlanText.{halo_line}
use Rattle.plan_cert.proofs.Reading.{next_number, text_taken, text_refused}
use Rattle.plan_cert.proofs.lines.take_halo.Goals as goal

pub put_rank_halo-requires-clause-there : goal.put_rank_halo-requires-clause-there
put_rank_halo-requires-clause-there c =
    let e = ap (λ (z : List LocalSet). length z) c.sets_on.ensures in
    let n = c.requires.ranks.sets c.args.rank c.requires.rank in
    let l = c.requires.set in
    omega arith

pub put_rank_halo-requires-clause-held : goal.put_rank_halo-requires-clause-held
put_rank_halo-requires-clause-held c =
    subst (λ z. executed_in z c.args.set ≤ length (originals_in z c.args.set)) (sym c.sets_on.ensures) (c.requires.ranks.held c.args.rank c.args.set c.requires.rank c.requires.set)

pub put_rank_halo-requires-clause-few : goal.put_rank_halo-requires-clause-few
put_rank_halo-requires-clause-few c =
    subst (λ z. executed_in z c.args.set < 2 ^ 32) (sym c.sets_on.ensures) (c.requires.ranks.executed c.args.rank c.args.set c.requires.rank c.requires.set)

abbrev Line : MeshValue → List LocalSet → ℕ → ℕ → List ℕ
Line g sets s r = line_of (halo_line g sets s r)

-- what was written is the line
written : (g : MeshValue) (sets mine : List LocalSet) (s r : ℕ) (none old text : List ℕ) → old ≡ [] → text ≡ old ++ Line g sets s r → sets ≡ mine → none ≡ text → none ≡ Line g mine s r
written g sets mine s r none old text e w m d = d ∙ (w ∙ (ap (λ (z : List ℕ). z ++ Line g sets s r) e ∙ ap (λ z. Line g z s r) m))

pub returns-then-not-take : goal.returns-then-not-take
returns-then-not-take c = λ size. (
  0,
  next_number c.args.lines.now c.take.new.self c.taken-line.result c.taken-line.ensures.taken (c.take.ensures.kept c.if-not-take.true),
  text_refused (bound_of c.args.bound.now) c.args.ranks.now size 3 _ c.deref.result.now
      (written c.args.bound.now.mesh c.sets_on.result.now _ c.args.set c.args.rank c.deref.result.now c.clear.new.self.items
      c.put_rank_halo.new.out.items c.clear.ensures.items c.in_ok-put_rank_halo.ensures c.sets_on.ensures c.deref.ensures.value)
      c.args.lines.now (c.take.ensures.other c.if-not-take.true),
)

pub returns : goal.returns
returns c = λ size.
    text_taken (bound_of c.args.bound.now) c.args.ranks.now size 3 _ c.deref.result.now
    (written c.args.bound.now.mesh c.sets_on.result.now _ c.args.set c.args.rank c.deref.result.now c.clear.new.self.items
    c.put_rank_halo.new.out.items c.clear.ensures.items c.in_ok-put_rank_halo.ensures c.sets_on.ensures c.deref.ensures.value)
    c.args.lines.now c.take.new.self (c.take.ensures.taken c.if-not-take.false)

use Rattle.std.proofs.Common.{◌≡◌, ℕ, is_some, sym, ap, ◌∙◌, arith}
use Rattle.lemmas.specs.Below.{count_below}
use Rattle.lemmas.proofs.Below.{length_listed, count_agree}
use Rattle.deep_halo.proofs.Counts.{count_most}
use Rattle.mesh_decl.specs.Mesh.{dat_set, set_size}
use Rattle.deep_halo.specs.Programs.{held_since, program_of_run, owners_of_run}
use Rattle.deep_halo.proofs.dumps.held_count.Goals as goal

pub overflow_add-count : goal.overflow_add-count
overflow_add-count c =
    let b = program_of_run c.args.program.now in
    let o = owners_of_run c.args.program.now in
    omega (arith, c.loop-element.invariant, count_most c.loop-element.element (held_since b o c.args.begun c.args.rank c.args.dat), c.loop-element-test.true, c.set_size-element-end.type_inv)

pub returns : goal.returns
returns c h holding =
    let b = program_of_run c.args.program.now in
    let o = owners_of_run c.args.program.now in
    let d = c.args.dat in
    let n = set_size b.mesh (dat_set b.mesh d) in
    let set : c.dat_shape-set.result.0 ≡ dat_set b.mesh d = ap (λ (p : ℕ × ℕ). p.0) c.dat_shape-set.ensures in
    let size : c.set_size-element-end.result ≡ n = c.set_size-element-end.ensures ∙ ap (set_size b.mesh) set in
    let last : c.loop-element.element ≡ n = omega (arith, size, c.loop-element-test.false, c.loop-element.auto.element-end) in
    c.loop-element.invariant ∙ ap (λ m. count_below m (held_since b o c.args.begun c.args.rank d)) last
    ∙ count_agree n (held_since b o c.args.begun c.args.rank d) (λ y. is_some (h d y)) (λ y ly. sym (holding d y c.requires.dat ly))
    ∙ sym (length_listed n (λ y. is_some (h d y)))

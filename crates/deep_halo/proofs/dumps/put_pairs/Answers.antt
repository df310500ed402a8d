use Rattle.std.proofs.Common.{◌≡◌, ◌++◌, ℕ, is_some, ap, ◌∙◌, arith}
use Rattle.std.specs.List.{flat_map}
use Rattle.lemmas.specs.Below.{listed}
use Rattle.mesh_decl.specs.Mesh.{dat_set, set_size}
use Rattle.chain_model.specs.Dump.{pair_text}
use Rattle.deep_halo.specs.Programs.{program_of_run}
use Rattle.deep_halo.proofs.Texts.{listed_text}
use Rattle.deep_halo.proofs.dumps.put_pairs.Goals as goal

pub loop-element-preserved : goal.loop-element-preserved
loop-element-preserved c st stand holding =
    let g = (program_of_run c.args.program.now).mesh in
    let h = st.stores c.args.rank in
    let d = c.args.dat in
    listed_text (pair_text g h d) (λ y. is_some (h d y)) c.loop-element.element c.args.out.now.items c.loop-element.out.items c.put_held.new.out.items
    (c.loop-element.invariant st stand holding) (c.in_ok-put_held.ensures st stand holding)

pub returns : goal.returns
returns c st stand holding =
    let b = program_of_run c.args.program.now in
    let d = c.args.dat in
    let n = set_size b.mesh (dat_set b.mesh d) in
    let h = st.stores c.args.rank in
    let set : c.dat_shape-set.result.0 ≡ dat_set b.mesh d = ap (λ (p : ℕ × ℕ). p.0) c.dat_shape-set.ensures in
    let size : c.set_size-element-end.result ≡ n = c.set_size-element-end.ensures ∙ ap (set_size b.mesh) set in
    let last : c.loop-element.element ≡ n = omega (arith, size, c.loop-element-test.false, c.loop-element.auto.element-end) in
    c.loop-element.invariant st stand holding ∙ ap (λ m. c.args.out.now.items ++ flat_map (pair_text b.mesh h d) (listed m (λ y. is_some (h d y)))) last

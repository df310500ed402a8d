use Rattle.std.proofs.Common.{◌≡◌, ◌<◌, ◌≤◌, ◌+◌, ◌-◌, ℕ, pos, map, take, drop, length, ◌*◌, ap, ap₂, ◌∙◌, arith, length-append, get_or-take, get_or-drop, length-take-le, length-drop}
use Rattle.std.proofs.Math.Nat.{suc-mul}
use Rattle.std.specs.List.{flat_map}
use Rattle.mesh_decl.specs.Mesh.{dat_dim, dat_set, set_size}
use Rattle.run_model.specs.Windows.{numbers}
use Rattle.deep_halo.specs.Programs.{program_of_run, owners_of_run}
use Rattle.deep_halo.proofs.Values.{row_cells, row_more, row_is}
use Rattle.deep_halo.proofs.hosts.dat_values.Goals as goal

pub loop-element-preserved : goal.loop-element-preserved
loop-element-preserved c =
    let b = program_of_run c.args.program.now in
    let o = owners_of_run c.args.program.now in
    let d = c.args.dat in
    let y = c.loop-element.element in
    let from = c.pair_at-from.result in
    let dim = c.dat_shape-set.result.1 in
    let m = c.args.memory.now in
    let set : c.dat_shape-set.result.0 ≡ dat_set b.mesh d = ap (λ (p : ℕ × ℕ). p.0) c.dat_shape-set.ensures in
    let size : c.set_size-element-end.result ≡ set_size b.mesh (dat_set b.mesh d) = c.set_size-element-end.ensures ∙ ap (set_size b.mesh) set in
    let wide : dim ≡ dat_dim b.mesh d = ap (λ (p : ℕ × ℕ). p.1) c.dat_shape-set.ensures in
    let room : from + dim ≤ length m = omega (arith, c.pair_at-from.ensures.within, wide, c.requires.memory) in
    let n : (from + dim) - from ≡ dim = omega arith in
    let long : length (take ((from + dim) - from) (drop from m)) ≡ dim =
    length-take-le ((from + dim) - from) (drop from m) (let q = length-drop from m in omega (arith, q, room, n)) ∙ n in (
      (let a = ap length c.in_ok-extend_from_slice.ensures.items ∙ length-append c.loop-element.values.items (take ((from + dim) - from) (drop from m)) in
          omega (arith, a, long, c.loop-element.invariant.0, suc-mul y dim)),
      (λ s stand. row_more s (row_cells b d) y c.loop-element.values.items c.extend_from_slice.new.self.items (take ((from + dim) - from) (drop from m)) (c.loop-element.invariant.1 s stand)
          (row_is b o m s stand d y c.owner_of-owner.result from dim c.requires.dat (let q : y < set_size b.mesh (dat_set b.mesh d) = omega (arith, size, c.loop-element-test.true) in q)
          c.owner_of-owner.ensures.is c.pair_at-from.ensures.is wide (take ((from + dim) - from) (drop from m)) long
          (λ i li. get_or-take ((from + dim) - from) (drop from m) i (pos 0) (omega (arith, li, n)) ∙ get_or-drop from m i (pos 0)))
          c.in_ok-extend_from_slice.ensures.items),
    )

pub returns-clause-count : goal.returns-clause-count
returns-clause-count c =
    let b = program_of_run c.args.program.now in
    let d = c.args.dat in
    let set : c.dat_shape-set.result.0 ≡ dat_set b.mesh d = ap (λ (p : ℕ × ℕ). p.0) c.dat_shape-set.ensures in
    let size : c.set_size-element-end.result ≡ set_size b.mesh (dat_set b.mesh d) = c.set_size-element-end.ensures ∙ ap (set_size b.mesh) set in
    let last : c.loop-element.element ≡ set_size b.mesh (dat_set b.mesh d) = omega (arith, size, c.loop-element-test.false, c.loop-element.auto.element-end) in
    c.loop-element.invariant.0 ∙ ap₂ (λ x y. x * y) last (ap (λ (p : ℕ × ℕ). p.1) c.dat_shape-set.ensures)

pub returns-clause-values : goal.returns-clause-values
returns-clause-values c s stand =
    let b = program_of_run c.args.program.now in
    let d = c.args.dat in
    let set : c.dat_shape-set.result.0 ≡ dat_set b.mesh d = ap (λ (p : ℕ × ℕ). p.0) c.dat_shape-set.ensures in
    let size : c.set_size-element-end.result ≡ set_size b.mesh (dat_set b.mesh d) = c.set_size-element-end.ensures ∙ ap (set_size b.mesh) set in
    let last : c.loop-element.element ≡ set_size b.mesh (dat_set b.mesh d) = omega (arith, size, c.loop-element-test.false, c.loop-element.auto.element-end) in
    c.loop-element.invariant.1 s stand ∙ ap (λ n. map s (flat_map (row_cells b d) (numbers n))) last

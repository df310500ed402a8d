use Rattle.std.proofs.Common.{◌≡◌, ◌≤◌, ◌+◌, ◌-◌, ◌++◌, [], ℕ, Bool, true, cond, is_some, take, drop, length, sym, ap, ◌∙◌, arith, get_or-take, get_or-drop, length-take-le, length-drop, pos}
use Rattle.mesh_decl.specs.Mesh.{dat_dim}
use Rattle.run_model.specs.Dump.{copy_text}
use Rattle.chain_model.specs.Dump.{pair_text}
use Rattle.deep_halo.specs.Programs.{program_of_run, owners_of_run}
use Rattle.deep_halo.proofs.Texts.{pair_values_are}
use Rattle.deep_halo.proofs.dumps.put_held.Goals as goal

pub returns : goal.returns
returns c st stand holding =
    let b = program_of_run c.args.program.now in
    let o = owners_of_run c.args.program.now in
    let r = c.args.rank in
    let d = c.args.dat in
    let y = c.args.element in
    let from = c.pair_at-from.result in
    let dim = c.dat_shape-dim.result.1 in
    let m = c.args.memory.now in
    let wide : dim ≡ dat_dim b.mesh d = ap (λ (p : ℕ × ℕ). p.1) c.dat_shape-dim.ensures in
    let room : from + dim ≤ length m = omega (arith, c.pair_at-from.ensures.within, wide, c.requires.memory) in
    let n : (from + dim) - from ≡ dim = omega arith in
    let held : is_some (st.stores r d y) ≡ true = holding d y c.requires.dat c.requires.element ∙ sym c.is_held.ensures ∙ c.if-not-is_held.false in
    let long : length (take ((from + dim) - from) (drop from m)) ≡ dim =
    length-take-le ((from + dim) - from) (drop from m) (let q = length-drop from m in omega (arith, q, room, n)) ∙ n in
    c.in_ok-put_pair.ensures
    ∙ ap (λ z. c.args.out.now.items ++ copy_text y z)
    (pair_values_are b o m st stand r d y from dim c.requires.rank c.requires.dat c.requires.element c.pair_at-from.ensures.is wide room (take ((from + dim) - from) (drop from m)) long
    (λ i li. get_or-take ((from + dim) - from) (drop from m) i (pos 0) (omega (arith, li, n)) ∙ get_or-drop from m i (pos 0)))
    ∙ sym (ap (λ (t : Bool). c.args.out.now.items ++ cond t (pair_text b.mesh (st.stores r) d y) []) held)

use Rattle.std.proofs.Common.{◌++◌, List, ℕ, ap, ◌∙◌, append_assoc, length}
use Rattle.std.specs.Prelude.{codes}
use Rattle.std.specs.List.{flat_map}
use Rattle.std.specs.Fmt.{decimal}
use Rattle.mesh_decl.specs.Mesh.{dat_name}
use Rattle.chain_model.specs.Dump.{held_in, pair_text, held_text}
use Rattle.deep_halo.specs.Programs.{program_of_run}
use Rattle.deep_halo.proofs.Texts.{text_more}
use Rattle.deep_halo.proofs.dumps.put_store.Goals as goal

pub loop-dat-preserved : goal.loop-dat-preserved
loop-dat-preserved c st stand holding =
    let g = (program_of_run c.args.program.now).mesh in
    let r = c.args.rank in
    let d = c.loop-dat.dat in
    let h = st.stores r in
    let header : List ℕ = codes "rank " ++ decimal r ++ codes " " ++ dat_name g d ++ codes " " ++ decimal (length (held_in g h d)) ++ codes "\n" in
    let pairs : List ℕ = flat_map (pair_text g h d) (held_in g h d) in
    text_more (held_text g r h) d c.args.out.now.items c.loop-dat.out.items c.put_pairs.new.out.items (c.loop-dat.invariant st stand holding)
    (c.in_ok-put_pairs.ensures st stand holding ∙ ap (λ z. z ++ pairs) (c.in_ok-put_header.ensures h holding) ∙ append_assoc c.loop-dat.out.items header pairs)

use Rattle.std.proofs.Common.{◌+◌, ◌++◌, length, sym, ap, ◌∙◌}
use Rattle.metis_text.specs.Graph.{graph_line}
use Rattle.metis_text.proofs.neighbour_graph.Near.{lines_on}
use Rattle.metis_text.proofs.neighbour_graph.graph.put_lines.Goals as goal

pub loop-element-preserved : goal.loop-element-preserved
loop-element-preserved c =
    let found = c.next_row.new.found.items in
    let text = c.in_ok-put_line.ensures ∙ ap (λ l. c.loop-element.out.items ++ graph_line l) c.deref-in-loop-element.ensures.value in
    let len = c.len.ensures ∙ sym c.deref-in-loop-element.ensures.len ∙ ap length c.deref-in-loop-element.ensures.value in
    lines_on c.args.mesh.now c.args.map c.loop-element.element c.args.out.now.items c.loop-element.out.items c.put_line.new.out.items c.loop-element.total c.in_ok-total.total found
    c.loop-element.invariant c.in_ok-next_row.ensures text (c.in_ok-total.ensures ∙ ap (λ n. c.loop-element.total + n) len)

use Rattle.std.proofs.Common.{[], Vec, sym, ap, ◌∙◌}
use Rattle.std.specs.declared.alloc.Global.{Global}
use Rattle.std.proofs.lemmas.List.{get_or-map}
use Rattle.rank_layout.specs.Made.{row_of}
use Rattle.rank_layout.proofs.tables.row_of.Goals as goal

pub returns : goal.returns
unfolding row_of
returns g c =
    c.deref.ensures.value ∙ ap (λ (v : Vec _ Global). v.items) c.index-rows-site.is
    ∙ sym (get_or-map (λ (v : Vec _ Global). v.items) c.args.rows.now c.args.site c.index-rows-site.result [] c.requires)

use Rattle.std.proofs.Common.{◌≡◌, ◌∙◌, List, true, false, sym, ap, subst}
use Rattle.bound_program.specs.declared.sites.Arg.{Arg}
use Rattle.bound_program.specs.Classes.{class_of}
use Rattle.plan_counts.specs.Table.{makes_ordered}
use Rattle.plan_counts.proofs.Blamed.{ordered_by, free_by}
use Rattle.plan_counts.proofs.loop_texts.makes_ordered.Goals as goal

pub returns-in-Free : goal.returns-in-Free
returns-in-Free c =
    let class = sym (c.in-Free.ensures ∙ ap (λ (l : List Arg). class_of l) (c.deref.ensures.value ∙ c.in_ok-own-in-Dat.ensures)) in
    subst (λ x. false ≡ makes_ordered c.args.all.now x) (sym c.in-Dat.is) (free_by c.args.all.now c.in-Dat.dat c.in-Dat.via c.in-Dat.access class)

pub returns-in-Dat : goal.returns-in-Dat
returns-in-Dat c =
    let class = sym (c.in-Ordered.ensures ∙ ap (λ (l : List Arg). class_of l) (c.deref.ensures.value ∙ c.in_ok-own-in-Dat.ensures)) in
    subst (λ x. true ≡ makes_ordered c.args.all.now x) (sym c.in-Dat.is) (ordered_by c.args.all.now c.in-Dat.dat c.in-Dat.via c.in-Dat.access class)

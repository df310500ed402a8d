use Rattle.std.proofs.Common.{Some, ◌∙◌, sym, ap}
use Rattle.job_inputs.specs.declared.kept_files.kept.Reading.{Reading}
use Rattle.job_inputs.specs.Readings.{keeping}
use Rattle.job_inputs.proofs.kept_files.Keeping.{is_of, keeping_none, keeping_set, position_there, position_missing}
use Rattle.job_inputs.proofs.kept_files.kept.Kept.keep.Goals as goal

pub returns-in_default : goal.returns-in_default
returns-in_default c =
    let name = c.args.name.now in
    let rs = c.self.inside.readings.items in
    let none = sym (rw c.deref.ensures.value at c.place_of.ensures) ∙ c.in_default.is in
    sym c.self.view_is ∙ (keeping_none name c.args.bytes.now rs (position_missing (is_of name) rs none) ∙ ap (λ z. keeping z name c.args.bytes.now) c.self.view_is)

pub returns : goal.returns
returns c =
    let name = c.args.name.now in
    let rs = c.self.inside.readings.items in
    let at = position_there (is_of name) rs c.in-Some.place (sym (rw c.deref.ensures.value at c.place_of.ensures) ∙ c.in-Some.is) in
    let items = c.in_ok-to_vec.ensures.items_if_clones_equal (λ x y e. e) in
    let same =
    ap (λ z. (c.index_mut.result.now.name.now, Some z)) items
    ∙ ap (λ (z : Reading). (z.name.now, Some c.args.bytes.now)) c.index_mut.ensures.value in
    keeping_set name c.args.bytes.now rs _ c.index_mut.result.now c.in-Some.place at.0 at.1 same
    ∙ ap (λ z. keeping z name c.args.bytes.now) c.self.view_is

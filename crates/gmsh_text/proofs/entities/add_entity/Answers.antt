use Rattle.std.proofs.Common.{◌≡◌, ◌∙◌, ◌++◌, [], ◌∷◌, List, Option, Ok, Err, Some, None, is_some, false, refl, sym, ap, rules, w32, FitsSigned, if◌then◌else◌}
use Rattle.std.proofs.lemmas.Int.{to_z-of_z}
use Rattle.indexmap.proofs.CallerLemmas.{insert_entry-new}
use Rattle.std.specs.Map.{lookup}
use Rattle.std.specs.Ordering.{int_eq}
use Rattle.op_num.specs.Cut.{Uncut}
use Rattle.gmsh_text.specs.declared.refusal.TextRefusal.TheVariants.{DuplicateEntity}
use Rattle.gmsh_text.specs.Groups.{Grouped}
use Rattle.gmsh_text.specs.Parsing.{and_then}
use Rattle.gmsh_text.specs.Sections.{entity, entity_row, with_entity}
use Rattle.gmsh_text.proofs.entities.add_entity.Goals as goal

adds : (es : List Grouped) (u v : Uncut) (e : Grouped) (to : List Grouped) → entity u ≡ Ok (e, v) → lookup (int_eq e.0) es ≡ None → to ≡ es ++ e ∷ []
    → entity_row es u ≡ Ok (to, v)
unfolding entity_row
adds es u v e to h n t =
    ap (λ r. and_then r (λ x w. with_entity x es w)) h ∙ ap (λ o. if is_some o then Err (DuplicateEntity v.last) else Ok (es ++ e ∷ [], v)) n
    ∙ ap (λ x. Ok (x, v)) (sym t)

no_item : {A : Type 0} (o : Option A) → is_some o ≡ false → o ≡ None
no_item None h = refl
no_item (Some x) h = cc

pub returns : goal.returns
returns c =
    let fits : FitsSigned w32 c.in_ok-tag.tag = search rules in
    let same = to_z-of_z w32 c.in_ok-tag.tag fits in
    let none : lookup (int_eq c.in_ok-tag.tag) c.args.groups.now.entries ≡ None =
    no_item _ (ap (λ z. is_some (lookup (int_eq z) c.args.groups.now.entries)) (sym same) ∙ sym c.contains_key.ensures ∙ c.if-contains_key.false) in
    let inserted = rw same at c.in_ok-insert.ensures.entries in
    adds _ _ _ _ _ c.in_ok-tag.ensures none (inserted ∙ insert_entry-new int_eq c.args.groups.now c.in_ok-tag.tag c.in_ok-tag.group none)

use Rattle.std.proofs.Common.{◌≡◌, ◌++◌, [], rules, map, subst, sym, ap, ◌∙◌, codes, All}
use Rattle.std.proofs.lemmas.Map.Iter.{iter_end}
use Rattle.std.proofs.lemmas.List.{map_push}
use Rattle.std.proofs.lemmas.List.Elements.{All-push}
use Rattle.std.specs.List.{flat_map}
use Rattle.std.specs.Map.Iter.{deref_pair}
use Rattle.op_num.specs.Lines.{line_of}
use Rattle.mesh_decl.specs.Spelling.{Named, Spells, header}
use Rattle.mesh_decl.specs.Canonical.{canonical, entry_text, HasI32}
use Rattle.mesh_decl.proofs.text.Distinct.{have_spelling}
use Rattle.mesh_decl.proofs.text.RoundTrip.{text_more, whole_text}
use Rattle.mesh_decl.proofs.text.write.write_mesh.Goals as goal

pub loop-name-preserved : goal.loop-name-preserved
loop-name-preserved c =
    let push = sym (map_push deref_pair c.loop-name.yielded (c.in-Some.name, c.in-Some.entry)) in
    record {
      text = text_more c.args.form (line_of (header c.args.form)) c.loop-name.out.items c.put_entry.new.out.items
          (map deref_pair c.loop-name.yielded) (c.in-Some.name.now, c.in-Some.entry.now) c.loop-name.invariant.text
          c.in_ok-put_entry.ensures.text
          ∙ ap (λ es. line_of (header c.args.form) ++ flat_map (entry_text c.args.form) es) push;
      numbers = subst (All (λ (n : Named). HasI32 n.1)) push
          (All-push (λ (n : Named). HasI32 n.1) (map deref_pair c.loop-name.yielded) (c.in-Some.name.now, c.in-Some.entry.now) c.loop-name.invariant.numbers c.in_ok-put_entry.ensures.numbers);
    }

pub returns : goal.returns
returns c =
    let e : map deref_pair c.loop-name.yielded ≡ c.args.entries.now.entries = search (rules, iter_end) in
    let text : c.extend_from_slice.new.self.items ≡ canonical c.args.form c.args.entries.now.entries =
    c.in_ok-extend_from_slice.ensures.items
    ∙ ap (λ xs. xs ++ codes "done\n") (c.loop-name.invariant.text ∙ ap (λ es. line_of (header c.args.form) ++ flat_map (entry_text c.args.form) es) e)
    ∙ whole_text c.args.form c.args.entries.now.entries in
    let numbers : All (λ (n : Named). HasI32 n.1) c.args.entries.now.entries = subst (All (λ (n : Named). HasI32 n.1)) e c.loop-name.invariant.numbers in
    record {
      canonical = text;
      spells = λ can. subst (λ bytes. Spells bytes c.args.entries.now.entries) (sym text)
          (c.written_is_spelled.ensures c.args.form c.args.entries.now.entries
          (have_spelling [] c.args.entries.now.entries c.iter-name-items.ensures.unique can numbers));
    }

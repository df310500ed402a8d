use Rattle.std.proofs.Common.{◌≡◌, ◌+◌, ◌-◌, ◌++◌, drop, take, length, Some, None, arith, ap, ap₂, sym, subst, ◌∙◌}
use Rattle.std.specs.Prelude.{option_map}
use Rattle.op_translate.specs.Answered.{edit_of, begun}
use Rattle.op_translate.specs.Edits.{edited, edits, LieWithin}
use Rattle.op_translate.proofs.Steps.{rest_is, lie_end, turn, edited_turn, no_turn}
use Rattle.op_translate.proofs.edits.put_edited.Goals.{in-Some+in_ok-extend_from_slice+in_ok-put_call, in_default}
use Rattle.op_translate.proofs.edits.put_edited.Goals as goal

pub slice_bounds-extend_from_slice-end : goal.slice_bounds-extend_from_slice-end
slice_bounds-extend_from_slice-end c =
    let ts = c.args.tokens.now in
    let here : begun c.args.form (drop c.loop-i.i ts) ≡ Some (edit_of c.args.form c.in-Some.stretch) =
    ap (begun c.args.form) (sym (rest_is c.loop-i.i ts)) ∙ (sym c.stretch_at.ensures ∙ ap (option_map (edit_of c.args.form)) c.in-Some.is) in
    let t = turn (begun c.args.form) c.loop-i.i ts c.loop-i.from (length c.args.bytes.now) (edit_of c.args.form c.in-Some.stretch) c.loop-i-test.true here c.loop-i.invariant.within in
    let e = lie_end c.in-Some.stretch.to (length c.args.bytes.now) (edits (begun c.args.form) (drop (c.loop-i.i + 1) ts)) t.later in
    omega (arith, t.after, t.order, e)

pub loop-i-preserved : goal.loop-i-preserved
loop-i-preserved c = elim c.match-stretch_at.branch [
  | in-Some+in_ok-extend_from_slice+in_ok-put_call w ↦
      let ts = c.args.tokens.now in
      let bytes = c.args.bytes.now in
      let begins = begun c.args.form in
      let e = edit_of c.args.form w.in-Some.stretch in
      let here : begins (drop c.loop-i.i ts) ≡ Some e =
      ap begins (sym (rest_is c.loop-i.i ts)) ∙ (sym c.stretch_at.ensures ∙ ap (option_map (edit_of c.args.form)) w.in-Some.is) in
      let t = turn begins c.loop-i.i ts c.loop-i.from (length bytes) e c.loop-i-test.true here c.loop-i.invariant.within in
      let es = edits begins (drop (c.loop-i.i + 1) ts) in
      let put : c.match-stretch_at.out.items ≡ c.loop-i.out.items ++ take (e.from - c.loop-i.from) (drop c.loop-i.from bytes) ++ e.text =
      ap (λ v. v.items) w.out-is ∙ (w.in_ok-put_call.ensures ∙ ap (λ z. z ++ e.text) w.in_ok-extend_from_slice.ensures.items) in
      record {
        within = subst (λ z. LieWithin z (length bytes) es) (sym w.from-is) t.later;
        text = ap₂ (λ u v. u ++ edited v (drop v bytes) es) put w.from-is
            ∙ edited_turn begins c.loop-i.i ts c.loop-i.from (length bytes) e bytes c.loop-i.out.items
            (c.args.out.now.items ++ edited 0 bytes (edits begins ts)) c.loop-i-test.true here t c.loop-i.invariant.text;
      }
  | in_default w ↦
      let ts = c.args.tokens.now in
      let bytes = c.args.bytes.now in
      let begins = begun c.args.form in
      let here : begins (drop c.loop-i.i ts) ≡ None =
      ap begins (sym (rest_is c.loop-i.i ts)) ∙ (sym c.stretch_at.ensures ∙ ap (option_map (edit_of c.args.form)) w.in_default.is) in
      let same = no_turn begins c.loop-i.i ts c.loop-i-test.true here in
      let es = edits begins (drop (c.loop-i.i + 1) ts) in
      record {
        within = subst (λ z. LieWithin z (length bytes) es) (sym w.from-is) (subst (LieWithin c.loop-i.from (length bytes)) same c.loop-i.invariant.within);
        text = ap₂ (λ u v. u ++ edited v (drop v bytes) es) (ap (λ v. v.items) w.out-is) w.from-is
            ∙ (ap (λ z. c.loop-i.out.items ++ edited c.loop-i.from (drop c.loop-i.from bytes) z) (sym same) ∙ c.loop-i.invariant.text);
      }
]

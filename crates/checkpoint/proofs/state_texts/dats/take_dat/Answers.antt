use Rattle.std.proofs.Common.{◌≡◌, ◌*◌, ◌++◌, ◌∷◌, ◌∙◌, ℕ, [], sym, ap, ap₂, subst, length, map}
use Rattle.mesh_decl.specs.Mesh.{set_size, dat_set, dat_dim}
use Rattle.run_model.specs.Windows.{numbers}
use Rattle.checkpoint.specs.Reading.{Exactly, Values, dat_line, awaited_dat}
use Rattle.checkpoint.specs.Judged.{FitsAmong}
use Rattle.checkpoint.proofs.state_texts.Judging.{fits_append, fits_same, refused_first, refused_then, refuses_same, passed_on, pushed_alone}
use Rattle.checkpoint.proofs.state_texts.OneLine.{written}
use Rattle.checkpoint.proofs.state_texts.Counting.{no_program, elements_counted}
use Rattle.checkpoint.proofs.state_texts.dats.take_dat.Goals as goal

-- a line for each element
rows_same : (size dim n m : ℕ) → n ≡ size → m ≡ dim → map (λ e. Values m) (numbers n) ≡ map (λ e. Values dim) (numbers size)
rows_same size dim n m e d = ap₂ (λ s w. map (λ (e : ℕ). Values w) (numbers s)) e d

pub returns-in_err-take_exactly-clause-judged : goal.returns-in_err-take_exactly-clause-judged
returns-in_err-take_exactly-clause-judged c = λ b k.
    let g = c.args.mesh.now in
    let d = c.args.dat in
    let line = dat_line g d in
    let is = written line c.write_dat_line.new.text.items c.deref.result.now c.in_ok-write_dat_line.ensures c.deref.ensures.value in
    passed_on b k (awaited_dat g d) c.args.lines.now c.take_exactly.new.lines (λ v. v) c.from_residual-in_err-take_exactly.result
    c.in_err-take_exactly.field-0.0 c.from_residual-in_err-take_exactly.ensures.1
    (refused_first b k (Exactly line ∷ []) (map (λ e. Values (dat_dim g d)) (numbers (set_size g (dat_set g d)))) c.args.lines.now c.in_err-take_exactly.field-0.0
    (refuses_same b k (Exactly (c.deref.result.now ++ 10 ∷ []) ∷ []) (Exactly line ∷ []) c.args.lines.now c.in_err-take_exactly.field-0.0
    (ap (λ z. Exactly z ∷ []) is) (c.in_err-take_exactly.ensures b k)))

pub returns-in_err-take_elements-clause-judged : goal.returns-in_err-take_elements-clause-judged
returns-in_err-take_elements-clause-judged c = λ b k.
    let g = c.args.mesh.now in
    let d = c.args.dat in
    let line = dat_line g d in
    let is = written line c.write_dat_line.new.text.items c.deref.result.now c.in_ok-write_dat_line.ensures c.deref.ensures.value in
    let size = set_size g (dat_set g d) in
    let rows = rows_same size (dat_dim g d) c.set_size.result c.dat_shape-set.result.1
    (c.set_size.ensures ∙ ap (λ p. set_size g p.0) c.dat_shape-set.ensures) (ap (λ p. p.1) c.dat_shape-set.ensures) in
    passed_on b k (awaited_dat g d) c.args.lines.now c.take_elements.new.lines (λ v. v) c.from_residual-in_err-take_elements.result
    c.in_err-take_elements.field-0.0 c.from_residual-in_err-take_elements.ensures.1
    (refused_then b k (Exactly line ∷ []) (map (λ e. Values (dat_dim g d)) (numbers size)) c.args.lines.now c.take_exactly.new.lines [] c.in_err-take_elements.field-0.0
    (fits_same b k (Exactly (c.deref.result.now ++ 10 ∷ []) ∷ []) (Exactly line ∷ []) c.args.lines.now c.take_exactly.new.lines [] (ap (λ z. Exactly z ∷ []) is) (c.in_ok-take_exactly.ensures b k))
    (refuses_same b k (map (λ e. Values c.dat_shape-set.result.1) (numbers c.set_size.result))
    (map (λ e. Values (dat_dim g d)) (numbers size)) c.take_exactly.new.lines c.in_err-take_elements.field-0.0 rows
    (c.in_err-take_elements.ensures b k)))

pub returns-clause-judged : goal.returns-clause-judged
returns-clause-judged c = λ b k.
    let g = c.args.mesh.now in
    let d = c.args.dat in
    let line = dat_line g d in
    let is = written line c.write_dat_line.new.text.items c.deref.result.now c.in_ok-write_dat_line.ensures c.deref.ensures.value in
    let size = set_size g (dat_set g d) in
    let mine = map (λ e. Values c.dat_shape-set.result.1) (numbers c.set_size.result) in
    let rows = rows_same size (dat_dim g d) c.set_size.result c.dat_shape-set.result.1
    (c.set_size.ensures ∙ ap (λ p. set_size g p.0) c.dat_shape-set.ensures) (ap (λ p. p.1) c.dat_shape-set.ensures) in
    subst (FitsAmong b k (awaited_dat g d) c.args.lines.now c.take_elements.new.lines) (sym c.new.ensures)
    (fits_append b k (Exactly line ∷ []) (map (λ e. Values (dat_dim g d)) (numbers size)) c.args.lines.now c.take_exactly.new.lines c.take_elements.new.lines [] c.take_elements.new.values.items
    (fits_same b k (Exactly (c.deref.result.now ++ 10 ∷ []) ∷ []) (Exactly line ∷ []) c.args.lines.now c.take_exactly.new.lines [] (ap (λ z. Exactly z ∷ []) is) (c.in_ok-take_exactly.ensures b k))
    (fits_same b k mine (map (λ e. Values (dat_dim g d)) (numbers size)) c.take_exactly.new.lines c.take_elements.new.lines c.take_elements.new.values.items rows
    (pushed_alone b k mine c.take_exactly.new.lines c.take_elements.new.lines c.in_ok-values.values.items c.take_elements.new.values.items
    (c.in_ok-take_elements.ensures b k) c.in_ok-values.ensures.items)))

pub returns-clause-count : goal.returns-clause-count
returns-clause-count c =
    let g = c.args.mesh.now in
    let d = c.args.dat in
    let dim = c.dat_shape-set.result.1 in
    let mine = map (λ e. Values dim) (numbers c.set_size.result) in
    let f = pushed_alone no_program 0 mine c.take_exactly.new.lines c.take_elements.new.lines c.in_ok-values.values.items
    c.take_elements.new.values.items (c.in_ok-take_elements.ensures no_program 0) c.in_ok-values.ensures.items in
    ap length c.new.ensures
    ∙ (elements_counted no_program 0 dim 0 c.set_size.result f.lines c.take_elements.new.values.items f.fit
    ∙ (ap₂ (λ s w. s * w) (c.set_size.ensures ∙ ap (λ p. set_size g p.0) c.dat_shape-set.ensures) (ap (λ p. p.1) c.dat_shape-set.ensures)
    ∙ sym (c.is_in_range.ensures.dats d c.requires).length))

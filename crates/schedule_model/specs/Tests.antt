-- Facts about the tests of cells and kinds.
use Rattle.std.proofs.Common.{◌≡◌, true, false, refl, sym, ap, ◌∙◌}
use Rattle.std.specs.Prelude.{◌&&◌, ◌==◌}
use Rattle.std.proofs.lemmas.Bool.{false≢true, and_parts, and_from, eqb-true, eq-eqb}
use Rattle.schedule_model.specs.Cells.{Cell, Data, Variable, same_cell}
use Rattle.schedule_model.specs.Program.{Kind, Free, Reduce, Ordered, Host, is_free}

-- the test calls a cell itself
pub same_cell_refl : (c : Cell) → same_cell c c ≡ true
same_cell_refl (Data c) =
    and_from
    (c.dat == c.dat)
    ((c.element == c.element) && (c.component == c.component))
    (eq-eqb c.dat c.dat refl)
    (and_from (c.element == c.element) (c.component == c.component) (eq-eqb c.element c.element refl) (eq-eqb c.component c.component refl))
same_cell_refl (Variable c) =
    and_from
    (c.variable == c.variable)
    (c.component == c.component)
    (eq-eqb c.variable c.variable refl)
    (eq-eqb c.component c.component refl)

-- cells that the test calls one are one
pub same_cell_true : (c d : Cell) → same_cell c d ≡ true → c ≡ d
same_cell_true (Data c) (Data d) h =
    let x : ((c.dat == d.dat) ≡ true) × (((c.element == d.element) && (c.component == d.component)) ≡ true)
    = and_parts (c.dat == d.dat) ((c.element == d.element) && (c.component == d.component)) h in
    let y : ((c.element == d.element) ≡ true) × ((c.component == d.component) ≡ true)
    = and_parts (c.element == d.element) (c.component == d.component) x.1 in
    let a : c.dat ≡ d.dat = eqb-true c.dat d.dat x.0 in
    let b : c.element ≡ d.element = eqb-true c.element d.element y.0 in
    let e : c.component ≡ d.component = eqb-true c.component d.component y.1 in
    ap Data (λ i. record { dat = a i; element = b i; component = e i })
same_cell_true (Variable c) (Variable d) h =
    let x : ((c.variable == d.variable) ≡ true) × ((c.component == d.component) ≡ true)
    = and_parts (c.variable == d.variable) (c.component == d.component) h in
    let a : c.variable ≡ d.variable = eqb-true c.variable d.variable x.0 in
    let b : c.component ≡ d.component = eqb-true c.component d.component x.1 in
    ap Variable (λ i. record { variable = a i; component = b i })
same_cell_true (Data c) (Variable d) h = absurd (false≢true h)
same_cell_true (Variable c) (Data d) h = absurd (false≢true h)

-- the kind that passes the test is Free
pub free_kind : (x : Kind) → is_free x ≡ true → x ≡ Free
free_kind Free h = refl
free_kind Reduce h = absurd (false≢true h)
free_kind Ordered h = absurd (false≢true h)
free_kind Host h = absurd (false≢true h)

-- a kind that doesn't pass the test isn't Free
pub not_free : (x : Kind) → is_free x ≡ false → x ≡ Free → ⊥
not_free x h e = false≢true (sym h ∙ ap is_free e)

use Rattle.std.proofs.Common.{◌≡◌, ◌<◌, ℤ, [], Vec, Global, length, map, get_or, set, sym, ap, subst, ◌∙◌, arith, ⊎_elim, get_or-set_same, get_or-set_other}
use Rattle.std.specs.Vec.{with_items}
use Rattle.std.proofs.lemmas.Bool.{cases_eq}
use Rattle.std.proofs.lemmas.List.{ext_get_or, get_or-map, length-map}
use Rattle.rank_state.specs.Windows.{Merges}
use Rattle.rank_state.specs.Joins.{unite}
use Rattle.rank_state.proofs.Public.{lists, row_is, row_put}
use Rattle.rank_machine.proofs.reduce.unite_all.Goals as goal

pub unite-requires : goal.unite-requires
unite-requires c =
    let lt : c.loop-i.i < length c.loop-i.rows = omega (arith, c.loop-i.auto.rows, c.loop-i-test.true) in
    let row : c.deref_mut.result.now ≡ get_or (lists c.args.rows.now) c.loop-i.i [] =
    c.deref_mut.ensures.value ∙ (ap (λ (v : Vec ℤ Global). v.items) (sym c.index-rows-i.is)
    ∙ (row_is c.loop-i.rows c.loop-i.i c.index-rows-i.result lt c.index-rows-i.is ∙ c.loop-i.invariant.left c.loop-i.i (omega arith)))
    in
    subst (λ n. Merges n c.args.scalars.now) (sym (ap length row)) (c.requires c.loop-i.i c.loop-i-test.true)

pub loop-i-preserved : goal.loop-i-preserved
loop-i-preserved c =
    let lt : c.loop-i.i < length c.loop-i.rows = omega (arith, c.loop-i.auto.rows, c.loop-i-test.true) in
    let row : c.deref_mut.result.now ≡ get_or (lists c.args.rows.now) c.loop-i.i [] =
    c.deref_mut.ensures.value ∙ (ap (λ (v : Vec ℤ Global). v.items) (sym c.index-rows-i.is)
    ∙ (row_is c.loop-i.rows c.loop-i.i c.index-rows-i.result lt c.index-rows-i.is ∙ c.loop-i.invariant.left c.loop-i.i (omega arith)))
    in
    let put : lists (set c.loop-i.rows c.loop-i.i (with_items (get_or c.loop-i.rows c.loop-i.i c.index-rows-i.result) c.unite.new.partials))
    ≡ set (lists c.loop-i.rows) c.loop-i.i (unite c.args.scalars.now (get_or (lists c.args.rows.now) c.loop-i.i [])) =
    row_put c.loop-i.rows c.loop-i.i (get_or c.loop-i.rows c.loop-i.i c.index-rows-i.result) c.unite.new.partials
    (unite c.args.scalars.now (get_or (lists c.args.rows.now) c.loop-i.i []))
    (c.unite.auto.partials ∙ ap length c.deref_mut.ensures.value) (c.unite.ensures ∙ ap (unite c.args.scalars.now) row) in
    let len : length (lists c.loop-i.rows) ≡ length c.loop-i.rows = length-map c.loop-i.rows (λ (v : Vec ℤ Global). v.items) in
    record {
      done = λ j jl. ap (λ z. get_or z j []) put ∙ ⊎_elim
          (λ (e : j ≡ c.loop-i.i). ap (λ n. get_or (set (lists c.loop-i.rows) c.loop-i.i (unite c.args.scalars.now (get_or (lists c.args.rows.now) c.loop-i.i []))) n []) e
          ∙ (get_or-set_same (lists c.loop-i.rows) c.loop-i.i (unite c.args.scalars.now (get_or (lists c.args.rows.now) c.loop-i.i [])) []
          (omega arith) ∙ ap (λ n. unite c.args.scalars.now (get_or (lists c.args.rows.now) n [])) (sym e)))
          (λ (ne : j ≡ c.loop-i.i → ⊥). get_or-set_other (lists c.loop-i.rows) c.loop-i.i j
          (unite c.args.scalars.now (get_or (lists c.args.rows.now) c.loop-i.i [])) [] ne ∙ c.loop-i.invariant.done j (omega arith))
          (cases_eq j c.loop-i.i);
      left = λ j jl. ap (λ z. get_or z j []) put ∙
          (get_or-set_other (lists c.loop-i.rows) c.loop-i.i j (unite c.args.scalars.now (get_or (lists c.args.rows.now) c.loop-i.i [])) []
          (λ e. omega arith) ∙ c.loop-i.invariant.left j (omega arith));
    }

pub returns : goal.returns
returns c =
    let a : length (lists c.loop-i.rows) ≡ length c.loop-i.rows = length-map c.loop-i.rows (λ (v : Vec ℤ Global). v.items) in
    let b : length (lists c.args.rows.now) ≡ length c.args.rows.now = length-map c.args.rows.now (λ (v : Vec ℤ Global). v.items) in
    let d : length (map (unite c.args.scalars.now) (lists c.args.rows.now)) ≡ length (lists c.args.rows.now) = length-map (lists c.args.rows.now) (unite c.args.scalars.now) in
    ext_get_or [] (lists c.loop-i.rows) (map (unite c.args.scalars.now) (lists c.args.rows.now)) (omega (arith, c.loop-i.auto.rows))
    (λ j jl. c.loop-i.invariant.done j (omega (arith, c.loop-i.auto.rows, c.loop-i-test.false))
    ∙ sym (get_or-map (unite c.args.scalars.now) (lists c.args.rows.now) j [] [] (omega (arith, c.loop-i.auto.rows))))

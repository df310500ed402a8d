use Rattle.std.proofs.Common.{◌≡◌, ◌+◌, ◌-◌, ◌∙◌, ℕ, List, [], length, take, drop, get_or, ap, sym, subst, arith}
use Rattle.std.proofs.lemmas.Bool.{cond-true, cond-false}
use Rattle.step_orders.specs.Runs.{cut, each_alone}
use Rattle.step_orders.proofs.AloneRuns.{length_alone, one_at}
use Rattle.step_orders.proofs.Cuts.{length_cut}
use Rattle.step_orders.proofs.runs.Runs.run.Goals as goal

pub overflow_add-run : goal.overflow_add-run
overflow_add-run c =
    let xs : List ℕ = c.self.inside.elements.items in
    let view : each_alone xs ≡ c.args.self.now = sym (cond-true c.self.inside.alone (each_alone xs) (cut 0 xs c.self.inside.ends.items) c.if-self.true) ∙ c.self.view_is in
    let long = sym (length_alone xs) ∙ ap (λ (z : List (List ℕ)). length z) view in
    let same = ap (λ (z : List ℕ). length z) c.deref.ensures.value in
    let fits = c.deref.type_inv.0 in
    let below = c.requires in
    omega (arith, long, same, fits, below)

pub between-requires-clause-within : goal.between-requires-clause-within
between-requires-clause-within c =
    let xs : List ℕ = c.self.inside.elements.items in
    let view : each_alone xs ≡ c.args.self.now = sym (cond-true c.self.inside.alone (each_alone xs) (cut 0 xs c.self.inside.ends.items) c.if-self.true) ∙ c.self.view_is in
    let long = sym (length_alone xs) ∙ ap (λ (z : List (List ℕ)). length z) view in
    let same = ap (λ (z : List ℕ). length z) c.deref.ensures.value in
    let below = c.requires in
    omega (arith, long, same, below)

pub returns-then-self : goal.returns-then-self
returns-then-self c =
    let xs : List ℕ = c.self.inside.elements.items in
    let view : each_alone xs ≡ c.args.self.now = sym (cond-true c.self.inside.alone (each_alone xs) (cut 0 xs c.self.inside.ends.items) c.if-self.true) ∙ c.self.view_is in
    let long = sym (length_alone xs) ∙ ap (λ (z : List (List ℕ)). length z) view in
    let below = c.requires in
    c.between.ensures
    ∙ (ap (λ (z : List ℕ). take (c.args.run + 1 - c.args.run) (drop c.args.run z)) c.deref.ensures.value
    ∙ (one_at xs c.args.run (omega (arith, long, below)) ∙ ap (λ (z : List (List ℕ)). get_or z c.args.run []) view))

pub part-requires-clause-run : goal.part-requires-clause-run
part-requires-clause-run c =
    let xs : List ℕ = c.self.inside.elements.items in
    let ends : List ℕ = c.self.inside.ends.items in
    let l = length_cut 0 xs ends in
    let view : cut 0 xs ends ≡ c.args.self.now = sym (cond-false c.self.inside.alone (each_alone xs) (cut 0 xs ends) c.if-self.false) ∙ c.self.view_is in
    let v = ap (λ (z : List (List ℕ)). length z) view in
    let w = ap (λ (z : List ℕ). length z) c.deref-3.ensures.value in
    omega (arith, l, v, w)

pub part-requires-clause-ends : goal.part-requires-clause-ends
part-requires-clause-ends c = rw (c.deref-2.ensures.value, c.deref-3.ensures.value) c.self.invariant

pub returns : goal.returns
returns c =
    let xs : List ℕ = c.self.inside.elements.items in
    let ends : List ℕ = c.self.inside.ends.items in
    let view : cut 0 xs ends ≡ c.args.self.now = sym (cond-false c.self.inside.alone (each_alone xs) (cut 0 xs ends) c.if-self.false) ∙ c.self.view_is in
    subst (λ (z : List (List ℕ)). c.part.result.now ≡ get_or z c.args.run []) view
    (subst (λ (z : List ℕ). c.part.result.now ≡ get_or (cut 0 z ends) c.args.run []) c.deref-2.ensures.value
    (subst (λ (z : List ℕ). c.part.result.now ≡ get_or (cut 0 c.deref-2.result.now z) c.args.run []) c.deref-3.ensures.value c.part.ensures))

use Rattle.std.proofs.Common.{◌≡◌, rules, length, sym, ap, ◌∙◌, List, ℕ}
use Rattle.std.proofs.lemmas.Bool.{cond-true, cond-false}
use Rattle.step_orders.specs.Runs.{cut, each_alone}
use Rattle.step_orders.proofs.AloneRuns.{length_alone}
use Rattle.step_orders.proofs.Cuts.{length_cut}
use Rattle.step_orders.proofs.runs.Runs.len.Goals as goal

pub returns-then-self : goal.returns-then-self
returns-then-self c =
    let xs : List ℕ = c.self.inside.elements.items in
    let e : c.len.result ≡ length xs = search rules in
    e ∙ (sym (length_alone xs)
    ∙ ap (λ (z : List (List ℕ)). length z) (sym (cond-true c.self.inside.alone (each_alone xs) (cut 0 xs c.self.inside.ends.items) c.if-self.true) ∙ c.self.view_is))

pub returns : goal.returns
returns c =
    let xs : List ℕ = c.self.inside.elements.items in
    let ends : List ℕ = c.self.inside.ends.items in
    let e : c.len-2.result ≡ length ends = search rules in
    e ∙ (sym (length_cut 0 xs ends)
    ∙ ap (λ (z : List (List ℕ)). length z) (sym (cond-false c.self.inside.alone (each_alone xs) (cut 0 xs ends) c.if-self.false) ∙ c.self.view_is))

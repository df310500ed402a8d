use Rattle.std.proofs.Common.{◌≡◌, ◌<◌, ◌∙◌, ℕ, List, arith, length, get_or, ap}
use Rattle.mesh_decl.specs.Mesh.{MeshValue, set_size, map_from, map_dim, target}
use Rattle.renumber.specs.Keys.{keyed}
use Rattle.renumber.specs.Taken.{Rises}
use Rattle.renumber.specs.CuthillMcKee.{least_below, target_key}
use Rattle.renumber.proofs.Numbering.{numbering_from}
use Rattle.renumber.proofs.by_targets.by_targets.Goals as goal

-- the keys that were sorted are those of the definition
same_keys : (g : MeshValue) (m : ℕ) (keys now order numbers read : List ℕ) → now ≡ keys → length keys ≡ set_size g (map_from g m)
    → read ≡ numbers → ((x : ℕ) → x < set_size g (map_from g m)
    → get_or keys x 0 ≡ least_below (map_dim g m) (λ i. get_or read (target g m x i) 0))
    → ((k : ℕ) → k < length order → get_or order k 0 < length now) → Rises (keyed now) order
    → Rises (target_key g m (λ y. get_or numbers y 0)) order
unfolding keyed target_key
same_keys g m keys now order numbers read e n er is within rises i j le l =
    let q : length now ≡ set_size g (map_from g m) = ap (length {A = ℕ}) e ∙ n in
    let a = within i (omega arith) in
    let b = within j l in
    let one : (x : ℕ) → x < set_size g (map_from g m) → get_or now x 0 ≡ least_below (map_dim g m)
    (λ i. get_or numbers (target g m x i) 0) = λ x lx. ap (λ (z : List ℕ). get_or z x 0) e
    ∙ (is x lx ∙ ap (λ (z : List ℕ). least_below (map_dim g m) (λ i. get_or z (target g m x i) 0)) er) in
    let x = one (get_or order i 0) (omega arith) in
    let y = one (get_or order j 0) (omega arith) in
    rw (x, y) at (rises i j le l)

pub returns-clause-numbering : goal.returns-clause-numbering
returns-clause-numbering c =
    let n : ℕ = set_size c.args.mesh.now (map_from c.args.mesh.now c.args.map) in
    let q : length c.deref-2.result.now ≡ n = ap (length {A = ℕ}) c.deref-2.ensures.value ∙ c.in_ok-keys.ensures.length in
    numbering_from n c.in_ok-ordered.ordered.items (c.in_ok-ordered.ensures.length ∙ q) (λ k l. rw (← q) (c.in_ok-ordered.ensures.within k l)) (λ y l. c.in_ok-ordered.ensures.all y (rw q l))

pub returns-clause-ordered : goal.returns-clause-ordered
returns-clause-ordered c = record {
  numbers = λ y. get_or c.in_ok-numbers.numbers.items y 0;
  numbered = c.in_ok-numbers.ensures.numbers;
  rises = same_keys c.args.mesh.now c.args.map c.in_ok-keys.keys.items c.deref-2.result.now c.in_ok-ordered.ordered.items
      c.in_ok-numbers.numbers.items c.deref.result.now c.deref-2.ensures.value c.in_ok-keys.ensures.length c.deref.ensures.value
      c.in_ok-keys.ensures.least c.in_ok-ordered.ensures.within c.in_ok-ordered.ensures.rises;
}

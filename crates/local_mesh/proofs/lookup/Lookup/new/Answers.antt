use Rattle.std.proofs.Common.{◌<◌, List, ℕ, length, get_or, arith, sym, subst}
use Rattle.local_mesh.specs.Parts.{AreSorted}
use Rattle.local_mesh.proofs.Looking.{lookup_is}
use Rattle.local_mesh.proofs.lookup.Lookup.new.Goals as goal
use Rattle.lemmas.proofs.Lists.{contains_at}

pub locals_of-requires : goal.locals_of-requires
locals_of-requires c =
    let xs = c.args.numbers.now in
    let ys = c.in-Some.copies.items in
    let sorted : AreSorted c.args.numbers.now c.in-Some.copies.items = rw c.in-Some.is at c.requires.sorted in
    subst (λ (z : List ℕ). (k : ℕ) → k < length z → get_or z k 0 < length c.number_locals.new.numbers) (sym c.deref.ensures.value)
    (λ k l. (
    let f = sorted.found k l in
    let w = c.requires.parts.within f.0 f.1 in
    subst (λ z. z < length c.number_locals.new.numbers) (contains_at xs (get_or ys k 0) f) (omega (arith, c.number_locals.auto.numbers))))

pub returns : goal.returns
returns c =
    let sorted : AreSorted c.args.numbers.now c.in-Some.copies.items = rw c.in-Some.is at c.requires.sorted in
    lookup_is (length c.args.scratch.now) c.args.numbers.now c.in-Some.copies.items c.deref.result.now c.in_ok-locals.locals.items
    c.number_locals.new.numbers c.requires.parts sorted c.deref.ensures.value c.in_ok-locals.ensures.length c.in_ok-locals.ensures.at
    c.number_locals.ensures.at

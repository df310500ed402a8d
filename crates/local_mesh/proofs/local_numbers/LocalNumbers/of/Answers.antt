use Rattle.std.proofs.Common.{◌≡◌, ℕ, ◌+◌, ◌<◌, List, Vec, length, get_or, ap, sym, subst, ◌∙◌, arith}
use Rattle.std.specs.Prelude.{Option, None}
use Rattle.std.specs.List.{range_with_len}
use Rattle.std.specs.declared.alloc.Global.{Global}
use Rattle.std.proofs.lemmas.List.FromFn.{length-range_with_len, get_or-range_with_len}
use Rattle.local_mesh.specs.HeldNumbers.{numbers_in}
use Rattle.local_mesh.proofs.local_numbers.LocalNumbers.of.Goals as goal

-- where no numbers are listed, each element has its own
own_at : (count element : ℕ) (numbers : Option (Vec ℕ Global)) (now : List ℕ) → now ≡ numbers_in count numbers → numbers ≡ None → element < length now
    → element ≡ get_or now element 0
own_at count element numbers now view none lt =
    let is : now ≡ range_with_len 0 count = view ∙ ap (numbers_in count) none in
    let below : element < count = (let n : length now ≡ count = ap length is ∙ length-range_with_len 0 count in omega (arith, n, lt)) in
    subst (λ (z : List ℕ). element ≡ get_or z element 0) (sym is)
    (sym (get_or-range_with_len 0 count element 0 below ∙ (let e : 0 + element ≡ element = omega arith in e)))

pub returns-in-None : goal.returns-in-None
returns-in-None c = own_at c.self.inside.count c.args.element c.self.inside.numbers c.args.self.now (sym c.self.view_is) c.in-None.is c.requires

-- One loop more, from the end of a list.
use Rattle.std.proofs.Common.{◌≡◌, ◌<◌, ◌-◌, ◌+◌, ℕ, suc, List, ◌∷◌, length, map, drop, get_or, drop-cons, ap, ◌∙◌, arith}
use Rattle.bound_program.specs.Values.{SiteValue}

pub one_back : (sites : List ℕ) (f : ℕ → SiteValue) (done : ℕ) → done < length sites
    → map f (drop (length sites - (done + 1)) sites) ≡ f (get_or sites (length sites - 1 - done) 0) ∷ map f (drop (length sites - done) sites)
one_back sites f done lt =
    let k : length sites - (done + 1) < length sites = omega arith in
    let same : length sites - (done + 1) ≡ length sites - 1 - done = omega arith in
    let next : suc (length sites - (done + 1)) ≡ length sites - done = omega arith in
    ap (map f) (drop-cons sites (length sites - (done + 1)) 0 k)
    ∙ (ap (λ z. f (get_or sites z 0) ∷ map f (drop (suc (length sites - (done + 1))) sites)) same
    ∙ ap (λ z. f (get_or sites (length sites - 1 - done) 0) ∷ map f (drop z sites)) next)

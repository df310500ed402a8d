use Rattle.std.proofs.Common.{◌≡◌, ◌≢◌, ◌<◌, ◌∙◌, ℕ, List, length, get_or, sym, ap, subst}
use Rattle.std.specs.Prelude.{IfSome, IfNone, Some}
use Rattle.local_mesh.specs.declared.types.LocalSet.{LocalSet}
use Rattle.local_mesh.specs.LocalMesh.{originals_in}
use Rattle.local_mesh.proofs.Closing.{originals_at}
use Rattle.local_mesh.proofs.types.RankMesh.local_of.Goals as goal

pub returns-clause-some : goal.returns-clause-some
returns-clause-some c =
    let sets = c.args.self.now.sets.items in
    let e : c.index.result.now.original ≡ originals_in sets c.args.set = ap (λ (z : LocalSet). z.original) c.index.ensures ∙ sym (originals_at sets c.args.set c.index.result.now c.requires) in
    subst (λ (z : List ℕ). IfSome c.local_of.result (λ l. (l < length z) × (get_or z l 0 ≡ c.args.original))) e c.local_of.ensures.some

pub returns-clause-none : goal.returns-clause-none
returns-clause-none c =
    let sets = c.args.self.now.sets.items in
    let e : c.index.result.now.original ≡ originals_in sets c.args.set = ap (λ (z : LocalSet). z.original) c.index.ensures ∙ sym (originals_at sets c.args.set c.index.result.now c.requires) in
    subst (λ (z : List ℕ). IfNone c.local_of.result ((k : ℕ) → k < length z → get_or z k 0 ≢ c.args.original)) e c.local_of.ensures.none

pub returns-clause-at : goal.returns-clause-at
returns-clause-at c =
    let sets = c.args.self.now.sets.items in
    let e : c.index.result.now.original ≡ originals_in sets c.args.set = ap (λ (z : LocalSet). z.original) c.index.ensures ∙ sym (originals_at sets c.args.set c.index.result.now c.requires) in
    subst (λ (z : List ℕ). (k : ℕ) → k < length z → get_or z k 0 ≡ c.args.original → c.local_of.result ≡ Some k) e c.local_of.ensures.at

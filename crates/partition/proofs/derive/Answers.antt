use Rattle.std.proofs.Common.{◌≡◌, ◌∙◌, ℕ, List, [], Bool, false, get_or, map, sym, Option, Vec, is_some}
use Rattle.std.specs.declared.alloc.Global.{Global}
use Rattle.std.proofs.lemmas.List.{length-map}
use Rattle.mesh_decl.specs.Mesh.{MeshValue}
use Rattle.mesh_decl.specs.declared.owners.Owners.{Owners}
use Rattle.partition.specs.Derive.{AreGiven, AreKnown, AreDerived, is_given, given_in, given_list}
use Rattle.partition.proofs.OneSet.{all_ok}
use Rattle.partition.proofs.derive.Goals as goal

known_given : (g : MeshValue) (ranks : ℕ) (given : List (Option (Vec ℕ Global))) (sets : List (List ℕ)) (known : List Bool)
    → sets ≡ map given_list given → known ≡ map (λ (v : Option (Vec ℕ Global)). is_some v) given → AreGiven g ranks given
    → AreKnown g ranks sets known
unfolding is_given given_in
known_given g ranks given sets known p q h = rw (p, q) (record {
  each_set = length-map given given_list ∙ h.sets;
  each_known = length-map given (λ (v : Option (Vec ℕ Global)). is_some v) ∙ h.sets;
  lengths = λ s l k. h.lengths s l k;
  below = λ s x l k lx. h.below s x l k lx;
})

derived_given : (g : MeshValue) (o : Owners) (given : List (Option (Vec ℕ Global))) (sets : List (List ℕ)) (known : List Bool)
    → sets ≡ map given_list given → known ≡ map (λ (v : Option (Vec ℕ Global)). is_some v) given
    → AreDerived g o (λ s. get_or known s false) (λ s. get_or sets s []) → AreDerived g o (λ s. is_given given s) (λ s. given_in given s)
unfolding is_given given_in
derived_given g o given sets known p q h = rw (sym p, sym q) h

pub derive_rest-requires-clause-known : goal.derive_rest-requires-clause-known
derive_rest-requires-clause-known c = known_given c.args.mesh.now c.args.ranks c.args.given.items c.in_ok-sets.sets.items
    c.in_ok-sets.known.items c.in_ok-sets.ensures.sets c.in_ok-sets.ensures.known c.requires.given

pub returns-clause-derived : goal.returns-clause-derived
returns-clause-derived c =
    all_ok (λ o. AreDerived c.args.mesh.now o (λ s. get_or c.in_ok-sets.known.items s false) (λ s. get_or c.in_ok-sets.sets.items s [])) _ c.derive_rest.result
    (λ o. derived_given c.args.mesh.now o c.args.given.items c.in_ok-sets.sets.items c.in_ok-sets.known.items c.in_ok-sets.ensures.sets c.in_ok-sets.ensures.known) c.derive_rest.ensures.derived

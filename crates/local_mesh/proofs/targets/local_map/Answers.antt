use Rattle.std.proofs.Common.{◌≡◌, ◌+◌, ◌<◌, ◌≤◌, ◌∙◌, ℕ, List, length, get_or, take, refl, arith, sym, ap, subst}
use Rattle.std.proofs.lemmas.List.{length-take-le, get_or-take}
use Rattle.mesh_decl.specs.Mesh.{map_from, map_to, set_size, set_count}
use Rattle.local_mesh.specs.declared.types.LocalSet.{LocalSet}
use Rattle.local_mesh.specs.LocalMesh.{originals_in, executed_in, AreClosed}
use Rattle.local_mesh.proofs.Closing.{originals_at, executed_at}
use Rattle.local_mesh.proofs.Looking.{targets_are}
use Rattle.local_mesh.proofs.targets.local_map.Goals as goal

-- what the code reads of a set by its number
read : (sets : List LocalSet) (i s : ℕ) (x : LocalSet) (now : List ℕ) → i ≡ s → s < length sets → now ≡ (get_or sets i x).original → now ≡ originals_in sets s
read sets i s x now e l r = r ∙ (ap (λ z. (get_or sets z x).original) e ∙ sym (originals_at sets s x l))

executed : (sets : List LocalSet) (i s : ℕ) (x : LocalSet) → i ≡ s → s < length sets → x ≡ get_or sets i x → x.own + x.exec ≡ executed_in sets s
executed sets i s x e l r = ap (λ (z : LocalSet). z.own + z.exec) r ∙ (ap (λ z. (get_or sets z x).own + (get_or sets z x).exec) e ∙ sym (executed_at sets s x l))

pub number_locals-requires-clause-few : goal.number_locals-requires-clause-few
number_locals-requires-clause-few c =
    let s = map_to c.args.mesh.now c.args.map in
    let l : s < length c.args.sets.now = rw c.requires.closed.count c.requires.at.to in
    let e = read c.args.sets.now c.map_ends-from.result.1 s c.index-sets-to.result c.as_slice.result.now (ap (λ z. z.1) c.map_ends-from.ensures) l c.as_slice.ensures in
    rw e (c.requires.closed.few s c.requires.at.to)

pub number_locals-requires-clause-within : goal.number_locals-requires-clause-within
number_locals-requires-clause-within c =
    let s = map_to c.args.mesh.now c.args.map in
    let l : s < length c.args.sets.now = rw c.requires.closed.count c.requires.at.to in
    let e = read c.args.sets.now c.map_ends-from.result.1 s c.index-sets-to.result c.as_slice.result.now (ap (λ z. z.1) c.map_ends-from.ensures) l c.as_slice.ensures in
    rw e (λ k lk. (let a = c.requires.closed.within s k c.requires.at.to lk in let b = c.requires.scratch s c.requires.at.to in omega arith))

pub number_locals-requires-clause-apart : goal.number_locals-requires-clause-apart
number_locals-requires-clause-apart c =
    let s = map_to c.args.mesh.now c.args.map in
    let l : s < length c.args.sets.now = rw c.requires.closed.count c.requires.at.to in
    let e = read c.args.sets.now c.map_ends-from.result.1 s c.index-sets-to.result c.as_slice.result.now (ap (λ z. z.1) c.map_ends-from.ensures) l c.as_slice.ensures in
    rw e (λ j k. c.requires.closed.apart s j k c.requires.at.to)

few : (g : _) (sets : List LocalSet) (s n : ℕ) (now : List ℕ) → AreClosed g sets → s < set_count g → now ≡ originals_in sets s → n ≡ executed_in sets s → n ≤ length now
few g sets s n now closed l e q = let a : length now ≡ length (originals_in sets s) = ap (length {A = ℕ}) e in let b = closed.executed s l in omega arith

pub slice_bounds-local_targets-end : goal.slice_bounds-local_targets-end
slice_bounds-local_targets-end c =
    let s = map_from c.args.mesh.now c.args.map in
    let l : s < length c.args.sets.now = rw c.requires.closed.count c.requires.at.from in
    let f = ap (λ z. z.0) c.map_ends-from.ensures in
    let e = read c.args.sets.now c.map_ends-from.result.0 s c.index-sets-from.result c.as_slice-elements.result.now f l
    (c.as_slice-elements.ensures ∙ ap (λ (z : LocalSet). z.original) c.index-sets-from.is) in
    let q = executed c.args.sets.now c.map_ends-from.result.0 s c.index-sets-from.result f l c.index-sets-from.is in
    sym (length-take-le (c.index-sets-from.result.own + c.index-sets-from.result.exec) c.as_slice-elements.result.now
    (few c.args.mesh.now c.args.sets.now s (c.index-sets-from.result.own + c.index-sets-from.result.exec) c.as_slice-elements.result.now
    c.requires.closed c.requires.at.from e q))

pub local_targets-requires-clause-elements : goal.local_targets-requires-clause-elements
local_targets-requires-clause-elements c =
    let s = map_from c.args.mesh.now c.args.map in
    let l : s < length c.args.sets.now = rw c.requires.closed.count c.requires.at.from in
    let f = ap (λ z. z.0) c.map_ends-from.ensures in
    let e = read c.args.sets.now c.map_ends-from.result.0 s c.index-sets-from.result c.as_slice-elements.result.now f l
    (c.as_slice-elements.ensures ∙ ap (λ (z : LocalSet). z.original) c.index-sets-from.is) in
    let q = executed c.args.sets.now c.map_ends-from.result.0 s c.index-sets-from.result f l c.index-sets-from.is in
    let n : ℕ = c.index-sets-from.result.own + c.index-sets-from.result.exec in
    let le = few c.args.mesh.now c.args.sets.now s n c.as_slice-elements.result.now c.requires.closed c.requires.at.from e q in
    let len = length-take-le n c.as_slice-elements.result.now le in
    λ k lk. (
    let ln : k < n = omega arith in
    rw (get_or-take n c.as_slice-elements.result.now k 0 ln)
    (subst (λ (z : List ℕ). k < length z → get_or z k 0 < set_size c.args.mesh.now s) (sym e)
    (λ m. c.requires.closed.within s k c.requires.at.from m) (omega arith)))

pub returns : goal.returns
returns c =
    let g = c.args.mesh.now in
    let sets = c.args.sets.now in
    let t = map_to g c.args.map in
    let s = map_from g c.args.map in
    let lt : t < length sets = rw c.requires.closed.count c.requires.at.to in
    let ls : s < length sets = rw c.requires.closed.count c.requires.at.from in
    let f = ap (λ z. z.0) c.map_ends-from.ensures in
    let n : ℕ = c.index-sets-from.result.own + c.index-sets-from.result.exec in
    targets_are g c.args.map sets c.as_slice-elements.result.now c.as_slice.result.now (take n c.as_slice-elements.result.now)
    c.number_locals.new.numbers c.in_ok-table.table.items n c.requires.closed c.requires.map c.requires.at
    (read sets c.map_ends-from.result.1 t c.index-sets-to.result c.as_slice.result.now (ap (λ z. z.1) c.map_ends-from.ensures) lt c.as_slice.ensures)
    (read sets c.map_ends-from.result.0 s c.index-sets-from.result c.as_slice-elements.result.now f ls (c.as_slice-elements.ensures ∙ ap (λ (z : LocalSet). z.original) c.index-sets-from.is))
    (executed sets c.map_ends-from.result.0 s c.index-sets-from.result f ls c.index-sets-from.is)
    refl c.number_locals.ensures.at c.in_ok-table.ensures.length c.in_ok-table.ensures.targets

use Rattle.std.proofs.Common.{◌≡◌, ◌<◌, ◌∙◌, ◌++◌, ℕ, List, Vec, length, sym, subst}
use Rattle.std.specs.Prelude.{Option, Some, None, IfSome, IfNone}
use Rattle.std.specs.declared.alloc.Global.{Global}
use Rattle.lemmas.specs.Below.{row}
use Rattle.lemmas.proofs.Rows.{row_read}
use Rattle.local_mesh.specs.Lookup.{Rises}
use Rattle.local_mesh.specs.Parts.{AreSorted}
use Rattle.local_mesh.proofs.numbers.set_of_rank.Goals as goal

-- copies that are told are those of the groups
told : (v : Option (Vec ℕ Global)) (lists : Option (Vec (Vec ℕ Global) Global)) (r : ℕ) (xs : List ℕ)
    → IfSome v (λ c. (d : Vec (Vec ℕ Global) Global) × (lists ≡ Some d) × (c.items ≡ row d.items r))
    → IfSome lists (λ d. (r < length d.items) × AreSorted xs (row d.items r)) → IfSome v (λ c. AreSorted xs c.items)
told (Some c) lists r xs h k =
    let s : (r < length h.0.items) × AreSorted xs (row h.0.items r) = rw h.1 at k in
    subst (λ (z : List ℕ). AreSorted xs z) (sym h.2) s.1
told None lists r xs h k = h

untold : (v : Option (Vec ℕ Global)) (lists : Option (Vec (Vec ℕ Global) Global)) (X : Type 0) → IfNone v (lists ≡ None) → IfNone lists X → IfNone v X
untold (Some c) lists X h k = h
untold None lists X h k = rw h at k

pub local_set-requires-clause-parts : goal.local_set-requires-clause-parts
local_set-requires-clause-parts c =
    let t = c.args.groups.now in
    let r = c.args.rank in
    let a = c.as_slice-own.ensures.value ∙ row_read t.own.items r c.index.result.now c.requires.own c.index.ensures in
    let b = c.as_slice-exec.ensures.value ∙ row_read t.exec.items r c.index-2.result.now c.requires.exec c.index-2.ensures in
    let d = c.as_slice-nonexec.ensures.value ∙ row_read t.nonexec.items r c.index-3.result.now c.requires.nonexec c.index-3.ensures in
    rw (a, b, d, c.deref.ensures.value) c.requires.parts

pub local_set-requires-clause-sorted : goal.local_set-requires-clause-sorted
local_set-requires-clause-sorted c =
    let t = c.args.groups.now in
    let r = c.args.rank in
    let a = c.as_slice-own.ensures.value ∙ row_read t.own.items r c.index.result.now c.requires.own c.index.ensures in
    let b = c.as_slice-exec.ensures.value ∙ row_read t.exec.items r c.index-2.result.now c.requires.exec c.index-2.ensures in
    let d = c.as_slice-nonexec.ensures.value ∙ row_read t.nonexec.items r c.index-3.result.now c.requires.nonexec c.index-3.ensures in
    rw (a, b, d) (told c.in_ok-copies.copies t.copies r (row t.own.items r ++ row t.exec.items r ++ row t.nonexec.items r) c.in_ok-copies.ensures.some c.requires.copies)

pub local_set-requires-clause-rising : goal.local_set-requires-clause-rising
local_set-requires-clause-rising c =
    let t = c.args.groups.now in
    let r = c.args.rank in
    let a = c.as_slice-own.ensures.value ∙ row_read t.own.items r c.index.result.now c.requires.own c.index.ensures in
    let b = c.as_slice-exec.ensures.value ∙ row_read t.exec.items r c.index-2.result.now c.requires.exec c.index-2.ensures in
    let d = c.as_slice-nonexec.ensures.value ∙ row_read t.nonexec.items r c.index-3.result.now c.requires.nonexec c.index-3.ensures in
    rw (a, b, d) (untold c.in_ok-copies.copies t.copies (Rises (row t.own.items r) × Rises (row t.exec.items r) × Rises (row t.nonexec.items r)) c.in_ok-copies.ensures.none c.requires.rising)

pub returns : goal.returns
returns c =
    let t = c.args.groups.now in
    let r = c.args.rank in
    let a = c.as_slice-own.ensures.value ∙ row_read t.own.items r c.index.result.now c.requires.own c.index.ensures in
    let b = c.as_slice-exec.ensures.value ∙ row_read t.exec.items r c.index-2.result.now c.requires.exec c.index-2.ensures in
    let d = c.as_slice-nonexec.ensures.value ∙ row_read t.nonexec.items r c.index-3.result.now c.requires.nonexec c.index-3.ensures in
    rw (← a, ← b, ← d, ← c.deref.ensures.value) c.in_ok-set.ensures

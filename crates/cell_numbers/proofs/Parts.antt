-- What a rank has of an element, told by its owner and two lists.
use Rattle.std.proofs.Common.{◌≡◌, ℕ, ◌<◌, Bool, true, false, List, refl, sym, ap, subst, ◌∙◌, nat_eq, cond, map, length, arith}
use Rattle.std.specs.Prelude.{◌||◌, ◌&&◌, not, slice_index, if◌then◌else◌}
use Rattle.std.proofs.lemmas.List.{get_or-map}
use Rattle.lemmas.specs.Below.{listed}
use Rattle.mesh_decl.specs.declared.owners.Owners.{Owners}
use Rattle.mesh_decl.specs.Mesh.{MeshValue}
use Rattle.mesh_decl.specs.Owners.{owners_in, owner_of}
use Rattle.local_mesh.specs.Halo.{owns, reaches, named, executes, imports_execute, imports_nonexecute}
use Rattle.cell_numbers.specs.Numbers.{part_of}
use Rattle.cell_numbers.specs.Marks.{marked, own_or_other, AllBelow}
use Rattle.cell_numbers.proofs.Listed.{listed_any, listed_below}

-- the last that is so counts as the first does, since what is imported isn't owned, and what is read isn't executed
chosen : (own reached read : Bool)
    → ◌≡◌ {A = ℕ} (if read && not (own || (not own && reached)) then 2 else (if not own && reached then 1 else (if own then 0 else 3)))
    (if own then 0 else (if not own && reached then 1 else (if read && not (own || (not own && reached)) then 2 else 3)))
chosen true true true = refl
chosen true true false = refl
chosen true false true = refl
chosen true false false = refl
chosen false true true = refl
chosen false true false = refl
chosen false false true = refl
chosen false false false = refl

-- the same of an element
one_part : (g : MeshValue) (o : Owners) (s x r : ℕ)
    → (if imports_nonexecute g o s x r then 2 else (if imports_execute g o s x r then 1 else own_or_other r (owner_of o s x)))
    ≡ part_of g o s x r
unfolding owns imports_execute executes imports_nonexecute
one_part g o s x r = chosen (nat_eq (owner_of o s x) r) (reaches g o s x r) (named g o s x r)

-- its number, once both lists were gone through
pub part_marked : (g : MeshValue) (o : Owners) (s n x r : ℕ) (read executed : List ℕ) (a b c : ℕ)
    → x < n
    → read ≡ listed n (λ y. imports_nonexecute g o s y r)
    → executed ≡ listed n (λ y. imports_execute g o s y r)
    → a ≡ own_or_other r (owner_of o s x)
    → b ≡ marked executed 1 a x
    → c ≡ marked read 2 b x
    → c ≡ part_of g o s x r
part_marked g o s n x r read executed a b c l er ee ea eb ec =
    let first : b ≡ (if imports_execute g o s x r then 1 else own_or_other r (owner_of o s x)) =
    eb ∙ ap (λ (ys : List ℕ). marked ys 1 a x) ee
    ∙ ap (λ (t : Bool). cond t 1 a) (listed_any n (λ y. imports_execute g o s y r) x l)
    ∙ ap (λ (k : ℕ). cond (imports_execute g o s x r) 1 k) ea in
    ec ∙ ap (λ (ys : List ℕ). marked ys 2 b x) er
    ∙ ap (λ (t : Bool). cond t 2 b) (listed_any n (λ y. imports_nonexecute g o s y r) x l)
    ∙ ap (λ (k : ℕ). cond (imports_nonexecute g o s x r) 2 k) first ∙ one_part g o s x r

-- by its owner alone
pub own_at : (o : Owners) (s r x : ℕ) (numbers : List ℕ) → numbers ≡ map (own_or_other r) (owners_in o s) → x < length (owners_in o s)
    → slice_index numbers x ≡ own_or_other r (owner_of o s x)
unfolding owner_of
own_at o s r x numbers e l =
    ap (λ (ns : List ℕ). slice_index ns x) e ∙ get_or-map (own_or_other r) (owners_in o s) x 0 0 l

-- what is listed lies within as many numbers
pub marks_within : (elements : List ℕ) (n size : ℕ) (p : ℕ → Bool) → elements ≡ listed size p → n ≡ size → AllBelow elements n
marks_within elements n size p e is =
    subst (λ (ys : List ℕ). AllBelow ys n) (sym e) (subst (λ (k : ℕ). AllBelow (listed size p) k) (sym is) (listed_below size size p (omega arith)))

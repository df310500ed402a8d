use Rattle.std.proofs.Common.{◌≡◌, ◌++◌, ◌∙◌, ℕ, List, Vec, [], length, get_or, arith, subst}
use Rattle.std.specs.Prelude.{Option, Some, None, IfSome, IfNone}
use Rattle.std.specs.declared.alloc.Global.{Global}
use Rattle.mesh_decl.specs.Owners.{IsNumbering}
use Rattle.local_mesh.specs.Lookup.{Rises}
use Rattle.local_mesh.specs.Parts.{IsKept, AreSorted}
use Rattle.local_mesh.proofs.OneRank.{numbering_parts, numbering_sorted, kept_rises}
use Rattle.local_mesh.proofs.whole.whole_set.Goals as goal

sorted : (v : Option (Vec ℕ Global)) (n : ℕ) (order : List ℕ) → IsNumbering n order
    → IfSome v (λ c. (length c.items ≡ length order) × IsKept (length order) (λ k. get_or c.items k 0))
    → IfSome v (λ c. AreSorted (order ++ [] ++ []) c.items)
sorted (Some c) n order perm h = numbering_sorted n order c.items perm (h.0 ∙ perm.length) (subst (λ z. IsKept z (λ k. get_or c.items k 0)) perm.length h.1)
sorted None n order perm h = h

rising : (v : Option (Vec ℕ Global)) (order : List ℕ) → IfNone v (IsKept (length order) (λ k. get_or order k 0)) → IfNone v (Rises order × Rises [] × Rises [])
rising (Some c) order h = h
rising None order h = (kept_rises order h, λ i j le l. absurd (omega arith), λ i j le l. absurd (omega arith))

pub local_set-requires-clause-parts : goal.local_set-requires-clause-parts
local_set-requires-clause-parts c = numbering_parts (length c.args.core.now) c.args.order.now c.requires.order c.requires.few

pub local_set-requires-clause-sorted : goal.local_set-requires-clause-sorted
local_set-requires-clause-sorted c = sorted c.in_ok-copies.copies (length c.args.core.now) c.args.order.now c.requires.order c.in_ok-copies.ensures.some

pub local_set-requires-clause-rising : goal.local_set-requires-clause-rising
local_set-requires-clause-rising c = rising c.in_ok-copies.copies c.args.order.now c.in_ok-copies.ensures.none

pub returns : goal.returns
returns c = c.in_ok-set.ensures

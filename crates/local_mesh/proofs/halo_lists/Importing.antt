-- From the ranks that execute each element to those that import it.
use Rattle.std.proofs.Common.{◌≡◌, ◌↔◌, ℕ, ◌<◌, Bool, true, false, not, ◌&&◌, ◌||◌, nat_eq, List, [], ◌∷◌, ◌++◌, ◌+◌, length, get_or, Vec, refl, sym, ap, ◌∙◌, arith, ⊎_elim, subst}
use Rattle.std.specs.declared.alloc.Global.{Global}
use Rattle.std.proofs.lemmas.Bool.{eq-eqb, ne_eqb, eqb-true, and_parts, or_cases, false_from_ne_true, and_from, not_from_false, cases_eq}
use Rattle.mesh_decl.specs.declared.owners.Owners.{Owners}
use Rattle.local_mesh.specs.declared.rank_sets.rank_set.RankSet.{RankSet}
use Rattle.lemmas.specs.Below.{any_below}
use Rattle.local_mesh.specs.RankSet.{has, has_at}
use Rattle.mesh_decl.specs.Mesh.{MeshValue, set_count, map_count, set_size, map_from, map_to, map_dim, target, IsInRange}
use Rattle.mesh_decl.specs.Owners.{AreOwners, owner_of, owners_in}
use Rattle.lemmas.proofs.Below.{any_witness, any_from, any_agree}
use Rattle.local_mesh.specs.Halo.{reaches_by, reaches, owns, imports_execute, executes, named_by, named_from, named, imports_nonexecute, imports, is_core}
use Rattle.local_mesh.specs.Sets.{AreExecuting, has_in, sets_in}
use Rattle.local_mesh.proofs.halo_lists.SetsReading.{sets_read}
use Rattle.std.proofs.lemmas.List.{get_or_push, get_or_append_left}
use Rattle.lemmas.proofs.Numbers.{nat_eq_comm}
use Rattle.lemmas.proofs.Truth.{iff_eq}

without_own : (w h : Bool) → ((w || (not w && h)) && not w) ≡ (not w && h)
without_own true h = refl
without_own false true = refl
without_own false false = refl

-- the owner and those that own a target
pub executed_or_reached : (g : MeshValue) (o : Owners) (s x r n : ℕ) → n ≡ map_count g → (owns o s x r || any_below n (λ m. nat_eq (map_from g m) s && reaches_by g o m x r)) ≡ executes g o s x r
unfolding executes imports_execute reaches
executed_or_reached g o s x r n e = ap (λ z. owns o s x r || any_below z (λ m. nat_eq (map_from g m) s && reaches_by g o m x r)) e
    ∙ or_reached (owns o s x r) (any_below (map_count g) (λ m. nat_eq (map_from g m) s && reaches_by g o m x r))
  where
    or_reached : (w h : Bool) → (w || h) ≡ (w || (not w && h))
    or_reached true h = refl
    or_reached false h = refl

pub owned_at : (o : Owners) (s : ℕ) (owners : List ℕ) → owners ≡ owners_in o s → (x r : ℕ) → nat_eq (get_or owners x 0) r ≡ owns o s x r
unfolding owns owner_of
owned_at o s owners e x r = ap (λ (z : List ℕ). nat_eq (get_or z x 0) r) e

-- the ranks that execute it, less its owner
pub execute_has : (g : MeshValue) (o : Owners) (s x owner : ℕ) (executing none single exec : RankSet) → owner ≡ owner_of o s x
    → ((r : ℕ) → has executing r ≡ executes g o s x r) → ((r : ℕ) → has none r ≡ false)
    → ((r : ℕ) → has single r ≡ (has none r || nat_eq r owner)) → ((r : ℕ) → r < 64 → has exec r ≡ (has executing r && not (has single r)))
    → (r : ℕ) → r < 64 → has exec r ≡ imports_execute g o s x r
unfolding executes imports_execute owns
execute_has g o s x owner executing none single exec e h without one less r l =
    let single_is : has single r ≡ nat_eq (owner_of o s x) r = one r ∙ (ap (λ z. z || nat_eq r owner) (without r) ∙ (nat_eq_comm r owner ∙ ap (λ z. nat_eq z r) e)) in
    less r l ∙ (ap (λ z. has executing r && not z) single_is ∙ (ap (λ z. z && not (nat_eq (owner_of o s x) r)) (h r) ∙ without_own (nat_eq (owner_of o s x) r) (reaches g o s x r)))

-- those that name it and don't execute it
pub nonexecute_has : (g : MeshValue) (o : Owners) (s x : ℕ) (executing naming nonexec : RankSet)
    → ((r : ℕ) → has executing r ≡ executes g o s x r) → ((r : ℕ) → has naming r ≡ named g o s x r)
    → ((r : ℕ) → r < 64 → has nonexec r ≡ (has naming r && not (has executing r))) → (r : ℕ) → r < 64
    → has nonexec r ≡ imports_nonexecute g o s x r
unfolding imports_nonexecute
nonexecute_has g o s x executing naming nonexec h k less r l = less r l ∙ (ap (λ z. z && not (has executing r)) (k r) ∙ ap (λ z. named g o s x r && not z) (h r))

-- and either
pub imports_has : (g : MeshValue) (o : Owners) (s x : ℕ) (exec nonexec either : RankSet)
    → ((r : ℕ) → r < 64 → has exec r ≡ imports_execute g o s x r) → ((r : ℕ) → r < 64 → has nonexec r ≡ imports_nonexecute g o s x r)
    → ((r : ℕ) → has either r ≡ (has exec r || has nonexec r)) → (r : ℕ) → r < 64 → has either r ≡ imports g o s x r
unfolding imports
imports_has g o s x exec nonexec either h k both r l = both r ∙ (ap (λ z. z || has nonexec r) (h r l) ∙ ap (λ z. imports_execute g o s x r || z) (k r l))

-- of an element that is imported and has this owner
pub owned_pair : (g : MeshValue) (o : Owners) (s x owner : ℕ) (either : Bool) (a r : ℕ) → owner ≡ owner_of o s x
    → either ≡ imports g o s x r → (either && nat_eq owner a) ≡ (imports g o s x r && owns o s x a)
unfolding owns
owned_pair g o s x owner either a r e h = ap (λ z. z && nat_eq owner a) h ∙ ap (λ z. imports g o s x r && nat_eq z a) e

-- what is named by those that execute
pub named_agree : (g : MeshValue) (o : Owners) (ranks : List (Vec RankSet Global)) (s y r : ℕ) → IsInRange g → AreExecuting g o ranks → named_from g (has_in ranks) s y r ≡ named g o s y r
unfolding named_from
named_agree g o ranks s y r ok h = any_agree (map_count g) (λ m. nat_eq (map_to g m) s && named_by g (has_in ranks (map_from g m)) m y r)
    (λ m. nat_eq (map_to g m) s && named_by g (executes g o (map_from g m)) m y r)
    (λ m l. ap (λ z. nat_eq (map_to g m) s && z)
    (any_agree (set_size g (map_from g m))
    (λ x. has_in ranks (map_from g m) x r && any_below (map_dim g m) (λ i. nat_eq (target g m x i) y))
    (λ x. executes g o (map_from g m) x r && any_below (map_dim g m) (λ i. nat_eq (target g m x i) y))
    (λ x lx. ap (λ z. z && any_below (map_dim g m) (λ i. nat_eq (target g m x i) y)) (h.has (map_from g m) x r (ok.maps m l).from lx))))

-- an owner is a rank
owns_below : (g : MeshValue) (o : Owners) (s x r : ℕ) → AreOwners g o → s < set_count g → x < set_size g s → nat_eq (owner_of o s x) r ≡ true → r < o.ranks
owns_below g o s x r ok ls lx t = let e : owner_of o s x ≡ r = eqb-true (owner_of o s x) r t in subst (λ z. z < o.ranks) e (ok.below s x ls lx)

reaches_below : (g : MeshValue) (o : Owners) (s x r : ℕ) → IsInRange g → AreOwners g o → x < set_size g s → reaches g o s x r ≡ true → r < o.ranks
unfolding reaches
reaches_below g o s x r ok own lx t =
    let m = any_witness (map_count g) (λ m. nat_eq (map_from g m) s && reaches_by g o m x r) t in
    let b = and_parts (nat_eq (map_from g m.0) s) (reaches_by g o m.0 x r) m.2 in
    let i = any_witness (map_dim g m.0) (λ i. nat_eq (owner_of o (map_to g m.0) (target g m.0 x i)) r) b.1 in
    let f : s ≡ map_from g m.0 = sym (eqb-true (map_from g m.0) s b.0) in
    let lx' : x < set_size g (map_from g m.0) = subst (λ z. x < set_size g z) f lx in
    owns_below g o (map_to g m.0) (target g m.0 x i.0) r own (ok.maps m.0 m.1).to ((ok.maps m.0 m.1).within x i.0 lx' i.1) i.2

pub execute_below : (g : MeshValue) (o : Owners) (s x r : ℕ) → IsInRange g → AreOwners g o → x < set_size g s → imports_execute g o s x r ≡ true → r < o.ranks
unfolding imports_execute
execute_below g o s x r ok own lx t = reaches_below g o s x r ok own lx (and_parts (not (owns o s x r)) (reaches g o s x r) t).1

executes_below : (g : MeshValue) (o : Owners) (s x r : ℕ) → IsInRange g → AreOwners g o → s < set_count g → x < set_size g s → executes g o s x r ≡ true → r < o.ranks
unfolding executes owns
executes_below g o s x r ok own ls lx t = ⊎_elim
    (λ (e : nat_eq (owner_of o s x) r ≡ true). owns_below g o s x r own ls lx e)
    (λ (e : imports_execute g o s x r ≡ true). execute_below g o s x r ok own lx e)
    (or_cases (nat_eq (owner_of o s x) r) (imports_execute g o s x r) t)

pub nonexecute_below : (g : MeshValue) (o : Owners) (s y r : ℕ) → IsInRange g → AreOwners g o → imports_nonexecute g o s y r ≡ true → r < o.ranks
unfolding imports_nonexecute named_from
nonexecute_below g o s y r ok own t =
    let n = (and_parts (named g o s y r) (not (executes g o s y r)) t).0 in
    let m = any_witness (map_count g) (λ m. nat_eq (map_to g m) s && named_by g (executes g o (map_from g m)) m y r) n in
    let b = and_parts (nat_eq (map_to g m.0) s) (named_by g (executes g o (map_from g m.0)) m.0 y r) m.2 in
    let x = any_witness (set_size g (map_from g m.0)) (λ x. executes g o (map_from g m.0) x r && any_below (map_dim g m.0) (λ i. nat_eq (target g m.0 x i) y)) b.1 in
    let e = and_parts (executes g o (map_from g m.0) x.0 r) (any_below (map_dim g m.0) (λ i. nat_eq (target g m.0 x.0 i) y)) x.2 in
    executes_below g o (map_from g m.0) x.0 r ok own (ok.maps m.0 m.1).from x.1 e.0

pub imports_below : (g : MeshValue) (o : Owners) (s x r : ℕ) → IsInRange g → AreOwners g o → x < set_size g s → imports g o s x r ≡ true → r < o.ranks
unfolding imports
imports_below g o s x r ok own lx t = ⊎_elim
    (λ (e : imports_execute g o s x r ≡ true). execute_below g o s x r ok own lx e)
    (λ (e : imports_nonexecute g o s x r ≡ true). nonexecute_below g o s x r ok own e)
    (or_cases (imports_execute g o s x r) (imports_nonexecute g o s x r) t)

-- core exactly where no rank imports it to execute
not-none : (b : Bool) → not b ≡ true → b ≡ true → ⊥
not-none true h k = let z : false ≡ true = h in cc
not-none false h k = let z : false ≡ true = k in cc

pub core_iff : (g : MeshValue) (o : Owners) (s x : ℕ) → IsInRange g → AreOwners g o → s < set_count g → x < set_size g s → (b : Bool)
    → (b ≡ true) ↔ ((r : ℕ) → r < 64 → imports_execute g o s x r ≡ false) → b ≡ is_core g o s x
unfolding is_core imports_execute owns reaches
core_iff g o s x ok own ls lx b iff =
    let foreign : ℕ → Bool = λ m. nat_eq (map_from g m) s && any_below (map_dim g m) (λ i. not (nat_eq (owner_of o (map_to g m) (target g m x i)) (owner_of o s x))) in
    iff_eq b (not (any_below (map_count g) foreign))
    (λ t. not_from_false (any_below (map_count g) foreign) (false_from_ne_true (any_below (map_count g) foreign) (λ a.
    let m = any_witness (map_count g) foreign a in
    let c = and_parts (nat_eq (map_from g m.0) s) (any_below (map_dim g m.0) (λ i. not (nat_eq (owner_of o (map_to g m.0) (target g m.0 x i)) (owner_of o s x)))) m.2 in
    let i = any_witness (map_dim g m.0) (λ i. not (nat_eq (owner_of o (map_to g m.0) (target g m.0 x i)) (owner_of o s x))) c.1 in
    let r : ℕ = owner_of o (map_to g m.0) (target g m.0 x i.0) in
    let f : s ≡ map_from g m.0 = sym (eqb-true (map_from g m.0) s c.0) in
    let lx' : x < set_size g (map_from g m.0) = subst (λ z. x < set_size g z) f lx in
    let lr : r < 64 = omega (arith, own.few_ranks, own.below (map_to g m.0) (target g m.0 x i.0) (ok.maps m.0 m.1).to ((ok.maps m.0 m.1).within x i.0 lx' i.1)) in
    let no : not (nat_eq (owner_of o s x) r) ≡ true = not_from_false (nat_eq (owner_of o s x) r)
    (ne_eqb (owner_of o s x) r (λ q. not-none (nat_eq r (owner_of o s x)) i.2 (eq-eqb r (owner_of o s x) (sym q)))) in
    let by : reaches_by g o m.0 x r ≡ true = any_from (map_dim g m.0) (λ j. nat_eq (owner_of o (map_to g m.0) (target g m.0 x j)) r) i.0 i.1 (eq-eqb r r refl) in
    let re : reaches g o s x r ≡ true = any_from (map_count g) (λ k. nat_eq (map_from g k) s && reaches_by g o k x r) m.0 m.1 (and_from (nat_eq (map_from g m.0) s) (reaches_by g o m.0 x r) c.0 by) in
    let yes = and_from (not (nat_eq (owner_of o s x) r)) (reaches g o s x r) no re in
    let z : true ≡ false = sym yes ∙ iff.0 t r lr in cc)))
    (λ t. iff.1 (λ r lr. false_from_ne_true (not (nat_eq (owner_of o s x) r) && reaches g o s x r) (λ a.
    let p = and_parts (not (nat_eq (owner_of o s x) r)) (reaches g o s x r) a in
    let m = any_witness (map_count g) (λ k. nat_eq (map_from g k) s && reaches_by g o k x r) p.1 in
    let c = and_parts (nat_eq (map_from g m.0) s) (reaches_by g o m.0 x r) m.2 in
    let i = any_witness (map_dim g m.0) (λ j. nat_eq (owner_of o (map_to g m.0) (target g m.0 x j)) r) c.1 in
    let q : owner_of o (map_to g m.0) (target g m.0 x i.0) ≡ r = eqb-true (owner_of o (map_to g m.0) (target g m.0 x i.0)) r i.2 in
    let n : not (nat_eq (owner_of o (map_to g m.0) (target g m.0 x i.0)) (owner_of o s x)) ≡ true =
    not_from_false (nat_eq (owner_of o (map_to g m.0) (target g m.0 x i.0)) (owner_of o s x))
    (ne_eqb (owner_of o (map_to g m.0) (target g m.0 x i.0)) (owner_of o s x)
    (λ e. not-none (nat_eq (owner_of o s x) r) p.0 (eq-eqb (owner_of o s x) r (sym e ∙ q)))) in
    let w = any_from (map_dim g m.0) (λ j. not (nat_eq (owner_of o (map_to g m.0) (target g m.0 x j)) (owner_of o s x))) i.0 i.1 n in
    not-none (any_below (map_count g) foreign) t
    (any_from (map_count g) foreign m.0 m.1
    (and_from (nat_eq (map_from g m.0) s)
    (any_below (map_dim g m.0) (λ j. not (nat_eq (owner_of o (map_to g m.0) (target g m.0 x j)) (owner_of o s x)))) c.0 w)))))

-- one set's part of the ranks that execute
pub here_is : (g : MeshValue) (o : Owners) (ranks : List (Vec RankSet Global)) (s : ℕ) (v : Vec RankSet Global) (now : List RankSet)
    → AreExecuting g o ranks → s < set_count g → v ≡ get_or ranks s v → now ≡ v.items → now ≡ sets_in ranks s
here_is g o ranks s v now ex l e q = q ∙ sets_read ranks s v (rw ex.sets.count l) e

pub here_count : (g : MeshValue) (o : Owners) (ranks : List (Vec RankSet Global)) (s : ℕ) (v : Vec RankSet Global) (now : List RankSet)
    → AreExecuting g o ranks → s < set_count g → v ≡ get_or ranks s v → now ≡ v.items → length now ≡ set_size g s
here_count g o ranks s v now ex l e q = ap (length {A = RankSet}) (here_is g o ranks s v now ex l e q) ∙ ex.sets.lengths s l

pub here_has : (g : MeshValue) (o : Owners) (ranks : List (Vec RankSet Global)) (s : ℕ) (v : Vec RankSet Global) (now : List RankSet)
    → AreExecuting g o ranks → s < set_count g → v ≡ get_or ranks s v → now ≡ v.items → (x r : ℕ) → x < set_size g s
    → has_at now x r ≡ executes g o s x r
here_has g o ranks s v now ex l e q x r lx = ap (λ (z : List RankSet). has_at z x r) (here_is g o ranks s v now ex l e q) ∙ ex.has s x r l lx

pub owners_count : (g : MeshValue) (o : Owners) (s : ℕ) (now : List ℕ) → AreOwners g o → s < set_count g → now ≡ owners_in o s → length now ≡ set_size g s
owners_count g o s now ok l e = ap (length {A = ℕ}) e ∙ ok.lengths s l

pub owners_below : (g : MeshValue) (o : Owners) (s : ℕ) (now : List ℕ) → AreOwners g o → s < set_count g → now ≡ owners_in o s → (x : ℕ) → x < length now → get_or now x 0 < o.ranks
unfolding owner_of
owners_below g o s now ok l e x lx = let n : length now ≡ set_size g s = owners_count g o s now ok l e in rw e (ok.below s x l (omega arith))

-- one more mark
pub core_more : (g : MeshValue) (o : Owners) (s n : ℕ) (core : List Bool) (b : Bool) → IsInRange g → AreOwners g o → s < set_count g
    → n < set_size g s → length core ≡ n → ((x : ℕ) → x < n → get_or core x false ≡ is_core g o s x)
    → (b ≡ true) ↔ ((r : ℕ) → r < 64 → imports_execute g o s n r ≡ false) → (x : ℕ) → x < n + 1
    → get_or (core ++ b ∷ []) x false ≡ is_core g o s x
core_more g o s n core b ok own ls ln e h k x l = ⊎_elim
    (λ (q : x ≡ n). rw q (get_or_push core b false n e ∙ core_iff g o s n ok own ls ln b k))
    (λ (m : x ≡ n → ⊥). let lx : x < n = omega arith in get_or_append_left core (b ∷ []) false x (rw e lx) ∙ h x lx)
    (cases_eq x n)

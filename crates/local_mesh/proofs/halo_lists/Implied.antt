-- What the conditions of halos imply.
use Rattle.std.proofs.Common.{◌≡◌, ◌≢◌, ◌↔◌, ℕ, ◌<◌, Bool, true, false, not, ◌&&◌, ◌||◌, nat_eq, refl, sym, ◌∙◌}
use Rattle.std.proofs.lemmas.Bool.{eq-eqb, ne_eqb, eqb-true, and_parts, and_from, true_from_ne_false, not_from_false, not-true}
use Rattle.mesh_decl.specs.declared.owners.Owners.{Owners}
use Rattle.lemmas.specs.Below.{any_below}
use Rattle.lemmas.proofs.Below.{any_witness, any_from}
use Rattle.mesh_decl.specs.Mesh.{MeshValue, map_count, set_size, map_from, map_to, map_dim, target}
use Rattle.mesh_decl.specs.Owners.{owner_of}
use Rattle.local_mesh.specs.Halo.{reaches_by, reaches, owns, imports_execute, executes, named_by, named_from, named, imports_nonexecute, imports, has_copy, is_core}

pub reaches_witness : (g : MeshValue) (o : Owners) (s x r : ℕ) → reaches g o s x r ≡ true → (m : ℕ) × (i : ℕ) × (m < map_count g)
    × (map_from g m ≡ s) × (i < map_dim g m) × (owner_of o (map_to g m) (target g m x i) ≡ r)
unfolding reaches
reaches_witness g o s x r t =
    let m = any_witness (map_count g) (λ m. nat_eq (map_from g m) s && reaches_by g o m x r) t in
    let b = and_parts (nat_eq (map_from g m.0) s) (reaches_by g o m.0 x r) m.2 in
    let i = any_witness (map_dim g m.0) (λ i. nat_eq (owner_of o (map_to g m.0) (target g m.0 x i)) r) b.1 in
    (m.0, i.0, m.1, eqb-true (map_from g m.0) s b.0, i.1, eqb-true (owner_of o (map_to g m.0) (target g m.0 x i.0)) r i.2)

pub reaches_from : (g : MeshValue) (o : Owners) (s x r m i : ℕ) → m < map_count g → map_from g m ≡ s → i < map_dim g m → owner_of o (map_to g m) (target g m x i) ≡ r → reaches g o s x r ≡ true
unfolding reaches
reaches_from g o s x r m i lm f li q = any_from (map_count g) (λ m. nat_eq (map_from g m) s && reaches_by g o m x r) m lm
    (and_from (nat_eq (map_from g m) s) (reaches_by g o m x r) (eq-eqb (map_from g m) s f)
    (any_from (map_dim g m) (λ i. nat_eq (owner_of o (map_to g m) (target g m x i)) r) i li (eq-eqb (owner_of o (map_to g m) (target g m x i)) r q)))

pub execute_halo : (g : MeshValue) (o : Owners) (s x r : ℕ)
    → (imports_execute g o s x r ≡ true) ↔
    ((owner_of o s x ≢ r) × ((m : ℕ) × (i : ℕ) × (m < map_count g) × (map_from g m ≡ s) × (i < map_dim g m)
    × (owner_of o (map_to g m) (target g m x i) ≡ r)))
unfolding imports_execute owns
execute_halo g o s x r = (
  λ t. (
      let p = and_parts (not (nat_eq (owner_of o s x) r)) (reaches g o s x r) t in
      (λ e. (let z : false ≡ true = sym (not-true (nat_eq (owner_of o s x) r) p.0) ∙ eq-eqb (owner_of o s x) r e in cc), reaches_witness g o s x r p.1)),
  λ w. and_from (not (nat_eq (owner_of o s x) r)) (reaches g o s x r)
      (not_from_false (nat_eq (owner_of o s x) r) (ne_eqb (owner_of o s x) r w.0))
      (reaches_from g o s x r w.1.0 w.1.1 w.1.2 w.1.3 w.1.4 w.1.5),
)

executes_is : (g : MeshValue) (o : Owners) (s y r : ℕ) → executes g o s y r ≡ (owns o s y r || imports_execute g o s y r)
unfolding executes
executes_is g o s y r = refl

pub target_copied : (g : MeshValue) (o : Owners) (m x i r : ℕ) → m < map_count g → x < set_size g (map_from g m)
    → executes g o (map_from g m) x r ≡ true → i < map_dim g m → has_copy g o (map_to g m) (target g m x i) r ≡ true
unfolding imports_nonexecute named_from
target_copied g o m x i r lm lx t li =
    let s : ℕ = map_to g m in
    let y : ℕ = target g m x i in
    let n : named g o s y r ≡ true = any_from (map_count g) (λ m. nat_eq (map_to g m) s && named_by g (executes g o (map_from g m)) m y r) m lm
    (and_from (nat_eq (map_to g m) s) (named_by g (executes g o (map_from g m)) m y r) (eq-eqb (map_to g m) s refl)
    (any_from (set_size g (map_from g m)) (λ x. executes g o (map_from g m) x r && any_below (map_dim g m) (λ i. nat_eq (target g m x i) y)) x lx
    (and_from (executes g o (map_from g m) x r) (any_below (map_dim g m) (λ i. nat_eq (target g m x i) y)) t
    (any_from (map_dim g m) (λ j. nat_eq (target g m x j) y) i li (eq-eqb y y refl))))) in
    copied (owns o s y r) (imports_execute g o s y r) (executes g o s y r) (named g o s y r) (executes_is g o s y r) n
  where
    copied : (w h e n : Bool) → e ≡ (w || h) → n ≡ true → (w || (h || (n && not e))) ≡ true
    copied true h e n q t = refl
    copied false true e n q t = refl
    copied false false e n q t = rw (q, t) refl

pub core_targets : (g : MeshValue) (o : Owners) (s x m i : ℕ) → is_core g o s x ≡ true → m < map_count g → map_from g m ≡ s
    → i < map_dim g m → owner_of o (map_to g m) (target g m x i) ≡ owner_of o s x
unfolding is_core
core_targets g o s x m i t lm f li =
    let foreign : ℕ → Bool = λ m. nat_eq (map_from g m) s && any_below (map_dim g m) (λ i. not (nat_eq (owner_of o (map_to g m) (target g m x i)) (owner_of o s x))) in
    let a : ℕ = owner_of o (map_to g m) (target g m x i) in
    let b : ℕ = owner_of o s x in
    eqb-true a b (true_from_ne_false (nat_eq a b) (λ e.
    let w : foreign m ≡ true = and_from (nat_eq (map_from g m) s)
    (any_below (map_dim g m) (λ i. not (nat_eq (owner_of o (map_to g m) (target g m x i)) (owner_of o s x))))
    (eq-eqb (map_from g m) s f) (any_from (map_dim g m) (λ i. not (nat_eq (owner_of o (map_to g m) (target g m x i)) (owner_of o s x)))
    i li (not_from_false (nat_eq a b) e)) in
    let z : false ≡ true = sym (not-true (any_below (map_count g) foreign) t) ∙ any_from (map_count g) foreign m lm w in
    cc))

pub own_not_imported : (g : MeshValue) (o : Owners) (s x r : ℕ) → imports g o s x r ≡ true → owns o s x r ≡ false
unfolding imports imports_execute imports_nonexecute executes
own_not_imported g o s x r t = go (owns o s x r) (reaches g o s x r) (named g o s x r) t
  where
    go : (w h n : Bool) → ((not w && h) || (n && not (w || (not w && h)))) ≡ true → w ≡ false
    go false h n t = refl
    go true h true t = let z : false ≡ true = t in cc
    go true h false t = let z : false ≡ true = t in cc

pub imported_of_others : (g : MeshValue) (o : Owners) (s x r : ℕ) → imports g o s x r ≡ true → owner_of o s x ≢ r
unfolding owns
imported_of_others g o s x r t e = let z : true ≡ false = sym (eq-eqb (owner_of o s x) r e) ∙ own_not_imported g o s x r t in cc

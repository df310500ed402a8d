-- Numbers of targets.
use Rattle.std.proofs.Common.{◌≡◌, ℕ, ◌+◌, ◌-◌, ◌*◌, ◌<◌, ◌≤◌, sym, ap, subst, ◌∙◌, arith, ⊎_elim, List, ◌++◌, ◌∷◌, [], length, get_or, Vec, Option, Some, None}
use Rattle.std.proofs.lemmas.Bool.{cases_eq, cases_lt}
use Rattle.std.proofs.lemmas.List.{get_or_default, get_or_append_left, get_or_push}
use Rattle.std.specs.declared.alloc.Global.{Global}
use Rattle.std.proofs.lemmas.Nat.{mul-add-lt}
use Rattle.mesh_decl.specs.Mesh.{MeshValue, set_count, map_from, map_dim, map_to, dat_set}
use Rattle.mesh_decl.specs.declared.access.Via.{Via}
use Rattle.lemmas.specs.Below.{row}
use Rattle.local_mesh.specs.declared.types.RankMesh.{RankMesh}
use Rattle.local_mesh.specs.declared.types.LocalSet.{LocalSet}
use Rattle.local_mesh.specs.LocalMesh.{executed_in, originals_in, AreLocalTargets, IsRankMesh}
use Rattle.local_mesh.proofs.Public.{originals_at, executed_at, table_more}
use Rattle.mesh_decl.proofs.Public.{some_in}
use Rattle.mesh_decl.specs.declared.owners.Owners.{Owners}
use Rattle.mesh_decl.specs.declared.owners.Perms.{Perms}
use Rattle.colouring.specs.declared.types.IncArg.{IncArg}
use Rattle.colouring.specs.Rows.{none}
use Rattle.colouring.specs.Colours.{target_of, target_by, Leads, IsArg}
use Rattle.colouring.specs.Table.{copies_of, IsRankOf, HaveBases, IsTable}

-- one argument more has the base of its dat
pub have_more : (args : List IncArg) (starts old now : List ℕ) (n v dat : ℕ) → length starts ≡ n
    → ((x : IncArg) → (get_or args n x).dat ≡ dat) → v ≡ get_or now dat 0
    → ((d : ℕ) → (get_or old d 0 ≡ none → ⊥) → get_or now d 0 ≡ get_or old d 0) → (get_or now dat 0 ≡ none → ⊥)
    → HaveBases args starts old n → HaveBases args (starts ++ v ∷ []) now (n + 1)
have_more args starts old now n v dat e is_dat read kept given h a x l = ⊎_elim
    (λ (s : a ≡ n).
    let d : (get_or args a x).dat ≡ dat = ap (λ z. (get_or args z x).dat) s ∙ is_dat x in
    (get_or_push starts v 0 a (e ∙ sym s) ∙ (read ∙ ap (λ z. get_or now z 0) (sym d)), subst (λ z. get_or now z 0 ≡ none → ⊥) (sym d) given))
    (λ (s : a ≡ n → ⊥).
    let la : a < n = omega arith in
    let b = h a x la in
    let k : get_or now (get_or args a x).dat 0 ≡ get_or old (get_or args a x).dat 0 = kept (get_or args a x).dat b.1 in
    (get_or_append_left starts (v ∷ []) 0 a (omega arith) ∙ (b.0 ∙ sym k), λ z. b.1 (sym k ∙ z)))
    (cases_eq a n)

-- an entry of an executed element stands in the table
pub entry_in : (g : MeshValue) (sets : List LocalSet) (m p i s : ℕ) (table : List ℕ) → AreLocalTargets g m sets table → map_from g m ≡ s
    → p < executed_in sets s → i < map_dim g m → p * map_dim g m + i < length table
entry_in g sets m p i s table t e l li =
    let h : p * map_dim g m + i < map_dim g m * executed_in sets (map_from g m) = mul-add-lt p (map_dim g m) i (executed_in sets (map_from g m)) (rw e l) li in
    omega (arith, t.count, h)

pub read_entry : (xs : List ℕ) (i x : ℕ) → i < length xs → x ≡ get_or xs i x → x ≡ get_or xs i 0
read_entry xs i x l h = h ∙ get_or_default xs i x 0 l

pub read_copies : (sets : List LocalSet) (i s : ℕ) (x : LocalSet) (now : List ℕ) → i ≡ s → s < length sets → x ≡ get_or sets i x → now ≡ x.original → now ≡ originals_in sets s
read_copies sets i s x now e l r f = f ∙ (ap (λ (z : LocalSet). z.original) r ∙ (ap (λ z. (get_or sets z x).original) e ∙ sym (originals_at sets s x l)))

-- the table of one place more
pub table_grows : (g : MeshValue) (maps : List (Vec ℕ Global)) (args : List IncArg) (starts : List ℕ) (n : ℕ) (old now : List ℕ)
    → IsTable g maps args starts n old → length now ≡ length old + length args
    → ((k : ℕ) → k < length old → get_or now k 0 ≡ get_or old k 0)
    → ((a : ℕ) (x : IncArg) → a < length args → get_or now (length old + a) 0 ≡ get_or starts a 0 + target_of g maps n (get_or args a x))
    → IsTable g maps args starts (n + 1) now
table_grows g maps args starts n old now t more before new = record {
  count = (let e : length old ≡ n * length args = t.count in let f : length now ≡ length old + length args = more in omega arith);
  at = λ p a x lp la. table_more now old n (length args) (λ k i. get_or starts i 0 + target_of g maps k (get_or args i x)) t.count before
      (λ i li. new i x li) (λ k i lk li. t.at k i x lk li) p a lp la;
}

pub all_below_more : (old now : List ℕ) (total m : ℕ) → length now ≡ length old + m
    → ((k : ℕ) → k < length old → get_or now k 0 ≡ get_or old k 0) → ((a : ℕ) → a < m → get_or now (length old + a) 0 < total)
    → ((k : ℕ) → k < length old → get_or old k 0 < total) → (k : ℕ) → k < length now → get_or now k 0 < total
all_below_more old now total m more before new inv k lk = ⊎_elim
    (λ (l : k < length old). rw (before k l) (inv k l))
    (λ (l : length old ≤ k).
    let e : length old + (k - length old) ≡ k = omega arith in
    subst (λ z. get_or now z 0 < total) e (new (k - length old) (omega arith)))
    (cases_lt k (length old))

-- the local element into which an executed place reduces is one that the rank has
pub target_within : (g : MeshValue) (r : RankMesh) → IsRankOf g r → (x : IncArg) (p s : ℕ) → dat_set g x.dat < set_count g → IsArg g s x
    → p < executed_in r.sets.items s → target_of g r.maps.items p x < copies_of g r.sets.items x.dat
target_within g r is x p s ls arg lp = at x.via arg.leads
  where
    at : (v : Option Via) → Leads g s (dat_set g x.dat) v → target_by g r.maps.items p v < copies_of g r.sets.items x.dat
    at None e =
        let l : executed_in r.sets.items (dat_set g x.dat) ≤ length (originals_in r.sets.items (dat_set g x.dat)) = is.executed (dat_set g x.dat) ls in
        let f : executed_in r.sets.items (dat_set g x.dat) ≡ executed_in r.sets.items s = ap (executed_in r.sets.items) e in
        omega arith
    at (Some v) l =
        let f : length (originals_in r.sets.items (map_to g v.map)) ≡ length (originals_in r.sets.items (dat_set g x.dat)) = ap (λ z. length (originals_in r.sets.items z)) l.3 in
        let w : get_or (row r.maps.items v.map) (p * map_dim g v.map + v.index) 0 < length (originals_in r.sets.items (map_to g v.map)) = (is.maps v.map l.0).within p v.index (rw l.2 lp) l.1 in
        omega arith

-- a rank's local mesh has what the table needs
pub rank_is : (g : MeshValue) (o : Owners) (p : Perms) (r : ℕ) (m : RankMesh) → IsRankMesh g o p r m → IsRankOf g m
rank_is g o p r m is = record { sets_count = is.sets_count; maps_count = is.maps_count; maps = is.maps; executed = executed }
  where
    executed : (s : ℕ) → s < set_count g → executed_in m.sets.items s ≤ length (originals_in m.sets.items s)
    executed s l =
        let ls : s < length m.sets.items = rw is.sets_count l in
        let d : LocalSet = some_in m.sets.items s ls in
        let i = is.sets s d l in
        let e : executed_in m.sets.items s ≡ (get_or m.sets.items s d).own + (get_or m.sets.items s d).exec = executed_at m.sets.items s d ls in
        rw (originals_at m.sets.items s d ls) (omega (arith, e, i.own, i.exec, i.inverse.count))

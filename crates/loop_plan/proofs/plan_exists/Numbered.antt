-- New numbers: kept, or those of Cuthill and McKee.
use Rattle.std.proofs.Common.{◌≡◌, ◌<◌, ◌≤◌, ◌^◌, ℕ, List, [], length, get_or, reverse, Option, Some, None, Result, Ok, Err, refl, sym, ap, ◌∙◌, subst, arith, ⊎_elim, inl, inr}
use Rattle.std.proofs.lemmas.Bool.{cases_eq}
use Rattle.mesh_decl.specs.declared.owners.Perms.{Perms}
use Rattle.mesh_decl.specs.Mesh.{MeshValue, IsMesh, IsMapAt, set_count, map_count, set_size, map_from, map_to, map_name}
use Rattle.mesh_decl.specs.Owners.{IsNumbering, ArePerms, perm_in}
use Rattle.mesh_decl.specs.Named.{Names}
use Rattle.renumber.specs.Neighbours.{are_neighbours}
use Rattle.renumber.specs.Degrees.{degree_order}
use Rattle.renumber.specs.Taken.{earliest, IsTaken}
use Rattle.renumber.specs.Identity.{IsIdentity}
use Rattle.renumber.specs.CuthillMcKee.{target_key, IsByTargets, IsSetOrder, IsCuthillMcKee}
use Rattle.renumber.proofs.Public.{kept_numbers, numbering_from, reversed_numbering}
use Rattle.partition.specs.Parts.{NumbersRefusal, UnknownMap}
use Rattle.partition.specs.Judgements.{NumbersAre}
use Rattle.loop_plan.proofs.plan_exists.Built.{table, length_table, table_at, vec_of, items_are}
use Rattle.loop_plan.proofs.plan_exists.Found.{found, found_at}
use Rattle.loop_plan.proofs.plan_exists.Named.{some_named}
use Rattle.loop_plan.proofs.plan_exists.Picked.{By}
use Rattle.loop_plan.proofs.plan_exists.Turns.{IsWhole, whole, rises_by}

-- ---- lists of numbers for each set

-- 0, 1, .. below n
pub counting : ℕ → List ℕ
counting n = table n (λ x. x)

pub kept : (n x : ℕ) → x < n → get_or (counting n) x 0 ≡ x
unfolding counting
kept n x l = table_at n (λ x. x) x 0 l

pub counting_is : (n : ℕ) → IsNumbering n (counting n)
unfolding counting
counting_is n = kept_numbers n (counting n) (length_table n (λ x. x)) (kept n)

-- these are the lists
perms_of : ℕ → (ℕ → List ℕ) → Perms
perms_of n lists = record { sets = vec_of (table n lists) }

perm_at : (n : ℕ) (lists : ℕ → List ℕ) → n < 2 ^ 32 → (s : ℕ) → s < n → perm_in (perms_of n lists) s ≡ lists s
unfolding perm_in perms_of
perm_at n lists few s l = ap (λ z. get_or z s []) (items_are (table n lists) (let e = length_table n lists in omega arith)) ∙ table_at n lists s [] l

perms_are : (g : MeshValue) (lists : ℕ → List ℕ) → set_count g < 2 ^ 32 → ((s : ℕ) → s < set_count g → IsNumbering (set_size g s) (lists s)) → ArePerms g (perms_of (set_count g) lists)
unfolding perms_of
perms_are g lists few h = record {
  sets = ap length (items_are (table (set_count g) lists) (let e = length_table (set_count g) lists in omega arith)) ∙ length_table (set_count g) lists;
  numbers = λ s l. subst (IsNumbering (set_size g s)) (sym (perm_at (set_count g) lists few s l)) (h s l);
}

-- ---- kept

some_identity : (g : MeshValue) → IsMesh g → (p : Perms) × IsIdentity g p
some_identity g mesh = (
  perms_of (set_count g) lists,
  record {
    perms = perms_are g lists mesh.few_sets (λ s l. counting_is (set_size g s));
    kept = λ s x l lx. ap (λ z. get_or z x 0) (perm_at (set_count g) lists mesh.few_sets s l) ∙ kept (set_size g s) x lx;
  },
)
  where
    lists : ℕ → List ℕ
    lists s = counting (set_size g s)

-- ---- Cuthill and McKee

module _ (g : MeshValue) (m : ℕ) where
  near : List ℕ → ℕ → ℕ
  near taken y = earliest (are_neighbours g m) taken y

  count : ℕ
  count = set_size g (map_to g m)

  order : List ℕ
  order = (whole count near (degree_order g m)).0

  is_whole : IsWhole count near (degree_order g m) order
  unfolding order
  is_whole = (whole count near (degree_order g m)).1

  is_taken : IsTaken count (are_neighbours g m) (degree_order g m) order
  unfolding near
  is_taken k l = let t = is_whole.in_turn k l in record { within = t.within; new = t.new; least = t.least }

  reached : List ℕ
  reached = reverse order

  reached_reverse : reached ≡ reverse order
  unfolding reached
  reached_reverse = refl

  reached_is : IsNumbering (set_size g (map_to g m)) reached
  unfolding reached count
  reached_is = reversed_numbering count (are_neighbours g m) (degree_order g m) order is_whole.count is_whole.all is_taken

  -- the new number of a target
  number : ℕ → ℕ
  number y = found y reached

  numbered : (k : ℕ) → k < length reached → number (get_or reached k 0) ≡ k
  unfolding number
  numbered k l =
      let f = found_at (get_or reached k 0) reached k l refl in
      let e = reached_is.length in
      reached_is.distinct (found (get_or reached k 0) reached) k (let a = f.0 in omega arith) (omega arith) f.1

  key : ℕ → ℕ
  key = target_key g m number

  none : List ℕ → ℕ → ℕ
  none taken y = 0

  leading : List ℕ
  leading = (whole (set_size g (map_from g m)) none key).0

  leading_whole : IsWhole (set_size g (map_from g m)) none key leading
  unfolding leading
  leading_whole = (whole (set_size g (map_from g m)) none key).1

  leading_numbers : IsNumbering (set_size g (map_from g m)) leading
  leading_numbers = numbering_from (set_size g (map_from g m)) leading leading_whole.count leading_whole.within leading_whole.all

  by_key : (x y : ℕ) → By (λ z. 0) key x y → key x ≤ key y
  by_key x y (inl l) = absurd (omega arith)
  by_key x y (inr e) = e.1

  leading_is : IsByTargets g m reached leading
  unfolding key none
  leading_is = record {
    numbers = number;
    numbered = numbered;
    rises = λ i j l lj. by_key (get_or leading i 0) (get_or leading j 0) (rises_by (set_size g (map_from g m)) none key leading leading_whole.in_turn i j l lj);
  }

  set_order : (s : ℕ) → (ys : List ℕ) × IsSetOrder g m reached s ys
  set_order s = ⊎_elim
      (λ (e : s ≡ map_to g m). (
        reached,
        record {
          numbering = subst (λ z. IsNumbering (set_size g z) reached) (sym e) reached_is;
          reached = λ q. refl;
          leading = λ q ne. absurd (ne e);
          others = λ nf nt. absurd (nt e);
        },
      ))
      (λ (nt : s ≡ map_to g m → ⊥). ⊎_elim
      (λ (e : s ≡ map_from g m). (
        leading,
        record {
          numbering = subst (λ z. IsNumbering (set_size g z) leading) (sym e) leading_numbers;
          reached = λ q. absurd (nt q);
          leading = λ q ne. leading_is;
          others = λ nf t. absurd (nf e);
        },
      ))
      (λ (nf : s ≡ map_from g m → ⊥). (
        counting (set_size g s),
        record {
          numbering = counting_is (set_size g s);
          reached = λ q. absurd (nt q);
          leading = λ q ne. absurd (nf q);
          others = λ a t x l. kept (set_size g s) x l;
        },
      ))
      (cases_eq s (map_from g m)))
      (cases_eq s (map_to g m))

  lists : ℕ → List ℕ
  lists s = (set_order s).0

  lists_are : (s : ℕ) → IsSetOrder g m reached s (lists s)
  unfolding lists
  lists_are s = (set_order s).1

  some_cuthill_mckee : IsMesh g → IsMapAt g m → (p : Perms) × IsCuthillMcKee g m p
  unfolding count
  some_cuthill_mckee mesh at =
      let few = mesh.few_sets in
      let list = perm_at (set_count g) lists few in
      let to : perm_in (perms_of (set_count g) lists) (map_to g m) ≡ reached = list (map_to g m) at.to ∙ (lists_are (map_to g m)).reached refl in (
        perms_of (set_count g) lists,
        record {
          perms = perms_are g lists few (λ s l. (lists_are s).numbering);
          order = order;
          taken = is_taken;
          reversed = to ∙ reached_reverse;
          leading = λ ne. subst (λ z. IsByTargets g m z (perm_in (perms_of (set_count g) lists) (map_from g m))) (sym to)
              (subst (IsByTargets g m reached) (sym (list (map_from g m) at.from)) ((lists_are (map_from g m)).leading refl ne));
          others = λ s x l lx nf nt. ap (λ z. get_or z x 0) (list s l) ∙ (lists_are s).others nf nt x lx;
        },
      )

-- ---- the outcome

pub some_numbers : ((g : MeshValue) → IsMesh g → (m : ℕ) → m < map_count g → IsMapAt g m) → (g : MeshValue) (name : Option (List ℕ))
    → IsMesh g → (r : Result Perms NumbersRefusal) × NumbersAre g name r
some_numbers maps g None mesh = let p = some_identity g mesh in (Ok p.0, p.1)
some_numbers maps g (Some name) mesh = by_name (some_named (map_name g) name (map_count g))
  where
    by_name : (o : Option ℕ) × Names (map_count g) (map_name g) name o → (r : Result Perms NumbersRefusal) × NumbersAre g (Some name) r
    by_name (None, h) = (Err (UnknownMap name), (h, refl))
    by_name (Some m, h) = let p = some_cuthill_mckee g m mesh (maps g mesh m h.within) in (Ok p.0, (m, h, p.1))

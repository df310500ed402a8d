-- Only ranks that there are need pairs and execute elements; and one more level of a chain.
use Rattle.std.proofs.Common.{◌≡◌, ℕ, suc, ◌<◌, ◌≤◌, ◌+◌, ◌-◌, Bool, true, List, [], ◌∷◌, ◌++◌, length, get_or, drop, Vec, refl, sym, ap, subst, ◌∙◌, arith, ⊎_elim}
use Rattle.std.specs.Prelude.{◌&&◌, ◌||◌, not, nat_eq}
use Rattle.std.specs.List.{list_any}
use Rattle.std.specs.declared.alloc.Global.{Global as Memory}
use Rattle.std.proofs.lemmas.Bool.{false≢true, and_parts, or_cases, eqb-true, cases_lt, cases_eq}
use Rattle.std.proofs.lemmas.List.{length_push, get_or_append_left, get_or_push}
use Rattle.lemmas.specs.Below.{any_below, listed}
use Rattle.local_mesh.specs.RankSet.{has_at}
use Rattle.local_mesh.specs.declared.rank_sets.rank_set.RankSet.{RankSet}
use Rattle.lemmas.proofs.Below.{any_witness, listed_agree}
use Rattle.local_mesh.proofs.Public.{has_at_past}
use Rattle.mesh_decl.specs.declared.owners.Owners.{Owners}
use Rattle.mesh_decl.specs.Mesh.{IsInRange, set_size, dat_count}
use Rattle.mesh_decl.specs.Owners.{owner_of}
use Rattle.local_mesh.specs.Sets.{sets_in, has_in}
use Rattle.bound_program.specs.declared.sites.Arg.{Arg}
use Rattle.bound_program.specs.declared.sites.Arg.TheVariants.{Dat, Global}
use Rattle.bound_program.specs.Values.{BoundValue, SiteValue}
use Rattle.bound_program.specs.Classes.{is_read}
use Rattle.bound_program.specs.Fits.{SiteFits}
use Rattle.run_model.specs.Windows.{element_by}
use Rattle.chain_model.specs.Slices.{modifies_some, reads_pair, executes_for, needs_before}
use Rattle.chain_needs.specs.PairSets.{ArePairSets, pairs_of}
use Rattle.chain_needs.specs.Needed.{AreNeeded}
use Rattle.chain_needs.proofs.Agreeing.{executes_same}
use Rattle.chain_needs.specs.declared.chain_slices.levels.Level.{Level}
use Rattle.chain_needs.specs.Levels.{AreBelow, IsLevel, IsFirstLevel, AreLevels}
use Rattle.chain_needs.proofs.chain_slices.Sets.{sets_past}

module _ (b : BoundValue) (n r : ℕ) (pairs : ℕ → ℕ → Bool) (h : (d y : ℕ) → pairs d y ≡ true → r < n) where
  modified_below : (e : ℕ) (a : Arg) → modifies_some b pairs e a ≡ true → r < n
  modified_below e (Dat d v a) t = h d (element_by b v e) (and_parts (not (is_read a)) (pairs d (element_by b v e)) t).1
  modified_below e (Global v a) t = absurd (false≢true t)

  some_below : (e : ℕ) (xs : List Arg) → list_any (modifies_some b pairs e) xs ≡ true → r < n
  some_below e [] t = absurd (false≢true t)
  some_below e (x ∷ xs) t = ⊎_elim
      (λ (q : modifies_some b pairs e x ≡ true). modified_below e x q)
      (λ (q : list_any (modifies_some b pairs e) xs ≡ true). some_below e xs q)
      (or_cases (modifies_some b pairs e x) (list_any (modifies_some b pairs e) xs) t)

  pub executes_below : (o : Owners) (site : SiteValue) (e : ℕ) → owner_of o site.set e < n → executes_for b o r pairs site e ≡ true → r < n
  executes_below o site e l t = ⊎_elim
      (λ (q : nat_eq (owner_of o site.set e) r ≡ true). let s : owner_of o site.set e ≡ r = eqb-true (owner_of o site.set e) r q in omega arith)
      (λ (q : list_any (modifies_some b pairs e) site.args ≡ true). some_below e site.args q)
      (or_cases (nat_eq (owner_of o site.set e) r) (list_any (modifies_some b pairs e) site.args) t)

-- what is read by elements that ranks execute is needed by ranks that there are
pub read_below : (b : BoundValue) (n : ℕ) (args : List Arg) (old new : List (Vec RankSet Memory)) (runs : List RankSet) (size : ℕ)
    → AreBelow n old → ArePairSets b.mesh new → ((e r : ℕ) → e < size → has_at runs e r ≡ true → r < n)
    → ((d y r : ℕ) → d < dat_count b.mesh → has_in new d y r ≡ (has_in old d y r || any_below size (λ e. has_at runs e r && list_any (reads_pair b d y e) args)))
    → AreBelow n new
read_below b n args old new runs size below pairs runs_below reading d y r t = ⊎_elim
    (λ (l : d < dat_count b.mesh). ⊎_elim
    (λ (q : has_in old d y r ≡ true). below d y r q)
    (λ (q : any_below size (λ e. has_at runs e r && list_any (reads_pair b d y e) args) ≡ true).
    let w = any_witness size (λ e. has_at runs e r && list_any (reads_pair b d y e) args) q in
    runs_below w.0 r w.1 (and_parts (has_at runs w.0 r) (list_any (reads_pair b d y w.0) args) w.2).0)
    (or_cases (has_in old d y r) (any_below size (λ e. has_at runs e r && list_any (reads_pair b d y e) args)) (sym (reading d y r l) ∙ t)))
    (λ (l : dat_count b.mesh ≤ d).
    absurd (false≢true (sym (ap (λ (z : List RankSet). has_at z y r) (sets_past new d (let e : length new ≡ dat_count b.mesh = pairs.count in omega arith)) ∙ has_at_past [] y r (omega arith)) ∙ t)))
    (cases_lt d (dat_count b.mesh))

-- the elements that a rank executes, as listed from sets
pub listed_runs : (b : BoundValue) (o : Owners) (site : SiteValue) (sites : List SiteValue) (needed : List (Vec RankSet Memory)) (runs : List RankSet) (r : ℕ)
    → IsInRange b.mesh → SiteFits b site → AreNeeded b o sites needed → length runs ≡ set_size b.mesh site.set
    → ((x r : ℕ) → x < set_size b.mesh site.set → has_at runs x r ≡ executes_for b o r (pairs_of needed r) site x)
    → listed (length runs) (λ x. has_at runs x r) ≡ listed (set_size b.mesh site.set) (executes_for b o r (needs_before b o r sites) site)
listed_runs b o site sites needed runs r ranges fits h long executing =
    ap (λ n. listed n (λ x. has_at runs x r)) long
    ∙ listed_agree (set_size b.mesh site.set) (λ x. has_at runs x r) (executes_for b o r (needs_before b o r sites) site)
    (λ x l. executing x r l ∙ executes_same b ranges (pairs_of needed r) (needs_before b o r sites) (λ d y ld ly. h.has d y r ld ly) o r site x fits l)

pub runs_are : (b : BoundValue) (o : Owners) (site : SiteValue) (sites : List SiteValue) (needed : List (Vec RankSet Memory)) (runs : List RankSet) (e r : ℕ)
    → IsInRange b.mesh → SiteFits b site → AreNeeded b o sites needed
    → ((x r : ℕ) → x < set_size b.mesh site.set → has_at runs x r ≡ executes_for b o r (pairs_of needed r) site x)
    → e < set_size b.mesh site.set → has_at runs e r ≡ executes_for b o r (needs_before b o r sites) site e
runs_are b o site sites needed runs e r ranges fits h executing l =
    executing e r l ∙ executes_same b ranges (pairs_of needed r) (needs_before b o r sites) (λ d y ld ly. h.has d y r ld ly) o r site e fits l

-- ---- levels

module _ (b : BoundValue) (o : Owners) where
  pub no_levels : AreLevels b o [] []
  no_levels = record { count = refl; each = λ i l lt. absurd (omega arith) }

  pub one_level : (site : SiteValue) (sites : List SiteValue) (levels : List Level) (l : Level) → AreLevels b o sites levels → IsLevel b o site sites l
      → AreLevels b o (site ∷ sites) (levels ++ l ∷ [])
  one_level site sites levels l h is = record {
    count = omega (arith, length_push levels l, h.count);
    each = λ i d lt. ⊎_elim
        (λ (q : i ≡ length levels).
        let zero : length (site ∷ sites) - suc i ≡ 0 = omega (arith, h.count) in
        subst (λ z. IsFirstLevel b o (drop z (site ∷ sites)) (get_or (levels ++ l ∷ []) i d)) (sym zero)
        (subst (λ z. IsLevel b o site sites z) (sym (get_or_push levels l d i (sym q))) is))
        (λ (q : i ≡ length levels → ⊥).
        let k : i < length levels = omega (arith, length_push levels l) in
        let next : length (site ∷ sites) - suc i ≡ suc (length sites - suc i) = omega (arith, h.count) in
        subst (λ z. IsFirstLevel b o (drop z (site ∷ sites)) (get_or (levels ++ l ∷ []) i d)) (sym next)
        (subst (λ z. IsFirstLevel b o (drop (length sites - suc i) sites) z) (sym (get_or_append_left levels (l ∷ []) d i k)) (h.each i d k)))
        (cases_eq i (length levels));
  }

pub front_more : (own : List (Vec RankSet Memory)) (levels : List Level) (l : Level) → Rattle.chain_needs.specs.Levels.front_of own (levels ++ l ∷ []) ≡ l.needed.items
front_more own [] l = refl
front_more own (x ∷ xs) l =
    ap (λ n. (get_or (x ∷ (xs ++ l ∷ [])) n x).needed.items) (length_push xs l)
    ∙ ap (λ (z : Level). z.needed.items) (get_or_push (x ∷ xs) l x (length xs + 1) (omega arith))

pub front_any : (own other : List (Vec RankSet Memory)) (levels : List Level) → 0 < length levels
    → Rattle.chain_needs.specs.Levels.front_of own levels ≡ Rattle.chain_needs.specs.Levels.front_of other levels
front_any own other [] l = absurd (omega arith)
front_any own other (x ∷ xs) l = refl

-- the owners are ranks that there are
pub own_below : (b : BoundValue) (o : Owners) (own : List (Vec RankSet Memory)) → Rattle.mesh_decl.specs.Owners.AreOwners b.mesh o → IsInRange b.mesh → ArePairSets b.mesh own
    → ((d y r : ℕ) → d < dat_count b.mesh → y < set_size b.mesh (Rattle.mesh_decl.specs.Mesh.dat_set b.mesh d) → has_in own d y r ≡ Rattle.chain_model.specs.Slices.owns_pair b o r d y)
    → AreBelow o.ranks own
own_below b o own owners ranges pairs has d y r t = ⊎_elim
    (λ (l : d < dat_count b.mesh). ⊎_elim
    (λ (m : y < set_size b.mesh (Rattle.mesh_decl.specs.Mesh.dat_set b.mesh d)).
    let q : nat_eq r (owner_of o (Rattle.mesh_decl.specs.Mesh.dat_set b.mesh d) y) ≡ true =
    Rattle.chain_needs.proofs.OwnPairs.owner_is b o d y r (owner_of o (Rattle.mesh_decl.specs.Mesh.dat_set b.mesh d) y) m refl
    ∙ (sym (has d y r l m) ∙ t) in
    let e : r ≡ owner_of o (Rattle.mesh_decl.specs.Mesh.dat_set b.mesh d) y = eqb-true r (owner_of o (Rattle.mesh_decl.specs.Mesh.dat_set b.mesh d) y) q in
    subst (λ z. z < o.ranks) (sym e) (owners.below (Rattle.mesh_decl.specs.Mesh.dat_set b.mesh d) y (ranges.dats d l).set m))
    (λ (m : set_size b.mesh (Rattle.mesh_decl.specs.Mesh.dat_set b.mesh d) ≤ y).
    absurd (false≢true (sym (has_at_past (sets_in own d) y r
    (let e : length (sets_in own d) ≡ set_size b.mesh (Rattle.mesh_decl.specs.Mesh.dat_set b.mesh d) = pairs.lengths d l in
    omega arith)) ∙ t)))
    (cases_lt y (set_size b.mesh (Rattle.mesh_decl.specs.Mesh.dat_set b.mesh d))))
    (λ (l : dat_count b.mesh ≤ d).
    absurd (false≢true (sym (ap (λ (z : List RankSet). has_at z y r) (sets_past own d (let e : length own ≡ dat_count b.mesh = pairs.count in omega arith)) ∙ has_at_past [] y r (omega arith)) ∙ t)))
    (cases_lt d (dat_count b.mesh))

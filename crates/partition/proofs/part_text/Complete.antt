-- Tokens that can stand in front of a state lead to it.
use Rattle.std.proofs.Common.{◌≡◌, ℕ, ◌+◌, ◌-◌, ◌<◌, true, cond, nat_eq, nat_lt, List, [], ◌∷◌, ◌++◌, length, map, slice_get, slice_set, Some, None, Option, Ok, Err, codes, refl, sym, ap, subst, ◌∙◌, arith, append_assoc, append-nil}
use Rattle.std.proofs.lemmas.Bool.Decides.{nat_tests}
use Rattle.op_num.specs.Spelling.{number_of}
use Rattle.op_num.specs.Cut.{Word, text_of}
use Rattle.op_num.specs.Automaton.{onto}
use Rattle.op_num.proofs.Public.{through, Goes, goes_nowhere, goes_join, goes_one, goes_on}
use Rattle.mesh_decl.specs.Mesh.{MeshValue, set_size}
use Rattle.partition.specs.declared.part_text.refusals.PartRefusal.TheVariants.{WrongCount, RankRange}
use Rattle.partition.specs.Token.{keyword_of}
use Rattle.partition.specs.Spelling.{Table, Given, no_ranks, AreRanks, IsSet, AreSets, ArePart}
use Rattle.partition.specs.Reading.{set_of, State, finish, Magic, Version, Between, SetName, Count, Ranks, End, step, began, free_set, named, sized, ranked, gathered, filled, IsFree, Stands}
use Rattle.partition.proofs.part_text.Names.{is_set}
use Rattle.partition.proofs.part_text.Running.{step-magic, step-version, step-between, step-set_name, step-count, step-ranks, filled-more}
use Rattle.lemmas.proofs.Lists.{bytes_eq_from}

-- where every set has its ranks they are gathered
gathers : (line : ℕ) (owners : List (List ℕ)) → gathered line (map (λ rs. Some rs) owners) ≡ Ok owners
unfolding gathered
gathers line [] = refl
gathers line (rs ∷ owners) = ap (λ r. onto r (λ xs. rs ∷ xs)) (gathers line owners)

names : (t : Table) (o : Option ℕ) (line k : ℕ) → o ≡ Some k → slice_get t k ≡ Some None → named t o line ≡ Ok k
unfolding named
names t o line k e f = ap (λ x. named t x line) e ∙ ap (free_set k line) f

sizes : (o : Option ℕ) (line size : ℕ) → o ≡ Some size → sized size o line ≡ Ok size
unfolding sized
sizes o line size e =
    let b : nat_eq size size ≡ true = grind (arith, nat_tests) in
    ap (λ x. sized size x line) e ∙ ap (λ x. cond x (Ok size) (Err (WrongCount line))) b

is_ranked : (ranks : ℕ) (o : Option ℕ) (line r : ℕ) → o ≡ Some r → r < ranks → ranked ranks o line ≡ Ok r
unfolding ranked
is_ranked ranks o line r e l =
    let b : nat_lt r ranks ≡ true = grind (arith, nat_tests) in
    ap (λ x. ranked ranks x line) e ∙ ap (λ x. cond x (Ok r) (Err (RankRange line))) b

module _ (g : MeshValue) (ranks : ℕ) where
  magic_on : (w : Word) → w.text ≡ codes "op2part" → step g ranks Magic w ≡ Ok Version
  magic_on w e = step-magic g ranks w (bytes_eq_from w.text (codes "op2part") e)

  version_on : (w : Word) → w.text ≡ codes "1" → step g ranks Version w ≡ Ok (Between (no_ranks g))
  version_on w e = step-version g ranks w (bytes_eq_from w.text (codes "1") e)

  set_on : (t : Table) (w : Word) → w.text ≡ codes "set" → step g ranks (Between t) w ≡ Ok (SetName t)
  set_on t w e = step-between g ranks t w ∙ ap (λ x. began t (keyword_of x) (number_of x) w.line) e

  done_on : (owners : List (List ℕ)) (w : Word) → w.text ≡ codes "done" → step g ranks (Between (map (λ rs. Some rs) owners)) w ≡ Ok (End owners)
  done_on owners w e =
      step-between g ranks (map (λ rs. Some rs) owners) w ∙ ap (λ x. began (map (λ rs. Some rs) owners) (keyword_of x) (number_of x) w.line) e ∙ ap (λ r. onto r End) (gathers w.line owners)

  name_on : (t : Table) (name : List ℕ) (k : ℕ) → IsFree g ranks t name k → (w : Word) → w.text ≡ name → step g ranks (SetName t) w ≡ Ok (Count t k)
  name_on t name k f w e =
      let o : set_of g w.text ≡ Some k = ap (set_of g) e ∙ is_set g name k f.0 in
      step-set_name g ranks t w ∙ ap (λ r. onto r (Count t)) (names t (set_of g w.text) w.line k o f.1)

  count_on : (t : Table) (k : ℕ) (count : List ℕ) → number_of count ≡ Some (set_size g k) → (w : Word) → w.text ≡ count → step g ranks (Count t k) w ≡ Ok (filled t k (set_size g k) [])
  count_on t k count n w e =
      let o : number_of w.text ≡ Some (set_size g k) = ap number_of e ∙ n in
      step-count g ranks t k w ∙ ap (λ r. onto r (λ m. filled t k m [])) (sizes (number_of w.text) w.line (set_size g k) o)

  rank_on : (t : Table) (k left : ℕ) (rs : List ℕ) (digits : List ℕ) (r : ℕ) → 0 < left → number_of digits ≡ Some r → r < ranks → (w : Word)
      → w.text ≡ digits → step g ranks (filled t k left rs) w ≡ Ok (filled t k (left - 1) (rs ++ r ∷ []))
  rank_on t k left rs digits r more n l w e =
      let o : number_of w.text ≡ Some r = ap number_of e ∙ n in
      ap (λ q. step g ranks q w) (filled-more t k left rs more) ∙ step-ranks g ranks t k left rs w
      ∙ ap (λ x. onto x (λ y. filled t k (left - 1) (rs ++ y ∷ []))) (is_ranked ranks (number_of w.text) w.line r o l)

  -- the ranks of a set
  goes_ranks : (t : Table) (k : ℕ) (ds : List (List ℕ)) (left rest : ℕ) (rs qs all : List ℕ) → AreRanks ranks ds qs
      → left ≡ length qs + rest → rs ++ qs ≡ all → Goes (step g ranks) finish (filled t k left rs) ds (filled t k rest all)
  goes_ranks t k [] left rest rs qs all a n w =
      let none : length qs ≡ 0 = ap length a in
      let same : left ≡ rest = omega arith in
      let whole : rs ≡ all = sym (append-nil rs) ∙ ap (λ xs. rs ++ xs) (sym a) ∙ w in
      subst (λ m. Goes (step g ranks) finish (filled t k left rs) [] (filled t k m all)) same
      (subst (λ xs. Goes (step g ranks) finish (filled t k left rs) [] (filled t k left xs)) whole (goes_nowhere (step g ranks) finish (filled t k left rs)))
  goes_ranks t k (d ∷ ds) left rest rs qs all a n w =
      let len : length qs ≡ length (a.0 ∷ a.1) = ap length a.2 in
      let more : 0 < left = omega arith in
      let fewer : left - 1 ≡ length a.1 + rest = omega arith in
      let whole : (rs ++ a.0 ∷ []) ++ a.1 ≡ all = append_assoc rs (a.0 ∷ []) a.1 ∙ ap (λ xs. rs ++ xs) (sym a.2) ∙ w in
      goes_on (step g ranks) finish (filled t k left rs) (filled t k (left - 1) (rs ++ a.0 ∷ [])) (filled t k rest all) d ds (rank_on t k left rs d a.0 more a.3 a.4)
      (goes_ranks t k ds (left - 1) rest (rs ++ a.0 ∷ []) a.1 all a.5 fewer whole)

  -- the tokens that begin a set, and some of its ranks
  goes_some : (t : Table) (k rest : ℕ) (name count : List ℕ) (digits : List (List ℕ)) (rs : List ℕ) → IsFree g ranks t name k
      → number_of count ≡ Some (set_size g k) → AreRanks ranks digits rs → set_size g k ≡ length rs + rest
      → Goes (step g ranks) finish (Between t) (codes "set" ∷ name ∷ count ∷ digits) (filled t k rest rs)
  goes_some t k rest name count digits rs f n a s =
      goes_on (step g ranks) finish (Between t) (SetName t) (filled t k rest rs) (codes "set") (name ∷ count ∷ digits) (set_on t)
      (goes_on (step g ranks) finish (SetName t) (Count t k) (filled t k rest rs) name (count ∷ digits) (name_on t name k f)
      (goes_on (step g ranks) finish (Count t k) (filled t k (set_size g k) []) (filled t k rest rs) count digits (count_on t k count n)
      (goes_ranks t k digits (set_size g k) rest [] rs rs a s refl)))

  goes_set : (t : Table) (ts : List (List ℕ)) (k : ℕ) (rs : List ℕ) → IsSet g ranks ts k rs → slice_get t k ≡ Some None → Goes (step g ranks) finish (Between t) ts (Between (slice_set t k (Some rs)))
  goes_set t ts k rs i f =
      let size : set_size g k ≡ length rs + 0 = omega (arith, i.6) in
      subst (λ xs. Goes (step g ranks) finish (Between t) xs (Between (slice_set t k (Some rs)))) (sym i.3) (goes_some t k 0 i.0 i.1 i.2 rs (i.4, f) i.5 i.7 size)

  goes_sets : (ts : List (List ℕ)) (ss : List Given) (before t : Table) → AreSets g ranks ts ss before t → Goes (step g ranks) finish (Between before) ts (Between t)
  goes_sets ts [] before t a = subst (λ xs. Goes (step g ranks) finish (Between before) xs (Between t)) (sym a.0)
      (subst (λ x. Goes (step g ranks) finish (Between before) [] (Between x)) a.1 (goes_nowhere (step g ranks) finish (Between before)))
  goes_sets ts (s ∷ ss) before t a =
      subst (λ xs. Goes (step g ranks) finish (Between before) xs (Between t)) (sym a.2)
      (goes_join (step g ranks) finish (Between before) (Between (slice_set before s.0 (Some s.1))) (Between t) a.0 a.1
      (goes_set before a.0 s.0 s.1 a.3 a.4) (goes_sets a.1 ss (slice_set before s.0 (Some s.1)) t a.5))

  goes_part : (ts : List (List ℕ)) (t : Table) → ArePart g ranks ts t → Goes (step g ranks) finish Magic ts (Between t)
  goes_part ts t p =
      subst (λ xs. Goes (step g ranks) finish Magic xs (Between t)) (sym p.2)
      (goes_on (step g ranks) finish Magic Version (Between t) (codes "op2part") (codes "1" ∷ p.0) magic_on
      (goes_on (step g ranks) finish Version (Between (no_ranks g)) (Between t) (codes "1") p.0 version_on (goes_sets p.0 p.1 (no_ranks g) t p.3)))

  -- the tokens that stand at the front lead where they stand
  stands_goes : (p : State) (ts : List (List ℕ)) → Stands g ranks ts p → Goes (step g ranks) finish Magic ts p
  stands_goes Magic ts s = subst (λ xs. Goes (step g ranks) finish Magic xs Magic) (sym s) (goes_nowhere (step g ranks) finish Magic)
  stands_goes Version ts s = subst (λ xs. Goes (step g ranks) finish Magic xs Version) (sym s) (goes_one (step g ranks) finish Magic Version (codes "op2part") magic_on)
  stands_goes (Between t) ts s = goes_part ts t s
  stands_goes (SetName t) ts s =
      subst (λ xs. Goes (step g ranks) finish Magic xs (SetName t)) (sym s.1)
      (goes_join (step g ranks) finish Magic (Between t) (SetName t) s.0 (codes "set" ∷ []) (goes_part s.0 t s.2) (goes_one (step g ranks) finish (Between t) (SetName t) (codes "set") (set_on t)))
  stands_goes (Count t k) ts s =
      subst (λ xs. Goes (step g ranks) finish Magic xs (Count t k)) (sym s.2)
      (goes_join (step g ranks) finish Magic (Between t) (Count t k) s.0 (codes "set" ∷ s.1 ∷ []) (goes_part s.0 t s.3)
      (goes_on (step g ranks) finish (Between t) (SetName t) (Count t k) (codes "set") (s.1 ∷ []) (set_on t) (goes_one (step g ranks) finish (SetName t) (Count t k) s.1 (name_on t s.1 k s.4))))
  stands_goes (Ranks t k left rs) ts s =
      let some : Goes (step g ranks) finish (Between t) (codes "set" ∷ s.1 ∷ s.2 ∷ s.3) (filled t k left rs) = goes_some t k left s.1 s.2 s.3 rs s.6 s.7 s.10 (sym s.8) in
      subst (λ xs. Goes (step g ranks) finish Magic xs (Ranks t k left rs)) (sym s.4)
      (goes_join (step g ranks) finish Magic (Between t) (Ranks t k left rs) s.0 (codes "set" ∷ s.1 ∷ s.2 ∷ s.3) (goes_part s.0 t s.5)
      (subst (λ q. Goes (step g ranks) finish (Between t) (codes "set" ∷ s.1 ∷ s.2 ∷ s.3) q) (filled-more t k left rs s.9) some))
  stands_goes (End owners) ts s =
      subst (λ xs. Goes (step g ranks) finish Magic xs (End owners)) (sym s.1)
      (goes_join (step g ranks) finish Magic (Between (map (λ rs. Some rs) owners)) (End owners) s.0 (codes "done" ∷ []) (goes_part s.0 (map (λ rs. Some rs) owners) s.2)
      (goes_one (step g ranks) finish (Between (map (λ rs. Some rs) owners)) (End owners) (codes "done") (done_on owners)))

  pub stands_through : (p : State) (ws : List Word) → Stands g ranks (map text_of ws) p → through (step g ranks) finish Magic ws ≡ Ok p
  stands_through p ws s = stands_goes p (map text_of ws) s ws refl

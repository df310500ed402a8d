-- A token that is taken stands behind those before it.
use Rattle.std.proofs.Common.{◌≡◌, ℕ, ◌+◌, ◌-◌, ◌<◌, Bool, true, false, cond, inl, inr, nat_eq, nat_lt, List, [], ◌∷◌, ◌++◌, length, map, slice_get, slice_set, Option, Some, None, Ok, codes, refl, sym, ap, subst, ◌∙◌, arith, append_assoc, append-nil, length-append}
use Rattle.std.specs.Str.{bytes_eq}
use Rattle.std.proofs.lemmas.Bool.Decides.{nat_tests}
use Rattle.op_num.specs.Spelling.{number_of}
use Rattle.op_num.specs.Cut.{Word}
use Rattle.op_num.specs.Automaton.{onto}
use Rattle.op_num.proofs.Public.{onto_is}
use Rattle.mesh_decl.specs.Mesh.{MeshValue, set_size}
use Rattle.partition.specs.declared.part_text.refusals.PartRefusal.TheVariants.{Header, WrongCount, RankRange}
use Rattle.partition.specs.declared.part_text.token.Keyword.{Keyword}
use Rattle.partition.specs.declared.part_text.token.Keyword.TheVariants as keyword
use Rattle.partition.specs.Token.{is_magic, is_version, keyword_of}
use Rattle.partition.specs.Spelling.{Table, Given, no_ranks, AreRanks, IsSet, AreSets, ArePart}
use Rattle.partition.specs.Reading.{set_of, State, Magic, Version, Between, SetName, Count, Ranks, End, step, began, free_set, named, sized, ranked, gathered, filled, IsFree, Stands}
use Rattle.partition.proofs.part_text.Names.{set_is}
use Rattle.partition.proofs.part_text.Running.{step-between, step-set_name, step-count, step-ranks, step-end}
use Rattle.lemmas.proofs.Lists.{bytes_eq_same, with_one}
use Rattle.lemmas.proofs.Truth.{cond_cases, ok_then}

-- the ranks of every set
pub gathered_is : (line : ℕ) (t : Table) (owners : List (List ℕ)) → gathered line t ≡ Ok owners → t ≡ map (λ rs. Some rs) owners
unfolding gathered
gathered_is line [] owners h = let e : [] ≡ owners = cc in ap (map (λ rs. Some rs)) e
gathered_is line (None ∷ t) owners h = cc
gathered_is line (Some rs ∷ t) owners h =
    let o = onto_is (gathered line t) (λ xs. rs ∷ xs) owners h in
    ap (λ xs. Some rs ∷ xs) (gathered_is line t o.0 o.1) ∙ ap (map (λ rs. Some rs)) o.2

-- one rank more for a set
ranks_more : (ranks : ℕ) (ts : List (List ℕ)) (t : List ℕ) (rs : List ℕ) (r : ℕ) → AreRanks ranks ts rs → number_of t ≡ Some r → r < ranks → AreRanks ranks (ts ++ t ∷ []) (rs ++ r ∷ [])
ranks_more ranks [] t rs r a n l = (r, [], ap (λ xs. xs ++ r ∷ []) a, n, l, refl)
ranks_more ranks (u ∷ ts) t rs r a n l = (a.0, a.1 ++ r ∷ [], ap (λ xs. xs ++ r ∷ []) a.2, a.3, a.4, ranks_more ranks ts t a.1 r a.5 n l)

-- what a token said
abbrev pub word_of : Keyword → List ℕ
word_of keyword.Set = codes "set"
word_of keyword.Done = codes "done"

keyword_is : (text : List ℕ) (k : Keyword) → keyword_of text ≡ Some k → text ≡ word_of k
keyword_is text w h = elim (cond_cases (bytes_eq text (codes "set")) (Some keyword.Set) (cond (bytes_eq text (codes "done")) (Some keyword.Done) None) (Some w) h) [
  | inl k ↦ let e : keyword.Set ≡ w = cc in bytes_eq_same text (codes "set") k.0 ∙ ap word_of e
  | inr k ↦ elim (cond_cases (bytes_eq text (codes "done")) (Some keyword.Done) None (Some w) k.1) [
    | inl m ↦ let e : keyword.Done ≡ w = cc in bytes_eq_same text (codes "done") m.0 ∙ ap word_of e
    | inr m ↦ absurd (cc m.1)
  ]
]

free_is : (k line : ℕ) (o : Option (Option (List ℕ))) (n : ℕ) → free_set k line o ≡ Ok n → (o ≡ Some None) × (k ≡ n)
free_is k line None n h = cc
free_is k line (Some None) n h = (refl, cc)
free_is k line (Some (Some rs)) n h = cc

named_is : (t : Table) (o : Option ℕ) (line n : ℕ) → named t o line ≡ Ok n → (o ≡ Some n) × (slice_get t n ≡ Some None)
unfolding named
named_is t None line n h = cc
named_is t (Some k) line n h = let f = free_is k line (slice_get t k) n h in (ap Some f.1, subst (λ x. slice_get t x ≡ Some None) f.1 f.0)

sized_is : (size : ℕ) (o : Option ℕ) (line n : ℕ) → sized size o line ≡ Ok n → (o ≡ Some size) × (n ≡ size)
unfolding sized
sized_is size None line n h = cc
sized_is size (Some m) line n h =
    let a = ok_then (nat_eq m size) (Ok m) (WrongCount line) n h in
    let t = a.0 in
    let same : m ≡ size = grind (arith, nat_tests) in
    let e : m ≡ n = cc (a.1) in
    (ap Some same, sym e ∙ same)

ranked_is : (ranks : ℕ) (o : Option ℕ) (line r : ℕ) → ranked ranks o line ≡ Ok r → (o ≡ Some r) × (r < ranks)
unfolding ranked
ranked_is ranks None line r h = cc
ranked_is ranks (Some m) line r h =
    let a = ok_then (nat_lt m ranks) (Ok m) (RankRange line) r h in
    let t = a.0 in
    let low : m < ranks = grind (arith, nat_tests) in
    let e : m ≡ r = cc (a.1) in
    (ap Some e, subst (λ x. x < ranks) e low)

module _ (g : MeshValue) (ranks : ℕ) where
  -- one set more
  sets_more : (ts front : List (List ℕ)) (ss : List Given) (before t : Table) (k : ℕ) (rs : List ℕ) → AreSets g ranks ts ss before t
      → IsSet g ranks front k rs → slice_get t k ≡ Some None
      → AreSets g ranks (ts ++ front) (ss ++ (k, rs) ∷ []) before (slice_set t k (Some rs))
  sets_more ts front [] before t k rs a i f =
      (front, [], (ap (λ xs. xs ++ front) a.0 ∙ sym (append-nil front)), i, subst (λ x. slice_get x k ≡ Some None) (sym a.1) f, (refl, ap (λ x. slice_set x k (Some rs)) a.1))
  sets_more ts front (s ∷ ss) before t k rs a i f =
      (a.0, a.1 ++ front, (ap (λ xs. xs ++ front) a.2 ∙ append_assoc a.0 a.1 front), a.3, a.4, sets_more a.1 front ss (slice_set before s.0 (Some s.1)) t k rs a.5 i f)

  part_more : (ts front : List (List ℕ)) (t : Table) (k : ℕ) (rs : List ℕ) → ArePart g ranks ts t → IsSet g ranks front k rs
      → slice_get t k ≡ Some None → ArePart g ranks (ts ++ front) (slice_set t k (Some rs))
  part_more ts front t k rs p i f = (p.0 ++ front, p.1 ++ (k, rs) ∷ [], ap (λ xs. xs ++ front) p.2, sets_more p.0 front p.1 (no_ranks g) t k rs p.3 i f)

  -- a set of which ranks are awaited, or none
  filled_stands : (t : Table) (k left : ℕ) (rs : List ℕ) (front : List (List ℕ)) (name count : List ℕ) (digits : List (List ℕ))
      (ts : List (List ℕ)) → ts ≡ front ++ codes "set" ∷ name ∷ count ∷ digits → ArePart g ranks front t → IsFree g ranks t name k
      → number_of count ≡ Some (set_size g k) → length rs + left ≡ set_size g k → AreRanks ranks digits rs
      → Stands g ranks ts (filled t k left rs)
  filled_stands t k left rs front name count digits ts whole part free number size are = go (nat_eq left 0) refl
    where
      go : (b : Bool) → nat_eq left 0 ≡ b → Stands g ranks ts (cond b (Between (slice_set t k (Some rs))) (Ranks t k left rs))
      go true b =
          let none : left ≡ 0 = grind (arith, nat_tests) in
          let all : length rs ≡ set_size g k = omega arith in
          let set : IsSet g ranks (codes "set" ∷ name ∷ count ∷ digits) k rs = (name, count, digits, refl, free.0, number, all, are) in
          subst (λ xs. ArePart g ranks xs (slice_set t k (Some rs))) (sym whole) (part_more front (codes "set" ∷ name ∷ count ∷ digits) t k rs part set free.1)
      go false b = (front, name, count, digits, whole, part, free, number, size, (grind (arith, nat_tests)), are)

  behind_magic : (q : State) (ts : List (List ℕ)) (w : Word) → ts ≡ [] → step g ranks Magic w ≡ Ok q → Stands g ranks (ts ++ w.text ∷ []) q
  unfolding step
  behind_magic q ts w s h =
      let a = ok_then (is_magic w.text) (Ok Version) (Header w.line) q h in
      let e : Version ≡ q = cc (a.1) in
      subst (Stands g ranks (ts ++ w.text ∷ [])) e (ap (λ xs. xs ++ w.text ∷ []) s ∙ ap (λ t. t ∷ []) (bytes_eq_same w.text (codes "op2part") a.0))

  behind_version : (q : State) (ts : List (List ℕ)) (w : Word) → ts ≡ codes "op2part" ∷ [] → step g ranks Version w ≡ Ok q → Stands g ranks (ts ++ w.text ∷ []) q
  unfolding step
  behind_version q ts w s h =
      let a = ok_then (is_version w.text) (Ok (Between (no_ranks g))) (Header w.line) q h in
      let e : Between (no_ranks g) ≡ q = cc (a.1) in
      let whole : ts ++ w.text ∷ [] ≡ codes "op2part" ∷ codes "1" ∷ [] = ap (λ xs. xs ++ w.text ∷ []) s ∙ ap (λ t. codes "op2part" ∷ t ∷ []) (bytes_eq_same w.text (codes "1") a.0) in
      let part : ArePart g ranks (ts ++ w.text ∷ []) (no_ranks g) = ([], [], whole, (refl, refl)) in
      subst (Stands g ranks (ts ++ w.text ∷ [])) e part

  behind_word : (t : Table) (o : Option Keyword) (n : Option ℕ) (line : ℕ) (q : State) (ts : List (List ℕ)) (text : List ℕ)
      → ((k : Keyword) → o ≡ Some k → text ≡ word_of k) → ArePart g ranks ts t → began t o n line ≡ Ok q
      → Stands g ranks (ts ++ text ∷ []) q
  behind_word t (Some keyword.Set) n line q ts text is s h =
      let e : SetName t ≡ q = cc in
      let stands : Stands g ranks (ts ++ text ∷ []) (SetName t) = (ts, ap (λ x. ts ++ x ∷ []) (is keyword.Set refl), s) in
      subst (Stands g ranks (ts ++ text ∷ [])) e stands
  behind_word t (Some keyword.Done) n line q ts text is s h =
      let o = onto_is (gathered line t) End q h in
      let stands : Stands g ranks (ts ++ text ∷ []) (End o.0) = (ts, ap (λ x. ts ++ x ∷ []) (is keyword.Done refl), subst (ArePart g ranks ts) (gathered_is line t o.0 o.1) s) in
      subst (Stands g ranks (ts ++ text ∷ [])) o.2 stands
  behind_word t None n line q ts text is s h = cc

  behind_set_name : (t : Table) (q : State) (ts : List (List ℕ)) (w : Word) → Stands g ranks ts (SetName t)
      → onto (named t (set_of g w.text) w.line) (Count t) ≡ Ok q → Stands g ranks (ts ++ w.text ∷ []) q
  behind_set_name t q ts w s h =
      let o = onto_is (named t (set_of g w.text) w.line) (Count t) q h in
      let n = named_is t (set_of g w.text) w.line o.0 o.1 in
      let stands : Stands g ranks (ts ++ w.text ∷ []) (Count t o.0) = (s.0, w.text, with_one ts s.0 (codes "set" ∷ []) w.text w.text s.1 refl, s.2, (set_is g w.text o.0 n.0, n.1)) in
      subst (Stands g ranks (ts ++ w.text ∷ [])) o.2 stands

  behind_count : (t : Table) (k : ℕ) (q : State) (ts : List (List ℕ)) (w : Word) → Stands g ranks ts (Count t k)
      → onto (sized (set_size g k) (number_of w.text) w.line) (λ n. filled t k n []) ≡ Ok q → Stands g ranks (ts ++ w.text ∷ []) q
  behind_count t k q ts w s h =
      let o = onto_is (sized (set_size g k) (number_of w.text) w.line) (λ n. filled t k n []) q h in
      let v = sized_is (set_size g k) (number_of w.text) w.line o.0 o.1 in
      let size : 0 + o.0 ≡ set_size g k = omega (arith, v.1) in
      subst (Stands g ranks (ts ++ w.text ∷ [])) o.2
      (filled_stands t k o.0 [] s.0 s.1 w.text [] (ts ++ w.text ∷ []) (with_one ts s.0 (codes "set" ∷ s.1 ∷ []) w.text w.text s.2 refl)
      s.3 s.4 v.0 size refl)

  behind_ranks : (t : Table) (k left : ℕ) (rs : List ℕ) (q : State) (ts : List (List ℕ)) (w : Word) → Stands g ranks ts (Ranks t k left rs)
      → onto (ranked ranks (number_of w.text) w.line) (λ r. filled t k (left - 1) (rs ++ r ∷ [])) ≡ Ok q
      → Stands g ranks (ts ++ w.text ∷ []) q
  behind_ranks t k left rs q ts w s h =
      let o = onto_is (ranked ranks (number_of w.text) w.line) (λ r. filled t k (left - 1) (rs ++ r ∷ [])) q h in
      let v = ranked_is ranks (number_of w.text) w.line o.0 o.1 in
      let some : 0 < left = s.9 in
      let sum : length rs + left ≡ set_size g k = s.8 in
      let len : length (rs ++ o.0 ∷ []) ≡ length rs + 1 = length-append rs (o.0 ∷ []) in
      let size : length (rs ++ o.0 ∷ []) + (left - 1) ≡ set_size g k = omega arith in
      subst (Stands g ranks (ts ++ w.text ∷ [])) o.2
      (filled_stands t k (left - 1) (rs ++ o.0 ∷ []) s.0 s.1 s.2 (s.3 ++ w.text ∷ []) (ts ++ w.text ∷ [])
      (with_one ts s.0 (codes "set" ∷ s.1 ∷ s.2 ∷ s.3) w.text w.text s.4 refl) s.5 s.6 s.7 size (ranks_more ranks s.3 w.text rs o.0 s.10 v.0 v.1))

  -- A token that may stand there stands behind those before it.
  pub stands_on : (p q : State) (ts : List (List ℕ)) (w : Word) → Stands g ranks ts p → step g ranks p w ≡ Ok q → Stands g ranks (ts ++ w.text ∷ []) q
  stands_on Magic q ts w s h = behind_magic q ts w s h
  stands_on Version q ts w s h = behind_version q ts w s h
  stands_on (Between t) q ts w s h = behind_word t (keyword_of w.text) (number_of w.text) w.line q ts w.text (keyword_is w.text) s (sym (step-between g ranks t w) ∙ h)
  stands_on (SetName t) q ts w s h = behind_set_name t q ts w s (sym (step-set_name g ranks t w) ∙ h)
  stands_on (Count t k) q ts w s h = behind_count t k q ts w s (sym (step-count g ranks t k w) ∙ h)
  stands_on (Ranks t k left rs) q ts w s h = behind_ranks t k left rs q ts w s (sym (step-ranks g ranks t k left rs w) ∙ h)
  stands_on (End owners) q ts w s h = cc (step-end g ranks owners w)

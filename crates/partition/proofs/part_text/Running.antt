-- One token of a partition text after another.
use Rattle.std.proofs.Common.{◌≡◌, ℕ, ◌-◌, ◌<◌, ◌++◌, length, append_assoc, append-nil, true, false, arith, List, [], ◌∷◌, Option, Some, None, Result, Ok, Err, IsErrAnd, refl, sym, ap, ◌∙◌, inr, nat_eq}
use Rattle.std.proofs.lemmas.Bool.Decides.{nat_tests}
use Rattle.op_num.specs.Spelling.{number_of}
use Rattle.std.proofs.lemmas.Result.{err_from_is_err_and}
use Rattle.op_num.specs.Cut.{Word, Uncut, first, behind, first_of}
use Rattle.op_num.specs.Automaton.{after, onto, IsNext}
use Rattle.op_num.proofs.Public.{onto_err, run_token, run_refused, run_end, run_onto}
use Rattle.mesh_decl.specs.Mesh.{MeshValue, set_size}
use Rattle.partition.specs.declared.part_text.refusals.PartRefusal.{PartRefusal}
use Rattle.partition.specs.declared.part_text.refusals.PartRefusal.TheVariants.{Header, Syntax, MissingSet, WrongCount}
use Rattle.partition.specs.declared.part_text.token.Keyword.TheVariants as keyword
use Rattle.partition.specs.Token.{is_magic, is_version, keyword_of}
use Rattle.partition.specs.Spelling.{Table, no_ranks}
use Rattle.partition.specs.Reading.{set_of, Magic, Version, Between, SetName, Count, Ranks, End, step, finish, began, stray, gathered, named, sized, ranked, filled, run_from}
use Rattle.partition.specs.Answered.{LeadsToSet}

last-behind : (last : ℕ) (ws : List Word) (w : Word) → first ws ≡ Some w → (behind last ws).last ≡ w.line
last-behind last [] w h = cc
last-behind last (x ∷ ws) w h = let e : x ≡ w = cc in ap (λ y. y.line) e

onto_both : {R : Type 0} (r : Result (List (List ℕ)) R) (sets more : List (List ℕ)) (rs : List ℕ) → more ≡ sets ++ rs ∷ []
    → onto (onto r (λ xs. rs ∷ xs)) (λ xs. sets ++ xs) ≡ onto r (λ xs. more ++ xs)
onto_both (Ok xs) sets more rs m = ap Ok (sym (append_assoc sets (rs ∷ []) xs) ∙ ap (λ ys. ys ++ xs) (sym m))
onto_both (Err e) sets more rs m = refl

-- gathering the ranks of one more set
pub gather_more : (line : ℕ) (sets more : List (List ℕ)) (t rest : Table) (given : Option (List ℕ)) (rs : List ℕ) → t ≡ given ∷ rest
    → given ≡ Some rs → more ≡ sets ++ rs ∷ [] → onto (gathered line t) (λ xs. sets ++ xs) ≡ onto (gathered line rest) (λ xs. more ++ xs)
unfolding gathered
gather_more line sets more t rest given rs e f m = ap (λ x. onto (gathered line x) (λ xs. sets ++ xs)) (e ∙ ap (λ o. o ∷ rest) f) ∙ onto_both (gathered line rest) sets more rs m

-- of a set that has none
pub gather_none : (line : ℕ) (sets : List (List ℕ)) (t rest : Table) (given : Option (List ℕ)) → t ≡ given ∷ rest → given ≡ None → onto (gathered line t) (λ xs. sets ++ xs) ≡ Err (MissingSet line)
unfolding gathered
gather_none line sets t rest given e f = ap (λ x. onto (gathered line x) (λ xs. sets ++ xs)) (e ∙ ap (λ o. o ∷ rest) f)

-- of no more sets
pub gather_end : (line n : ℕ) (sets : List (List ℕ)) (t : Table) → length t ≡ n → n ≡ 0 → onto (gathered line t) (λ xs. sets ++ xs) ≡ Ok sets
unfolding gathered
gather_end line n sets [] l z = ap Ok (append-nil sets)
gather_end line n sets (x ∷ t) l z = absurd (omega arith)

-- the line of the last token is then that of this one
last_is : (u v : Uncut) (w : Word) → IsNext u v w → v.last ≡ w.line
last_is u v w n = ap (λ x. x.last) n.rest ∙ last-behind u.last u.words w n.first

pub filled-more : (t : Table) (k left : ℕ) (rs : List ℕ) → 0 < left → filled t k left rs ≡ Ranks t k left rs
filled-more t k left rs h = let e : nat_eq left 0 ≡ false = grind (arith, nat_tests) in rw e refl

module _ (g : MeshValue) (ranks : ℕ) where
  -- what each state says of a token
  pub step-magic : (w : Word) → is_magic w.text ≡ true → step g ranks Magic w ≡ Ok Version
  unfolding step
  step-magic w h = rw h refl

  pub step-no_magic : (w : Word) → is_magic w.text ≡ false → step g ranks Magic w ≡ Err (Header w.line)
  unfolding step
  step-no_magic w h = rw h refl

  pub step-version : (w : Word) → is_version w.text ≡ true → step g ranks Version w ≡ Ok (Between (no_ranks g))
  unfolding step
  step-version w h = rw h refl

  pub step-no_version : (w : Word) → is_version w.text ≡ false → step g ranks Version w ≡ Err (Header w.line)
  unfolding step
  step-no_version w h = rw h refl

  pub step-between : (t : Table) (w : Word) → step g ranks (Between t) w ≡ began t (keyword_of w.text) (number_of w.text) w.line
  unfolding step
  step-between t w = refl

  pub step-set_name : (t : Table) (w : Word) → step g ranks (SetName t) w ≡ onto (named t (set_of g w.text) w.line) (Count t)
  unfolding step
  step-set_name t w = refl

  pub step-count : (t : Table) (k : ℕ) (w : Word) → step g ranks (Count t k) w ≡ onto (sized (set_size g k) (number_of w.text) w.line) (λ n. filled t k n [])
  unfolding step
  step-count t k w = refl

  pub step-ranks : (t : Table) (k left : ℕ) (rs : List ℕ) (w : Word) → step g ranks (Ranks t k left rs) w ≡ onto (ranked ranks (number_of w.text) w.line) (λ r. filled t k (left - 1) (rs ++ r ∷ []))
  unfolding step
  step-ranks t k left rs w = refl

  pub step-end : (owners : List (List ℕ)) (w : Word) → step g ranks (End owners) w ≡ Err (Syntax w.line)
  unfolding step
  step-end owners w = refl

  pub set_named : (t : Table) (u v : Uncut) (w : Word) (k : ℕ) → IsNext u v w → Ok k ≡ named t (set_of g w.text) w.line → run_from g ranks (SetName t) u ≡ run_from g ranks (Count t k) v
  set_named t u v w k n h = run_onto (step g ranks) finish (SetName t) u v w k (named t (set_of g w.text) w.line) (Count t) n (step-set_name t w) (sym h)

  pub set_refused : (t : Table) (u v : Uncut) (w : Word) (e : PartRefusal) → IsNext u v w → Err e ≡ named t (set_of g w.text) w.line → run_from g ranks (SetName t) u ≡ Err e
  set_refused t u v w e n h = run_refused (step g ranks) finish (SetName t) u v w e n (step-set_name t w ∙ onto_err (named t (set_of g w.text) w.line) (Count t) e (sym h))

  pub counted : (t : Table) (k size : ℕ) (u v : Uncut) (w : Word) (n : ℕ) → size ≡ set_size g k → IsNext u v w
      → Ok n ≡ sized size (number_of w.text) w.line → run_from g ranks (Count t k) u ≡ run_from g ranks (filled t k n []) v
  counted t k size u v w n s x h =
      run_onto (step g ranks) finish (Count t k) u v w n (sized (set_size g k) (number_of w.text) w.line) (λ m. filled t k m []) x
      (step-count t k w) (ap (λ m. sized m (number_of w.text) w.line) (sym s) ∙ sym h)

  pub count_refused : (t : Table) (k size : ℕ) (u v : Uncut) (w : Word) (e : PartRefusal) → size ≡ set_size g k → IsNext u v w
      → Err e ≡ sized size (number_of w.text) w.line → run_from g ranks (Count t k) u ≡ Err e
  count_refused t k size u v w e s x h =
      run_refused (step g ranks) finish (Count t k) u v w e x
      (step-count t k w ∙ onto_err (sized (set_size g k) (number_of w.text) w.line) (λ m. filled t k m []) e
      (ap (λ m. sized m (number_of w.text) w.line) (sym s) ∙ sym h))

  pub rank_given : (t : Table) (k left : ℕ) (rs : List ℕ) (u v : Uncut) (w : Word) (r : ℕ) → 0 < left → IsNext u v w
      → Ok r ≡ ranked ranks (number_of w.text) w.line → run_from g ranks (filled t k left rs) u ≡ run_from g ranks
      (filled t k (left - 1) (rs ++ r ∷ [])) v
  rank_given t k left rs u v w r more n h =
      ap (λ p. run_from g ranks p u) (filled-more t k left rs more)
      ∙ run_onto (step g ranks) finish (Ranks t k left rs) u v w r (ranked ranks (number_of w.text) w.line) (λ x. filled t k (left - 1) (rs ++ x ∷ [])) n (step-ranks t k left rs w) (sym h)

  pub rank_refused : (t : Table) (k left : ℕ) (rs : List ℕ) (u v : Uncut) (w : Word) (e : PartRefusal) → 0 < left → IsNext u v w
      → Err e ≡ ranked ranks (number_of w.text) w.line → run_from g ranks (filled t k left rs) u ≡ Err e
  rank_refused t k left rs u v w e more n h =
      ap (λ p. run_from g ranks p u) (filled-more t k left rs more)
      ∙ run_refused (step g ranks) finish (Ranks t k left rs) u v w e n
      (step-ranks t k left rs w ∙ onto_err (ranked ranks (number_of w.text) w.line) (λ x. filled t k (left - 1) (rs ++ x ∷ [])) e
      (sym h))

  pub rank_missing : (t : Table) (k left : ℕ) (rs : List ℕ) (u : Uncut) (e : PartRefusal) → 0 < left → first_of u ≡ None → e ≡ WrongCount u.last → run_from g ranks (filled t k left rs) u ≡ Err e
  rank_missing t k left rs u e more n h = ap (λ p. run_from g ranks p u) (filled-more t k left rs more) ∙ run_end (step g ranks) finish (Ranks t k left rs) u (Err e) n (ap Err (sym h))

  pub run_done : (owners : List (List ℕ)) (u : Uncut) → first_of u ≡ None → run_from g ranks (End owners) u ≡ Ok owners
  run_done owners u n = run_end (step g ranks) finish (End owners) u (Ok owners) n refl

  -- a refusal that `?` passes on, where a set or `done` is awaited
  pub passes_to_set : (t : Table) (u v : Uncut) (r : Result (Option ℕ) PartRefusal) (e : PartRefusal) → IsErrAnd r (λ y. y ≡ e) → run_from g ranks (Between t) u ≡ Err e → LeadsToSet g ranks t u r v
  passes_to_set t u v r e h f = let k = err_from_is_err_and r h in rw (k.1, k.2) (inr f)

  -- behind `set`
  pub set_begun : (t : Table) (u v : Uncut) (w : Word) → IsNext u v w → Some keyword.Set ≡ keyword_of w.text → run_from g ranks (Between t) u ≡ run_from g ranks (SetName t) v
  set_begun t u v w n h = run_token (step g ranks) finish (Between t) (SetName t) u v w n (step-between t w ∙ ap (λ o. began t o (number_of w.text) w.line) (sym h))

  -- behind `done`
  pub all_done : (t : Table) (u v : Uncut) (w : Word) → IsNext u v w → Some keyword.Done ≡ keyword_of w.text
      → run_from g ranks (Between t) u ≡ after (onto (gathered v.last t) End) (λ q. run_from g ranks q v)
  all_done t u v w n h = go (gathered w.line t) refl
    where
      at : step g ranks (Between t) w ≡ onto (gathered w.line t) End
      at = step-between t w ∙ ap (λ o. began t o (number_of w.text) w.line) (sym h)

      line : gathered v.last t ≡ gathered w.line t
      line = ap (λ l. gathered l t) (last_is u v w n)

      go : (r : Result (List (List ℕ)) PartRefusal) → gathered w.line t ≡ r → run_from g ranks (Between t) u ≡ after (onto (gathered v.last t) End) (λ q. run_from g ranks q v)
      go (Ok owners) e = run_token (step g ranks) finish (Between t) (End owners) u v w n (at ∙ ap (λ r. onto r End) e) ∙ ap (λ r. after (onto r End) (λ q. run_from g ranks q v)) (sym (line ∙ e))
      go (Err x) e = run_refused (step g ranks) finish (Between t) u v w x n (at ∙ ap (λ r. onto r End) e) ∙ ap (λ r. after (onto r End) (λ q. run_from g ranks q v)) (sym (line ∙ e))

  -- at another token
  pub strays : (t : Table) (u v : Uncut) (w : Word) → IsNext u v w → None ≡ keyword_of w.text → run_from g ranks (Between t) u ≡ Err (stray (number_of w.text) w.line)
  strays t u v w n h = run_refused (step g ranks) finish (Between t) u v w (stray (number_of w.text) w.line) n (step-between t w ∙ ap (λ o. began t o (number_of w.text) w.line) (sym h))

  -- where every set has its ranks
  pub all_given : (t : Table) (owners : List (List ℕ)) (u v : Uncut) (line : ℕ)
      → run_from g ranks (Between t) u ≡ after (onto (gathered v.last t) End) (λ q. run_from g ranks q v) → line ≡ v.last
      → gathered line t ≡ Ok owners → run_from g ranks (Between t) u ≡ run_from g ranks (End owners) v
  all_given t owners u v line h l e = h ∙ ap (λ r. after (onto r End) (λ q. run_from g ranks q v)) (ap (λ x. gathered x t) (sym l) ∙ e)

-- Reading is exact.
use Rattle.std.proofs.Common.{◌≡◌, ℕ, ◌⊎◌, List, [], ◌∷◌, ◌++◌, map, Result, Ok, Err, IfOk, IfErr, refl, sym, subst, ◌∙◌}
use Rattle.std.proofs.lemmas.List.{map_push}
use Rattle.op_num.specs.Cut.{Word, text_of, words, texts, uncut}
use Rattle.op_num.specs.Automaton.{last_line, run, Answers, IsGiven, IsRefused}
use Rattle.op_num.proofs.Public as exact
use Rattle.mesh_decl.specs.Mesh.{MeshValue}
use Rattle.partition.specs.declared.part_text.refusals.PartRefusal.{PartRefusal}
use Rattle.partition.specs.declared.part_text.refusals.PartRefusal.TheVariants.{OutOfMemory}
use Rattle.partition.specs.Spelling.{Spells}
use Rattle.partition.specs.Reading.{State, Magic, Version, Between, SetName, Count, Ranks, End, step, finish, run_from, Stands, Refuses}
use Rattle.partition.proofs.part_text.Standing.{stands_on}
use Rattle.partition.proofs.part_text.Complete.{stands_through}

module _ (g : MeshValue) (ranks : ℕ) where
  -- the tokens whose bytes can stand in front of a state
  abbrev pub Fronts : List Word → State → Type 0
  Fronts ws p = Stands g ranks (map text_of ws) p

  pub fronts_on : (p q : State) (ws : List Word) (w : Word) → Fronts ws p → step g ranks p w ≡ Ok q → Fronts (ws ++ w ∷ []) q
  fronts_on p q ws w s h = subst (λ ts. Stands g ranks ts q) (sym (map_push text_of ws w)) (stands_on g ranks p q (map text_of ws) w s h)

  -- only behind `done` the text may end
  pub finish_is : (p : State) (last : ℕ) (owners : List (List ℕ)) (ts : List (List ℕ)) → Stands g ranks ts p → finish p last ≡ Ok owners → Stands g ranks ts (End owners)
  finish_is (End xs) last owners ts s h = let e : xs ≡ owners = cc in subst (λ ys. Stands g ranks ts (End ys)) e s
  finish_is Magic last owners ts s h = cc
  finish_is Version last owners ts s h = cc
  finish_is (Between t) last owners ts s h = cc
  finish_is (SetName t) last owners ts s h = cc
  finish_is (Count t k) last owners ts s h = cc
  finish_is (Ranks t k left rs) last owners ts s h = cc

  -- the run over a text that spells owners ends with them
  pub spelled-run : (bytes : List ℕ) (owners : List (List ℕ)) → Spells g ranks bytes owners → run (step g ranks) finish Magic 1 (words 1 bytes) ≡ Ok owners
  spelled-run bytes owners s = exact.whole_run (step g ranks) finish Magic Fronts refl fronts_on (stands_through g ranks) (words 1 bytes) (End owners) s

  -- the four clauses
  module _ {M : Type 0} (bytes : List ℕ) (result : Result M PartRefusal) (view : M → List (List ℕ)) (answers : Answers OutOfMemory result view (run_from g ranks Magic (uncut bytes))) where
    pub found : IfOk result (λ m. Spells g ranks bytes (view m))
    found = go result (exact.found (step g ranks) finish Magic Fronts refl fronts_on (stands_through g ranks) OutOfMemory bytes result view answers)
      where
        go : (r : Result M PartRefusal) → IfOk r (λ m. (q : State) × Fronts (words 1 bytes) q × (finish q (last_line 1 (words 1 bytes)) ≡ Ok (view m))) → IfOk r (λ m. Spells g ranks bytes (view m))
        go (Ok m) f = finish_is f.0 (last_line 1 (words 1 bytes)) (view m) (texts bytes) f.1 f.2
        go (Err e) f = tt

    pub only : (owners : List (List ℕ)) → Spells g ranks bytes owners → IsGiven OutOfMemory result (λ m. view m ≡ owners)
    only owners s = exact.only (step g ranks) finish Magic Fronts refl fronts_on (stands_through g ranks) OutOfMemory bytes result view answers (End owners) owners s refl

    pub refused : IfErr result (λ e. (e ≡ OutOfMemory) ⊎ Refuses g ranks bytes e)
    refused = exact.refused (step g ranks) finish Magic Fronts refl fronts_on (stands_through g ranks) OutOfMemory bytes result view answers

    pub refuses : (e : PartRefusal) → Refuses g ranks bytes e → IsRefused OutOfMemory result e
    refuses = exact.refuses (step g ranks) finish Magic Fronts refl fronts_on (stands_through g ranks) OutOfMemory bytes result view answers

-- so a text spells one partition
pub one-partition : (g : MeshValue) (ranks : ℕ) (bytes : List ℕ) (a b : List (List ℕ)) → Spells g ranks bytes a → Spells g ranks bytes b → a ≡ b
one-partition g ranks bytes a b s t = let e = sym (spelled-run g ranks bytes a s) ∙ spelled-run g ranks bytes b t in cc

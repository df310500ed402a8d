-- Reading is exact.
use Rattle.std.proofs.Common.{◌≡◌, ℕ, ◌≤◌, ◌⊎◌, List, [], ◌∷◌, ◌++◌, map, Result, Ok, Err, IfOk, IfErr, refl, sym, subst, ◌∙◌}
use Rattle.std.proofs.lemmas.List.{map_push}
use Rattle.op_num.specs.Cut.{Word, text_of, words, texts, uncut}
use Rattle.op_num.specs.Automaton.{last_line, run, Answers, IsGiven, IsRefused}
use Rattle.op_num.proofs.Public as exact
use Rattle.mesh_decl.specs.declared.text.entry.MeshRefusal.{MeshRefusal}
use Rattle.mesh_decl.specs.declared.text.entry.MeshRefusal.TheVariants.{OutOfMemory}
use Rattle.mesh_decl.specs.declared.text.entry.TheConstants.{MESH_VALUES}
use Rattle.mesh_decl.specs.Spelling.{Named, total, Spells}
use Rattle.mesh_decl.specs.Reading.{State, Magic, Version, Between, OneName, ManyName, OneValue, Count, Pieces, End, step, finish, run_from, Stands, Refuses}
use Rattle.mesh_decl.proofs.text.Standing.{stands_on}
use Rattle.mesh_decl.proofs.text.Complete.{stands_through}

-- the tokens whose bytes can stand in front of a state
abbrev pub Fronts : List Word → State → Type 0
Fronts ws p = Stands (map text_of ws) p

pub fronts_on : (p q : State) (ws : List Word) (w : Word) → Fronts ws p → step p w ≡ Ok q → Fronts (ws ++ w ∷ []) q
fronts_on p q ws w s h = subst (λ ts. Stands ts q) (sym (map_push text_of ws w)) (stands_on p q (map text_of ws) w s h)

-- only behind `done` the text may end
pub finish_is : (p : State) (last : ℕ) (es : List Named) (ts : List (List ℕ)) → Stands ts p → finish p last ≡ Ok es → Stands ts (End es)
finish_is (End ds) last es ts s h = let e : ds ≡ es = cc in subst (λ xs. Stands ts (End xs)) e s
finish_is Magic last es ts s h = cc
finish_is Version last es ts s h = cc
finish_is (Between f ds) last es ts s h = cc
finish_is (OneName f ds) last es ts s h = cc
finish_is (ManyName f ds) last es ts s h = cc
finish_is (OneValue f ds n) last es ts s h = cc
finish_is (Count f ds n) last es ts s h = cc
finish_is (Pieces f ds n l z) last es ts s h = cc

pub end_spells : (bytes : List ℕ) (es : List Named) → Stands (texts bytes) (End es) → Spells bytes es × (total es ≤ MESH_VALUES)
end_spells bytes es s = ((s.0, s.1, s.2, s.3.0), s.3.1)

spells_end : (bytes : List ℕ) (es : List Named) → Spells bytes es → total es ≤ MESH_VALUES → Stands (texts bytes) (End es)
spells_end bytes es s r = (s.0, s.1, s.2, (s.3, r))

-- the run over a text that spells entries ends with them
pub spelled-run : (bytes : List ℕ) (es : List Named) → Spells bytes es → total es ≤ MESH_VALUES → run step finish Magic 1 (words 1 bytes) ≡ Ok es
spelled-run bytes es s t = exact.whole_run step finish Magic Fronts refl fronts_on stands_through (words 1 bytes) (End es) (spells_end bytes es s t)

-- so a text spells one list of entries
pub one-spelling : (bytes : List ℕ) (a b : List Named) → Spells bytes a → Spells bytes b → total a ≤ MESH_VALUES → total b ≤ MESH_VALUES → a ≡ b
one-spelling bytes a b s t few_a few_b = let e = sym (spelled-run bytes a s few_a) ∙ spelled-run bytes b t few_b in cc

-- the four clauses
module _ {M : Type 0} (bytes : List ℕ) (result : Result M MeshRefusal) (view : M → List Named) (answers : Answers OutOfMemory result view (run_from Magic (uncut bytes))) where
  pub found : IfOk result (λ m. Spells bytes (view m) × (total (view m) ≤ MESH_VALUES))
  found = go result (exact.found step finish Magic Fronts refl fronts_on stands_through OutOfMemory bytes result view answers)
    where
      go : (r : Result M MeshRefusal) → IfOk r
          (λ m. (q : State) × Fronts (words 1 bytes) q × (finish q (last_line 1 (words 1 bytes)) ≡ Ok (view m)))
          → IfOk r (λ m. Spells bytes (view m) × (total (view m) ≤ MESH_VALUES))
      go (Ok m) f = end_spells bytes (view m) (finish_is f.0 (last_line 1 (words 1 bytes)) (view m) (texts bytes) f.1 f.2)
      go (Err e) f = tt

  pub only : (es : List Named) → Spells bytes es → total es ≤ MESH_VALUES → IsGiven OutOfMemory result (λ m. view m ≡ es)
  only es s t = exact.only step finish Magic Fronts refl fronts_on stands_through OutOfMemory bytes result view answers (End es) es (spells_end bytes es s t) refl

  pub refused : IfErr result (λ e. (e ≡ OutOfMemory) ⊎ Refuses bytes e)
  refused = exact.refused step finish Magic Fronts refl fronts_on stands_through OutOfMemory bytes result view answers

  pub refuses : (e : MeshRefusal) → Refuses bytes e → IsRefused OutOfMemory result e
  refuses = exact.refuses step finish Magic Fronts refl fronts_on stands_through OutOfMemory bytes result view answers

-- What is written spells its owners.
use Rattle.std.proofs.Common.{◌≡◌, ℕ, ◌+◌, ◌^◌, ◌<◌, suc, List, [], ◌∷◌, ◌++◌, map, length, Option, Some, None, codes, refl, sym, ap, subst, ◌∙◌, arith, append_assoc, append-nil, get_or, drop}
use Rattle.std.specs.Prelude.{slice_get, slice_set, All}
use Rattle.std.proofs.lemmas.List.{drop_more}
use Rattle.std.proofs.lemmas.List.Concat.{flat_map-append}
use Rattle.std.specs.Fmt.{decimal}
use lib.ListN.{replicate}
use Rattle.op_num.specs.Spelling.{number_of}
use Rattle.op_num.specs.Cut.{Word, words, text_of}
use Rattle.op_num.specs.Lines.{IsToken, line_of, text_of_lines, AreTokens, AreLines, on_line, placed}
use Rattle.op_num.proofs.Public.{number_token}
use Rattle.mesh_decl.specs.declared.owners.Owners.{Owners}
use Rattle.mesh_decl.specs.Mesh.{MeshValue, set_count, set_size, set_name}
use Rattle.mesh_decl.specs.Owners.{AreOwners, owners_in, owner_of}
use Rattle.partition.specs.Spelling.{Table, Given, AreRanks, AreSets, Spells}
use Rattle.metis_text.specs.Written.{Line, set_lines, lines_from, partition_text, HaveNames}
use Rattle.lemmas.proofs.Lists.{get_or_any}

zero_more : (k : ℕ) → k ≡ 0 + k
zero_more k = omega arith

one_more : (k : ℕ) → k + 1 ≡ suc k
one_more k = omega arith

-- ---- lines and their tokens

-- the tokens of lines
abbrev tokens_in : List Line → List (List ℕ)
tokens_in [] = []
tokens_in (l ∷ ls) = l ++ tokens_in ls

text_of_line : (n : ℕ) (ts : List (List ℕ)) → map text_of (map (on_line n) ts) ≡ ts
text_of_line n [] = refl
text_of_line n (t ∷ ts) = ap (λ z. t ∷ z) (text_of_line n ts)

map_append : (xs ys : List Word) → map text_of (xs ++ ys) ≡ map text_of xs ++ map text_of ys
map_append [] ys = refl
map_append (x ∷ xs) ys = ap (λ z. text_of x ∷ z) (map_append xs ys)

placed_tokens : (n : ℕ) (ls : List Line) → map text_of (placed n ls) ≡ tokens_in ls
placed_tokens n [] = refl
placed_tokens n ([] ∷ ls) = placed_tokens n ls
placed_tokens n ((t ∷ ts) ∷ ls) =
    map_append (map (on_line n) (t ∷ ts)) (placed (n + 1) ls)
    ∙ ap (λ z. z ++ map text_of (placed (n + 1) ls)) (text_of_line n (t ∷ ts))
    ∙ ap (λ z. (t ∷ ts) ++ z) (placed_tokens (n + 1) ls)

tokens_append : (xs ys : List Line) → tokens_in (xs ++ ys) ≡ tokens_in xs ++ tokens_in ys
tokens_append [] ys = refl
tokens_append (x ∷ xs) ys = ap (λ z. x ++ z) (tokens_append xs ys) ∙ sym (append_assoc x (tokens_in xs) (tokens_in ys))

-- ---- one more set has its ranks

get_behind : (done rest : Table) (x : Option (List ℕ)) → slice_get (done ++ x ∷ rest) (length done) ≡ Some x
get_behind [] rest x = refl
get_behind (d ∷ done) rest x = get_behind done rest x

set_behind : (done rest : Table) (x y : Option (List ℕ)) → slice_set (done ++ x ∷ rest) (length done) y ≡ (done ++ y ∷ []) ++ rest
set_behind [] rest x y = refl
set_behind (d ∷ done) rest x y = ap (λ z. d ∷ z) (set_behind done rest x y)

length_more : (done : Table) (y : Option (List ℕ)) → length (done ++ y ∷ []) ≡ suc (length done)
length_more [] y = refl
length_more (d ∷ done) y = ap suc (length_more done y)

module _ (g : MeshValue) (ranks : ℕ) where
  -- the sets from s on have a rank below `ranks` for each of their elements
  abbrev pub Fit : ℕ → List (List ℕ) → Type 0
  Fit s [] = s ≡ set_count g
  Fit s (rs ∷ rest) = (s < set_count g) × (length rs ≡ set_size g s) × All (λ r. r < ranks) rs × Fit (suc s) rest

  -- the sets with their ranks
  abbrev given_from : ℕ → List (List ℕ) → List Given
  given_from s [] = []
  given_from s (rs ∷ rest) = (s, rs) ∷ given_from (suc s) rest

  module _ (counted : (n : ℕ) → n < 2 ^ 64 → number_of (decimal n) ≡ Some n) (few : ranks < 2 ^ 32) (sizes : (s : ℕ) → set_size g s < 2 ^ 32) (names : HaveNames g) where
    number_fits : (n : ℕ) → n < 2 ^ 32 → IsToken (decimal n)
    number_fits n low = number_token (decimal n) n (counted n (omega (arith, low)))

    ranks_are : (rs : List ℕ) → All (λ r. r < ranks) rs → AreRanks ranks (map decimal rs) rs
    ranks_are [] h = refl
    ranks_are (r ∷ rs) h =
        let low : r < ranks = h 0 0 (omega arith) in
        (r, rs, refl, counted r (omega (arith, low, few)), low, ranks_are rs (λ k d lt. h (suc k) d (omega (arith, lt))))

    ranks_tokens : (rs : List ℕ) → All (λ r. r < ranks) rs → AreTokens (map decimal rs)
    ranks_tokens [] h = tt
    ranks_tokens (r ∷ rs) h =
        let low : r < ranks = h 0 0 (omega arith) in
        (number_fits r (omega (arith, low, few)), ranks_tokens rs (λ k d lt. h (suc k) d (omega (arith, lt))))

    done_line : AreLines ((codes "done" ∷ []) ∷ [])
    done_line = (((omega arith, refl), tt), tt)

    lines_are : (s : ℕ) (owners : List (List ℕ)) → Fit s owners → AreLines (lines_from g s owners ++ (codes "done" ∷ []) ∷ [])
    lines_are s [] f = done_line
    lines_are s (rs ∷ rest) f =
        (((omega arith, refl), ((names s f.0).token, (number_fits (set_size g s) (sizes s), tt))), (ranks_tokens rs f.2, lines_are (suc s) rest f.3))

    abbrev set_tokens : ℕ → List ℕ → List (List ℕ)
    set_tokens s rs = codes "set" ∷ set_name g s ∷ decimal (set_size g s) ∷ map decimal rs

    tokens_of_set : (s : ℕ) (rs : List ℕ) → tokens_in (set_lines g s rs) ≡ set_tokens s rs
    tokens_of_set s rs = ap (λ z. codes "set" ∷ set_name g s ∷ decimal (set_size g s) ∷ z) (append-nil (map decimal rs))

    sets_are : (s : ℕ) (owners : List (List ℕ)) (done : Table) → length done ≡ s → Fit s owners
        → AreSets g ranks (tokens_in (lines_from g s owners)) (given_from s owners) (done ++ replicate (length owners) None) (done ++ map (λ rs. Some rs) owners)
    sets_are s [] done len f = (refl, refl)
    sets_are s (rs ∷ rest) done len f = (
      set_tokens s rs,
      tokens_in (lines_from g (suc s) rest),
      tokens_append (set_lines g s rs) (lines_from g (suc s) rest) ∙ ap (λ z. z ++ tokens_in (lines_from g (suc s) rest)) (tokens_of_set s rs),
      (set_name g s, decimal (set_size g s), map decimal rs, refl, (names s f.0).named, counted (set_size g s) (let low = sizes s in omega (arith, low)), f.1, ranks_are rs f.2),
      subst (λ k. slice_get (done ++ None ∷ replicate (length rest) None) k ≡ Some None) len (get_behind done (replicate (length rest) None) None),
      subst (λ before. AreSets g ranks (tokens_in (lines_from g (suc s) rest)) (given_from (suc s) rest) before (done ++ map (λ rs. Some rs) (rs ∷ rest)))
          (sym (subst (λ k. slice_set (done ++ None ∷ replicate (length rest) None) k (Some rs) ≡ (done ++ Some rs ∷ []) ++ replicate
          (length rest) None) len (set_behind done (replicate (length rest) None) None (Some rs))))
          (subst (λ after. AreSets g ranks (tokens_in (lines_from g (suc s) rest)) (given_from (suc s) rest) ((done ++ Some rs ∷ []) ++ replicate (length rest) None) after)
          (append_assoc done (Some rs ∷ []) (map (λ rs. Some rs) rest))
          (sets_are (suc s) rest (done ++ Some rs ∷ []) (length_more done (Some rs) ∙ ap suc len) f.3)),
    )

    module _ (cut : (line : ℕ) (lines : List (List (List ℕ))) → AreLines lines → words line (text_of_lines lines) ≡ placed line lines) where
      pub spelled : (owners : List (List ℕ)) → length owners ≡ set_count g → Fit 0 owners → Spells g ranks (partition_text g owners) owners
      spelled owners len f =
          let lines = (codes "op2part" ∷ codes "1" ∷ []) ∷ (lines_from g 0 owners ++ (codes "done" ∷ []) ∷ []) in
          let body = tokens_in (lines_from g 0 owners) in (
            codes "op2part" ∷ codes "1" ∷ body,
            ap (map text_of) (cut 1 lines (((omega arith, refl), ((omega arith, refl), tt)), lines_are 0 owners f)) ∙ placed_tokens 1 lines
                ∙ ap (λ z. codes "op2part" ∷ codes "1" ∷ z) (tokens_append (lines_from g 0 owners) ((codes "done" ∷ []) ∷ [])),
            (body, given_from 0 owners, refl, subst (λ n. AreSets g ranks body (given_from 0 owners) (replicate n None) (map (λ rs. Some rs) owners)) len (sets_are 0 owners [] refl f)),
          )

-- ---- owners

module _ (g : MeshValue) (o : Owners) (are : AreOwners g o) where
  -- the ranks of the set of this number
  ranks_below : (s : ℕ) (rs : List ℕ) → s < set_count g → rs ≡ owners_in o s → All (λ r. r < o.ranks) rs
  unfolding owner_of
  ranks_below s rs low e k d lt =
      let same : get_or rs k d ≡ get_or rs k 0 = get_or_any rs k d 0 lt in
      subst (λ n. n < o.ranks) (sym (same ∙ ap (λ l. get_or l k 0) e))
      (are.below s k low (let long = are.lengths s low in let len = ap length e in omega (arith, lt)))

  fit_from : (s : ℕ) (rest : List (List ℕ)) → s + length rest ≡ set_count g → ((k : ℕ) → k < length rest → get_or rest k [] ≡ owners_in o (s + k)) → Fit g o.ranks s rest
  fit_from s [] n same = omega (arith, n)
  fit_from s (rs ∷ rest) n same =
      let low : s < set_count g = omega (arith, n) in
      let here : rs ≡ owners_in o s = subst (λ k. rs ≡ owners_in o k) (omega arith) (same 0 (omega arith)) in (
        low,
        ap length here ∙ are.lengths s low,
        ranks_below s rs low here,
        fit_from (suc s) rest (omega (arith, n)) (λ k lt. subst (λ j. get_or rest k [] ≡ owners_in o j) (omega arith) (same (suc k) (omega (arith, lt)))),
      )

  pub fit : Fit g o.ranks 0 o.sets.items
  unfolding owners_in
  fit = fit_from 0 o.sets.items (let n = are.sets in omega (arith, n)) (λ k lt. subst (λ j. get_or o.sets.items k [] ≡ get_or o.sets.items j []) (zero_more k) refl)

-- ---- the text

-- the ranks of a set, out of the list of all
pub owners_at : (o : Owners) (s : ℕ) → owners_in o s ≡ get_or o.sets.items s []
unfolding owners_in
owners_at o s = refl

-- one more set is written
pub set_step : (g : MeshValue) (items : List (List ℕ)) (s : ℕ) (out : List ℕ) → s < length items
    → (out ++ text_of_lines (set_lines g s (get_or items s []))) ++ text_of_lines (lines_from g (s + 1) (drop (s + 1) items))
    ≡ out ++ text_of_lines (lines_from g s (drop s items))
set_step g items s out lt =
    append_assoc out (text_of_lines (set_lines g s (get_or items s []))) (text_of_lines (lines_from g (s + 1) (drop (s + 1) items)))
    ∙ ap (λ z. out ++ z) (sym (flat_map-append line_of (set_lines g s (get_or items s [])) (lines_from g (s + 1) (drop (s + 1) items))))
    ∙ ap (λ k. out ++ text_of_lines (set_lines g s (get_or items s []) ++ lines_from g k (drop (s + 1) items))) (one_more s)
    ∙ ap (λ z. out ++ text_of_lines (lines_from g s z)) (sym (drop_more items s [] lt))

pub whole : (g : MeshValue) (owners : List (List ℕ)) → (codes "op2part 1\n" ++ text_of_lines (lines_from g 0 owners)) ++ codes "done\n" ≡ partition_text g owners
whole g owners =
    append_assoc (codes "op2part 1\n") (text_of_lines (lines_from g 0 owners)) (codes "done\n")
    ∙ ap (λ xs. codes "op2part 1\n" ++ xs) (sym (flat_map-append line_of (lines_from g 0 owners) ((codes "done" ∷ []) ∷ [])))

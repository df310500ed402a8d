-- What is written spells its entries.
use Rattle.std.proofs.Common.{◌≡◌, ℕ, ℤ, ◌+◌, ◌^◌, ◌<◌, Bool, true, false, cond, inl, inr, nat_eq, List, [], ◌∷◌, ◌++◌, length, map, Option, Some, None, Ok, codes, FitsSigned, w32, refl, sym, ap, subst, ◌∙◌, arith, append_assoc, append-nil, length-append}
use lib.ListN.{replicate}
use Rattle.std.proofs.lemmas.Bool.{and_parts}
use Rattle.std.proofs.lemmas.Bool.Decides.{nat_tests}
use Rattle.std.proofs.lemmas.List.{length-replicate}
use Rattle.std.proofs.lemmas.List.Concat.{flat_map-append}
use Rattle.std.specs.Fmt.{decimal, signed_decimal}
use Rattle.std.specs.List.{list_all, flat_map}
use Rattle.std.specs.Ordering.{int_eq}
use Rattle.op_num.specs.Spelling.{number_of, integer_of, i32_judged}
use Rattle.op_num.specs.Cut.{words, text_of, texts, dark}
use Rattle.op_num.specs.Lines.{IsToken, line_of, text_of_lines, AreTokens, AreLines, placed}
use Rattle.op_num.proofs.Public.{concat, placed_texts, number_token, integer_token, concat_append, lines_append}
use Rattle.mesh_decl.specs.declared.text.entry.Form.{Form}
use Rattle.mesh_decl.specs.declared.text.entry.Form.TheVariants as form
use Rattle.mesh_decl.specs.declared.text.entry.Entry.{Entry}
use Rattle.mesh_decl.specs.declared.text.entry.Entry.TheVariants.{One, Many}
use Rattle.mesh_decl.specs.Token.{is_c_name, letter, part}
use Rattle.mesh_decl.specs.Piece.{IsValue, Gives}
use Rattle.mesh_decl.specs.Spelling.{Named, ArePieces, IsEntry, AreEntries, Spells, header}
use Rattle.mesh_decl.proofs.text.Grouping.{spread, spread_stretches}
use Rattle.mesh_decl.specs.Canonical.{onto_stretch, stretches, alone, groups, piece_text, pieces_of, lines_of, entry_lines, mesh_lines, canonical, entry_text, FitI32, HasI32, IsCounted, CanBeSpelled, HaveSpelling}
use Rattle.lemmas.proofs.Lists.{list_all_append, list_all_cons}

flat_text : (f : Form) (es : List Named) → text_of_lines (flat_map (entry_lines f) es) ≡ flat_map (entry_text f) es
flat_text f [] = refl
flat_text f (e ∷ es) = flat_map-append line_of (entry_lines f e) (flat_map (entry_lines f) es) ∙ ap (λ xs. entry_text f e ++ xs) (flat_text f es)

-- the canonical text, entry by entry
pub whole_text : (f : Form) (es : List Named) → line_of (header f) ++ flat_map (entry_text f) es ++ codes "done\n" ≡ canonical f es
whole_text f es =
    append_assoc (line_of (header f)) (flat_map (entry_text f) es) (codes "done\n")
    ∙ ap (λ xs. line_of (header f) ++ (xs ++ codes "done\n")) (sym (flat_text f es))
    ∙ ap (λ xs. line_of (header f) ++ xs) (sym (flat_map-append line_of (flat_map (entry_lines f) es) ((codes "done" ∷ []) ∷ [])))

-- one entry more is written
pub text_more : (f : Form) (head out out1 : List ℕ) (es : List Named) (e : Named) → out ≡ head ++ flat_map (entry_text f) es
    → out1 ≡ out ++ entry_text f e → out1 ≡ head ++ flat_map (entry_text f) (es ++ e ∷ [])
text_more f head out out1 es e h k =
    k ∙ ap (λ xs. xs ++ entry_text f e) h
    ∙ append_assoc head (flat_map (entry_text f) es) (entry_text f e)
    ∙ ap (λ xs. head ++ (flat_map (entry_text f) es ++ xs)) (sym (append-nil (entry_text f e)))
    ∙ ap (λ xs. head ++ xs) (sym (flat_map-append (entry_text f) es (e ∷ [])))

judged_some : (o : Option ℤ) (z : ℤ) → i32_judged o ≡ Ok z → (y : ℤ) × (o ≡ Some y)
judged_some None z h = cc
judged_some (Some y) z h = (y, refl)

value_token : (text : List ℕ) (z : ℤ) → IsValue text z → IsToken text
value_token text z v = let y = judged_some (integer_of text) z v in integer_token text y.0 y.1

part_dark : (b : ℕ) → part b ≡ true → dark b ≡ true
part_dark b h = grind (arith, nat_tests)

letter_dark : (b : ℕ) → letter b ≡ true → dark b ≡ true
letter_dark b h = grind (arith, nat_tests)

parts_dark : (bs : List ℕ) → list_all part bs ≡ true → list_all dark bs ≡ true
parts_dark [] h = refl
parts_dark (b ∷ bs) h = let k = and_parts (part b) (list_all part bs) h in list_all_cons dark b bs (part_dark b k.0) (parts_dark bs k.1)

name_token : (name : List ℕ) → is_c_name name ≡ true → IsToken name
name_token [] h = cc
name_token (b ∷ bs) h = let k = and_parts (letter b) (list_all part bs) h in (omega arith, list_all_cons dark b bs (letter_dark b k.0) (parts_dark bs k.1))

abbrev AreGroups : List (ℕ × ℤ) → Type 0
AreGroups [] = Unit {0}
AreGroups (g ∷ gs) = (0 < g.0) × FitsSigned w32 g.1 × AreGroups gs

groups_onto : (z : ℤ) (gs : List (ℕ × ℤ)) → FitsSigned w32 z → AreGroups gs → AreGroups (onto_stretch z gs)
groups_onto z [] f a = (omega arith, f, tt)
groups_onto z (g ∷ gs) f a = go (int_eq z g.1)
  where
    go : (t : Bool) → AreGroups (cond t ((g.0 + 1, g.1) ∷ gs) ((1, z) ∷ g ∷ gs))
    go true = (omega arith, a.1, a.2)
    go false = (omega arith, f, a)

groups_stretches : (zs : List ℤ) → FitI32 zs → AreGroups (stretches zs)
groups_stretches [] f = tt
groups_stretches (z ∷ zs) f = groups_onto z (stretches zs) f.0 (groups_stretches zs f.1)

-- what the crates below promise: printed numbers are read again, and written lines are cut again
module _ (printed : (z : ℤ) → FitsSigned w32 z → i32_judged (integer_of (signed_decimal z)) ≡ Ok z)
    (counted : (n : ℕ) → n < 2 ^ 64 → number_of (decimal n) ≡ Some n)
    (cut : (line : ℕ) (lines : List (List (List ℕ))) → AreLines lines → words line (text_of_lines lines) ≡ placed line lines) where
  pieces_one : (zs : List ℤ) → FitI32 zs → ArePieces form.One (map piece_text (map alone zs)) zs
  pieces_one [] f = refl
  pieces_one (z ∷ zs) f = (z ∷ [], zs, refl, (1, z, (refl, printed z f.0), refl), pieces_one zs f.1)

  -- a printed token gives its values
  piece_gives : (n : ℕ) (z : ℤ) → 0 < n → n < 2 ^ 31 → FitsSigned w32 z → Gives form.Two (piece_text (n, z)) n z
  piece_gives n z s f fits = go (nat_eq n 1) refl
    where
      go : (t : Bool) → nat_eq n 1 ≡ t → Gives form.Two (cond t (signed_decimal z) (decimal n ++ 42 ∷ signed_decimal z)) n z
      go true t = let one : n ≡ 1 = grind (arith, nat_tests) in inl (one, printed z fits)
      go false t = inr (record { times = decimal n; value = signed_decimal z; whole = refl; number = counted n (omega arith); some = s; fits = f; spells = printed z fits })

  pieces_two : (gs : List (ℕ × ℤ)) → AreGroups gs → length (spread gs) < 2 ^ 31 → ArePieces form.Two (map piece_text gs) (spread gs)
  pieces_two [] a h = refl
  pieces_two (g ∷ gs) a h =
      let len : length (spread (g ∷ gs)) ≡ g.0 + length (spread gs) = length-append (replicate g.0 g.1) (spread gs) ∙ ap (λ k. k + length (spread gs)) (length-replicate g.0 g.1) in
      let low : g.0 < 2 ^ 31 = omega arith in
      let rest : length (spread gs) < 2 ^ 31 = omega arith in
      (replicate g.0 g.1, spread gs, refl, (g.0, g.1, piece_gives g.0 g.1 a.0 low a.1, refl), pieces_two gs a.2 rest)

  pieces_spell : (f : Form) (zs : List ℤ) → FitI32 zs → length zs < 2 ^ 31 → ArePieces f (pieces_of f zs) zs
  unfolding groups
  pieces_spell form.One zs f h = pieces_one zs f
  pieces_spell form.Two zs f h =
      let e = spread_stretches zs in
      subst (λ ys. ArePieces form.Two (map piece_text (stretches zs)) ys) e (pieces_two (stretches zs) (groups_stretches zs f) (subst (λ ys. length ys < 2 ^ 31) (sym e) h))

  entry_spells : (f : Form) (name : List ℕ) (e : Entry) → IsCounted e → HasI32 e → IsEntry f (concat (lines_of f name e)) name e
  entry_spells f name (One z) k h = (signed_decimal z, refl, printed z h)
  entry_spells f name (Many zs) k h =
      (decimal (length zs), pieces_of f zs, ap (λ xs. codes "ints" ∷ name ∷ decimal (length zs) ∷ xs) (append-nil (pieces_of f zs)), counted (length zs) (omega arith), k, pieces_spell f zs h k)

  entries_spell : (f : Form) (before es : List Named) → HaveSpelling before es → AreEntries f before (concat (flat_map (entry_lines f) es)) es
  entries_spell f before [] h = refl
  entries_spell f before (e ∷ es) h = (
    concat (entry_lines f e),
    concat (flat_map (entry_lines f) es),
    concat_append (entry_lines f e) (flat_map (entry_lines f) es),
    entry_spells f e.0 e.1 h.1 h.2,
    h.0,
    entries_spell f (before ++ e ∷ []) es h.3,
  )

  -- every word is a token
  piece_token : (n : ℕ) (z : ℤ) → n < 2 ^ 31 → FitsSigned w32 z → IsToken (piece_text (n, z))
  piece_token n z h f = go (nat_eq n 1)
    where
      go : (t : Bool) → IsToken (cond t (signed_decimal z) (decimal n ++ 42 ∷ signed_decimal z))
      go true = value_token (signed_decimal z) z (printed z f)
      go false =
          let a = number_token (decimal n) n (counted n (omega arith)) in
          let b = value_token (signed_decimal z) z (printed z f) in
          (simp length-append (omega (arith, a.0)), list_all_append dark (decimal n) (42 ∷ signed_decimal z) a.1 b.1)

  pieces_tokens : (gs : List (ℕ × ℤ)) → AreGroups gs → length (spread gs) < 2 ^ 31 → AreTokens (map piece_text gs)
  pieces_tokens [] a h = tt
  pieces_tokens (g ∷ gs) a h =
      let len : length (spread (g ∷ gs)) ≡ g.0 + length (spread gs) = length-append (replicate g.0 g.1) (spread gs) ∙ ap (λ k. k + length (spread gs)) (length-replicate g.0 g.1) in
      (piece_token g.0 g.1 (omega arith) a.1, pieces_tokens gs a.2 (omega arith))

  one_tokens : (zs : List ℤ) → FitI32 zs → AreTokens (map piece_text (map alone zs))
  one_tokens [] f = tt
  one_tokens (z ∷ zs) f = (value_token (signed_decimal z) z (printed z f.0), one_tokens zs f.1)

  values_tokens : (f : Form) (zs : List ℤ) → FitI32 zs → length zs < 2 ^ 31 → AreTokens (pieces_of f zs)
  unfolding groups
  values_tokens form.One zs f h = one_tokens zs f
  values_tokens form.Two zs f h = pieces_tokens (stretches zs) (groups_stretches zs f) (subst (λ ys. length ys < 2 ^ 31) (sym (spread_stretches zs)) h)

  entry_tokens : (f : Form) (name : List ℕ) (e : Entry) → is_c_name name ≡ true → IsCounted e → HasI32 e → AreLines (lines_of f name e)
  entry_tokens f name (One z) n k h = (((omega arith, refl), (name_token name n, (value_token (signed_decimal z) z (printed z h), tt))), tt)
  entry_tokens f name (Many zs) n k h =
      (((omega arith, refl), (name_token name n, (number_token (decimal (length zs)) (length zs) (counted (length zs) (omega arith)), tt))), (values_tokens f zs h k, tt))

  entries_lines : (f : Form) (before es : List Named) → HaveSpelling before es → AreLines (flat_map (entry_lines f) es)
  entries_lines f before [] h = tt
  entries_lines f before (e ∷ es) h = lines_append (entry_lines f e) (flat_map (entry_lines f) es) (entry_tokens f e.0 e.1 h.0.0 h.1 h.2) (entries_lines f (before ++ e ∷ []) es h.3)

  header_tokens : (f : Form) → AreTokens (header f)
  header_tokens form.One = ((omega arith, refl), ((omega arith, refl), tt))
  header_tokens form.Two = ((omega arith, refl), ((omega arith, refl), tt))

  mesh_tokens : (f : Form) (es : List Named) → HaveSpelling [] es → AreLines (mesh_lines f es)
  mesh_tokens f es h = (header_tokens f, lines_append (flat_map (entry_lines f) es) ((codes "done" ∷ []) ∷ []) (entries_lines f [] es h) (((omega arith, refl), tt), tt))

  pub spelled : (f : Form) (es : List Named) → HaveSpelling [] es → Spells (canonical f es) es
  spelled f es h =
      let body = concat (flat_map (entry_lines f) es) in
      let tokens : texts (canonical f es) ≡ (header f ++ body) ++ codes "done" ∷ [] =
      ap (λ ws. map text_of ws) (cut 1 (mesh_lines f es) (mesh_tokens f es h)) ∙ placed_texts 1 (mesh_lines f es)
      ∙ ap (λ xs. header f ++ xs) (concat_append (flat_map (entry_lines f) es) ((codes "done" ∷ []) ∷ [])) in
      (f, header f ++ body, tokens, (body, refl, entries_spell f [] es h))

can_be : (f : Form) (before : List Named) (ts : List (List ℕ)) (es : List Named) → AreEntries f before ts es → CanBeSpelled es
can_be f before ts [] a = tt
can_be f before ts (e ∷ es) a = (a.4.0, counted_entry f a.0 e.0 e.1 a.3, can_be f (before ++ e ∷ []) a.1 es a.5)
  where
    counted_entry : (f : Form) (ts : List (List ℕ)) (name : List ℕ) (e : Entry) → IsEntry f ts name e → IsCounted e
    counted_entry f ts name (One z) i = tt
    counted_entry f ts name (Many zs) i = i.4

-- entries that are spelled can be spelled again
pub spelled_again : (bytes : List ℕ) (es : List Named) → Spells bytes es → CanBeSpelled es
spelled_again bytes es s = can_be s.0 [] s.3.0 es s.3.2

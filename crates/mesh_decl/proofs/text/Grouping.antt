-- The values of one token.
use Rattle.std.proofs.Common.{◌≡◌, ℕ, suc, ℤ, ◌+◌, ◌<◌, Bool, true, false, cond, List, [], ◌∷◌, ◌++◌, length, map, drop, get_or, nat_eq, refl, sym, ap, ◌∙◌, arith, append_assoc, FitsSigned, w32, zero, subst, add-one}
use lib.ListN.{replicate}
use Rattle.std.proofs.lemmas.Bool.Decides.{nat_tests, Decides-int_eq}
use Rattle.std.proofs.Math.Numerals.{one-add}
use Rattle.std.specs.List.{prefix_len, flat_map}
use Rattle.std.specs.Ordering.{int_eq}
use Rattle.op_num.specs.Lines.{line_of, separator}
use Rattle.mesh_decl.specs.declared.text.entry.Form.{Form}
use Rattle.mesh_decl.specs.declared.text.entry.Form.TheVariants as form
use Rattle.mesh_decl.specs.Canonical.{FitI32, onto_stretch, stretches, alone, groups, piece_text, pieces_of}

abbrev pub same_as : ℤ → List ℤ → ℕ
same_as z zs = prefix_len (λ y. int_eq y z) zs

unequal : (z y : ℤ) → int_eq z y ≡ false → int_eq y z ≡ false
unequal z y t = go (int_eq y z) refl
  where
    go : (b : Bool) → int_eq y z ≡ b → int_eq y z ≡ false
    go true b = let e : z ≡ y = sym ((Decides-int_eq y z).0 b) in let u : int_eq z y ≡ true = (Decides-int_eq z y).1 e in cc
    go false b = b

stretch_by : (t : Bool) (z y : ℤ) (ys : List ℤ) → int_eq z y ≡ t → stretches (y ∷ ys) ≡ (1 + same_as y ys, y)
    ∷ stretches (drop (same_as y ys) ys) → onto_stretch z (stretches (y ∷ ys)) ≡ (1 + same_as z (y ∷ ys), z)
    ∷ stretches (drop (same_as z (y ∷ ys)) (y ∷ ys))
stretch_by true z y ys t r =
    let e : y ≡ z = sym ((Decides-int_eq z y).0 t) in
    let b : int_eq y z ≡ true = (Decides-int_eq y z).1 e in
    let n : 1 + same_as y ys + 1 ≡ 1 + (1 + same_as y ys) = omega arith in
    ap (onto_stretch z) r
    ∙ ap (λ b. cond b ((1 + same_as y ys + 1, y) ∷ stretches (drop (same_as y ys) ys)) ((1, z) ∷ (1 + same_as y ys, y) ∷ stretches (drop (same_as y ys) ys))) t
    ∙ ap (λ k. (k, y) ∷ stretches (drop (same_as y ys) ys)) n
    ∙ ap (λ v. (1 + (1 + same_as v ys), v) ∷ stretches (drop (same_as v ys) ys)) e
    ∙ ap (λ k. (1 + (1 + same_as z ys), z) ∷ stretches (drop k (y ∷ ys))) (sym (one-add (same_as z ys)))
    ∙ ap (λ b. (1 + cond b (1 + same_as z ys) 0, z) ∷ stretches (drop (cond b (1 + same_as z ys) 0) (y ∷ ys))) (sym b)
stretch_by false z y ys t r =
    let b : int_eq y z ≡ false = unequal z y t in
    ap (onto_stretch z) r
    ∙ ap (λ b. cond b ((1 + same_as y ys + 1, y) ∷ stretches (drop (same_as y ys) ys)) ((1, z) ∷ (1 + same_as y ys, y) ∷ stretches (drop (same_as y ys) ys))) t
    ∙ ap (λ gs. (1, z) ∷ gs) (sym r)
    ∙ ap (λ b. (1 + cond b (1 + same_as z ys) 0, z) ∷ stretches (drop (cond b (1 + same_as z ys) 0) (y ∷ ys))) (sym b)

-- the first stretch, and the others
stretch_first : (z : ℤ) (zs : List ℤ) → stretches (z ∷ zs) ≡ (1 + same_as z zs, z) ∷ stretches (drop (same_as z zs) zs)
stretch_first z [] = refl
stretch_first z (y ∷ ys) = stretch_by (int_eq z y) z y ys refl (stretch_first y ys)

pub first_one : (zs ys : List ℤ) (z : ℤ) → zs ≡ z ∷ ys → groups form.One zs ≡ (1, z) ∷ groups form.One (drop 1 zs)
unfolding groups
first_one zs ys z e = rw e refl

two_first : (ys : List ℤ) (z : ℤ) → groups form.Two (z ∷ ys) ≡ (same_as z (z ∷ ys), z) ∷ groups form.Two (drop (same_as z (z ∷ ys)) (z ∷ ys))
unfolding groups
two_first ys z =
    let b : int_eq z z ≡ true = (Decides-int_eq z z).1 refl in
    stretch_first z ys
    ∙ ap (λ k. (1 + same_as z ys, z) ∷ stretches (drop k (z ∷ ys))) (sym (one-add (same_as z ys)))
    ∙ ap (λ b. (cond b (1 + same_as z ys) 0, z) ∷ stretches (drop (cond b (1 + same_as z ys) 0) (z ∷ ys))) (sym b)

pub first_two : (zs ys : List ℤ) (z : ℤ) (n : ℕ) → zs ≡ z ∷ ys → n ≡ same_as z zs → groups form.Two zs ≡ (n, z) ∷ groups form.Two (drop n zs)
first_two zs ys z n e l = rw (l, e) (two_first ys z)

-- what stands behind a token
pub behind_token : (f : Form) (rest : List ℤ) → separator (pieces_of f rest) ≡ cond (nat_eq (length rest) 0) 10 32
unfolding groups
behind_token form.One [] = refl
behind_token form.One (z ∷ zs) = let n : nat_eq (suc (length zs)) 0 ≡ false = grind (arith, nat_tests) in rw n refl
behind_token form.Two [] = refl
behind_token form.Two (z ∷ zs) = let n : nat_eq (suc (length zs)) 0 ≡ false = grind (arith, nat_tests) in rw (stretch_first z zs, n) refl

pub cons_of : (xs : List ℤ) (d : ℤ) → 0 < length xs → xs ≡ get_or xs 0 d ∷ drop 1 xs
cons_of [] d h = absurd (omega arith)
cons_of (x ∷ xs) d h = refl

pub no_line : (f : Form) (rest : List ℤ) → length rest < 1 → line_of (pieces_of f rest) ≡ []
unfolding groups
no_line form.One [] h = refl
no_line form.Two [] h = refl
no_line f (z ∷ zs) h = absurd (omega arith)

-- one token is written
pub turn : (f : Form) (rest back : List ℤ) (n : ℕ) (z : ℤ) (out out1 out2 : List ℕ) (b : Bool) → groups f rest ≡ (n, z) ∷ groups f back
    → out1 ≡ out ++ piece_text (n, z) → out2 ≡ out1 ++ cond b 10 32 ∷ [] → b ≡ nat_eq (length back) 0
    → out2 ++ line_of (pieces_of f back) ≡ out ++ line_of (pieces_of f rest)
turn f rest back n z out out1 out2 b g p s e =
    let line : line_of (pieces_of f rest) ≡ piece_text (n, z) ++ cond b 10 32 ∷ line_of (pieces_of f back) =
    ap (λ gs. line_of (map piece_text gs)) g
    ∙ ap (λ c. piece_text (n, z) ++ c ∷ line_of (pieces_of f back)) (behind_token f back ∙ ap (λ t. cond t 10 32) (sym e)) in
    ap (λ xs. xs ++ line_of (pieces_of f back)) s
    ∙ append_assoc out1 (cond b 10 32 ∷ []) (line_of (pieces_of f back))
    ∙ ap (λ xs. xs ++ cond b 10 32 ∷ line_of (pieces_of f back)) p
    ∙ append_assoc out (piece_text (n, z)) (cond b 10 32 ∷ line_of (pieces_of f back))
    ∙ ap (λ xs. out ++ xs) (sym line)

-- the values of stretches
abbrev pub spread : List (ℕ × ℤ) → List ℤ
spread gs = flat_map (λ g. replicate g.0 g.1) gs

spread_onto : (z : ℤ) (gs : List (ℕ × ℤ)) → spread (onto_stretch z gs) ≡ z ∷ spread gs
spread_onto z [] = refl
spread_onto z (g ∷ gs) = go (int_eq z g.1) refl
  where
    go : (t : Bool) → int_eq z g.1 ≡ t → spread (cond t ((g.0 + 1, g.1) ∷ gs) ((1, z) ∷ g ∷ gs)) ≡ z ∷ (replicate g.0 g.1 ++ spread gs)
    go true t = let e : g.1 ≡ z = sym ((Decides-int_eq z g.1).0 t) in
        ap (λ k. replicate k g.1 ++ spread gs) (add-one g.0) ∙ ap (λ y. y ∷ (replicate g.0 g.1 ++ spread gs)) e
    go false t = refl

pub spread_stretches : (zs : List ℤ) → spread (stretches zs) ≡ zs
spread_stretches [] = refl
spread_stretches (z ∷ zs) = spread_onto z (stretches zs) ∙ ap (λ ys. z ∷ ys) (spread_stretches zs)

spread_alone : (zs : List ℤ) → spread (map alone zs) ≡ zs
spread_alone [] = refl
spread_alone (z ∷ zs) = ap (λ ys. z ∷ ys) (spread_alone zs)

spread_groups : (f : Form) (zs : List ℤ) → spread (groups f zs) ≡ zs
unfolding groups
spread_groups form.One zs = spread_alone zs
spread_groups form.Two zs = spread_stretches zs

fit_replicate : (n : ℕ) (z : ℤ) (zs : List ℤ) → FitsSigned w32 z → FitI32 zs → FitI32 (replicate n z ++ zs)
fit_replicate zero z zs h a = a
fit_replicate (suc n) z zs h a = (h, fit_replicate n z zs h a)

-- where the value of a token fits, and those behind it, all fit
pub fit_more : (f : Form) (rest back : List ℤ) (n : ℕ) (z : ℤ) → groups f rest ≡ (n, z) ∷ groups f back → FitsSigned w32 z → FitI32 back → FitI32 rest
fit_more f rest back n z g h a =
    let whole : rest ≡ replicate n z ++ back = sym (spread_groups f rest) ∙ ap spread g ∙ ap (λ ys. replicate n z ++ ys) (spread_groups f back) in
    subst FitI32 (sym whole) (fit_replicate n z back h a)

pub fit_none : (zs : List ℤ) → length zs < 1 → FitI32 zs
fit_none [] h = tt
fit_none (z ∷ zs) h = absurd (omega arith)

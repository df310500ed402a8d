-- A state that was written is read.
use Rattle.std.proofs.Common.{◌≡◌, ℕ, ℤ, zero, suc, ◌+◌, ◌*◌, ◌<◌, ◌≤◌, refl, sym, ap, ap₂, subst, ◌∙◌, arith, List, [], ◌∷◌, ◌++◌, append_assoc, append-nil, length, length-take-le, length-drop, map, take, drop, get_or, suc-mul, Ok}
use Rattle.std.specs.Prelude.{codes, FitsSigned, All}
use Rattle.std.specs.Int.{w32}
use Rattle.std.specs.Fmt.{decimal, signed_decimal}
use Rattle.std.specs.List.{flat_map, range_with_len}
use Rattle.std.proofs.lemmas.List.{take-append-drop, length-map}
use Rattle.op_num.specs.Spelling.{integer_of, i32_judged}
use Rattle.op_num.specs.CutLines.{HasNoLf}
use Rattle.mesh_decl.specs.declared.decl.SetDecl.{SetDecl}
use Rattle.mesh_decl.specs.declared.decl.DatDecl.{DatDecl}
use Rattle.mesh_decl.specs.Mesh.{MeshValue, IsMesh, IsDatAt, dat_count, dat_values, set_size, dat_set, dat_dim, dat_name, set_name}
use Rattle.mesh_decl.specs.Printed.{rows, row_text, printed_dat}
use Rattle.bound_program.specs.Values.{BoundValue}
use Rattle.run_model.specs.Windows.{numbers}
use Rattle.checkpoint.specs.Cut.{StateValue, CanCut, HasShape, starts}
use Rattle.checkpoint.specs.StateText.{values_text, var_text, vars_text, dats_text, state_text}
use Rattle.checkpoint.specs.Reading.{mark, Awaited, Item, Exactly, Values, Done, var_line, awaited_var, awaited_vars, dat_line, awaited_dat, awaited_dats, awaited, IsLine, Spell, words_line, item_line, all, LineFits, AllFit}
use Rattle.checkpoint.specs.StateTextLaws.{HasPlainNames, WrittenStatesAreRead, SaysBehind}
use Rattle.checkpoint.proofs.state_texts.Judging.{all_append, fit_append}
use Rattle.checkpoint.proofs.state_texts.Words.{no_lf_nil, no_lf_cons, no_lf_append, decimal_no_lf}
use Rattle.checkpoint.proofs.state_texts.VarLines.{flat}
use Rattle.checkpoint.proofs.state_texts.DatLines.{lengths_by_number}
use Rattle.checkpoint.proofs.state_texts.NoMark.{split_at_fit}

-- what `printed_is_read` says
abbrev pub IntegersAreRead : Type 0
IntegersAreRead = (z : ℤ) → FitsSigned w32 z → i32_judged (integer_of (signed_decimal z)) ≡ Ok z

-- ---- values of 32 bits

abbrev pub Small : List ℤ → Type 0
Small [] = Unit {0}
Small (z ∷ zs) = FitsSigned w32 z × Small zs

small : (zs : List ℤ) → All (FitsSigned w32) zs → Small zs
small [] h = tt
small (z ∷ zs) h = (h zero z (omega arith), small zs (λ k d l. h (suc k) d (omega arith)))

small_parts : (xs ys : List ℤ) → Small (xs ++ ys) → Small xs × Small ys
small_parts [] ys h = (tt, h)
small_parts (x ∷ xs) ys h = let p = small_parts xs ys h.1 in ((h.0, p.0), p.1)

abbrev pub AllSmall : List (List ℤ) → Type 0
AllSmall [] = Unit {0}
AllSmall (z ∷ zs) = Small z × AllSmall zs

all_small : (zs : List (List ℤ)) → All (All (FitsSigned w32)) zs → AllSmall zs
all_small [] h = tt
all_small (z ∷ zs) h = (small z (h zero z (omega arith)), all_small zs (λ k d l. h (suc k) d (omega arith)))

-- ---- names

name_plain : {X : Type 0} (f : X → List ℕ) (xs : List X) (i : ℕ) → All (λ x. HasNoLf (f x)) xs → HasNoLf (get_or (map f xs) i [])
name_plain f [] i h = no_lf_nil
name_plain f (x ∷ xs) zero h = h zero x (omega arith)
name_plain f (x ∷ xs) (suc i) h = name_plain f xs i (λ k d l. h (suc k) d (omega arith))

dat_plain : (g : MeshValue) (d : ℕ) → HasPlainNames g → HasNoLf (dat_name g d)
unfolding dat_name
dat_plain g d h = name_plain (λ (e : DatDecl). e.name) g.dats d h.dats

set_plain : (g : MeshValue) (s : ℕ) → HasPlainNames g → HasNoLf (set_name g s)
unfolding set_name
set_plain g s h = name_plain (λ (e : SetDecl). e.name) g.sets s h.sets

space_no_lf : HasNoLf (codes " ")
space_no_lf = no_lf_cons 32 [] refl no_lf_nil

var_no_lf : HasNoLf (codes "var ")
var_no_lf = no_lf_cons 118 (codes "ar ") refl (no_lf_cons 97 (codes "r ") refl (no_lf_cons 114 (codes " ") refl space_no_lf))

colon_no_lf : HasNoLf (codes "dat: ")
colon_no_lf = no_lf_cons 100 (codes "at: ") refl (no_lf_cons 97 (codes "t: ") refl (no_lf_cons 116 (codes ": ") refl (no_lf_cons 58 (codes " ") refl space_no_lf)))

-- ---- lines

var_is_line : (n count : ℕ) → IsLine (var_line n count)
var_is_line n count =
    let front = codes "var " ++ (decimal n ++ (codes " " ++ decimal count)) in (
      front,
      no_lf_append (codes "var ") (decimal n ++ (codes " " ++ decimal count)) var_no_lf
          (no_lf_append (decimal n) (codes " " ++ decimal count) (decimal_no_lf n) (no_lf_append (codes " ") (decimal count) space_no_lf (decimal_no_lf count))),
      ap (λ (z : List ℕ). codes "var " ++ z) (sym (append_assoc (decimal n) (codes " " ++ decimal count) (10 ∷ []))),
    )

dat_is_line : (g : MeshValue) (d : ℕ) → HasPlainNames g → IsLine (dat_line g d)
dat_is_line g d h =
    let s = dat_set g d in
    let x = decimal (set_size g s) in
    let y = decimal (dat_dim g d) in
    let c = codes " " ++ y in
    let e = codes " " ++ (x ++ c) in
    let f = codes " " ++ (set_name g s ++ e) in (
      codes "dat: " ++ (dat_name g d ++ f),
      no_lf_append (codes "dat: ") (dat_name g d ++ f) colon_no_lf
          (no_lf_append (dat_name g d) f (dat_plain g d h) (no_lf_append (codes " ") (set_name g s ++ e) space_no_lf (no_lf_append (set_name g s) e (set_plain g s h)
          (no_lf_append (codes " ") (x ++ c) space_no_lf (no_lf_append x c (decimal_no_lf (set_size g s)) (no_lf_append (codes " ") y space_no_lf (decimal_no_lf (dat_dim g d)))))))),
      ap (λ (z : List ℕ). codes "dat: " ++ z)
          (ap (λ (z : List ℕ). dat_name g d ++ 32 ∷ z) (ap (λ (z : List ℕ). set_name g s ++ 32 ∷ z) (sym (append_assoc x c (10 ∷ []))) ∙ sym (append_assoc (set_name g s) e (10 ∷ [])))
          ∙ sym (append_assoc (dat_name g d) f (10 ∷ []))),
    )

module _ (read : IntegersAreRead) (b : BoundValue) (k : ℕ) where
  spelled : (zs : List ℤ) → Small zs → Spell (map signed_decimal zs) zs
  spelled [] h = tt
  spelled (z ∷ zs) h = (read z h.0, spelled zs h.1)

  values_written : (zs : List ℤ) → values_text zs ≡ words_line (map signed_decimal zs)
  values_written [] = refl
  values_written (z ∷ zs) = refl

  row_written : (zs : List ℤ) → 0 < length zs → row_text zs ≡ words_line (map signed_decimal zs)
  row_written [] l = absurd (omega arith)
  row_written (z ∷ zs) l = refl

  -- a text of lines that fit
  record IsText (xs : List Awaited) (text : List ℕ) (zs : List ℤ) : Type 0 where
    lines : List (List ℕ)
    whole : text ≡ all lines
    fit : AllFit b k xs lines zs

  text_none : IsText [] [] []
  text_none = record { lines = []; whole = refl; fit = refl }

  text_one : (x : Awaited) (line : List ℕ) (zs : List ℤ) → LineFits b k x line zs → IsText (x ∷ []) line zs
  text_one x line zs f = record { lines = line ∷ []; whole = sym (append-nil line); fit = (zs, [], sym (append-nil zs), f, refl) }

  text_both : (xs ys : List Awaited) (a c : List ℕ) (zs ws : List ℤ) → IsText xs a zs → IsText ys c ws → IsText (xs ++ ys) (a ++ c) (zs ++ ws)
  text_both xs ys a c zs ws p q = record {
    lines = p.lines ++ q.lines;
    whole = ap₂ (λ (z w : List ℕ). z ++ w) p.whole q.whole ∙ sym (all_append p.lines q.lines);
    fit = fit_append b k xs ys p.lines q.lines zs ws p.fit q.fit;
  }

  -- ---- variables

  var_parts : (n : ℕ) (zs : List ℤ) → var_text n zs ≡ var_line n (length zs) ++ values_text zs
  var_parts n zs = simp append_assoc

  var_written : (n count : ℕ) (zs : List ℤ) → Small zs → length zs ≡ count → IsText (awaited_var n count) (var_text n zs) zs
  var_written n count zs h e = record {
    lines = var_line n count ∷ values_text zs ∷ [];
    whole = var_parts n zs ∙ (ap (λ m. var_line n m ++ values_text zs) e ∙ ap (λ (z : List ℕ). var_line n count ++ z) (sym (append-nil (values_text zs))));
    fit = (
      [],
      zs,
      refl,
      (var_is_line n count, refl, refl),
      (zs, [], sym (append-nil zs), record { words = map signed_decimal zs; spell = spelled zs h; is = values_written zs; count = e }, refl),
    );
  }

  vars_written : (n : ℕ) (ys zs : List (List ℤ)) → map length zs ≡ map length ys → AllSmall zs → IsText (awaited_vars n ys) (vars_text n zs) (flat zs)
  vars_written n [] [] e h = text_none
  vars_written n [] (z ∷ zs) e h = absurd (let l : suc (length (map length zs)) ≡ 0 = ap length e in omega arith)
  vars_written n (a ∷ ys) [] e h = absurd (let l : 0 ≡ suc (length (map length ys)) = ap length e in omega arith)
  vars_written n (a ∷ ys) (z ∷ zs) e h =
      text_both (awaited_var n (length a)) (awaited_vars (suc n) ys) (var_text n z) (vars_text (suc n) zs) z (flat zs)
      (var_written n (length a) z h.0 (ap (λ l. get_or l 0 0) e)) (vars_written (suc n) ys zs (ap (drop 1) e) h.1)

  -- ---- dats

  rows_written : (dim a n : ℕ) (zs : List ℤ) → 0 < dim → length zs ≡ n * dim → Small zs → IsText (map (λ (e : ℕ). Values dim) (range_with_len a n)) (flat_map row_text (rows dim n zs)) zs
  rows_written dim a zero [] l e h = text_none
  rows_written dim a zero (z ∷ zs) l e h = absurd (let n : suc (length zs) ≡ zero * dim = e in omega arith)
  rows_written dim a (suc n) zs l e h =
      let front = take dim zs in
      let rest = drop dim zs in
      let whole : front ++ rest ≡ zs = take-append-drop dim zs in
      let s : suc n * dim ≡ n * dim + dim = suc-mul n dim in
      let long : length front ≡ dim = length-take-le dim zs (omega arith) in
      let more : length rest ≡ n * dim = (let m = length-drop dim zs in omega arith) in
      let p = small_parts front rest (subst Small (sym whole) h) in
      subst (IsText (Values dim ∷ map (λ (e : ℕ). Values dim) (range_with_len (a + 1) n)) (row_text front ++ flat_map row_text (rows dim n rest))) whole
      (text_both (Values dim ∷ []) (map (λ (e : ℕ). Values dim) (range_with_len (a + 1) n)) (row_text front) (flat_map row_text (rows dim n rest)) front rest
      (text_one (Values dim) (row_text front) front (record { words = map signed_decimal front; spell = spelled front p.0; is = row_written front (omega arith); count = long }))
      (rows_written dim (a + 1) n rest l more p.1))

  module _ (g : MeshValue) (plain : HasPlainNames g) (at : (d : ℕ) → d < dat_count g → IsDatAt g d) where
    dat_written : (d : ℕ) (zs : List ℤ) → d < dat_count g → length zs ≡ length (dat_values g d) → Small zs → IsText (awaited_dat g d) (printed_dat (codes "dat") g d zs) zs
    unfolding printed_dat
    dat_written d zs l e h =
        let i = at d l in
        let size = set_size g (dat_set g d) in
        text_both (Exactly (dat_line g d) ∷ []) (map (λ (e : ℕ). Values (dat_dim g d)) (numbers size)) (dat_line g d) (flat_map row_text (rows (dat_dim g d) size zs)) [] zs
        (text_one (Exactly (dat_line g d)) (dat_line g d) [] (dat_is_line g d plain, refl, refl))
        (rows_written (dat_dim g d) 0 size zs i.some (e ∙ i.length) h)

    dats_written : (d : ℕ) (zs : List (List ℤ)) → d + length zs ≤ dat_count g → map length zs ≡ map (λ e. length (dat_values g e)) (range_with_len d (length zs)) → AllSmall zs
        → IsText (flat_map (awaited_dat g) (range_with_len d (length zs))) (dats_text g d zs) (flat zs)
    dats_written d [] l e h = text_none
    dats_written d (z ∷ zs) l e h =
        let s : d + 1 ≡ suc d = omega arith in
        text_both (awaited_dat g d) (flat_map (awaited_dat g) (range_with_len (d + 1) (length zs))) (printed_dat (codes "dat") g d z) (dats_text g (suc d) zs) z (flat zs)
        (dat_written d z (omega arith) (ap (λ l. get_or l 0 0) e) h.0)
        (subst (λ m. IsText (flat_map (awaited_dat g) (range_with_len (d + 1) (length zs))) (dats_text g m zs) (flat zs)) s
        (dats_written (d + 1) zs (omega arith) (ap (drop 1) e) h.1))

  -- ---- all

  state_parts : (s : StateValue) → state_text b s ≡ mark ++ (item_line s.item ++ (vars_text 0 s.vars ++ (dats_text b.mesh 0 s.dats ++ codes "done\n")))
  state_parts s = simp append_assoc

  text_written : (s : StateValue) → s.item ≡ k → HasPlainNames b.mesh → ((d : ℕ) → d < dat_count b.mesh → IsDatAt b.mesh d) → CanCut b k → HasShape b s → AllSmall s.vars → AllSmall s.dats
      → IsText (awaited b) (item_line k ++ (vars_text 0 s.vars ++ (dats_text b.mesh 0 s.dats ++ codes "done\n"))) (flat s.vars ++ (flat s.dats ++ []))
  text_written s e plain at can shape v d =
      let many : length s.dats ≡ dat_count b.mesh = sym (length-map s.dats length) ∙ (ap length shape.dats ∙ length-map b.mesh.dats (λ (x : DatDecl). length x.values)) in
      let lengths : map length s.dats ≡ map (λ e. length (dat_values b.mesh e)) (range_with_len 0 (length s.dats)) =
      shape.dats ∙ (sym (lengths_by_number b.mesh) ∙ ap (λ n. map (λ e. length (dat_values b.mesh e)) (range_with_len 0 n)) (sym many)) in
      text_both (Item ∷ []) (awaited_vars 0 (starts b.vars) ++ (awaited_dats b.mesh ++ Done ∷ [])) (item_line k)
      (vars_text 0 s.vars ++ (dats_text b.mesh 0 s.dats ++ codes "done\n")) [] (flat s.vars ++ (flat s.dats ++ []))
      (text_one Item (item_line k) [] (record { can_cut = can; is = refl }, refl))
      (text_both (awaited_vars 0 (starts b.vars)) (awaited_dats b.mesh ++ Done ∷ []) (vars_text 0 s.vars) (dats_text b.mesh 0 s.dats ++ codes "done\n") (flat s.vars) (flat s.dats ++ [])
      (vars_written 0 (starts b.vars) s.vars shape.vars v)
      (text_both (awaited_dats b.mesh) (Done ∷ []) (dats_text b.mesh 0 s.dats) (codes "done\n") (flat s.dats) []
      (subst (λ n. IsText (flat_map (awaited_dat b.mesh) (range_with_len 0 n)) (dats_text b.mesh 0 s.dats) (flat s.dats)) many
      (dats_written b.mesh plain at 0 s.dats (omega arith) lengths d))
      (text_one Done (codes "done\n") [] (refl, refl))))

-- a state of such values
pub state_read : IntegersAreRead → (b : BoundValue) (o : List ℕ) (s : StateValue) → HasPlainNames b.mesh → ((d : ℕ) → d < dat_count b.mesh → IsDatAt b.mesh d) → CanCut b s.item → HasShape b s
    → AllSmall s.vars → AllSmall s.dats → SaysBehind b (o ++ state_text b s) o s
state_read read b o s plain at can shape v d =
    let t = text_written read b s.item s refl plain at can shape v d in
    let split = split_at_fit b s.item o t.lines (flat s.vars ++ (flat s.dats ++ [])) t.fit in
    let whole : o ++ state_text b s ≡ o ++ (mark ++ all t.lines) = ap (λ (z : List ℕ). o ++ z) (state_parts read b s.item s ∙ ap (λ (z : List ℕ). mark ++ z) t.whole) in
    record {
      says = record {
        before = o;
        lines = t.lines;
        split = record { whole = whole; last = λ x y e. split.last x y (sym whole ∙ e) };
        fit = subst (λ (z : List ℤ). AllFit b s.item (awaited b) t.lines (flat s.vars ++ z)) (append-nil (flat s.dats)) t.fit;
        shape = shape;
        can_cut = can;
      };
      there = refl;
    }

pub written_states_are_read : IntegersAreRead → ((g : MeshValue) → IsMesh g → (d : ℕ) → d < dat_count g → IsDatAt g d) → WrittenStatesAreRead
written_states_are_read read at b o s mesh plain can shape values =
    (state_read read b o s plain (at b.mesh mesh) can shape (all_small s.vars values.vars) (all_small s.dats values.dats)).says

-- A token that is taken stands behind those before it.
use Rattle.std.proofs.Common.{◌≡◌, ℕ, ℤ, ◌+◌, ◌-◌, ◌^◌, ◌<◌, ◌≤◌, Bool, true, false, cond, inl, inr, nat_eq, nat_lt, nat_le, List, [], ◌∷◌, ◌++◌, length, Option, Some, None, Result, Ok, Err, codes, refl, sym, ap, subst, ◌∙◌, arith, append_assoc, append-nil, length-append, zero-le}
use lib.ListN.{replicate}
use Rattle.std.specs.Str.{bytes_eq}
use Rattle.std.proofs.lemmas.Bool.Decides.{nat_tests}
use Rattle.std.proofs.lemmas.List.{length-replicate}
use Rattle.std.proofs.lemmas.List.Sums.{sum_by_push}
use Rattle.op_num.specs.Spelling.{number_of, integer_of, i32_judged}
use Rattle.op_num.specs.declared.refusals.NumRefusal.{NumRefusal}
use Rattle.op_num.specs.declared.refusals.NumRefusal.TheVariants.{NotDigits, TooLarge}
use Rattle.op_num.specs.Cut.{Word}
use Rattle.op_num.specs.Automaton.{onto}
use Rattle.op_num.proofs.Public.{onto_is}
use Rattle.mesh_decl.specs.declared.text.entry.Form.{Form}
use Rattle.mesh_decl.specs.declared.text.entry.Form.TheVariants as form
use Rattle.mesh_decl.specs.declared.text.entry.Entry.TheVariants.{One, Many}
use Rattle.mesh_decl.specs.declared.text.entry.MeshRefusal.{MeshRefusal}
use Rattle.mesh_decl.specs.declared.text.entry.MeshRefusal.TheVariants.{Header, Syntax, DuplicateEntry, WrongCount, NumberRange, Limit}
use Rattle.mesh_decl.specs.declared.text.entry.TheConstants.{MESH_VALUES}
use Rattle.mesh_decl.specs.declared.text.token.Keyword.{Keyword}
use Rattle.mesh_decl.specs.declared.text.token.Keyword.TheVariants as keyword
use Rattle.mesh_decl.specs.declared.text.piece.Piece.{Piece}
use Rattle.mesh_decl.specs.declared.text.piece.Piece.TheVariants.{Values, NoPiece, OutOfRange, NoTimes}
use Rattle.mesh_decl.specs.Token.{is_c_name, is_magic, version_of, keyword_of}
use Rattle.mesh_decl.specs.Piece.{IsPiece, piece_of}
use Rattle.mesh_decl.specs.Spelling.{Named, total, size_of, has_name, ArePieces, IsEntry, IsNew, AreEntries, AreMesh, header, digit_of}
use Rattle.mesh_decl.specs.Reading.{State, Magic, Version, Between, OneName, ManyName, OneValue, Count, Pieces, End, step, versioned, began, named, room_for, one_of, count_of, given, filled, AreSome, Stands}
use Rattle.mesh_decl.proofs.text.PieceExact.{piece_sound}
use Rattle.mesh_decl.proofs.text.Running.{step-version, step-between, step-one_name, step-many_name, step-one_value, step-count, step-pieces, step-end}
use Rattle.lemmas.proofs.Lists.{bytes_eq_same, with_one}
use Rattle.lemmas.proofs.Truth.{cond_cases, ok_else, ok_then}

-- one token more for an array
pieces_more : (f : Form) (ps : List (List ℕ)) (p : List ℕ) (zs ys : List ℤ) → ArePieces f ps zs → IsPiece f p ys → ArePieces f (ps ++ p ∷ []) (zs ++ ys)
pieces_more f [] p zs ys a i = (ys, [], (ap (λ xs. xs ++ ys) a ∙ sym (append-nil ys)), i, refl)
pieces_more f (q ∷ ps) p zs ys a i = (a.0, a.1 ++ ys, (ap (λ xs. xs ++ ys) a.2 ∙ append_assoc a.0 a.1 ys), a.3, pieces_more f ps p a.1 ys a.4 i)

-- one entry more
entries_more : (f : Form) (before : List Named) (ts front : List (List ℕ)) (es : List Named) (e : Named) → AreEntries f before ts es
    → IsEntry f front e.0 e.1 → IsNew e.0 (before ++ es) → AreEntries f before (ts ++ front) (es ++ e ∷ [])
entries_more f before ts front [] e a i n = (front, [], (ap (λ xs. xs ++ front) a ∙ sym (append-nil front)), i, subst (IsNew e.0) (append-nil before) n, refl)
entries_more f before ts front (x ∷ es) e a i n = (
  a.0,
  a.1 ++ front,
  (ap (λ xs. xs ++ front) a.2 ∙ append_assoc a.0 a.1 front),
  a.3,
  a.4,
  entries_more f (before ++ x ∷ []) a.1 front es e a.5 i (subst (IsNew e.0) (sym (append_assoc before (x ∷ []) es)) n),
)

mesh_more : (f : Form) (ts front : List (List ℕ)) (es : List Named) (e : Named) → AreMesh f ts es → IsEntry f front e.0 e.1 → IsNew e.0 es → AreMesh f (ts ++ front) (es ++ e ∷ [])
mesh_more f ts front es e m i n = (m.0 ++ front, (ap (λ xs. xs ++ front) m.1 ∙ append_assoc (header f) m.0 front), entries_more f [] m.0 front es e m.2 i n)

some_more : (f : Form) (ts front : List (List ℕ)) (es : List Named) (e : Named) → AreSome f ts es → IsEntry f front e.0 e.1 → IsNew e.0 es
    → total es + size_of e ≤ MESH_VALUES → AreSome f (ts ++ front) (es ++ e ∷ [])
some_more f ts front es e s i n r = (mesh_more f ts front es e s.0 i n, rw (sum_by_push size_of es e) r)

-- an array of which values are awaited, or none
filled_stands : (f : Form) (es : List Named) (name : List ℕ) (left : ℕ) (zs : List ℤ) (front : List (List ℕ)) (count : List ℕ)
    (pieces : List (List ℕ)) (ts : List (List ℕ)) → ts ≡ front ++ codes "ints" ∷ name ∷ count ∷ pieces → AreSome f front es → IsNew name es
    → number_of count ≡ Some (length zs + left) → length zs + left < 2 ^ 31 → total es + (length zs + left) ≤ MESH_VALUES
    → ArePieces f pieces zs → Stands ts (filled f es name left zs)
filled_stands f es name left zs front count pieces ts whole some new number fits room are = go (nat_eq left 0) refl
  where
    go : (t : Bool) → nat_eq left 0 ≡ t → Stands ts (cond t (Between f (es ++ (name, Many zs) ∷ [])) (Pieces f es name left zs))
    go true t =
        let none : left ≡ 0 = grind (arith, nat_tests) in
        let size : length zs + left ≡ length zs = omega arith in
        let entry : IsEntry f (codes "ints" ∷ name ∷ count ∷ pieces) name (Many zs) = (count, pieces, refl, number ∙ ap Some size, (omega arith), are) in
        subst (λ xs. AreSome f xs (es ++ (name, Many zs) ∷ [])) (sym whole) (some_more f front (codes "ints" ∷ name ∷ count ∷ pieces) es (name, Many zs) some entry new (omega arith))
    go false t = (front, count, pieces, whole, some, new, number, fits, room, (grind (arith, nat_tests)), are)

-- what a token said
version_is : (text : List ℕ) (f : Form) → version_of text ≡ Some f → text ≡ digit_of f
version_is text f h = elim (cond_cases (bytes_eq text (codes "1")) (Some form.One) (cond (bytes_eq text (codes "2")) (Some form.Two) None) (Some f) h) [
  | inl k ↦ let e : form.One ≡ f = cc in bytes_eq_same text (codes "1") k.0 ∙ ap digit_of e
  | inr k ↦ elim (cond_cases (bytes_eq text (codes "2")) (Some form.Two) None (Some f) k.1) [
    | inl m ↦ let e : form.Two ≡ f = cc in bytes_eq_same text (codes "2") m.0 ∙ ap digit_of e
    | inr m ↦ absurd (cc m.1)
  ]
]

abbrev pub word_of : Keyword → List ℕ
word_of keyword.Int = codes "int"
word_of keyword.Ints = codes "ints"
word_of keyword.Done = codes "done"

keyword_is : (text : List ℕ) (k : Keyword) → keyword_of text ≡ Some k → text ≡ word_of k
keyword_is text w h = elim (cond_cases (bytes_eq text (codes "int")) (Some keyword.Int)
    (cond (bytes_eq text (codes "ints")) (Some keyword.Ints) (cond (bytes_eq text (codes "done")) (Some keyword.Done) None)) (Some w) h) [
      | inl k ↦ let e : keyword.Int ≡ w = cc in bytes_eq_same text (codes "int") k.0 ∙ ap word_of e
      | inr k ↦ elim (cond_cases (bytes_eq text (codes "ints")) (Some keyword.Ints) (cond (bytes_eq text (codes "done")) (Some keyword.Done) None) (Some w) k.1) [
        | inl m ↦ let e : keyword.Ints ≡ w = cc in bytes_eq_same text (codes "ints") m.0 ∙ ap word_of e
        | inr m ↦ elim (cond_cases (bytes_eq text (codes "done")) (Some keyword.Done) None (Some w) m.1) [
          | inl n ↦ let e : keyword.Done ≡ w = cc in bytes_eq_same text (codes "done") n.0 ∙ ap word_of e
          | inr n ↦ absurd (cc n.1)
        ]
      ]
    ]

named_is : (es : List Named) (w : Word) (name : List ℕ) → named es w ≡ Ok name → (w.text ≡ name) × IsNew name es
unfolding named
named_is es w name h =
    let a = ok_then (is_c_name w.text) (cond (has_name w.text es) (Err (DuplicateEntry w.line)) (Ok w.text)) (Syntax w.line) name h in
    let b = ok_else (has_name w.text es) (Ok w.text) (DuplicateEntry w.line) name a.1 in
    let e : w.text ≡ name = cc (b.1) in
    (e, (subst (λ n. is_c_name n ≡ true) e a.0, subst (λ n. has_name n es ≡ false) e b.0))

room_is : {A : Type 0} (n m : ℕ) (x y : A) → room_for n m x ≡ Ok y → (n + m ≤ MESH_VALUES) × (x ≡ y)
room_is n m x y h = let a = ok_then (nat_le (n + m) MESH_VALUES) (Ok x) (Limit (n + m)) y h in let t = a.0 in let e = a.1 in (grind (arith, nat_tests), cc)

one_is : (so_far line : ℕ) (r : Result ℤ NumRefusal) (z : ℤ) → one_of so_far line r ≡ Ok z → (r ≡ Ok z) × (so_far + 1 ≤ MESH_VALUES)
unfolding one_of
one_is so_far line (Ok y) z h = let k = room_is so_far 1 y z h in (ap Ok k.1, k.0)
one_is so_far line (Err NotDigits) z h = cc
one_is so_far line (Err TooLarge) z h = cc

count_is : (so_far line : ℕ) (o : Option ℕ) (n : ℕ) → count_of so_far line o ≡ Ok n → (o ≡ Some n) × (n < 2 ^ 31) × (so_far + n ≤ MESH_VALUES)
unfolding count_of
count_is so_far line None n h = cc
count_is so_far line (Some m) n h =
    let a = ok_then (nat_lt m (2 ^ 31)) (room_for so_far m m) (NumberRange line) n h in
    let k = room_is so_far m m n a.1 in
    let e : m ≡ n = k.1 in
    let t = a.0 in
    let r : so_far + m ≤ MESH_VALUES = k.0 in
    let low : m < 2 ^ 31 = grind (arith, nat_tests) in
    (ap Some e, omega arith, subst (λ x. so_far + x ≤ MESH_VALUES) e r)

pair_is : (m n : ℕ) (y z : ℤ) → ◌≡◌ {A = Result (ℕ × ℤ) MeshRefusal} (Ok (m, y)) (Ok (n, z)) → (m ≡ n) × (y ≡ z)
pair_is m n y z h = let e : ◌≡◌ {A = ℕ × ℤ} (m, y) (n, z) = cc in (ap (λ (g : ℕ × ℤ). g.0) e, ap (λ (g : ℕ × ℤ). g.1) e)

given_is : (left line : ℕ) (p : Piece) (n : ℕ) (z : ℤ) → given left line p ≡ Ok (n, z) → (p ≡ Values n z) × (n ≤ left)
unfolding given
given_is left line NoPiece n z h = cc
given_is left line OutOfRange n z h = cc
given_is left line NoTimes n z h = cc
given_is left line (Values m y) n z h =
    let a = ok_then (nat_le m left) (Ok (m, y)) (WrongCount line) (n, z) h in
    let k = pair_is m n y z a.1 in
    let em : m ≡ n = k.0 in
    let ey : y ≡ z = k.1 in
    let t = a.0 in
    let le : m ≤ left = grind (arith, nat_tests) in
    (ap (λ k. Values k y) em ∙ ap (Values n) ey, omega arith)

versioned_is : (o : Option Form) (line : ℕ) (q : State) → versioned o line ≡ Ok q → (f : Form) × (o ≡ Some f) × (Between f [] ≡ q)
versioned_is None line q h = cc
versioned_is (Some f) line q h = (f, refl, cc)

-- what is awaited behind a word that may stand where an entry is awaited
abbrev begun : Form → List Named → Keyword → State
begun f es keyword.Int = OneName f es
begun f es keyword.Ints = ManyName f es
begun f es keyword.Done = End es

began_is : (f : Form) (es : List Named) (o : Option Keyword) (p : Piece) (line : ℕ) (q : State) → began f es o p line ≡ Ok q → (k : Keyword) × (o ≡ Some k) × (begun f es k ≡ q)
began_is f es (Some keyword.Int) p line q h = (keyword.Int, refl, cc)
began_is f es (Some keyword.Ints) p line q h = (keyword.Ints, refl, cc)
began_is f es (Some keyword.Done) p line q h = (keyword.Done, refl, cc)
began_is f es None p line q h = cc

begun_stands : (f : Form) (es : List Named) (k : Keyword) (ts : List (List ℕ)) (text : List ℕ) → text ≡ word_of k → AreSome f ts es → Stands (ts ++ text ∷ []) (begun f es k)
begun_stands f es keyword.Int ts text e s = (ts, ap (λ x. ts ++ x ∷ []) e, s)
begun_stands f es keyword.Ints ts text e s = (ts, ap (λ x. ts ++ x ∷ []) e, s)
begun_stands f es keyword.Done ts text e s = (f, ts, ap (λ x. ts ++ x ∷ []) e, s)

behind_magic : (q : State) (ts : List (List ℕ)) (w : Word) → ts ≡ [] → step Magic w ≡ Ok q → Stands (ts ++ w.text ∷ []) q
unfolding step
behind_magic q ts w s h =
    let a = ok_then (is_magic w.text) (Ok Version) (Header w.line) q h in
    let e : Version ≡ q = cc (a.1) in
    subst (Stands (ts ++ w.text ∷ [])) e (ap (λ xs. xs ++ w.text ∷ []) s ∙ ap (λ t. t ∷ []) (bytes_eq_same w.text (codes "op2mesh") a.0))

behind_version : (q : State) (ts : List (List ℕ)) (w : Word) → ts ≡ codes "op2mesh" ∷ [] → versioned (version_of w.text) w.line ≡ Ok q → Stands (ts ++ w.text ∷ []) q
behind_version q ts w s h =
    let v = versioned_is (version_of w.text) w.line q h in
    let e = ap (λ xs. xs ++ w.text ∷ []) s ∙ ap (λ t. codes "op2mesh" ∷ t ∷ []) (version_is w.text v.0 v.1) in
    let none : AreSome v.0 (ts ++ w.text ∷ []) [] = (([], e, refl), zero-le) in
    subst (Stands (ts ++ w.text ∷ [])) v.2 none

behind_between : (f : Form) (es : List Named) (q : State) (ts : List (List ℕ)) (w : Word) → AreSome f ts es
    → began f es (keyword_of w.text) (piece_of f w.text) w.line ≡ Ok q → Stands (ts ++ w.text ∷ []) q
behind_between f es q ts w s h =
    let b = began_is f es (keyword_of w.text) (piece_of f w.text) w.line q h in
    subst (Stands (ts ++ w.text ∷ [])) b.2 (begun_stands f es b.0 ts w.text (keyword_is w.text b.0 b.1) s)

behind_one_name : (f : Form) (es : List Named) (q : State) (ts : List (List ℕ)) (w : Word) → Stands ts (OneName f es) → onto (named es w) (OneValue f es) ≡ Ok q → Stands (ts ++ w.text ∷ []) q
behind_one_name f es q ts w s h =
    let o = onto_is (named es w) (OneValue f es) q h in
    let n = named_is es w o.0 o.1 in
    let stands : Stands (ts ++ w.text ∷ []) (OneValue f es o.0) = (s.0, with_one ts s.0 (codes "int" ∷ []) w.text o.0 s.1 n.0, s.2, n.1) in
    subst (Stands (ts ++ w.text ∷ [])) o.2 stands

behind_many_name : (f : Form) (es : List Named) (q : State) (ts : List (List ℕ)) (w : Word) → Stands ts (ManyName f es) → onto (named es w) (Count f es) ≡ Ok q → Stands (ts ++ w.text ∷ []) q
behind_many_name f es q ts w s h =
    let o = onto_is (named es w) (Count f es) q h in
    let n = named_is es w o.0 o.1 in
    let stands : Stands (ts ++ w.text ∷ []) (Count f es o.0) = (s.0, with_one ts s.0 (codes "ints" ∷ []) w.text o.0 s.1 n.0, s.2, n.1) in
    subst (Stands (ts ++ w.text ∷ [])) o.2 stands

behind_one_value : (f : Form) (es : List Named) (name : List ℕ) (q : State) (ts : List (List ℕ)) (w : Word) → Stands ts (OneValue f es name)
    → onto (one_of (total es) w.line (i32_judged (integer_of w.text))) (λ z. Between f (es ++ (name, One z) ∷ [])) ≡ Ok q
    → Stands (ts ++ w.text ∷ []) q
behind_one_value f es name q ts w s h =
    let o = onto_is (one_of (total es) w.line (i32_judged (integer_of w.text))) (λ z. Between f (es ++ (name, One z) ∷ [])) q h in
    let v = one_is (total es) w.line (i32_judged (integer_of w.text)) o.0 o.1 in
    let entry : IsEntry f (codes "int" ∷ name ∷ w.text ∷ []) name (One o.0) = (w.text, refl, v.0) in
    let stands : AreSome f (s.0 ++ codes "int" ∷ name ∷ w.text ∷ []) (es ++ (name, One o.0) ∷ []) = some_more f s.0 (codes "int" ∷ name ∷ w.text ∷ []) es (name, One o.0) s.2 entry s.3 v.1 in
    subst (Stands (ts ++ w.text ∷ [])) o.2 (subst (λ xs. AreSome f xs (es ++ (name, One o.0) ∷ [])) (sym (with_one ts s.0 (codes "int" ∷ name ∷ []) w.text w.text s.1 refl)) stands)

behind_count : (f : Form) (es : List Named) (name : List ℕ) (q : State) (ts : List (List ℕ)) (w : Word) → Stands ts (Count f es name)
    → onto (count_of (total es) w.line (number_of w.text)) (λ n. filled f es name n []) ≡ Ok q → Stands (ts ++ w.text ∷ []) q
behind_count f es name q ts w s h =
    let o = onto_is (count_of (total es) w.line (number_of w.text)) (λ n. filled f es name n []) q h in
    let v = count_is (total es) w.line (number_of w.text) o.0 o.1 in
    let low : o.0 < 2 ^ 31 = v.1 in
    let room : total es + o.0 ≤ MESH_VALUES = v.2 in
    let same : o.0 ≡ 0 + o.0 = omega arith in
    subst (Stands (ts ++ w.text ∷ [])) o.2
    (filled_stands f es name o.0 [] s.0 w.text [] (ts ++ w.text ∷ [])
    (with_one ts s.0 (codes "ints" ∷ name ∷ []) w.text w.text s.1 refl) s.2 s.3 (v.0 ∙ ap Some same) (omega arith) (omega arith) refl)

behind_pieces : (f : Form) (es : List Named) (name : List ℕ) (left : ℕ) (zs : List ℤ) (q : State) (ts : List (List ℕ)) (w : Word)
    → Stands ts (Pieces f es name left zs) → onto (given left w.line (piece_of f w.text))
    (λ g. filled f es name (left - g.0) (zs ++ replicate g.0 g.1)) ≡ Ok q → Stands (ts ++ w.text ∷ []) q
behind_pieces f es name left zs q ts w s h =
    let o = onto_is (given left w.line (piece_of f w.text)) (λ g. filled f es name (left - g.0) (zs ++ replicate g.0 g.1)) q h in
    let n = o.0.0 in
    let z = o.0.1 in
    let v = given_is left w.line (piece_of f w.text) n z o.1 in
    let p = piece_sound f w.text n z v.0 in
    let le : n ≤ left = v.1 in
    let len : length (zs ++ replicate n z) ≡ length zs + n = length-append zs (replicate n z) ∙ ap (λ k. length zs + k) (length-replicate n z) in
    let size : length (zs ++ replicate n z) + (left - n) ≡ length zs + left = omega arith in
    let piece : IsPiece f w.text (replicate n z) = (n, z, p.0, refl) in
    let fits : length zs + left < 2 ^ 31 = s.7 in
    let room : total es + (length zs + left) ≤ MESH_VALUES = s.8 in
    subst (Stands (ts ++ w.text ∷ [])) o.2
    (filled_stands f es name (left - n) (zs ++ replicate n z) s.0 s.1 (s.2 ++ w.text ∷ []) (ts ++ w.text ∷ [])
    (with_one ts s.0 (codes "ints" ∷ name ∷ s.1 ∷ s.2) w.text w.text s.3 refl) s.4 s.5 (s.6 ∙ ap Some (sym size)) (omega arith) (omega arith) (pieces_more f s.2 w.text zs (replicate n z) s.10 piece))

-- A token that may stand there stands behind those before it.
pub stands_on : (p q : State) (ts : List (List ℕ)) (w : Word) → Stands ts p → step p w ≡ Ok q → Stands (ts ++ w.text ∷ []) q
stands_on Magic q ts w s h = behind_magic q ts w s h
stands_on Version q ts w s h = behind_version q ts w s (sym (step-version w) ∙ h)
stands_on (Between f es) q ts w s h = behind_between f es q ts w s (sym (step-between f es w) ∙ h)
stands_on (OneName f es) q ts w s h = behind_one_name f es q ts w s (sym (step-one_name f es w) ∙ h)
stands_on (ManyName f es) q ts w s h = behind_many_name f es q ts w s (sym (step-many_name f es w) ∙ h)
stands_on (OneValue f es name) q ts w s h = behind_one_value f es name q ts w s (sym (step-one_value f es name w) ∙ h)
stands_on (Count f es name) q ts w s h = behind_count f es name q ts w s (sym (step-count f es name w) ∙ h)
stands_on (Pieces f es name left zs) q ts w s h = behind_pieces f es name left zs q ts w s (sym (step-pieces f es name left zs w) ∙ h)
stands_on (End es) q ts w s h = cc (step-end es w)

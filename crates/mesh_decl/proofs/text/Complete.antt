-- Tokens that can stand in front of a state lead to it.
use Rattle.std.proofs.Common.{◌≡◌, ℕ, ℤ, ◌+◌, ◌-◌, ◌^◌, ◌<◌, ◌≤◌, true, false, cond, nat_lt, nat_le, List, [], ◌∷◌, ◌++◌, length, map, Some, Ok, Err, codes, refl, sym, ap, subst, ◌∙◌, arith, append_assoc, append-nil, length-append}
use lib.ListN.{replicate}
use Rattle.std.proofs.lemmas.Bool.Decides.{nat_tests}
use Rattle.std.proofs.lemmas.List.{length-replicate}
use Rattle.std.proofs.lemmas.List.Sums.{sum_by_push, sum_by-append}
use Rattle.op_num.specs.Spelling.{number_of, integer_of, i32_judged}
use Rattle.op_num.specs.Cut.{Word, text_of}
use Rattle.op_num.specs.Automaton.{onto}
use Rattle.op_num.proofs.Public.{through, Goes, goes_nowhere, goes_join, goes_one, goes_on}
use Rattle.mesh_decl.specs.declared.text.entry.Form.{Form}
use Rattle.mesh_decl.specs.declared.text.entry.Form.TheVariants as form
use Rattle.mesh_decl.specs.declared.text.entry.Entry.{Entry}
use Rattle.mesh_decl.specs.declared.text.entry.Entry.TheVariants.{One, Many}
use Rattle.mesh_decl.specs.declared.text.entry.MeshRefusal.TheVariants.{WrongCount, NumberRange}
use Rattle.mesh_decl.specs.declared.text.entry.TheConstants.{MESH_VALUES}
use Rattle.mesh_decl.specs.Token.{is_c_name, version_of, keyword_of}
use Rattle.mesh_decl.specs.Piece.{IsValue, Gives, piece_of}
use Rattle.mesh_decl.specs.Spelling.{Named, total, size_of, has_name, ArePieces, IsEntry, IsNew, AreEntries, digit_of}
use Rattle.mesh_decl.specs.Reading.{State, finish, Magic, Version, Between, OneName, ManyName, OneValue, Count, Pieces, End, step, versioned, began, named, room_for, one_of, count_of, given, filled, AreSome, Stands}
use Rattle.mesh_decl.proofs.text.PieceExact.{piece_complete, gives_some}
use Rattle.mesh_decl.proofs.text.Running.{step-version, step-between, step-one_name, step-many_name, step-one_value, step-count, step-pieces, step-magic, filled-more}
use Rattle.lemmas.proofs.Lists.{bytes_eq_from}

new_named : (es : List Named) (w : Word) (name : List ℕ) → w.text ≡ name → IsNew name es → named es w ≡ Ok name
unfolding named
new_named es w name e n =
    let a : is_c_name w.text ≡ true = ap is_c_name e ∙ n.0 in
    let b : has_name w.text es ≡ false = ap (λ x. has_name x es) e ∙ n.1 in
    rw a (rw b (ap Ok e))

fits_room : {A : Type 0} (n m : ℕ) (x : A) → n + m ≤ MESH_VALUES → room_for n m x ≡ Ok x
fits_room n m x h = let t : nat_le (n + m) MESH_VALUES ≡ true = grind (arith, nat_tests) in rw t refl

fits_one : (so_far line : ℕ) (text : List ℕ) (z : ℤ) → IsValue text z → so_far + 1 ≤ MESH_VALUES → one_of so_far line (i32_judged (integer_of text)) ≡ Ok z
unfolding one_of
fits_one so_far line text z v h = ap (one_of so_far line) v ∙ fits_room so_far 1 z h

fits_count : (so_far line : ℕ) (text : List ℕ) (n : ℕ) → number_of text ≡ Some n → n < 2 ^ 31 → so_far + n ≤ MESH_VALUES → count_of so_far line (number_of text) ≡ Ok n
unfolding count_of
fits_count so_far line text n e f h =
    let t : nat_lt n (2 ^ 31) ≡ true = grind (arith, nat_tests) in
    ap (count_of so_far line) e ∙ ap (λ b. cond b (room_for so_far n n) (Err (NumberRange line))) t ∙ fits_room so_far n n h

fits_given : (left line : ℕ) (f : Form) (text : List ℕ) (n : ℕ) (z : ℤ) → Gives f text n z → n ≤ left → given left line (piece_of f text) ≡ Ok (n, z)
unfolding given
fits_given left line f text n z g h =
    let t : nat_le n left ≡ true = grind (arith, nat_tests) in
    ap (given left line) (piece_complete f text n z g) ∙ ap (λ b. cond b (Ok (n, z)) (Err (WrongCount line))) t

-- the values of an array
goes_pieces : (f : Form) (es : List Named) (name : List ℕ) (ps : List (List ℕ)) (left : ℕ) (zs ys : List ℤ) → ArePieces f ps ys
    → length ys ≤ left → Goes step finish (filled f es name left zs) ps (filled f es name (left - length ys) (zs ++ ys))
goes_pieces f es name [] left zs ys a h =
    let none : length ys ≡ 0 = ap length a in
    let same : left - length ys ≡ left = omega arith in
    subst (λ n. Goes step finish (filled f es name left zs) [] (filled f es name n (zs ++ ys))) (sym same)
    (subst (λ xs. Goes step finish (filled f es name left zs) [] (filled f es name left xs)) (sym (ap (λ xs. zs ++ xs) a ∙ append-nil zs)) (goes_nowhere step finish (filled f es name left zs)))
goes_pieces f es name (p ∷ ps) left zs ys a h =
    let n = a.3.0 in
    let z = a.3.1 in
    let some : 0 < n = gives_some f p n z a.3.2 in
    let size : length ys ≡ n + length a.1 = ap length a.2 ∙ length-append a.0 a.1 ∙ ap (λ k. k + length a.1) (ap length a.3.3 ∙ length-replicate n z) in
    let more : 0 < left = omega arith in
    let rest : left - n - length a.1 ≡ left - length ys = omega arith in
    let all : (zs ++ replicate n z) ++ a.1 ≡ zs ++ ys = append_assoc zs (replicate n z) a.1 ∙ ap (λ xs. zs ++ xs) (ap (λ xs. xs ++ a.1) (sym a.3.3) ∙ sym a.2) in
    let tail : Goes step finish (filled f es name (left - n) (zs ++ replicate n z)) ps
    (filled f es name (left - n - length a.1) ((zs ++ replicate n z) ++ a.1)) =
    goes_pieces f es name ps (left - n) (zs ++ replicate n z) a.1 a.4 (omega arith) in
    let tail2 = subst (λ k. Goes step finish (filled f es name (left - n) (zs ++ replicate n z)) ps (filled f es name k ((zs ++ replicate n z) ++ a.1))) rest tail in
    let tail3 = subst (λ xs. Goes step finish (filled f es name (left - n) (zs ++ replicate n z)) ps (filled f es name (left - length ys) xs)) all tail2 in
    goes_on step finish (filled f es name left zs) (filled f es name (left - n) (zs ++ replicate n z)) (filled f es name (left - length ys) (zs ++ ys)) p ps
    (λ w e. ap (λ q. step q w) (filled-more f es name left zs more) ∙ step-pieces f es name left zs w
    ∙ ap (λ r. onto r (λ g. filled f es name (left - g.0) (zs ++ replicate g.0 g.1))) (ap (λ t. given left w.line (piece_of f t)) e ∙ fits_given left w.line f p n z a.3.2 (omega arith)))
    tail3

-- the tokens that begin an array, and some of its values
goes_many : (f : Form) (es : List Named) (name count : List ℕ) (pieces : List (List ℕ)) (n : ℕ) (zs : List ℤ) → IsNew name es
    → number_of count ≡ Some n → n < 2 ^ 31 → total es + n ≤ MESH_VALUES → ArePieces f pieces zs → length zs ≤ n
    → Goes step finish (Between f es) (codes "ints" ∷ name ∷ count ∷ pieces) (filled f es name (n - length zs) zs)
goes_many f es name count pieces n zs new e fits room a le =
    goes_on step finish (Between f es) (ManyName f es) _ (codes "ints") (name ∷ count ∷ pieces) (λ w t. step-between f es w ∙ ap (λ x. began f es (keyword_of x) (piece_of f x) w.line) t)
    (goes_on step finish (ManyName f es) (Count f es name) _ name (count ∷ pieces) (λ w t. step-many_name f es w ∙ ap (λ r. onto r (Count f es)) (new_named es w name t new))
    (goes_on step finish (Count f es name) (filled f es name n []) _ count pieces
    (λ w t. step-count f es name w ∙ ap (λ r. onto r (λ k. filled f es name k []))
    (ap (λ x. count_of (total es) w.line (number_of x)) t ∙ fits_count (total es) w.line count n e fits room))
    (goes_pieces f es name pieces n [] zs a le)))

goes_one_entry : (f : Form) (es : List Named) (name value : List ℕ) (z : ℤ) → IsNew name es → IsValue value z → total es + 1 ≤ MESH_VALUES
    → Goes step finish (Between f es) (codes "int" ∷ name ∷ value ∷ []) (Between f (es ++ (name, One z) ∷ []))
goes_one_entry f es name value z new v room =
    goes_on step finish (Between f es) (OneName f es) _ (codes "int") (name ∷ value ∷ []) (λ w t. step-between f es w ∙ ap (λ x. began f es (keyword_of x) (piece_of f x) w.line) t)
    (goes_on step finish (OneName f es) (OneValue f es name) _ name (value ∷ []) (λ w t. step-one_name f es w ∙ ap (λ r. onto r (OneValue f es)) (new_named es w name t new))
    (goes_one step finish (OneValue f es name) (Between f (es ++ (name, One z) ∷ [])) value
    (λ w t. step-one_value f es name w ∙ ap (λ r. onto r (λ y. Between f (es ++ (name, One y) ∷ [])))
    (ap (λ x. one_of (total es) w.line (i32_judged (integer_of x))) t ∙ fits_one (total es) w.line value z v room))))

goes_entry : (f : Form) (es : List Named) (ts : List (List ℕ)) (name : List ℕ) (e : Entry) → IsEntry f ts name e → IsNew name es
    → total es + size_of (name, e) ≤ MESH_VALUES → Goes step finish (Between f es) ts (Between f (es ++ (name, e) ∷ []))
goes_entry f es ts name (One z) i new room = subst (λ xs. Goes step finish (Between f es) xs (Between f (es ++ (name, One z) ∷ []))) (sym i.1) (goes_one_entry f es name i.0 z new i.2 room)
goes_entry f es ts name (Many zs) i new room =
    let le : length zs ≤ length zs = omega arith in
    let none : length zs - length zs ≡ 0 = omega arith in
    let all : Goes step finish (Between f es) (codes "ints" ∷ name ∷ i.0 ∷ i.1) (filled f es name (length zs - length zs) zs) = goes_many f es name i.0 i.1 (length zs) zs new i.3 i.4 room i.5 le in
    subst (λ xs. Goes step finish (Between f es) xs (Between f (es ++ (name, Many zs) ∷ []))) (sym i.2)
    (subst (λ k. Goes step finish (Between f es) (codes "ints" ∷ name ∷ i.0 ∷ i.1) (filled f es name k zs)) none all)

goes_entries : (f : Form) (before : List Named) (ts : List (List ℕ)) (es : List Named) → AreEntries f before ts es
    → total (before ++ es) ≤ MESH_VALUES → Goes step finish (Between f before) ts (Between f (before ++ es))
goes_entries f before ts [] a room =
    subst (λ xs. Goes step finish (Between f before) xs (Between f (before ++ []))) (sym a)
    (subst (λ es. Goes step finish (Between f before) [] (Between f es)) (sym (append-nil before)) (goes_nowhere step finish (Between f before)))
goes_entries f before ts (e ∷ es) a room =
    let regroup : (before ++ e ∷ []) ++ es ≡ before ++ e ∷ es = append_assoc before (e ∷ []) es in
    let sum : total ((before ++ e ∷ []) ++ es) ≡ total (before ++ e ∷ []) + total es = sum_by-append size_of (before ++ e ∷ []) es in
    let push : total (before ++ e ∷ []) ≡ total before + size_of e = sum_by_push size_of before e in
    let all : total ((before ++ e ∷ []) ++ es) ≡ total (before ++ e ∷ es) = ap total regroup in
    let one : total before + size_of e ≤ MESH_VALUES = omega arith in
    let rest : Goes step finish (Between f (before ++ e ∷ [])) a.1 (Between f ((before ++ e ∷ []) ++ es)) =
    goes_entries f (before ++ e ∷ []) a.1 es a.5 (subst (λ xs. total xs ≤ MESH_VALUES) (sym regroup) room) in
    subst (λ xs. Goes step finish (Between f before) xs (Between f (before ++ e ∷ es))) (sym a.2)
    (goes_join step finish (Between f before) (Between f (before ++ e ∷ [])) (Between f (before ++ e ∷ es)) a.0 a.1
    (goes_entry f before a.0 e.0 e.1 a.3 a.4 one)
    (subst (λ xs. Goes step finish (Between f (before ++ e ∷ [])) a.1 (Between f xs)) regroup rest))

version_read : (f : Form) → version_of (digit_of f) ≡ Some f
version_read form.One = refl
version_read form.Two = refl

magic_on : (w : Word) → w.text ≡ codes "op2mesh" → step Magic w ≡ Ok Version
magic_on w e = step-magic w (bytes_eq_from w.text (codes "op2mesh") e)

goes_mesh : (f : Form) (ts : List (List ℕ)) (es : List Named) → AreSome f ts es → Goes step finish Magic ts (Between f es)
goes_mesh f ts es s =
    subst (λ xs. Goes step finish Magic xs (Between f es)) (sym s.0.1)
    (goes_on step finish Magic Version (Between f es) (codes "op2mesh") (digit_of f ∷ s.0.0) magic_on
    (goes_on step finish Version (Between f []) (Between f es) (digit_of f) s.0.0 (λ w t. step-version w ∙ ap (λ o. versioned o w.line) (ap version_of t ∙ version_read f))
    (goes_entries f [] s.0.0 es s.0.2 s.1)))

-- the tokens that stand at the front lead where they stand
stands_goes : (p : State) (ts : List (List ℕ)) → Stands ts p → Goes step finish Magic ts p
stands_goes Magic ts s = subst (λ xs. Goes step finish Magic xs Magic) (sym s) (goes_nowhere step finish Magic)
stands_goes Version ts s = subst (λ xs. Goes step finish Magic xs Version) (sym s) (goes_one step finish Magic Version (codes "op2mesh") magic_on)
stands_goes (Between f es) ts s = goes_mesh f ts es s
stands_goes (OneName f es) ts s =
    subst (λ xs. Goes step finish Magic xs (OneName f es)) (sym s.1)
    (goes_join step finish Magic (Between f es) (OneName f es) s.0 (codes "int" ∷ []) (goes_mesh f s.0 es s.2)
    (goes_one step finish (Between f es) (OneName f es) (codes "int") (λ w t. step-between f es w ∙ ap (λ x. began f es (keyword_of x) (piece_of f x) w.line) t)))
stands_goes (ManyName f es) ts s =
    subst (λ xs. Goes step finish Magic xs (ManyName f es)) (sym s.1)
    (goes_join step finish Magic (Between f es) (ManyName f es) s.0 (codes "ints" ∷ []) (goes_mesh f s.0 es s.2)
    (goes_one step finish (Between f es) (ManyName f es) (codes "ints") (λ w t. step-between f es w ∙ ap (λ x. began f es (keyword_of x) (piece_of f x) w.line) t)))
stands_goes (OneValue f es name) ts s =
    subst (λ xs. Goes step finish Magic xs (OneValue f es name)) (sym s.1)
    (goes_join step finish Magic (Between f es) (OneValue f es name) s.0 (codes "int" ∷ name ∷ []) (goes_mesh f s.0 es s.2)
    (goes_on step finish (Between f es) (OneName f es) (OneValue f es name) (codes "int") (name ∷ []) (λ w t. step-between f es w ∙ ap (λ x. began f es (keyword_of x) (piece_of f x) w.line) t)
    (goes_one step finish (OneName f es) (OneValue f es name) name (λ w t. step-one_name f es w ∙ ap (λ r. onto r (OneValue f es)) (new_named es w name t s.3)))))
stands_goes (Count f es name) ts s =
    subst (λ xs. Goes step finish Magic xs (Count f es name)) (sym s.1)
    (goes_join step finish Magic (Between f es) (Count f es name) s.0 (codes "ints" ∷ name ∷ []) (goes_mesh f s.0 es s.2)
    (goes_on step finish (Between f es) (ManyName f es) (Count f es name) (codes "ints") (name ∷ []) (λ w t. step-between f es w ∙ ap (λ x. began f es (keyword_of x) (piece_of f x) w.line) t)
    (goes_one step finish (ManyName f es) (Count f es name) name (λ w t. step-many_name f es w ∙ ap (λ r. onto r (Count f es)) (new_named es w name t s.3)))))
stands_goes (Pieces f es name left zs) ts s =
    let le : length zs ≤ length zs + left = omega arith in
    let some : 0 < left = s.9 in
    let rest : length zs + left - length zs ≡ left = omega arith in
    let many : Goes step finish (Between f es) (codes "ints" ∷ name ∷ s.1 ∷ s.2) (filled f es name (length zs + left - length zs) zs) =
    goes_many f es name s.1 s.2 (length zs + left) zs s.5 s.6 s.7 s.8 s.10 le in
    subst (λ xs. Goes step finish Magic xs (Pieces f es name left zs)) (sym s.3)
    (goes_join step finish Magic (Between f es) (Pieces f es name left zs) s.0 (codes "ints" ∷ name ∷ s.1 ∷ s.2) (goes_mesh f s.0 es s.4)
    (subst (λ q. Goes step finish (Between f es) (codes "ints" ∷ name ∷ s.1 ∷ s.2) q) (ap (λ k. filled f es name k zs) rest ∙ filled-more f es name left zs some) many))
stands_goes (End es) ts s =
    subst (λ xs. Goes step finish Magic xs (End es)) (sym s.2)
    (goes_join step finish Magic (Between s.0 es) (End es) s.1 (codes "done" ∷ []) (goes_mesh s.0 s.1 es s.3)
    (goes_one step finish (Between s.0 es) (End es) (codes "done") (λ w t. step-between s.0 es w ∙ ap (λ x. began s.0 es (keyword_of x) (piece_of s.0 x) w.line) t)))

pub stands_through : (p : State) (ws : List Word) → Stands (map text_of ws) p → through step finish Magic ws ≡ Ok p
stands_through p ws s = stands_goes p (map text_of ws) s ws refl

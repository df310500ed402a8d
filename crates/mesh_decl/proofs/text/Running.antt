-- One token of a mesh text after another.
use Rattle.std.proofs.Common.{◌≡◌, ℕ, ℤ, ◌+◌, ◌-◌, ◌<◌, ◌≤◌, ◌++◌, length, true, false, arith, ◌⊎◌, List, [], ◌∷◌, None, Ok, Err, refl, sym, ap, ◌∙◌, inr, nat_eq, length-append}
use Rattle.std.proofs.lemmas.List.{length-replicate}
use Rattle.std.proofs.lemmas.List.Sums.{sum_by_push}
use Rattle.std.proofs.lemmas.Bool.Decides.{nat_tests}
use Rattle.op_num.specs.Cut.{Word, Uncut, first_of}
use Rattle.op_num.specs.Automaton.{onto, IsNext}
use Rattle.op_num.proofs.Public.{onto_err, run_refused, run_end, run_onto, or_refused}
use Rattle.mesh_decl.specs.declared.text.entry.MeshRefusal.{MeshRefusal}
use lib.ListN.{replicate}
use Rattle.op_num.specs.Spelling.{number_of, integer_of, i32_judged}
use Rattle.mesh_decl.specs.declared.text.entry.Form.{Form}
use Rattle.mesh_decl.specs.declared.text.entry.Entry.TheVariants.{One}
use Rattle.mesh_decl.specs.declared.text.entry.MeshRefusal.TheVariants.{OutOfMemory, Header, Syntax, WrongCount}
use Rattle.mesh_decl.specs.Token.{is_magic, version_of, keyword_of}
use Rattle.mesh_decl.specs.Piece.{piece_of}
use Rattle.mesh_decl.specs.Spelling.{Named, total, size_of}
use Rattle.mesh_decl.specs.Reading.{Magic, Version, Between, OneName, ManyName, OneValue, Count, Pieces, End, step, finish, versioned, began, named, one_of, count_of, given, filled, run_from}

-- what each state says of a token
pub step-magic : (w : Word) → is_magic w.text ≡ true → step Magic w ≡ Ok Version
unfolding step
step-magic w h = rw h refl

pub step-no_magic : (w : Word) → is_magic w.text ≡ false → step Magic w ≡ Err (Header w.line)
unfolding step
step-no_magic w h = rw h refl

pub step-version : (w : Word) → step Version w ≡ versioned (version_of w.text) w.line
unfolding step
step-version w = refl

pub step-between : (f : Form) (es : List Named) (w : Word) → step (Between f es) w ≡ began f es (keyword_of w.text) (piece_of f w.text) w.line
unfolding step
step-between f es w = refl

pub step-one_name : (f : Form) (es : List Named) (w : Word) → step (OneName f es) w ≡ onto (named es w) (OneValue f es)
unfolding step
step-one_name f es w = refl

pub step-many_name : (f : Form) (es : List Named) (w : Word) → step (ManyName f es) w ≡ onto (named es w) (Count f es)
unfolding step
step-many_name f es w = refl

pub step-one_value : (f : Form) (es : List Named) (name : List ℕ) (w : Word)
    → step (OneValue f es name) w ≡ onto (one_of (total es) w.line (i32_judged (integer_of w.text)))
    (λ z. Between f (es ++ (name, One z) ∷ []))
unfolding step
step-one_value f es name w = refl

pub step-count : (f : Form) (es : List Named) (name : List ℕ) (w : Word) → step (Count f es name) w ≡ onto (count_of (total es) w.line (number_of w.text)) (λ n. filled f es name n [])
unfolding step
step-count f es name w = refl

pub step-pieces : (f : Form) (es : List Named) (name : List ℕ) (left : ℕ) (zs : List ℤ) (w : Word)
    → step (Pieces f es name left zs) w ≡ onto (given left w.line (piece_of f w.text))
    (λ g. filled f es name (left - g.0) (zs ++ replicate g.0 g.1))
unfolding step
step-pieces f es name left zs w = refl

pub step-end : (es : List Named) (w : Word) → step (End es) w ≡ Err (Syntax w.line)
unfolding step
step-end es w = refl

pub filled-more : (f : Form) (es : List Named) (name : List ℕ) (left : ℕ) (zs : List ℤ) → 0 < left → filled f es name left zs ≡ Pieces f es name left zs
filled-more f es name left zs h = let e : nat_eq left 0 ≡ false = grind (arith, nat_tests) in rw e refl

pub one_named : (f : Form) (es : List Named) (u v : Uncut) (w : Word) (name : List ℕ) → IsNext u v w → named es w ≡ Ok name → run_from (OneName f es) u ≡ run_from (OneValue f es name) v
one_named f es u v w name n h = run_onto step finish (OneName f es) u v w name (named es w) (OneValue f es) n (step-one_name f es w) h

pub one_unnamed : (f : Form) (es : List Named) (u v : Uncut) (w : Word) (e : MeshRefusal) → IsNext u v w
    → ((e ≡ OutOfMemory) ⊎ (named es w ≡ Err e)) → (e ≡ OutOfMemory) ⊎ (run_from (OneName f es) u ≡ Err e)
one_unnamed f es u v w e n h = or_refused step finish OutOfMemory (OneName f es) u v w e (named es w) (OneValue f es) n (step-one_name f es w) h

pub many_named : (f : Form) (es : List Named) (u v : Uncut) (w : Word) (name : List ℕ) → IsNext u v w → named es w ≡ Ok name → run_from (ManyName f es) u ≡ run_from (Count f es name) v
many_named f es u v w name n h = run_onto step finish (ManyName f es) u v w name (named es w) (Count f es) n (step-many_name f es w) h

pub many_unnamed : (f : Form) (es : List Named) (u v : Uncut) (w : Word) (e : MeshRefusal) → IsNext u v w
    → ((e ≡ OutOfMemory) ⊎ (named es w ≡ Err e)) → (e ≡ OutOfMemory) ⊎ (run_from (ManyName f es) u ≡ Err e)
many_unnamed f es u v w e n h = or_refused step finish OutOfMemory (ManyName f es) u v w e (named es w) (Count f es) n (step-many_name f es w) h

pub one_valued : (f : Form) (es : List Named) (name : List ℕ) (so_far : ℕ) (u v : Uncut) (w : Word) (z : ℤ) → so_far ≡ total es
    → IsNext u v w → Ok z ≡ one_of so_far w.line (i32_judged (integer_of w.text))
    → run_from (OneValue f es name) u ≡ run_from (Between f (es ++ (name, One z) ∷ [])) v
one_valued f es name so_far u v w z t n h = run_onto step finish (OneValue f es name) u v w z
    (one_of (total es) w.line (i32_judged (integer_of w.text))) (λ y. Between f (es ++ (name, One y) ∷ [])) n (step-one_value f es name w)
    (ap (λ k. one_of k w.line (i32_judged (integer_of w.text))) (sym t) ∙ sym h)

pub one_refused : (f : Form) (es : List Named) (name : List ℕ) (so_far : ℕ) (u v : Uncut) (w : Word) (e : MeshRefusal) → so_far ≡ total es
    → IsNext u v w → Err e ≡ one_of so_far w.line (i32_judged (integer_of w.text)) → (e ≡ OutOfMemory)
    ⊎ (run_from (OneValue f es name) u ≡ Err e)
one_refused f es name so_far u v w e t n h = or_refused step finish OutOfMemory (OneValue f es name) u v w e
    (one_of (total es) w.line (i32_judged (integer_of w.text))) (λ y. Between f (es ++ (name, One y) ∷ [])) n (step-one_value f es name w)
    (inr (ap (λ k. one_of k w.line (i32_judged (integer_of w.text))) (sym t) ∙ sym h))

pub counted : (f : Form) (es : List Named) (name : List ℕ) (so_far : ℕ) (u v : Uncut) (w : Word) (k : ℕ) → so_far ≡ total es → IsNext u v w
    → Ok k ≡ count_of so_far w.line (number_of w.text) → run_from (Count f es name) u ≡ run_from (filled f es name k []) v
counted f es name so_far u v w k t n h = run_onto step finish (Count f es name) u v w k (count_of (total es) w.line (number_of w.text))
    (λ y. filled f es name y []) n (step-count f es name w) (ap (λ x. count_of x w.line (number_of w.text)) (sym t) ∙ sym h)

pub count_refused : (f : Form) (es : List Named) (name : List ℕ) (so_far : ℕ) (u v : Uncut) (w : Word) (e : MeshRefusal) → so_far ≡ total es
    → IsNext u v w → Err e ≡ count_of so_far w.line (number_of w.text) → (e ≡ OutOfMemory) ⊎ (run_from (Count f es name) u ≡ Err e)
count_refused f es name so_far u v w e t n h = or_refused step finish OutOfMemory (Count f es name) u v w e
    (count_of (total es) w.line (number_of w.text)) (λ y. filled f es name y []) n (step-count f es name w)
    (inr (ap (λ x. count_of x w.line (number_of w.text)) (sym t) ∙ sym h))

pub piece_given : (f : Form) (es : List Named) (name : List ℕ) (left : ℕ) (zs ys : List ℤ) (u v : Uncut) (w : Word) (k : ℕ) (z : ℤ)
    → 0 < left → IsNext u v w → Ok (k, z) ≡ given left w.line (piece_of f w.text) → ys ≡ zs ++ replicate k z
    → run_from (filled f es name left zs) u ≡ run_from (filled f es name (left - k) ys) v
piece_given f es name left zs ys u v w k z more n h e =
    ap (λ p. run_from p u) (filled-more f es name left zs more)
    ∙ run_onto step finish (Pieces f es name left zs) u v w (k, z) (given left w.line (piece_of f w.text))
    (λ g. filled f es name (left - g.0) (zs ++ replicate g.0 g.1)) n (step-pieces f es name left zs w) (sym h)
    ∙ ap (λ xs. run_from (filled f es name (left - k) xs) v) (sym e)

pub piece_refused : (f : Form) (es : List Named) (name : List ℕ) (left : ℕ) (zs : List ℤ) (u v : Uncut) (w : Word) (e : MeshRefusal)
    → 0 < left → IsNext u v w → Err e ≡ given left w.line (piece_of f w.text) → run_from (filled f es name left zs) u ≡ Err e
piece_refused f es name left zs u v w e more n h =
    ap (λ p. run_from p u) (filled-more f es name left zs more)
    ∙ run_refused step finish (Pieces f es name left zs) u v w e n
    (step-pieces f es name left zs w ∙ onto_err (given left w.line (piece_of f w.text))
    (λ g. filled f es name (left - g.0) (zs ++ replicate g.0 g.1)) e (sym h))

pub piece_missing : (f : Form) (es : List Named) (name : List ℕ) (left : ℕ) (zs : List ℤ) (u : Uncut) (e : MeshRefusal) → 0 < left
    → first_of u ≡ None → e ≡ WrongCount u.last → run_from (filled f es name left zs) u ≡ Err e
piece_missing f es name left zs u e more n h =
    ap (λ p. run_from p u) (filled-more f es name left zs more) ∙ run_end step finish (Pieces f es name left zs) u (Err e) n (ap Err (sym h))

-- and how many there are
pub length-more : (zs ys : List ℤ) (n left count : ℕ) (z : ℤ) → ys ≡ zs ++ replicate n z → length zs + left ≡ count → n ≤ left → length ys + (left - n) ≡ count
length-more zs ys n left count z e c m =
    let size : length ys ≡ length zs + n = ap length e ∙ length-append zs (replicate n z) ∙ ap (λ k. length zs + k) (length-replicate n z) in
    omega arith

pub run_done : (es : List Named) (u : Uncut) → first_of u ≡ None → run_from (End es) u ≡ Ok es
run_done es u n = run_end step finish (End es) u (Ok es) n refl

pub total-more : (es : List Named) (e : Named) → total (es ++ e ∷ []) ≡ total es + size_of e
total-more es e = sum_by_push size_of es e

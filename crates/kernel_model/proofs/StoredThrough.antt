-- Cells that are reached only by arguments through which a kernel's text stores nothing stay.
use Rattle.std.proofs.Common.{◌≡◌, ℕ, zero, suc, ℤ, pos, ◌+◌, ◌-◌, ◌<◌, List, true, false, set, refl, replicate}
use Rattle.std.specs.Prelude.{slice_index_or}
use Rattle.std.proofs.lemmas.Bool.{eq-eqb, or_left, or_right}
use Rattle.c_tree.specs.declared.lexer.tokens.Pos.{Pos}
use Rattle.c_tree.specs.declared.declarations.AssignOp.TheVariants as assign
use Rattle.kernel_model.specs.declared.types.expressions.ElementForm.TheVariants as form
use Rattle.kernel_model.specs.declared.types.expressions.RExpr.TheVariants.{Number, Arg'}
use Rattle.kernel_model.specs.declared.types.statements.RStmt.{RStmt, Block', Declare, SetScalar, SetLocal, SetArg, If', For', Row_of-RStmt, end_of-RStmt, more_of-RStmt}
use Rattle.kernel_model.specs.Numbers.{is_zero}
use Rattle.kernel_model.specs.Meaning.{Store, Target, target_at, value_of, Outcome, stored, turns, meaning, meaning_of_all, read_arg, store_arg}
use Rattle.kernel_model.specs.StoredThrough.{stores_through, row_stores_through, UnstoredStay}
use Rattle.kernel_model.proofs.Reached.{OnEnd, on_end_value, on_end_index, on_end_then, on_end_cond, SameCell, cell_kept, cell_after, same_at_first}
use Rattle.lemmas.proofs.Truth.{not_both}

module _ (ts : List Target) (consts : List ℤ) (P : Store → Type 0) (may : ℕ → Type 0) (keep : (a i : ℕ) (v : ℤ) (s : Store) → may a → i < (target_at ts a).count → P s → P (store_arg ts s a i v)) where
  turns_keep : (body : Store → List ℤ → Outcome) (k : ℕ) → ((s : Store) (ls : List ℤ) → P s → OnEnd P (body s ls)) → (i n : ℕ) (s : Store) (ls : List ℤ) → P s → OnEnd P (turns body k i n s ls)
  turns_keep body k hb i zero s ls p = p
  turns_keep body k hb i (suc n) s ls p =
      on_end_then P (body s (set ls k (pos i))) (turns body k (suc i) n) (hb s (set ls k (pos i)) p) (λ s' ls' q. turns_keep body k hb (suc i) n s' ls' q)

  mutual
    stmt_keeps : (st : RStmt) → ((a : ℕ) → stores_through a st ≡ true → may a) → (s : Store) (ls : List ℤ) → P s → OnEnd P (meaning ts consts st s ls)
    stmt_keeps (Block' shape all) h s ls p = row_keeps all h s ls p
    stmt_keeps (Declare from count) h s ls p = p
    stmt_keeps (SetScalar k op opat e) h s ls p =
        on_end_value P s ls (value_of ts consts e s ls) _ p (λ v. on_end_value P s ls (stored op opat (slice_index_or ls k (pos 0)) v) _ p (λ r. p))
    stmt_keeps (SetLocal from count form ix at op opat e) h s ls p =
        on_end_value P s ls (value_of ts consts ix s ls) _ p
        (λ z. on_end_index P s ls count at z _ p
        (λ i lt. on_end_value P s ls (value_of ts consts e s ls) _ p
        (λ v. on_end_value P s ls (stored op opat (slice_index_or ls (from + i) (pos 0)) v) _ p (λ r. p))))
    stmt_keeps (SetArg a form ix at op opat e) h s ls p =
        on_end_value P s ls (value_of ts consts ix s ls) _ p
        (λ z. on_end_index P s ls (target_at ts a).count at z _ p
        (λ i lt. on_end_value P s ls (value_of ts consts e s ls) _ p
        (λ v. on_end_value P s ls (stored op opat (read_arg ts s a i) v) _ p (λ r. keep a i r s (h a (eq-eqb a a refl)) lt p))))
    stmt_keeps (If' e q a r b) h s ls p =
        on_end_value P s ls (value_of ts consts e s ls) _ p
        (λ x. on_end_cond P (is_zero x) _ _ (stmt_keeps b (λ c g. h c (or_right (stores_through c a) (stores_through c b) g)) s ls p)
        (stmt_keeps a (λ c g. h c (or_left (stores_through c a) (stores_through c b) g)) s ls p))
    stmt_keeps (For' k first past q body) h s ls p =
        turns_keep (meaning ts consts body) k (λ s' ls' p'. stmt_keeps body h s' ls' p') first (past - first) s ls p

    row_keeps : {m : _} → (all : Row_of-RStmt m) → ((a : ℕ) → row_stores_through a all ≡ true → may a) → (s : Store) (ls : List ℤ) → P s → OnEnd P (meaning_of_all ts consts all s ls)
    row_keeps end_of-RStmt h s ls p = p
    row_keeps (more_of-RStmt first rest) h s ls p =
        on_end_then P (meaning ts consts first s ls) (meaning_of_all ts consts rest)
        (stmt_keeps first (λ c g. h c (or_left (stores_through c first) (row_stores_through c rest) g)) s ls p)
        (λ s' ls' q. row_keeps rest (λ c g. h c (or_right (stores_through c first) (row_stores_through c rest) g)) s' ls' q)

pub unstored_stay : UnstoredStay
unstored_stay k ts consts s x j fits unstored =
    cell_after s x j (meaning ts consts k.body.statement s (replicate k.scratch (pos 0)))
    (stmt_keeps ts consts (SameCell s x j) (λ a. stores_through a k.body.statement ≡ true)
    (λ a i v t may lt h. cell_kept ts s t x j a i v fits lt
    (λ e f. not_both (stores_through a k.body.statement) may (unstored a i lt e f)) h) k.body.statement (λ a e. e) s
    (replicate k.scratch (pos 0)) (same_at_first s x j))

-- ---- examples

-- if (a[0]) b[0] = 2; stores through b, its second parameter, and not through a
stores_on_one_branch : (p q r : _) (at : Pos) → stores_through 1
    (If' (Arg' 0 form.Index p (Number (pos 0)) at) q (SetArg 1 form.Index (Number (pos 0)) at assign.Set at (Number (pos 2))) r
    (Declare 0 0)) ≡ true
stores_on_one_branch p q r at = refl

reads_alone : (p q r : _) (at : Pos) → stores_through 0
    (If' (Arg' 0 form.Index p (Number (pos 0)) at) q (SetArg 1 form.Index (Number (pos 0)) at assign.Set at (Number (pos 2))) r
    (Declare 0 0)) ≡ false
reads_alone p q r at = refl

-- Two runs over copies of the cells that the arguments reach end alike.
use Rattle.std.proofs.Common.{◌≡◌, ℕ, zero, suc, ℤ, pos, negsuc, ◌+◌, ◌-◌, ◌<◌, List, set, Result, Ok, Err, Bool, true, false, cond, refl, sym, ap, ◌∙◌, subst, replicate}
use Rattle.std.specs.Prelude.{nat_lt, slice_index_or}
use Rattle.std.proofs.lemmas.Bool.{ltb-true}
use Rattle.c_tree.specs.declared.lexer.tokens.Pos.{Pos}
use Rattle.op_num.specs.declared.refusals.Fault.TheVariants.{Index}
use Rattle.kernel_model.specs.declared.types.faults.KernelFault.{KernelFault}
use Rattle.kernel_model.specs.declared.types.expressions.RExpr.{RExpr}
use Rattle.kernel_model.specs.declared.types.expressions.RExpr.TheVariants.{Number, Scalar, Constant, Arg', Local', Const', Unary', Binary', Choice', Paren', Extremum', Absolute'}
use Rattle.kernel_model.specs.declared.types.statements.RStmt.{RStmt, Block', Declare, SetScalar, SetLocal, SetArg, If', For', Row_of-RStmt, end_of-RStmt, more_of-RStmt}
use Rattle.kernel_model.specs.Numbers.{Value, fault, truth, is_zero, not, is_settled, apply, apply_unary, extremum, magnitude}
use Rattle.kernel_model.specs.Meaning.{Store, Target, target_at, read_arg, store_arg, and_then, index_in, value_of, Outcome, Done, Faulted, then_do, with_value, stored, turns, meaning, meaning_of_all, without_locals}
use Rattle.kernel_model.specs.Independence.{same_cell, Fits, IsCopy, SameEnd, store_after, Transport}
use Rattle.kernel_model.proofs.Stores.{read_arg-store_arg, length-with_cell, length-array_with_cell}
use Rattle.kernel_model.proofs.Static.{index_ok}

fits_kept : (rs : List Target) (s : Store) (a i : ℕ) (v : ℤ) → i < (target_at rs a).count → Fits rs s → Fits rs (store_arg rs s a i v)
fits_kept rs s a i v lt h = record {
  arrays = λ b j l. let e = length-with_cell s (target_at rs a).array ((target_at rs a).from + i) v in subst (λ n. (target_at rs b).array < n) (sym e) (h.arrays b j l);
  cells = λ b j l. let e = length-array_with_cell s (target_at rs a).array ((target_at rs a).from + i) (target_at rs b).array v
      (h.arrays a i lt) in subst (λ n. (target_at rs b).from + j < n) (sym e) (h.cells b j l);
}

module _ (consts : List ℤ) (ts us : List Target) (counts : (a : ℕ) → (target_at ts a).count ≡ (target_at us a).count)
    (aliases : (a i b j : ℕ) → i < (target_at ts a).count → j < (target_at ts b).count → same_cell ts a i b j ≡ same_cell us a i b j) where
  record Copied (s t : Store) : Type 0 where
    fits_s : Fits ts s
    fits_t : Fits us t
    cells : (a i : ℕ) → i < (target_at ts a).count → read_arg ts s a i ≡ read_arg us t a i

  copied_kept : (s t : Store) (a i : ℕ) (v : ℤ) → i < (target_at ts a).count → Copied s t → Copied (store_arg ts s a i v) (store_arg us t a i v)
  copied_kept s t a i v lt h = record {
    fits_s = fits_kept ts s a i v lt h.fits_s;
    fits_t = fits_kept us t a i v lu h.fits_t;
    cells = same;
  }
    where
      lu : i < (target_at us a).count
      lu = subst (λ c. i < c) (counts a) lt

      same : (b j : ℕ) → j < (target_at ts b).count → read_arg ts (store_arg ts s a i v) b j ≡ read_arg us (store_arg us t a i v) b j
      same b j l =
          read_arg-store_arg ts s a i b j v (h.fits_s.arrays a i lt) (h.fits_s.cells a i lt)
          ∙ ap (λ c. cond c v (read_arg ts s b j)) (aliases a i b j lt l)
          ∙ ap (λ r. cond (same_cell us a i b j) v r) (h.cells b j l)
          ∙ sym (read_arg-store_arg us t a i b j v (h.fits_t.arrays a i lu) (h.fits_t.cells a i lu))

  -- ---- expressions

  element_copied : (r : Value) (a : ℕ) (at : Pos) (s t : Store) → Copied s t
      → and_then r (λ z. and_then (index_in (target_at ts a).count at z) (λ i. Ok (read_arg ts s a i))) ≡ and_then r
      (λ z. and_then (index_in (target_at us a).count at z) (λ i. Ok (read_arg us t a i)))
  element_copied (Err f) a at s t h = refl
  element_copied (Ok (negsuc n)) a at s t h = refl
  element_copied (Ok (pos n)) a at s t h =
      pick (nat_lt n (target_at ts a).count) refl ∙ ap (λ c. and_then (index_in c at (pos n)) (λ i. Ok (read_arg us t a i))) (counts a)
    where
      pick : (b : Bool) → nat_lt n (target_at ts a).count ≡ b
          → and_then (cond b (Ok n) (Err (fault Index at))) (λ i. Ok (read_arg ts s a i)) ≡ and_then (cond b (Ok n) (Err (fault Index at)))
          (λ i. Ok (read_arg us t a i))
      pick true e = ap Ok (h.cells a n (ltb-true n (target_at ts a).count e))
      pick false e = refl

  expr_copied : (e : RExpr) (s t : Store) (ls : List ℤ) → Copied s t → value_of ts consts e s ls ≡ value_of us consts e t ls
  expr_copied (Number n) s t ls h = refl
  expr_copied (Scalar k) s t ls h = refl
  expr_copied (Constant k) s t ls h = refl
  expr_copied (Arg' a form p e at) s t ls h =
      ap (λ r. and_then r (λ z. and_then (index_in (target_at ts a).count at z) (λ i. Ok (read_arg ts s a i)))) (expr_copied e s t ls h)
      ∙ element_copied (value_of us consts e t ls) a at s t h
  expr_copied (Local' from count form p e at) s t ls h =
      ap (λ r. and_then r (λ z. and_then (index_in count at z) (λ i. Ok (slice_index_or ls (from + i) (pos 0))))) (expr_copied e s t ls h)
  expr_copied (Const' from count form p e at) s t ls h =
      ap (λ r. and_then r (λ z. and_then (index_in count at z) (λ i. Ok (slice_index_or consts (from + i) (pos 0))))) (expr_copied e s t ls h)
  expr_copied (Unary' op p a) s t ls h = ap (λ r. and_then r (λ x. Ok (apply_unary op x))) (expr_copied a s t ls h)
  expr_copied (Binary' op p a q b at) s t ls h =
      ap (λ r. and_then r (λ u. cond (is_settled op u) (Ok (truth (not (is_zero u)))) (and_then (value_of ts consts b s ls) (λ v. apply op at u v)))) (expr_copied a s t ls h)
      ∙ ap (λ r. and_then (value_of us consts a t ls) (λ u. cond (is_settled op u) (Ok (truth (not (is_zero u)))) (and_then r (λ v. apply op at u v)))) (expr_copied b s t ls h)
  expr_copied (Choice' p c q a r b) s t ls h =
      ap (λ r. and_then r (λ u. cond (is_zero u) (value_of ts consts b s ls) (value_of ts consts a s ls))) (expr_copied c s t ls h)
      ∙ ap (λ r. and_then (value_of us consts c t ls) (λ u. cond (is_zero u) r (value_of ts consts a s ls))) (expr_copied b s t ls h)
      ∙ ap (λ r. and_then (value_of us consts c t ls) (λ u. cond (is_zero u) (value_of us consts b t ls) r)) (expr_copied a s t ls h)
  expr_copied (Paren' p a) s t ls h = expr_copied a s t ls h
  expr_copied (Extremum' which p a q b) s t ls h =
      ap (λ r. and_then r (λ u. and_then (value_of ts consts b s ls) (λ v. Ok (extremum which u v)))) (expr_copied a s t ls h)
      ∙ ap (λ r. and_then (value_of us consts a t ls) (λ u. and_then r (λ v. Ok (extremum which u v)))) (expr_copied b s t ls h)
  expr_copied (Absolute' p a) s t ls h = ap (λ r. and_then r (λ x. Ok (magnitude x))) (expr_copied a s t ls h)

  -- ---- statements

  abbrev Twins : Outcome → Outcome → Type 0
  Twins (Done s ls) (Done t ms) = (ls ≡ ms) × Copied s t
  Twins (Faulted s ls f) (Faulted t ms g) = (f ≡ g) × Copied s t
  Twins (Done s ls) (Faulted t ms g) = ⊥
  Twins (Faulted s ls f) (Done t ms) = ⊥

  twins_value : {A : Type 0} → (s t : Store) (ls : List ℤ) (r r' : Result A KernelFault) (go go' : A → Outcome) → Copied s t → r ≡ r'
      → ((v : A) → r ≡ Ok v → Twins (go v) (go' v)) → Twins (with_value s ls r go) (with_value t ls r' go')
  twins_value {A} s t ls r r' go go' h e f = subst (λ x. Twins (with_value s ls r go) (with_value t ls x go')) e (core r f)
    where
      core : (x : Result A KernelFault) → ((v : A) → x ≡ Ok v → Twins (go v) (go' v)) → Twins (with_value s ls x go) (with_value t ls x go')
      core (Err g) k = (refl, h)
      core (Ok v) k = k v refl

  twins_then : (o p : Outcome) (go go' : Store → List ℤ → Outcome) → Twins o p → ((s t : Store) (ls : List ℤ) → Copied s t → Twins (go s ls) (go' t ls)) → Twins (then_do o go) (then_do p go')
  twins_then (Done s ls) (Done t ms) go go' h f = subst (λ l. Twins (go s ls) (go' t l)) h.0 (f s t ls h.1)
  twins_then (Faulted s ls g) (Faulted t ms k) go go' h f = h
  twins_then (Done s ls) (Faulted t ms g) go go' h f = absurd h
  twins_then (Faulted s ls g) (Done t ms) go go' h f = absurd h

  twins_cond : (b : Bool) (o o' p p' : Outcome) → Twins o p → Twins o' p' → Twins (cond b o o') (cond b p p')
  twins_cond true o o' p p' x y = x
  twins_cond false o o' p p' x y = y

  turns_copied : (body : RStmt) (k : ℕ) →
      ((s t : Store) (ls : List ℤ) → Copied s t → Twins (meaning ts consts body s ls) (meaning us consts body t ls))
      → (i n : ℕ) (s t : Store) (ls : List ℤ) → Copied s t
      → Twins (turns (meaning ts consts body) k i n s ls) (turns (meaning us consts body) k i n t ls)
  turns_copied body k hb i zero s t ls h = (refl, h)
  turns_copied body k hb i (suc n) s t ls h =
      twins_then (meaning ts consts body s (set ls k (pos i))) (meaning us consts body t (set ls k (pos i))) (turns (meaning ts consts body) k (suc i) n) (turns (meaning us consts body) k (suc i) n)
      (hb s t (set ls k (pos i)) h) (λ s' t' ls' h'. turns_copied body k hb (suc i) n s' t' ls' h')

  mutual
    stmt_copied : (st : RStmt) (s t : Store) (ls : List ℤ) → Copied s t → Twins (meaning ts consts st s ls) (meaning us consts st t ls)
    stmt_copied (Block' shape all) s t ls h = row_copied all s t ls h
    stmt_copied (Declare from count) s t ls h = (refl, h)
    stmt_copied (SetScalar k op opat e) s t ls h =
        twins_value s t ls (value_of ts consts e s ls) (value_of us consts e t ls) _ _ h (expr_copied e s t ls h)
        (λ v f. twins_value s t ls (stored op opat (slice_index_or ls k (pos 0)) v) (stored op opat (slice_index_or ls k (pos 0)) v)
        (λ r. Done s (set ls k r)) (λ r. Done t (set ls k r)) h refl (λ r g. (refl, h)))
    stmt_copied (SetLocal from count form ix at op opat e) s t ls h =
        twins_value s t ls (value_of ts consts ix s ls) (value_of us consts ix t ls) _ _ h (expr_copied ix s t ls h)
        (λ z f. twins_value s t ls (index_in count at z) (index_in count at z) _ _ h refl
        (λ i g. twins_value s t ls (value_of ts consts e s ls) (value_of us consts e t ls) _ _ h (expr_copied e s t ls h)
        (λ v l. twins_value s t ls (stored op opat (slice_index_or ls (from + i) (pos 0)) v)
        (stored op opat (slice_index_or ls (from + i) (pos 0)) v) (λ r. Done s (set ls (from + i) r))
        (λ r. Done t (set ls (from + i) r)) h refl (λ r o. (refl, h)))))
    stmt_copied (SetArg a form ix at op opat e) s t ls h =
        twins_value s t ls (value_of ts consts ix s ls) (value_of us consts ix t ls) _ _ h (expr_copied ix s t ls h)
        (λ z f. twins_value s t ls (index_in (target_at ts a).count at z) (index_in (target_at us a).count at z) _ _ h (ap (λ c. index_in c at z) (counts a))
        (λ i g.
        let lt = (index_ok (target_at ts a).count at z i g).0 in
        twins_value s t ls (value_of ts consts e s ls) (value_of us consts e t ls) _ _ h (expr_copied e s t ls h)
        (λ v l. twins_value s t ls (stored op opat (read_arg ts s a i) v) (stored op opat (read_arg us t a i) v)
        (λ r. Done (store_arg ts s a i r) ls) (λ r. Done (store_arg us t a i r) ls) h (ap (λ o. stored op opat o v) (h.cells a i lt))
        (λ r o. (refl, copied_kept s t a i r lt h)))))
    stmt_copied (If' e p a q b) s t ls h =
        twins_value s t ls (value_of ts consts e s ls) (value_of us consts e t ls) _ _ h (expr_copied e s t ls h)
        (λ x f. twins_cond (is_zero x) (meaning ts consts b s ls) (meaning ts consts a s ls) (meaning us consts b t ls) (meaning us consts a t ls) (stmt_copied b s t ls h) (stmt_copied a s t ls h))
    stmt_copied (For' k first past p body) s t ls h =
        turns_copied body k (λ s' t' ls' h'. stmt_copied body s' t' ls' h') first (past - first) s t ls h

    row_copied : {m : _} → (all : Row_of-RStmt m) (s t : Store) (ls : List ℤ) → Copied s t → Twins (meaning_of_all ts consts all s ls) (meaning_of_all us consts all t ls)
    row_copied end_of-RStmt s t ls h = (refl, h)
    row_copied (more_of-RStmt first rest) s t ls h =
        twins_then (meaning ts consts first s ls) (meaning us consts first t ls) (meaning_of_all ts consts rest) (meaning_of_all us consts rest)
        (stmt_copied first s t ls h) (λ s' t' ls' h'. row_copied rest s' t' ls' h')

pub transport : Transport
transport k consts ts us s t fs fu copy =
    finish (meaning ts consts k.body.statement s (replicate k.scratch (pos 0))) (meaning us consts k.body.statement t (replicate k.scratch (pos 0)))
    (stmt_copied consts ts us copy.counts copy.aliases k.body.statement s t (replicate k.scratch (pos 0)) (record { fits_s = fs; fits_t = fu; cells = copy.cells }))
  where
    still : (s' t' : Store) → Copied consts ts us copy.counts copy.aliases s' t' → IsCopy ts us s' t'
    still s' t' h = record { counts = copy.counts; aliases = copy.aliases; cells = h.cells }

    finish : (o p : Outcome) → Twins consts ts us copy.counts copy.aliases o p → SameEnd (without_locals o) (without_locals p)
        × IsCopy ts us (store_after (without_locals o)) (store_after (without_locals p))
    finish (Done s' ls) (Done t' ms) h = (tt, still s' t' h.1)
    finish (Faulted s' ls f) (Faulted t' ms g) h = (h.0, still s' t' h.1)
    finish (Done s' ls) (Faulted t' ms g) h = absurd h
    finish (Faulted s' ls f) (Done t' ms) h = absurd h

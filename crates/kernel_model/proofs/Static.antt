-- Counters, and indices whose value the source tells.
use Rattle.std.proofs.Common.{◌≡◌, ◌≢◌, ℕ, ℤ, pos, negsuc, ◌<◌, List, length, get_or, set, Option, Some, Result, Ok, Err, Bool, true, false, cond, refl, sym, ap, ◌∙◌, subst, get_or-set_other, get_or-set_same}
use Rattle.std.specs.Prelude.{nat_lt, nat_eq}
use Rattle.std.proofs.lemmas.List.{length-set}
use Rattle.std.proofs.lemmas.Bool.{ltb-true, eqb-true, eqb-false}
use Rattle.c_tree.specs.declared.lexer.tokens.Pos.{Pos}
use Rattle.op_num.specs.declared.refusals.Fault.TheVariants.{Index}
use Rattle.c_tree.specs.declared.expressions.BinaryOp.{BinaryOp}
use Rattle.c_tree.specs.declared.expressions.BinaryOp.TheVariants as binary
use Rattle.c_tree.specs.declared.expressions.UnaryOp.{UnaryOp}
use Rattle.c_tree.specs.declared.expressions.UnaryOp.TheVariants as unary
use Rattle.kernel_model.specs.declared.types.faults.KernelFault.{KernelFault}
use Rattle.kernel_model.specs.declared.types.expressions.RExpr.{RExpr}
use Rattle.kernel_model.specs.declared.types.expressions.RExpr.TheVariants.{Number, Scalar, Unary', Binary', Paren'}
use Rattle.kernel_model.specs.declared.types.statements.RStmt.{RStmt, Block', Declare, SetScalar, SetLocal, SetArg, If', For', Row_of-RStmt, end_of-RStmt, more_of-RStmt}
use Rattle.kernel_model.specs.Resolved.{StoresOnly, RowStoresOnly}
use Rattle.kernel_model.specs.Numbers.{Value, fault, truth, is_zero, not, is_settled, apply, apply_unary, sum, difference, product, negated}
use Rattle.kernel_model.specs.Meaning.{Store, Target, and_then, index_in, value_of}
use Rattle.kernel_model.specs.Obeys.{Counters, no_counters, with_counter, static_op, static_unary, static}

-- ---- counters

-- the counters have their values in the locals
abbrev pub Static : Counters → List ℤ → Type 0
Static cs ls = (k : ℕ) (v : ℤ) → cs k ≡ Some v → get_or ls k (pos 0) ≡ v

-- a cell of no counter
abbrev pub Free : Counters → ℕ → Type 0
Free cs k = (v : ℤ) → cs k ≡ Some v → ⊥

abbrev pub Held : ℕ → Counters → List ℤ → Type 0
Held n cs ls = (length ls ≡ n) × Static cs ls

pub held_set : (n : ℕ) (cs : Counters) (j : ℕ) (v : ℤ) (ls : List ℤ) → Free cs j → Held n cs ls → Held n cs (set ls j v)
held_set n cs j v ls free h =
    (length-set ls j v ∙ h.0, λ k w e. get_or-set_other ls j k v (pos 0) (λ q. free w (subst (λ m. cs m ≡ Some w) q e)) ∙ h.1 k w e)

pub held_counter : (n : ℕ) (cs : Counters) (k : ℕ) (v : ℤ) (ls : List ℤ) → k < n → Held n cs ls → Held n (with_counter cs k v) (set ls k v)
held_counter n cs k v ls lt h = (length-set ls k v ∙ h.0, at)
  where
    at : Static (with_counter cs k v) (set ls k v)
    at j w e = pick (nat_eq j k) refl
      where
        pick : (b : Bool) → nat_eq j k ≡ b → get_or (set ls k v) j (pos 0) ≡ w
        pick true f =
            let p : j ≡ k = eqb-true j k f in
            let q : Some v ≡ Some w = ap (λ b. cond b (Some v) (cs j)) (sym f) ∙ e in
            let r : v ≡ w = cc in
            let l : k < length ls = subst (λ m. k < m) (sym h.0) lt in
            subst (λ m. get_or (set ls k v) m (pos 0) ≡ w) (sym p) (get_or-set_same ls k v (pos 0) l ∙ r)
        pick false f =
            let q : cs j ≡ Some w = ap (λ b. cond b (Some v) (cs j)) (sym f) ∙ e in
            get_or-set_other ls k j v (pos 0) (eqb-false j k f) ∙ h.1 j w q

pub free_counter : (cs : Counters) (k : ℕ) (v : ℤ) (j : ℕ) → Free cs j → j ≢ k → Free (with_counter cs k v) j
free_counter cs k v j free ne w e = pick (nat_eq j k) refl
  where
    pick : (b : Bool) → nat_eq j k ≡ b → ⊥
    pick true f = ne (eqb-true j k f)
    pick false f = free w (ap (λ b. cond b (Some v) (cs j)) (sym f) ∙ e)

mutual
  pub stores_both : (A B C : ℕ → Type 0) → ((k : ℕ) → A k → B k → C k) → (st : RStmt) → StoresOnly A st → StoresOnly B st → StoresOnly C st
  stores_both A B C f (Block' shape all) x y = stores_both_row A B C f all x y
  stores_both A B C f (Declare from count) x y = λ k l m. f k (x k l m) (y k l m)
  stores_both A B C f (SetScalar k op opat e) x y = f k x y
  stores_both A B C f (SetLocal from count form ix at op opat e) x y = λ k l m. f k (x k l m) (y k l m)
  stores_both A B C f (SetArg a form ix at op opat e) x y = tt
  stores_both A B C f (If' e p a q b) x y = (stores_both A B C f a x.0 y.0, stores_both A B C f b x.1 y.1)
  stores_both A B C f (For' k first past p body) x y = (f k x.0 y.0, stores_both A B C f body x.1 y.1)

  stores_both_row : (A B C : ℕ → Type 0) → ((k : ℕ) → A k → B k → C k) → {m : _} → (all : Row_of-RStmt m) → RowStoresOnly A all → RowStoresOnly B all → RowStoresOnly C all
  stores_both_row A B C f end_of-RStmt x y = tt
  stores_both_row A B C f (more_of-RStmt first rest) x y = (stores_both A B C f first x.0 y.0, stores_both_row A B C f rest x.1 y.1)

mutual
  pub stores_free : (st : RStmt) → StoresOnly (Free no_counters) st
  stores_free (Block' shape all) = stores_free_row all
  stores_free (Declare from count) = λ k a b v e. cc
  stores_free (SetScalar k op opat e) = λ v f. cc
  stores_free (SetLocal from count form ix at op opat e) = λ k a b v f. cc
  stores_free (SetArg a form ix at op opat e) = tt
  stores_free (If' e p a q b) = (stores_free a, stores_free b)
  stores_free (For' k first past p body) = (λ v f. cc, stores_free body)

  stores_free_row : {m : _} → (all : Row_of-RStmt m) → RowStoresOnly (Free no_counters) all
  stores_free_row end_of-RStmt = tt
  stores_free_row (more_of-RStmt first rest) = (stores_free first, stores_free_row rest)

-- ---- static indices have their values

abbrev Binary_value : BinaryOp → Pos → Value → Value → Value
Binary_value op at u v = and_then u (λ a. cond (is_settled op a) (Ok (truth (not (is_zero a)))) (and_then v (λ b. apply op at a b)))

static_of_op : (op : BinaryOp) (at : Pos) (x y : Option ℤ) (u v : Value) (z : ℤ) → ((w : ℤ) → x ≡ Some w → u ≡ Ok w)
    → ((w : ℤ) → y ≡ Some w → v ≡ Ok w) → static_op op x y ≡ Some z → Binary_value op at u v ≡ Ok z
static_of_op binary.Add at (Some x) (Some y) u v z p q e =
    ap (λ r. and_then r (λ a. and_then v (λ b. apply binary.Add at a b))) (p x refl) ∙ ap (λ r. and_then r (λ b. apply binary.Add at x b)) (q y refl) ∙ (let k : sum x y ≡ z = cc in ap Ok k)
static_of_op binary.Sub at (Some x) (Some y) u v z p q e =
    ap (λ r. and_then r (λ a. and_then v (λ b. apply binary.Sub at a b))) (p x refl) ∙ ap (λ r. and_then r (λ b. apply binary.Sub at x b)) (q y refl) ∙ (let k : difference x y ≡ z = cc in ap Ok k)
static_of_op binary.Mul at (Some x) (Some y) u v z p q e =
    ap (λ r. and_then r (λ a. and_then v (λ b. apply binary.Mul at a b))) (p x refl) ∙ ap (λ r. and_then r (λ b. apply binary.Mul at x b)) (q y refl) ∙ (let k : product x y ≡ z = cc in ap Ok k)
static_of_op op at x y u v z p q e = absurd (let k : ⊥ = cc in k)

static_of_unary : (op : UnaryOp) (x : Option ℤ) (u : Value) (z : ℤ) → ((w : ℤ) → x ≡ Some w → u ≡ Ok w) → static_unary op x ≡ Some z → and_then u (λ a. Ok (apply_unary op a)) ≡ Ok z
static_of_unary unary.Minus (Some x) u z p e = ap (λ r. and_then r (λ a. Ok (negated a))) (p x refl) ∙ (let k : negated x ≡ z = cc in ap Ok k)
static_of_unary unary.Plus (Some x) u z p e = ap (λ r. and_then r (λ a. Ok a)) (p x refl) ∙ (let k : x ≡ z = cc in ap Ok k)
static_of_unary op x u z p e = absurd (let k : ⊥ = cc in k)

pub static_value : (ts : List Target) (consts : List ℤ) (e : RExpr) (cs : Counters) (s : Store) (ls : List ℤ) → Static cs ls → (z : ℤ) → static e cs ≡ Some z → value_of ts consts e s ls ≡ Ok z
static_value ts consts (Number n) cs s ls h z e = let k : n ≡ z = cc in ap Ok k
static_value ts consts (Scalar k) cs s ls h z e = ap Ok (h k z e)
static_value ts consts (Unary' op p a) cs s ls h z e =
    static_of_unary op (static a cs) (value_of ts consts a s ls) z (λ w f. static_value ts consts a cs s ls h w f) e
static_value ts consts (Binary' op p a q b at) cs s ls h z e =
    static_of_op op at (static a cs) (static b cs) (value_of ts consts a s ls) (value_of ts consts b s ls) z
    (λ w f. static_value ts consts a cs s ls h w f) (λ w f. static_value ts consts b cs s ls h w f) e
static_value ts consts (Paren' p a) cs s ls h z e = static_value ts consts a cs s ls h z e
static_value ts consts e cs s ls h z f = absurd (let k : ⊥ = cc in k)

-- an index that is below the count
pub index_ok : (count : ℕ) (at : Pos) (z : ℤ) (i : ℕ) → index_in count at z ≡ Ok i → (i < count) × (z ≡ pos i)
index_ok count at (negsuc n) i e = absurd (let k : ⊥ = cc in k)
index_ok count at (pos n) i e = pick (nat_lt n count) refl
  where
    pick : (b : Bool) → nat_lt n count ≡ b → (i < count) × (pos n ≡ pos i)
    pick true f =
        let g : ◌≡◌ {A = Result ℕ KernelFault} (Ok n) (index_in count at (pos n)) = ap (λ b. cond b (Ok n) (Err (fault Index at))) (sym f) in
        let k : n ≡ i = let h : ◌≡◌ {A = Result ℕ KernelFault} (Ok n) (Ok i) = g ∙ e in cc in
        (subst (λ m. m < count) k (ltb-true n count f), ap pos k)
    pick false f =
        let g : ◌≡◌ {A = Result ℕ KernelFault} (Err (fault Index at)) (index_in count at (pos n)) = ap (λ b. cond b (Ok n) (Err (fault Index at))) (sym f) in
        absurd (let h : ◌≡◌ {A = Result ℕ KernelFault} (Err (fault Index at)) (Ok i) = g ∙ e in let k : ⊥ = cc in k)

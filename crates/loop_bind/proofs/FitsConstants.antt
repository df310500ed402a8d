-- The constants of a bound program: their cells are those of its variables, one after another.
use Rattle.std.proofs.Common.{◌≡◌, ℕ, zero, suc, ℤ, ◌+◌, ◌<◌, ◌≤◌, List, [], ◌∷◌, length, Bool, true, false, refl, sym, ap, subst, arith, ◌∙◌, inl, inr}
use Rattle.std.specs.Prelude.{◌≢◌, ◌⊎◌, All, Option, Some, None, sum_by}
use Rattle.std.proofs.lemmas.List.Elements.{All-nil, All-cons, All-head, All-tail}
use Rattle.std.proofs.lemmas.List.Sums.{sum_by-cons}
use Rattle.kernel_model.specs.declared.types.expressions.RExpr.{RExpr}
use Rattle.kernel_model.specs.declared.types.expressions.RExpr.TheVariants as r
use Rattle.kernel_model.specs.declared.types.statements.RStmt.{RStmt, Block', Declare, SetScalar, SetLocal, SetArg, If', For', Row_of-RStmt, end_of-RStmt, more_of-RStmt}
use Rattle.kernel_model.specs.declared.types.kernels.RKernel.{RKernel}
use Rattle.kernel_model.specs.declared.types.kernels.ConstDecl.{ConstDecl}
use Rattle.kernel_model.specs.Resolved.{IsResolved, AreResolved, cells_of, FollowOn}
use Rattle.bound_program.specs.Values.{VarValue, BoundValue}
use Rattle.main_declarations.specs.Meanings.{or_zero}
use Rattle.main_declarations.specs.SoFar.{first_cell}
use Rattle.bound_program.specs.Limited.{ToldValue}
use Rattle.loop_bind.specs.Weights.{started, with_told}
use Rattle.loop_bind.specs.FileVariables.{FileVariable, is_constant, Begins, AreConstants, AreOfOne}
use Rattle.bound_program.specs.Fits.{cells_from, constant_cells, HasCells, NamesConstants, UsesConstants, RowUsesConstants, AreOfVariable, KernelFits, ConstantsFit}
use Rattle.loop_bind.proofs.FitsState.{at}
use Rattle.loop_bind.proofs.FitsTold.{AllOne, one_same, all_moved}
use Rattle.loop_bind.proofs.FitsTags.{cell_if, AllNone, Tagged}

-- ---- variables and constants in step

-- the first constant is this variable, where it has cells, and the rest follow
abbrev Ahead : Option ℕ → ℕ → List ConstDecl → (List ConstDecl → Type 0) → Type 0
Ahead None n cs Rest = Rest cs
Ahead (Some f) n [] Rest = ⊥
Ahead (Some f) n (c ∷ cs) Rest = (c.from ≡ f) × (c.count ≡ n) × Rest cs

abbrev pub Match : List VarValue → List ConstDecl → Type 0
Match [] [] = Unit {0}
Match [] (c ∷ cs) = ⊥
Match (v ∷ vs) cs = Ahead v.constant (length v.start) cs (Match vs)

ahead_more : (o : Option ℕ) (n : ℕ) (cs : List ConstDecl) (P Q : List ConstDecl → Type 0) → ((ds : List ConstDecl) → P ds → Q ds) → Ahead o n cs P → Ahead o n cs Q
ahead_more None n cs P Q f h = f cs h
ahead_more (Some g) n [] P Q f h = absurd h
ahead_more (Some g) n (c ∷ cs) P Q f h = (h.0, h.1, f cs h.2)

none_match : (vs : List VarValue) → AllNone vs → Match vs []
none_match [] h = tt
none_match (v ∷ vs) h = subst (λ o. Ahead o (length v.start) [] (Match vs)) (sym h.0) (none_match vs h.1)

module _ (all : List ConstDecl) (done : List (List ℕ)) where
  abbrev IsFound : ConstDecl → Type 0
  IsFound c = first_cell all c.name ≡ Some c.from

  pub tagged_match : (fs : List FileVariable) (vs : List VarValue) (cs : List ConstDecl) → Tagged all done fs vs → AreConstants done fs cs → All IsFound cs → Match vs cs
  tagged_match [] vs [] t a h = none_match vs t
  tagged_match [] vs (c ∷ cs) t a h = absurd a
  tagged_match (f ∷ fs) [] cs t a h = absurd t
  tagged_match (f ∷ fs) (v ∷ vs) cs t a h = pick (λ ds b i. tagged_match fs vs ds t.1 b i) (is_constant done f) refl cs a h
    where
      pick : ((ds : List ConstDecl) → AreConstants done fs ds → All IsFound ds → Match vs ds) → (b : Bool) → is_constant done f ≡ b
          → (cs : List ConstDecl) → Begins b f cs (AreConstants done fs) → All IsFound cs → Ahead v.constant (length v.start) cs (Match vs)
      pick rest false e cs a h = subst (λ o. Ahead o (length v.start) cs (Match vs)) (sym (t.0.0 ∙ ap (λ b. cell_if b (first_cell all f.name)) e)) (rest cs a h)
      pick rest true e [] a h = absurd a
      pick rest true e (c ∷ cs) a h =
          let here : v.constant ≡ Some c.from = t.0.0 ∙ ap (λ b. cell_if b (first_cell all f.name)) e ∙ ap (λ x. first_cell all x) (sym a.0) ∙ All-head IsFound c cs h in
          subst (λ o. Ahead o (length v.start) (c ∷ cs) (Match vs)) (sym here) (refl, a.1 ∙ sym t.0.1, rest cs a.2 (All-tail IsFound c cs h))

-- ---- told values

match_started : (v : ℕ) (z : ℤ) (vs : List VarValue) (cs : List ConstDecl) → length (at vs v).start ≡ 1 → Match vs cs → Match (started v z vs) cs
match_started v z [] cs e h = h
match_started zero z (x ∷ xs) cs e h = subst (λ n. Ahead x.constant n cs (Match xs)) e h
match_started (suc v) z (x ∷ xs) cs e h = ahead_more x.constant (length x.start) cs (Match xs) (Match (started v z xs)) (λ ds m. match_started v z xs ds e m) h

pub match_told : (ts : List ToldValue) (vs : List VarValue) (cs : List ConstDecl) → AllOne vs ts → Match vs cs → Match (with_told ts vs) cs
match_told [] vs cs a h = h
match_told (t ∷ ts) vs cs a h =
    match_told ts (started t.var t.value vs) cs (all_moved vs (started t.var t.value vs) (one_same t.var t.value vs a.0) ts a.1) (match_started t.var t.value vs cs a.0.one h)

-- ---- what follows

-- all cells
pub match_sum : (vs : List VarValue) (cs : List ConstDecl) → Match vs cs → sum_by constant_cells vs ≡ cells_of cs
match_sum [] [] h = refl
match_sum [] (c ∷ cs) h = absurd h
match_sum (v ∷ vs) cs h = sum_by-cons constant_cells v vs ∙ pick (λ ds m. match_sum vs ds m) v.constant cs h
  where
    pick : ((ds : List ConstDecl) → Match vs ds → sum_by constant_cells vs ≡ cells_of ds) → (o : Option ℕ) (cs : List ConstDecl)
        → Ahead o (length v.start) cs (Match vs) → cells_from o (length v.start) + sum_by constant_cells vs ≡ cells_of cs
    pick rest None cs h = omega (arith, rest cs h)
    pick rest (Some f) [] h = absurd h
    pick rest (Some f) (c ∷ cs) h = omega (arith, h.1, rest cs h.2)

-- the cells of the v-th variable are among those from n on
record Lies (n : ℕ) (cs : List ConstDecl) (first count : ℕ) : Type 0 where
  above : n ≤ first
  below : first + count ≤ n + cells_of cs

some_is : (f g : ℕ) → ◌≡◌ {A = Option ℕ} (Some f) (Some g) → f ≡ g
some_is f g e = ap (λ o. or_zero o) e

none_some : {X : Type 0} (g : ℕ) → ◌≡◌ {A = Option ℕ} None (Some g) → X
none_some g e = absurd (subst IsNone' e tt)
  where
    IsNone' : Option ℕ → Type 0
    IsNone' None = Unit {0}
    IsNone' (Some n) = ⊥

lies : (n : ℕ) (vs : List VarValue) (cs : List ConstDecl) → FollowOn n cs → Match vs cs → (v first : ℕ) → v < length vs → (at vs v).constant ≡ Some first → Lies n cs first (length (at vs v).start)
lies n [] cs f h v first l e = absurd (omega (arith, l))
lies n (x ∷ vs) cs f h v first l e = pick (λ k ds g m w lt q. lies k vs ds g m w first lt q) v l x.constant refl cs f h e
  where
    pick : ((k : ℕ) (ds : List ConstDecl) → FollowOn k ds → Match vs ds → (w : ℕ) → w < length vs → (at vs w).constant ≡ Some first → Lies k ds first (length (at vs w).start))
        → (v : ℕ) → v < length (x ∷ vs) → (o : Option ℕ) → x.constant ≡ o → (cs : List ConstDecl) → FollowOn n cs
        → Ahead o (length x.start) cs (Match vs) → (at (x ∷ vs) v).constant ≡ Some first
        → Lies n cs first (length (at (x ∷ vs) v).start)
    pick rest zero l None q cs f h e = none_some first (sym q ∙ e)
    pick rest zero l (Some g) q [] f h e = absurd h
    pick rest zero l (Some g) q (c ∷ cs) f h e =
        let same : g ≡ first = some_is g first (sym q ∙ e) in
        record { above = omega (arith, same, h.0, f.0); below = omega (arith, same, h.0, h.1, f.0) }
    pick rest (suc v) l None q cs f h e = rest n cs f h v (omega (arith, l)) e
    pick rest (suc v) l (Some g) q [] f h e = absurd h
    pick rest (suc v) l (Some g) q (c ∷ cs) f h e =
        let i = rest (n + c.count) cs f.1 h.2 v (omega (arith, l)) e in
        record { above = omega (arith, i.above); below = omega (arith, i.below) }

apart : (n : ℕ) (vs : List VarValue) (cs : List ConstDecl) → FollowOn n cs → Match vs cs → (v w first other : ℕ) → v < length vs
    → w < length vs → v ≢ w → (at vs v).constant ≡ Some first → (at vs w).constant ≡ Some other
    → (first + length (at vs v).start ≤ other) ⊎ (other + length (at vs w).start ≤ first)
apart n [] cs f h v w first other l k d p q = absurd (omega (arith, l))
apart n (x ∷ vs) cs f h v w first other l k d p q = pick (λ j ds g m a b la lb dd r s. apart j vs ds g m a b first other la lb dd r s) v w l k d x.constant refl cs f h p q
  where
    less : (a b : ℕ) → suc a ≢ suc b → a ≢ b
    less a b d e = d (ap suc e)

    pick : ((j : ℕ) (ds : List ConstDecl) → FollowOn j ds → Match vs ds → (a b : ℕ) → a < length vs → b < length vs → a ≢ b → (at vs a).constant ≡ Some first → (at vs b).constant ≡ Some other
        → (first + length (at vs a).start ≤ other) ⊎ (other + length (at vs b).start ≤ first))
        → (v w : ℕ) → v < length (x ∷ vs) → w < length (x ∷ vs) → v ≢ w → (o : Option ℕ) → x.constant ≡ o → (cs : List ConstDecl) → FollowOn n cs → Ahead o (length x.start) cs (Match vs)
        → (at (x ∷ vs) v).constant ≡ Some first → (at (x ∷ vs) w).constant ≡ Some other → (first + length (at (x ∷ vs) v).start ≤ other) ⊎ (other + length (at (x ∷ vs) w).start ≤ first)
    pick rest zero zero l k d o i cs f h p q = absurd (d refl)
    pick rest zero (suc w) l k d None i cs f h p q = none_some first (sym i ∙ p)
    pick rest zero (suc w) l k d (Some g) i [] f h p q = absurd h
    pick rest zero (suc w) l k d (Some g) i (c ∷ cs) f h p q =
        let same : g ≡ first = some_is g first (sym i ∙ p) in
        let t = lies (n + c.count) vs cs f.1 h.2 w other (omega (arith, k)) q in
        inl (omega (arith, same, h.0, h.1, f.0, t.above))
    pick rest (suc v) zero l k d None i cs f h p q = none_some other (sym i ∙ q)
    pick rest (suc v) zero l k d (Some g) i [] f h p q = absurd h
    pick rest (suc v) zero l k d (Some g) i (c ∷ cs) f h p q =
        let same : g ≡ other = some_is g other (sym i ∙ q) in
        let t = lies (n + c.count) vs cs f.1 h.2 v first (omega (arith, l)) p in
        inr (omega (arith, same, h.0, h.1, f.0, t.above))
    pick rest (suc v) (suc w) l k d None i cs f h p q = rest n cs f h v w (omega (arith, l)) (omega (arith, k)) (less v w d) p q
    pick rest (suc v) (suc w) l k d (Some g) i [] f h p q = absurd h
    pick rest (suc v) (suc w) l k d (Some g) i (c ∷ cs) f h p q = rest (n + c.count) cs f.1 h.2 v w (omega (arith, l)) (omega (arith, k)) (less v w d) p q

-- cells of one constant are cells of one variable
abbrev OfVariable : List VarValue → ℕ → ℕ → Type 0
OfVariable vs from count = (v : ℕ) × (v < length vs) × HasCells (at vs v) from count

of_one : (vs : List VarValue) (cs : List ConstDecl) (from count : ℕ) → Match vs cs → AreOfOne cs from count → OfVariable vs from count
of_one [] [] from count h a = absurd a
of_one [] (c ∷ cs) from count h a = absurd h
of_one (x ∷ vs) cs from count h a = pick (λ ds m b. of_one vs ds from count m b) x.constant refl cs h a
  where
    later : OfVariable vs from count → OfVariable (x ∷ vs) from count
    later o = (suc o.0, omega (arith, o.1), o.2)

    pick : ((ds : List ConstDecl) → Match vs ds → AreOfOne ds from count → OfVariable vs from count) → (o : Option ℕ) → x.constant ≡ o
        → (cs : List ConstDecl) → Ahead o (length x.start) cs (Match vs) → AreOfOne cs from count → OfVariable (x ∷ vs) from count
    pick rest None q cs h a = later (rest cs h a)
    pick rest (Some f) q [] h a = absurd a
    pick rest (Some f) q (c ∷ cs) h (inl a) = (zero, omega arith, (f, q, omega (arith, a.0, h.0), omega (arith, a.1, h.0, h.1)))
    pick rest (Some f) q (c ∷ cs) h (inr a) = later (rest cs h.2 a)

-- ---- the constants that kernels name

module _ (P Q : (from count : ℕ) → Type 0) (f : (from count : ℕ) → P from count → Q from count) where
  names_more : (e : RExpr) → NamesConstants P e → NamesConstants Q e
  names_more (r.Number n) h = tt
  names_more (r.Scalar k) h = tt
  names_more (r.Constant k) h = f k 1 h
  names_more (r.Arg' a form p e at) h = names_more e h
  names_more (r.Local' from count form p e at) h = names_more e h
  names_more (r.Const' from count form p e at) h = (f from count h.0, names_more e h.1)
  names_more (r.Unary' op p e) h = names_more e h
  names_more (r.Binary' op p x q y at) h = (names_more x h.0, names_more y h.1)
  names_more (r.Choice' p c q x s y) h = (names_more c h.0, names_more x h.1, names_more y h.2)
  names_more (r.Paren' p e) h = names_more e h
  names_more (r.Extremum' which p x q y) h = (names_more x h.0, names_more y h.1)
  names_more (r.Absolute' p e) h = names_more e h

  mutual
    uses_more : (s : RStmt) → UsesConstants P s → UsesConstants Q s
    uses_more (Block' shape all) h = row_more all h
    uses_more (Declare from count) h = tt
    uses_more (SetScalar k op opat e) h = names_more e h
    uses_more (SetLocal from count form ix at op opat e) h = (names_more ix h.0, names_more e h.1)
    uses_more (SetArg a form ix at op opat e) h = (names_more ix h.0, names_more e h.1)
    uses_more (If' e p a q b) h = (names_more e h.0, uses_more a h.1, uses_more b h.2)
    uses_more (For' k first past p body) h = uses_more body h

    row_more : {m : _} → (all : Row_of-RStmt m) → RowUsesConstants P all → RowUsesConstants Q all
    row_more end_of-RStmt h = tt
    row_more (more_of-RStmt first rest) h = (uses_more first h.0, row_more rest h.1)

-- ---- the parts of a bound program

module _ (b : BoundValue) (cs : List ConstDecl) (follow : FollowOn 0 cs) (fits : Match b.vars cs) where
  pub constants_fit : ConstantsFit b
  constants_fit = record {
    within = λ v first l e. let t = lies 0 b.vars cs follow fits v first l e in omega (arith, t.below, match_sum b.vars cs fits);
    apart = λ v w first other l k d p q. apart 0 b.vars cs follow fits v w first other l k d p q;
  }

  kernel_fits : (k : RKernel) → IsResolved (cells_of cs) k → UsesConstants (AreOfOne cs) k.body.statement → KernelFits b k
  kernel_fits k h u = record {
    resolved = subst (λ n. IsResolved n k) (sym (match_sum b.vars cs fits)) h;
    constants = uses_more (AreOfOne cs) (AreOfVariable b) (λ from count a. of_one b.vars cs from count fits a) k.body.statement u;
  }

  pub kernels_fit : (ks : List RKernel) → AreResolved (cells_of cs) ks → All (λ (k : RKernel). UsesConstants (AreOfOne cs) k.body.statement) ks → All (KernelFits b) ks
  kernels_fit [] h u = All-nil (KernelFits b)
  kernels_fit (k ∷ ks) h u =
      All-cons (KernelFits b) k ks (kernel_fits k h.0 (All-head (λ (k : RKernel). UsesConstants (AreOfOne cs) k.body.statement) k ks u))
      (kernels_fit ks h.1 (All-tail (λ (k : RKernel). UsesConstants (AreOfOne cs) k.body.statement) k ks u))

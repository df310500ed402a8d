-- The targets of a map are judged apart from all else that may be wrong with it.
use Rattle.std.proofs.Common.{◌≡◌, ◌∙◌, ◌⊎◌, inl, inr, ℕ, suc, ℤ, ◌+◌, ◌*◌, ◌/◌, ◌%◌, ◌<◌, Bool, true, false, not, List, [], ◌∷◌, ◌++◌, length, Option, Some, None, Ok, Err, refl, sym, ap, subst, arith, lt-ltb}
use Rattle.std.specs.Prelude.{is_none, nat_eq, nat_lt, if◌then◌else◌}
use Rattle.std.specs.Option.{option_or}
use Rattle.std.proofs.lemmas.Bool.{eqb-false, not-false}
use Rattle.std.proofs.lemmas.List.Elements.{All-head, All-tail}
use Rattle.std.proofs.lemmas.Nat.{div-mul-add, mod-mul-add}
use Rattle.c_tree.specs.declared.lexer.tokens.Pos.{Pos}
use Rattle.c_tree.specs.declared.expressions.Ident.{Ident}
use Rattle.c_tree.specs.declared.expressions.NumberLiteral.{NumberLiteral}
use Rattle.mesh_decl.specs.Spelling.{Named}
use Rattle.mesh_decl.specs.declared.decl.MapRefusal.{MapRefusal}
use Rattle.mesh_decl.specs.declared.decl.MapRefusal.TheVariants.{Target, OutOfMemory}
use Rattle.mesh_decl.specs.Mesh.{MeshValue, map_count, set_size, is_element, AreElements, IsFirstBad, RefusesTarget}
use Rattle.bound_program.specs.Limits.{max_cells, max_dim, max_maps}
use Rattle.bound_program.specs.declared.refusals.founds.Found.{Found}
use Rattle.bound_program.specs.declared.refusals.founds.Turn.{Turn}
use Rattle.bound_program.specs.declared.refusals.founds.Turn.TheVariants.{InOrder, SizeValue, MeshCells}
use Rattle.bound_program.specs.declared.refusals.refusals.BindRefusal.{BindRefusal}
use Rattle.bound_program.specs.declared.refusals.refusals.BindRefusal.TheVariants as refusal
use Rattle.bound_program.specs.declared.refusals.refusals.Counted.TheVariants as counted
use Rattle.bound_program.specs.Refusals.{place, is_before, earlier, least_from, first_of, unless_found, found_in, found_if, found_over}
use Rattle.bound_program.proofs.Public.{least_append}
use Rattle.main_declarations.specs.Names.{means}
use Rattle.main_declarations.specs.Meanings.{array_of, count_of, or_none, or_zero, set_of}
use Rattle.main_declarations.specs.SoFar.{Declared}
use Rattle.main_declarations.specs.Declarations.{is_dim, awaited, first_stray, place_found, set_found, dim_found, data_found, target_found, stray_found, cells_found, map_decl_found}
use Rattle.main_declarations.specs.Targets.{target_refusal, shape_decl_found, targets_found, strays_found}
use Rattle.main_declarations.proofs.Judged.{nothing_found, left_nil, right_nil, not_in}
use Rattle.main_declarations.proofs.Shapes.{never}

-- ---- what is found in the order of the tokens, and the cells of the mesh

module _ (t u : ℕ) (r s : BindRefusal) where
  abbrev ordered : Found
  ordered = record { turn = InOrder; token = t; refusal = r }

  abbrev last : Found
  last = record { turn = MeshCells; token = u; refusal = s }

  by_turn : (v : Turn) (w : ℕ) (q : BindRefusal) → earlier (earlier (Some (record { turn = v; token = w; refusal = q })) ordered) last ≡
      earlier (earlier (Some (record { turn = v; token = w; refusal = q })) last) ordered
  by_turn InOrder w q = both (is_before ordered (record { turn = InOrder; token = w; refusal = q }))
    where
      both : (b : Bool) → earlier (if b then Some ordered else Some (record { turn = InOrder; token = w; refusal = q })) last ≡
          (if b then Some ordered else Some (record { turn = InOrder; token = w; refusal = q }))
      both true = refl
      both false = refl
  by_turn SizeValue w q = refl
  by_turn MeshCells w q = both (is_before last (record { turn = MeshCells; token = w; refusal = q }))
    where
      both : (b : Bool) → Some ordered ≡ earlier (if b then Some last else Some (record { turn = MeshCells; token = w; refusal = q })) ordered
      both true = refl
      both false = refl

  swap : (o : Option Found) (b c : Bool) → least_from (least_from o (found_in InOrder b t r)) (found_in MeshCells c u s) ≡ least_from (least_from o (found_in MeshCells c u s)) (found_in InOrder b t r)
  swap o false c = refl
  swap o true false = refl
  swap None true true = refl
  swap (Some f) true true = by_turn f.turn f.token f.refusal

-- ---- the first

some_or : (f : Found) (gs : List Found) (o : Option Found) → least_from (Some f) gs ≡ option_or (least_from (Some f) gs) o
some_or f [] o = refl
some_or f (x ∷ gs) o = pick (some_or x gs o) (some_or f gs o) (is_before x f)
  where
    pick : least_from (Some x) gs ≡ option_or (least_from (Some x) gs) o → least_from (Some f) gs ≡ option_or (least_from (Some f) gs) o
        → (b : Bool) → least_from (if b then Some x else Some f) gs ≡ option_or (least_from (if b then Some x else Some f) gs) o
    pick h k true = h
    pick h k false = k

pub never_none : (f : Found) (gs : List Found) → least_from (Some f) gs ≡ None → ⊥
never_none f gs e = let bad : None ≡ Some f = sym e ∙ some_or f gs (Some f) ∙ ap (λ o. option_or o (Some f)) e in cc

-- ---- a map of which all but the targets is right

dim_is : (n : ℕ) → nat_eq n 0 ≡ false → nat_lt max_dim n ≡ false → is_dim n ≡ true
dim_is n e f =
    let p : 0 < n = grind (arith, eqb-false) in
    let a : nat_lt 0 n ≡ true = lt-ltb 0 n p in
    rw (a, f) refl

module _ (places : List Pos) (g : MeshValue) (dim : ℕ) (x : Ident) where
  aimed : (from to : Option ℕ) (zs : Option (List ℤ)) → is_none from ≡ false → is_none to ≡ false → is_dim dim ≡ true → data_found places zs (awaited g from dim) x ≡ []
      → target_found places g dim x zs (awaited g from dim) to ≡ stray_found places (map_count g) dim x (first_stray (set_size g (or_zero to)) 0 (or_none zs))
  aimed None to zs p q d e = never p
  aimed (Some s) None zs p q d e = never q
  aimed (Some s) (Some t) None p q d e = never (not_in InOrder true x.at (refusal.UnknownEntry (place places x.at)) e)
  aimed (Some s) (Some t) (Some zs) p q d e =
      let w : awaited g (Some s) dim ≡ Some (set_size g s * dim) = ap (λ (b : Bool). if b then Some (set_size g s * dim) else None) d in
      let f : nat_eq (length zs) (set_size g s * dim) ≡ true =
      not-false (nat_eq (length zs) (set_size g s * dim))
      (not_in InOrder (not (nat_eq (length zs) (set_size g s * dim))) x.at (refusal.DimMismatch (place places x.at))
      (subst (λ o. data_found places (Some zs) o x ≡ []) w e)) in
      ap (λ o. target_found places g dim x (Some zs) o (Some t)) w
      ∙ ap (λ (b : Bool). if b then stray_found places (map_count g) dim x (first_stray (set_size g t) 0 zs) else []) f

  -- it is at most one, in the order of the tokens
  target_in_order : (zs : Option (List ℤ)) (n to : Option ℕ) → (b : Bool) × (r : BindRefusal) × (target_found places g dim x zs n to ≡ found_in InOrder b x.at r)
  target_in_order None n to = (false, refusal.OutOfMemory, refl)
  target_in_order (Some zs) None to = (false, refusal.OutOfMemory, refl)
  target_in_order (Some zs) (Some n) None = (false, refusal.OutOfMemory, refl)
  target_in_order (Some zs) (Some n) (Some to) = pick (nat_eq (length zs) n) (first_stray (set_size g to) 0 zs)
    where
      pick : (c : Bool) (o : Option ℕ) → (b : Bool) × (r : BindRefusal) × ((if c then stray_found places (map_count g) dim x o else []) ≡ found_in InOrder b x.at r)
      pick false o = (false, refusal.OutOfMemory, refl)
      pick true None = (false, refusal.OutOfMemory, refl)
      pick true (Some i) = (true, refusal.MapTarget (place places x.at) (map_count g) (i / dim) (i % dim), refl)

module _ (places : List Pos) (entries : List Named) (k : Declared) (nested : Bool) (t : ℕ) (from to : Ident) (n : NumberLiteral) (x : Ident) where
  abbrev given : Option (List ℤ)
  given = array_of entries x.name (means k.names x.name)

  abbrev awaits : Option ℕ
  awaits = awaited k.mesh (set_of (means k.names from.name)) (count_of n)

  -- the targets may come last
  pub once : first_of (map_decl_found places entries k nested t from to n x) ≡ least_from
      (first_of (shape_decl_found places entries k nested t from to n x)) (targets_found places entries k from to n x)
  once =
      let p = place_found places k nested t ++ found_over InOrder max_maps (suc (map_count k.mesh)) t counted.Maps in
      let m = set_found places k from ++ set_found places k to ++ dim_found places n ++ data_found places given awaits x in
      let y = targets_found places entries k from to n x in
      let c = cells_found places t (k.filled + length (or_none given)) in
      let o = least_from (least_from None p) m in
      let whole : first_of (p ++ (m ++ y ++ c)) ≡ least_from (least_from o y) c = least_append None p (m ++ y ++ c)
      ∙ least_append (least_from None p) (m ++ y) c ∙ ap (λ z. least_from z c) (least_append (least_from None p) m y) in
      let shape : first_of (p ++ (m ++ c)) ≡ least_from o c = least_append None p (m ++ c) ∙ least_append (least_from None p) m c in
      let a = target_in_order places k.mesh (count_of n) x given awaits (set_of (means k.names to.name)) in
      let size = k.filled + length (or_none given) in
      let s : least_from (least_from o y) c ≡ least_from (least_from o c) y =
      subst (λ z. least_from (least_from o z) c ≡ least_from (least_from o c) z) (sym a.2)
      (swap x.at t a.1 (refusal.Limit counted.MeshCells size) o a.0 (nat_lt max_cells size)) in
      whole ∙ s ∙ ap (λ z. least_from z y) (sym shape)

  -- where nothing else is wrong, each value has its set
  pub targets_are_strays : first_of (shape_decl_found places entries k nested t from to n x) ≡ None → targets_found places entries k from to n x ≡ strays_found places entries k to n x
  targets_are_strays none =
      let p = place_found places k nested t ++ found_over InOrder max_maps (suc (map_count k.mesh)) t counted.Maps in
      let a = set_found places k from in
      let b = set_found places k to in
      let d = dim_found places n in
      let e = data_found places given awaits x in
      let c = cells_found places t (k.filled + length (or_none given)) in
      let all : p ++ (a ++ b ++ d ++ e ++ c) ≡ [] = nothing_found (p ++ (a ++ b ++ d ++ e ++ c)) none in
      let m : a ++ b ++ d ++ e ≡ [] = left_nil (a ++ b ++ d ++ e) c (right_nil p (a ++ b ++ d ++ e ++ c) all) in
      let abd : a ++ b ++ d ≡ [] = left_nil (a ++ b ++ d) e m in
      let ab : a ++ b ≡ [] = left_nil (a ++ b) d abd in
      let zero_dim = found_if places (nat_eq (count_of n) 0) n.at refusal.DimMismatch in
      let over_dim = found_over InOrder max_dim (count_of n) n.at counted.Dim in
      let ds : d ≡ [] = right_nil (a ++ b) d abd in
      aimed places k.mesh (count_of n) x (set_of (means k.names from.name)) (set_of (means k.names to.name)) given
      (not_in InOrder (is_none (set_of (means k.names from.name))) from.at _ (left_nil a b ab))
      (not_in InOrder (is_none (set_of (means k.names to.name))) to.at _ (right_nil a b ab))
      (dim_is (count_of n) (not_in InOrder (nat_eq (count_of n) 0) n.at _ (left_nil zero_dim over_dim ds)) (not_in InOrder (nat_lt max_dim (count_of n)) n.at _ (right_nil zero_dim over_dim ds)))
      (right_nil (a ++ b ++ d) e m)

  -- nothing else is wrong
  pub only_strays : first_of (shape_decl_found places entries k nested t from to n x) ≡ None
      → first_of (map_decl_found places entries k nested t from to n x) ≡ first_of (strays_found places entries k to n x)
  only_strays none = once ∙ ap (λ o. least_from o (targets_found places entries k from to n x)) none ∙ ap first_of (targets_are_strays none)

  -- something else is wrong
  pub more_than_strays : (f : Found) → first_of (shape_decl_found places entries k nested t from to n x) ≡ Some f
      → first_of (map_decl_found places entries k nested t from to n x) ≡ option_or (least_from (Some f) (targets_found places entries k from to n x)) (first_of (strays_found places entries k to n x))
  more_than_strays f some = once ∙ ap (λ o. least_from o (targets_found places entries k from to n x)) some
      ∙ some_or f (targets_found places entries k from to n x) (first_of (strays_found places entries k to n x))

-- ---- what adding the map answers

stray_at : (size i : ℕ) (good later : List ℤ) (bad : ℤ) → AreElements size good → is_element size bad ≡ false → first_stray size i (good ++ bad ∷ later) ≡ Some (i + length good)
stray_at size i [] later bad h e = rw e (ap Some (omega arith))
stray_at size i (z ∷ good) later bad h e =
    rw (All-head (λ y. is_element size y ≡ true) z good h)
    (stray_at size (suc i) good later bad (All-tail (λ y. is_element size y ≡ true) z good h) e ∙ ap Some (omega arith))

no_stray : (size i : ℕ) (zs : List ℤ) → AreElements size zs → first_stray size i zs ≡ None
no_stray size i [] h = refl
no_stray size i (z ∷ zs) h =
    rw (All-head (λ y. is_element size y ≡ true) z zs h) (no_stray size (suc i) zs (All-tail (λ y. is_element size y ≡ true) z zs h))

first_bad_is : (size i : ℕ) (zs : List ℤ) → IsFirstBad size zs i → first_stray size 0 zs ≡ Some i
first_bad_is size i zs b =
    let at : 0 + length b.good ≡ i = omega (arith, b.at) in
    ap (λ ys. first_stray size 0 ys) b.whole ∙ stray_at size 0 b.good b.later b.bad b.before b.no_element ∙ ap Some at

module _ (places : List Pos) (m dim size : ℕ) (x : Ident) (zs : List ℤ) where
  pub good_targets : {A : Type 0} (y : A) → AreElements size zs → unless_found (stray_found places m dim x (first_stray size 0 zs)) y ≡ Ok y
  good_targets y h = rw (no_stray size 0 zs h) refl

  pub bad_target : {A : Type 0} (y : A) (r : MapRefusal) → RefusesTarget size dim zs r → unless_found (stray_found places m dim x (first_stray size 0 zs)) y ≡ Err (target_refusal places m x r)
  bad_target y OutOfMemory h = absurd h
  bad_target y (Target e k) h = rw (first_bad_is size (e * dim + k) zs h.0, div-mul-add e dim k h.1, mod-mul-add e dim k h.1) refl

  pub bad_target_answers : {A : Type 0} (y : A) (r : MapRefusal) (q : BindRefusal) → q ≡ target_refusal places m x r → (r ≡ OutOfMemory) ⊎ RefusesTarget size dim zs r
      → (q ≡ refusal.OutOfMemory) ⊎ (unless_found (stray_found places m dim x (first_stray size 0 zs)) y ≡ Err q)
  bad_target_answers y r q e (inl o) = inl (e ∙ ap (λ s. target_refusal places m x s) o)
  bad_target_answers y r q e (inr b) = inr (bad_target y r b ∙ ap Err (sym e))

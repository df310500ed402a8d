-- A head fits where the program does.
use Rattle.std.proofs.Common.{◌≡◌, ◌≤◌, ◌<◌, ◌+◌, ◌++◌, ℕ, zero, suc, Bool, true, false, List, [], ◌∷◌, length, map, take, get_or, sum_by, Option, Some, None, refl, sym, ap, ◌∙◌, subst, arith, append_assoc}
use Rattle.std.specs.Prelude.{nat_eq, codes, if◌then◌else◌}
use Rattle.std.specs.List.{range_with_len, list_all}
use Rattle.std.specs.Fmt.{decimal}
use Rattle.std.proofs.lemmas.Bool.{false≢true, and_parts}
use Rattle.std.proofs.lemmas.List.{get_or-map, length-map}
use Rattle.std.proofs.lemmas.List.Sums.{sum_by-cons}
use Rattle.std.proofs.lemmas.List.FromFn.{length-map-range_with_len, get_or-map-range_with_len}
use Rattle.kernel_model.specs.View.{RExprTree, Number, Scalar, Constant, Arg as Param, Local, Const, Unary, Binary, Choice, Paren, Extremum, Absolute}
use Rattle.kernel_model.specs.declared.types.kernels.RKernel.{RKernel}
use Rattle.mesh_decl.specs.Mesh.{dat_count}
use Rattle.mesh_decl.specs.Printed.{conversions, one_more}
use Rattle.bound_program.specs.declared.sites.Arg.{Arg}
use Rattle.bound_program.specs.declared.sites.Arg.TheVariants.{Dat, Global}
use Rattle.bound_program.specs.Values.{BoundValue, ItemValue, Free, Reduce, Ordered, Host, ActValue, Clear, Assign, Line, Print, Exit, SiteValue, VarValue}
use Rattle.bound_program.specs.Fits.{KernelFits, ArgFits, SiteFits, HostWithin, IndexWithin, all_cells, ActFits, due, ItemsFit, EndsWithHost}
use Rattle.run_model.specs.Windows.{numbers}
use Rattle.checkpoint.specs.Cut.{is_merging, says, says_var, says_vars, says_dat, says_state, places, more_places, head}
use Rattle.checkpoint.specs.Laws.{HeadsFit}
use Rattle.checkpoint.proofs.Printing.{plain, IsPlain, no_percent, both_plain, decimal_plain, first_plain, last_plain}

-- ---- texts

one_taken : (x : ℕ) (ds : List ℕ) → nat_eq x 37 ≡ false → conversions (x ∷ ds) ≡ conversions ds
one_taken x [] h = ap (λ t. if t then None else Some 0) h
one_taken x (d ∷ ds) h = ap (λ t. if t then (if nat_eq d 100 then one_more (conversions ds) else (if nat_eq d 37 then conversions ds else None)) else conversions (d ∷ ds)) h

none_taken : (xs r : List ℕ) → IsPlain xs → conversions (xs ++ r) ≡ conversions r
none_taken [] r h = refl
none_taken (x ∷ xs) r h =
    let k = and_parts (plain x) (list_all plain xs) h in
    one_taken x (xs ++ r) (no_percent x k.0) ∙ none_taken xs r k.1

text_takes : (xs : List ℕ) → IsPlain xs → conversions xs ≡ Some 0
text_takes [] h = refl
text_takes (x ∷ xs) h =
    let k = and_parts (plain x) (list_all plain xs) h in
    one_taken x xs (no_percent x k.0) ∙ text_takes xs k.1

more_taken : (is : List ℕ) → conversions (more_places is ++ codes "\n") ≡ Some (length is)
more_taken [] = refl
more_taken (i ∷ is) = ap one_more (more_taken is) ∙ (let e : length is + 1 ≡ suc (length is) = omega arith in ap Some e)

places_taken : (is : List ℕ) → conversions (places is) ≡ Some (length is)
places_taken [] = refl
places_taken (i ∷ is) = ap one_more (more_taken is) ∙ (let e : length is + 1 ≡ suc (length is) = omega arith in ap Some e)

-- ---- items

module _ (b : BoundValue) (k : ℕ) where
  abbrev c : BoundValue
  c = head b k

  host_moved : (e : RExprTree) → HostWithin b e → HostWithin c e
  host_moved (Number n) h = h
  host_moved (Scalar n) h = h
  host_moved (Constant n) h = h
  host_moved (Param x form e at) h = h
  host_moved (Local from count form e at) h = (h.0, host_moved e h.1)
  host_moved (Const from count form e at) h = h
  host_moved (Unary op e) h = host_moved e h
  host_moved (Binary op x y at) h = (host_moved x h.0, host_moved y h.1)
  host_moved (Choice d x y) h = (host_moved d h.0, host_moved x h.1, host_moved y h.2)
  host_moved (Paren e) h = host_moved e h
  host_moved (Extremum which x y) h = (host_moved x h.0, host_moved y h.1)
  host_moved (Absolute e) h = host_moved e h

  index_moved : (i : Option RExprTree) → IndexWithin b i → IndexWithin c i
  index_moved None h = h
  index_moved (Some e) h = host_moved e h

  act_moved : (a : ActValue) → ActFits b a → ActFits c a
  act_moved (Clear v) h = h
  act_moved (Assign v i op op_at e at) h = (h.0, h.1, index_moved i h.2, host_moved e h.3)
  act_moved (Line text es) h = (h.0, λ i d l. host_moved (get_or es i d) (h.1 i d l))
  act_moved (Print d file) h = h
  act_moved Exit h = h

  items_cut : (o : Option ℕ) (xs ys : List ItemValue) (n : ℕ) → ItemsFit b o xs → is_merging (get_or xs n (Host Exit)) ≡ false → ItemsFit c None ys → ItemsFit c o (take n xs ++ ys)
  items_cut None [] ys zero f m g = g
  items_cut None [] ys (suc n) f m g = g
  items_cut None (Free s ∷ xs) ys zero f m g = g
  items_cut None (Ordered s ∷ xs) ys zero f m g = g
  items_cut None (Host a ∷ xs) ys zero f m g = g
  items_cut None (Reduce s ∷ xs) ys n f m g = absurd f
  items_cut None (Free s ∷ xs) ys (suc n) f m g = (f.0, f.1, items_cut (due b s) xs ys n f.2 m g)
  items_cut None (Ordered s ∷ xs) ys (suc n) f m g = (f.0, f.1, items_cut None xs ys n f.2 m g)
  items_cut None (Host a ∷ xs) ys (suc n) f m g = (act_moved a f.0, items_cut None xs ys n f.1 m g)
  items_cut (Some s) [] ys n f m g = absurd f
  items_cut (Some s) (Reduce r ∷ xs) ys zero f m g = absurd (false≢true (sym m))
  items_cut (Some s) (Reduce r ∷ xs) ys (suc n) f m g = (f.0, items_cut None xs ys n f.1 m g)
  items_cut (Some s) (Free r ∷ xs) ys n f m g = absurd f
  items_cut (Some s) (Ordered r ∷ xs) ys n f m g = absurd f
  items_cut (Some s) (Host r ∷ xs) ys n f m g = absurd f

  -- ---- the statements that print the state

  text_fits : (text : List ℕ) → IsPlain text → ActFits c (Line text [])
  text_fits text h = (text_takes text h, λ i d l. absurd (omega (arith, l)))

  var_fits : (n from count : ℕ) → from + count ≤ all_cells c
      → ActFits c (Line (codes "var " ++ decimal n ++ codes " " ++ decimal (length (map (λ i. from + i) (numbers count))) ++ codes "\n" ++
      places (map (λ i. from + i) (numbers count))) (map Scalar (map (λ i. from + i) (numbers count))))
  var_fits n from count le =
      let ks : List ℕ = map (λ i. from + i) (numbers count) in
      let long : length ks ≡ count = length-map-range_with_len (λ i. from + i) 0 count in
      let front : List ℕ = codes "var " ++ decimal n ++ codes " " ++ decimal (length ks) ++ codes "\n" in
      let is_plain : IsPlain front =
      both_plain (codes "var " ++ decimal n ++ codes " " ++ decimal (length ks)) (codes "\n")
      (both_plain (codes "var " ++ decimal n ++ codes " ") (decimal (length ks))
      (both_plain (codes "var " ++ decimal n) (codes " ") (both_plain (codes "var ") (decimal n) refl (decimal_plain n)) refl)
      (decimal_plain (length ks)))
      refl in (
        none_taken front (places ks) is_plain ∙ (places_taken ks ∙ ap Some (sym (length-map ks Scalar))),
        λ i d l.
            let li : i < length ks = subst (λ m. i < m) (length-map ks Scalar) l in
            let lc : i < count = omega (arith, long, li) in
            let e : get_or ks i 0 ≡ from + i = get_or-map-range_with_len (λ i. from + i) 0 count i i 0 lc (omega arith) in
            subst (HostWithin c) (sym (get_or-map Scalar ks i 0 d li)) (let lt : get_or ks i 0 < all_cells c = omega (arith, e, lc, le) in lt),
      )

  vars_fit : (xs : List VarValue) (n from : ℕ) (ys : List ItemValue) → from + sum_by (λ (v : VarValue). length v.start) xs ≤ all_cells c
      → ItemsFit c None ys → ItemsFit c None (says_vars n from xs ++ ys)
  vars_fit [] n from ys le g = g
  vars_fit (x ∷ xs) n from ys le g =
      by x.is_const
      (λ m. vars_fit xs m (from + length x.start) ys (omega (arith, le, sum_by-cons (λ (v : VarValue). length v.start) x xs)) g)
    where
      by : (t : Bool) → ((m : ℕ) → ItemsFit c None (says_vars m (from + length x.start) xs ++ ys))
          → ItemsFit c None ((if t then says_vars n (from + length x.start) xs
          else says_var n (map (λ i. from + i) (numbers (length x.start))) ∷ says_vars (suc n) (from + length x.start) xs) ++ ys)
      by true rest = rest n
      by false rest = (
        var_fits n from (length x.start) (omega (arith, le, sum_by-cons (λ (v : VarValue). length v.start) x xs)),
        rest (suc n),
      )

  dats_fit : (d n : ℕ) (ys : List ItemValue) → d + n ≤ dat_count b.mesh → ItemsFit c None ys → ItemsFit c None (map says_dat (range_with_len d n) ++ ys)
  dats_fit d zero ys le g = g
  dats_fit d (suc n) ys le g = ((let l : d < dat_count b.mesh = omega (arith, le) in l), dats_fit (d + 1) n ys (omega (arith, le)) g)

  -- ---- loops

  arg_moved : (set : ℕ) (x : Arg) → ArgFits b set x → ArgFits c set x
  arg_moved set (Dat d None a) h = h
  arg_moved set (Dat d (Some v) a) h = h
  arg_moved set (Global v a) h = h

  site_moved : (s : SiteValue) → SiteFits b s → SiteFits c s
  site_moved s h = record {
    kernel = h.kernel;
    set = h.set;
    few = h.few;
    args = λ i d l. arg_moved s.set (get_or s.args i d) (h.args i d l);
    apart = h.apart;
    class = h.class;
  }

  kernel_moved : (x : RKernel) → KernelFits b x → KernelFits c x
  kernel_moved x h = record { resolved = h.resolved; constants = h.constants }

ends : (xs : List ItemValue) (a : ActValue) → EndsWithHost (xs ++ Host a ∷ [])
ends [] a = tt
ends (Free s ∷ []) a = tt
ends (Reduce s ∷ []) a = tt
ends (Ordered s ∷ []) a = tt
ends (Host h ∷ []) a = tt
ends (Free s ∷ y ∷ xs) a = ends (y ∷ xs) a
ends (Reduce s ∷ y ∷ xs) a = ends (y ∷ xs) a
ends (Ordered s ∷ y ∷ xs) a = ends (y ∷ xs) a
ends (Host h ∷ y ∷ xs) a = ends (y ∷ xs) a

pub heads_fit : HeadsFit
heads_fit b k fits cut small =
    let d = head b k in
    let first = codes "\nop2state 1\nitem " ++ decimal k ++ codes "\n" in
    let vars = says_vars 0 0 b.vars in
    let dats = map says_dat (numbers (dat_count b.mesh)) in
    let end = says (codes "done\n") ∷ [] in
    let last_fits : ItemsFit d None end = (text_fits b k (codes "done\n") last_plain, tt) in
    let with_dats : ItemsFit d None (dats ++ end) = dats_fit b k 0 (dat_count b.mesh) end (let l : 0 + dat_count b.mesh ≤ dat_count b.mesh = omega arith in l) last_fits in
    let with_vars : ItemsFit d None (vars ++ (dats ++ end)) =
    vars_fit b k b.vars 0 0 (dats ++ end)
    (let l : 0 + sum_by (λ (v : VarValue). length v.start) b.vars ≤ all_cells d = omega arith in l) with_dats in
    let all : ItemsFit d None (says_state b k) =
    subst (ItemsFit d None) (ap (λ l. says first ∷ l) (sym (append_assoc vars dats end))) (text_fits b k first (first_plain k), with_vars) in
    record {
      mesh = fits.mesh;
      kernels = λ i x l. kernel_moved b k (get_or b.kernels i x) (fits.kernels i x l);
      constants = record { within = fits.constants.within; apart = fits.constants.apart };
      sites = λ i s l. site_moved b k (get_or b.sites i s) (fits.sites i s l);
      items = items_cut b k None b.trace (says_state b k) k fits.items cut.whole all;
      last = subst EndsWithHost (append_assoc (take k b.trace) (says first ∷ vars ++ dats) end) (ends (take k b.trace ++ (says first ∷ vars ++ dats)) (Line (codes "done\n") []));
      few = small;
    }

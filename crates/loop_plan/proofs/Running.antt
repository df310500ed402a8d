-- Which loops run as Free ones, and which of their arguments merge amounts.
use Rattle.std.proofs.Common.{◌≡◌, ◌<◌, ◌+◌, ℕ, zero, suc, Bool, true, false, refl, sym, ap, ◌∙◌, arith, List, [], ◌∷◌, ◌++◌, length, get_or, take}
use Rattle.std.specs.Prelude.{◌||◌, All, nat_eq, Option, Some, None, if◌then◌else◌}
use Rattle.std.specs.List.{list_any}
use Rattle.std.proofs.lemmas.List.{take_more}
use Rattle.std.proofs.lemmas.List.Folds.{list_any-append}
use Rattle.std.proofs.lemmas.List.Elements.{All-head, All-tail}
use Rattle.mesh_decl.specs.declared.access.Via.{Via}
use Rattle.mesh_decl.specs.Mesh.{dat_set}
use Rattle.colouring.specs.declared.types.IncArg.{IncArg}
use Rattle.colouring.specs.Colours.{Leads, IsArg}
use Rattle.bound_program.specs.declared.sites.Arg.{Arg}
use Rattle.bound_program.specs.declared.sites.Arg.TheVariants.{Dat, Global}
use Rattle.bound_program.specs.Classes.{is_reducing}
use Rattle.bound_program.specs.Values.{Exit, ItemValue, Free, Reduce, Ordered, Host, BoundValue}
use Rattle.bound_program.specs.Fits.{ViaFits, ArgFits}
use Rattle.loop_plan.specs.Needs.{item_at, run_of}
use Rattle.loop_plan.specs.Places.{reducing, runs_loop, is_run}
use Rattle.std.proofs.Math.Bool.{or-false}

one_run : (i : ItemValue) (s : ℕ) → is_run (run_of i) s ≡ list_any (runs_loop s) (i ∷ [])
one_run (Free n) s = sym (or-false (nat_eq n s))
one_run (Reduce n) s = refl
one_run (Ordered n) s = refl
one_run (Host a) s = refl

-- one item more
pub running_more : (b : BoundValue) (k s : ℕ) (old new : Bool)
    → k < length b.trace
    → old ≡ list_any (runs_loop s) (take k b.trace)
    → new ≡ (old || is_run (run_of (item_at b k)) s)
    → new ≡ list_any (runs_loop s) (take (k + 1) b.trace)
unfolding item_at
running_more b k s old new l o n =
    let x : ItemValue = get_or b.trace k (Host Exit) in
    n
    ∙ (ap (λ z. z || is_run (run_of x) s) o
    ∙ (ap (λ z. list_any (runs_loop s) (take k b.trace) || z) (one_run x s)
    ∙ (sym (list_any-append (runs_loop s) (take k b.trace) (x ∷ []))
    ∙ sym (ap (list_any (runs_loop s)) (take_more b.trace k (Host Exit) l)))))

-- ---- arguments

if_append : (t : Bool) (x : IncArg) (xs ys : List IncArg)
    → (if t then x ∷ (xs ++ ys) else xs ++ ys) ≡ (if t then x ∷ xs else xs) ++ ys
if_append true x xs ys = refl
if_append false x xs ys = refl

reducing_append : (xs ys : List Arg) → reducing (xs ++ ys) ≡ reducing xs ++ reducing ys
reducing_append [] ys = refl
reducing_append (Global v a ∷ xs) ys = reducing_append xs ys
reducing_append (Dat d v a ∷ xs) ys =
    ap (λ (z : List IncArg). if is_reducing a then record { dat = d; via = v } ∷ z else z) (reducing_append xs ys)
    ∙ if_append (is_reducing a) (record { dat = d; via = v }) (reducing xs) (reducing ys)

-- one argument more
pub reducing_more : (args : List Arg) (i : ℕ) (d : Arg) (old new : List IncArg)
    → i < length args
    → old ≡ reducing (take i args)
    → new ≡ old ++ reducing (get_or args i d ∷ [])
    → new ≡ reducing (take (i + 1) args)
reducing_more args i d old new l o n =
    n
    ∙ (ap (λ (z : List IncArg). z ++ reducing (get_or args i d ∷ [])) o
    ∙ (sym (reducing_append (take i args) (get_or args i d ∷ [])) ∙ sym (ap reducing (take_more args i d l))))

module _ (b : BoundValue) (set : ℕ) where
  leads : (d : ℕ) (v : Option Via) → ViaFits b set d v → Leads b.mesh set (dat_set b.mesh d) v
  leads d None h = h
  leads d (Some v) h = (h.0, h.3, h.1, h.2)

  one_more : (t : Bool) (x : IncArg) (xs : List IncArg)
      → IsArg b.mesh set x
      → ((a : ℕ) (d : IncArg) → a < length xs → IsArg b.mesh set (get_or xs a d))
      → (a : ℕ) (d : IncArg) → a < length (if t then x ∷ xs else xs) → IsArg b.mesh set (get_or (if t then x ∷ xs else xs) a d)
  one_more true x xs h all zero d l = h
  one_more true x xs h all (suc a) d l = all a d (omega arith)
  one_more false x xs h all a d l = all a d l

  -- what merges amounts is an argument of a loop over the set
  pub reducing_are : (args : List Arg) → All (ArgFits b set) args
      → (a : ℕ) (d : IncArg) → a < length (reducing args) → IsArg b.mesh set (get_or (reducing args) a d)
  reducing_are [] h a d l = absurd (omega arith)
  reducing_are (Global v x ∷ xs) h a d l = reducing_are xs (All-tail (ArgFits b set) (Global v x) xs h) a d l
  reducing_are (Dat e v x ∷ xs) h a d l =
      let here : ArgFits b set (Dat e v x) = All-head (ArgFits b set) (Dat e v x) xs h in
      one_more (is_reducing x) (record { dat = e; via = v }) (reducing xs) (record { dat = here.0; leads = leads e v here.2 })
      (reducing_are xs (All-tail (ArgFits b set) (Dat e v x) xs h)) a d l

-- Items by their numbers, and the bits behind each.
use Rattle.std.proofs.Common.{◌≡◌, ◌<◌, ◌+◌, ℕ, zero, suc, Bool, false, cond, refl, sym, ap, ◌∙◌, arith, List, [], ◌∷◌, ◌++◌, length, get_or, map}
use Rattle.std.specs.Prelude.{◌&&◌, ◌||◌, not, slice_index_or}
use Rattle.std.proofs.lemmas.List.{get_or-map, length-map}
use Rattle.lemmas.specs.Below.{listed}
use Rattle.schedule_model.specs.History.{stale_bit}
use Rattle.bound_program.specs.declared.acts.Item.{Item}
use Rattle.bound_program.specs.declared.sites.Arg.{Arg}
use Rattle.bound_program.specs.Values.{Exit, ItemValue, Free, Reduce, Ordered, Host, BoundValue, item_of}
use Rattle.bound_program.specs.Fits.{site_at}
use Rattle.loop_plan.specs.declared.exchange.LoopRun.TheVariants as run
use Rattle.loop_plan.specs.Needs.{needs, free_args, run_of, stale_before, item_modifies, item_needs}
use Rattle.std.proofs.Math.Bool.{and-false}

pub item_read : (trace : List Item) (k : ℕ) (x : Item) → k < length trace → x ≡ get_or trace k x → item_of x ≡ slice_index_or (map item_of trace) k (Host Exit)
item_read trace k x l e = ap item_of e ∙ sym (get_or-map item_of trace k x (Host Exit) l)

pub traced : (trace : List Item) (k : ℕ) → k < length (map item_of trace) → k < length trace
traced trace k l = let e : length (map item_of trace) ≡ length trace = length-map trace item_of in omega arith

module _ (b : BoundValue) where
  pub args_of_free : (i : ItemValue) (s : ℕ) → run_of i ≡ run.Free s → free_args b i ≡ (site_at b s).args
  args_of_free (Free n) s h = let e : n ≡ s = cc in ap (λ z. (site_at b z).args) e
  args_of_free (Ordered n) s h = cc
  args_of_free (Reduce n) s h = cc
  args_of_free (Host a) s h = cc

  pub args_of_ordered : (i : ItemValue) (s : ℕ) → run_of i ≡ run.Ordered s → free_args b i ≡ []
  args_of_ordered (Free n) s h = cc
  args_of_ordered (Ordered n) s h = refl
  args_of_ordered (Reduce n) s h = refl
  args_of_ordered (Host a) s h = refl

  pub args_of_none : (i : ItemValue) → run_of i ≡ run.No → free_args b i ≡ []
  args_of_none (Free n) h = cc
  args_of_none (Ordered n) h = refl
  args_of_none (Reduce n) h = refl
  args_of_none (Host a) h = refl

-- nothing is listed where no test holds
listed_none : (n : ℕ) (p : ℕ → Bool) → ((d : ℕ) → p d ≡ false) → listed n p ≡ []
listed_none zero p h = refl
listed_none (suc n) p h = ap (λ (z : List ℕ). z ++ cond (p n) (n ∷ []) []) (listed_none n p h) ∙ ap (λ z. cond z (n ∷ []) []) (h n)

-- a loop without arguments exchanges nothing
pub nothing_needed : (n : ℕ) (bits : List Bool) (args : List Arg) (now : List ℕ) → args ≡ [] → now ≡ [] → now ≡ listed n (λ d. slice_index_or bits d false && needs args d)
nothing_needed n bits args now e h =
    h ∙ sym (listed_none n (λ d. slice_index_or bits d false && needs args d) (λ d. ap (λ z. slice_index_or bits d false && needs z d) e ∙ and-false (slice_index_or bits d false)))

stale_more : (m n : ℕ → Bool) (k : ℕ) → stale_bit m n (k + 1) ≡ (m k || (stale_bit m n k && not (n k)))
stale_more m n k = let e : k + 1 ≡ suc k = omega arith in ap (stale_bit m n) e

module _ (b : BoundValue) where
  pub bit_more : (k d : ℕ) (old new : Bool) → old ≡ stale_before b k d → new ≡ (item_modifies b k d || (old && not (item_needs b k d))) → new ≡ stale_before b (k + 1) d
  bit_more k d old new e h =
      h ∙ (ap (λ z. item_modifies b k d || (z && not (item_needs b k d))) e ∙ sym (stale_more (λ i. item_modifies b i d) (λ i. item_needs b i d) k))

-- Needs and executed elements, item by item.
use Rattle.std.proofs.Common.{◌≡◌, ℕ, suc, ◌<◌, ◌≤◌, true, false, List, [], ◌∷◌, length, drop, drop-cons, refl, sym, ap, ◌∙◌, ⊎_elim}
use Rattle.std.proofs.lemmas.Bool.{cases_lt, false≢true, or_left}
use Rattle.std.proofs.lemmas.List.{drop_all}
use Rattle.mesh_decl.specs.declared.owners.Owners.{Owners}
use Rattle.schedule_model.specs.Program as program
use Rattle.schedule_model.specs.Program.{is_free}
use Rattle.schedule_model.specs.Tests.{free_kind}
use Rattle.bound_program.specs.Values.{BoundValue, SiteValue, ItemValue, Free, Reduce, Ordered, Host, Exit}
use Rattle.run_model.specs.Programs.{kind_of, item_at}
use Rattle.run_model.specs.Laws.{site_of}
use Rattle.bound_plan.proofs.Public.{free_item, item_there}
use Rattle.chain_model.specs.Slices.{owns_pair, needs_before, free_sites, loops_from, needs, executes}
use Rattle.chain_model.specs.Laws.{AreBackwards}

module _ (b : BoundValue) where
  -- an item that isn't Free begins no chain
  none_first : (i : ItemValue) (xs : List ItemValue) → is_free (kind_of i) ≡ false → free_sites b (i ∷ xs) ≡ []
  none_first (Free s) xs h = absurd (false≢true (sym h))
  none_first (Reduce s) xs h = refl
  none_first (Ordered s) xs h = refl
  none_first (Host a) xs h = refl

  pub no_loops : (k : ℕ) → is_free (kind_of (item_at b k)) ≡ false → loops_from b k ≡ []
  no_loops k h = ⊎_elim
      (λ (l : k < length b.trace). ap (free_sites b) (drop-cons b.trace k (Host Exit) l) ∙ none_first (item_at b k) (drop (suc k) b.trace) h)
      (λ (l : length b.trace ≤ k). ap (free_sites b) (drop_all k b.trace l))
      (cases_lt k (length b.trace))

  -- the loop of a Free item is the first of those from it on
  pub next_loop : (k : ℕ) → kind_of (item_at b k) ≡ program.Free → loops_from b k ≡ site_of b k ∷ loops_from b (suc k)
  next_loop k h =
      ap (free_sites b) (drop-cons b.trace k (Host Exit) (item_there b k h))
      ∙ ap (λ i. free_sites b (i ∷ drop (suc k) b.trace)) (free_item (item_at b k) h)

  module _ (o : Owners) where
    pub backwards : AreBackwards b o
    unfolding needs executes
    backwards = record {
      last = λ k r d y h. ap (λ l. needs_before b o r l d y) (no_loops k h);
      needed = λ k r d y h. ap (λ l. needs_before b o r l d y) (next_loop k (free_kind (kind_of (item_at b k)) h));
      executed = λ k r e. refl;
    }

    -- a rank needs its own pairs
    own_needed : (r d y : ℕ) (l : List SiteValue) → owns_pair b o r d y ≡ true → needs_before b o r l d y ≡ true
    own_needed r d y [] h = h
    own_needed r d y (site ∷ l) h = or_left (needs_before b o r l d y) _ (own_needed r d y l h)

    pub owns_needed : (k r d y : ℕ) → owns_pair b o r d y ≡ true → needs b o k r d y ≡ true
    unfolding needs
    owns_needed k r d y h = own_needed r d y (loops_from b k) h

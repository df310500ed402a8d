-- The loop of an item is there, and what its statement names.
use Rattle.std.proofs.Common.{◌≡◌, ◌<◌, ℕ, zero, suc, true, List, [], ◌∷◌, length, get_or, Option, Some, None}
use Rattle.std.proofs.lemmas.Bool.{false≢true}
use Rattle.schedule_model.specs.Program.{is_loop}
use Rattle.bound_program.specs.Values.{BoundValue, ItemValue, Free, Reduce, Ordered, Host, Exit}
use Rattle.bound_program.specs.Fits.{ActFits, ItemsFit, due}
use Rattle.run_model.specs.Programs.{kind_of, loop_of, act_in}
use Rattle.run_model.specs.Laws.{LoopsAreThere, ActsAreThere}

module _ (b : BoundValue) where
  pub loop_there : (o : Option ℕ) (xs : List ItemValue) (k : ℕ) → ItemsFit b o xs → is_loop (kind_of (get_or xs k (Host Exit))) ≡ true → loop_of (get_or xs k (Host Exit)) < length b.sites
  loop_there o [] k f h = absurd (false≢true h)
  loop_there None (Free n ∷ xs) zero f h = f.0
  loop_there None (Ordered n ∷ xs) zero f h = f.0
  loop_there None (Host a ∷ xs) zero f h = absurd (false≢true h)
  loop_there None (Reduce n ∷ xs) k f h = absurd f
  loop_there None (Free n ∷ xs) (suc k) f h = loop_there (due b n) xs k f.2 h
  loop_there None (Ordered n ∷ xs) (suc k) f h = loop_there None xs k f.2 h
  loop_there None (Host a ∷ xs) (suc k) f h = loop_there None xs k f.1 h
  loop_there (Some m) (Reduce n ∷ xs) zero f h = absurd (false≢true h)
  loop_there (Some m) (Reduce n ∷ xs) (suc k) f h = loop_there None xs k f.1 h
  loop_there (Some m) (Free n ∷ xs) k f h = absurd f
  loop_there (Some m) (Ordered n ∷ xs) k f h = absurd f
  loop_there (Some m) (Host a ∷ xs) k f h = absurd f

  pub act_there : (o : Option ℕ) (xs : List ItemValue) (k : ℕ) → ItemsFit b o xs → ActFits b (act_in (get_or xs k (Host Exit)))
  act_there o [] k f = tt {0}
  act_there None (Free n ∷ xs) zero f = tt {0}
  act_there None (Ordered n ∷ xs) zero f = tt {0}
  act_there None (Host a ∷ xs) zero f = f.0
  act_there None (Reduce n ∷ xs) k f = absurd f
  act_there None (Free n ∷ xs) (suc k) f = act_there (due b n) xs k f.2
  act_there None (Ordered n ∷ xs) (suc k) f = act_there None xs k f.2
  act_there None (Host a ∷ xs) (suc k) f = act_there None xs k f.1
  act_there (Some m) (Reduce n ∷ xs) zero f = tt {0}
  act_there (Some m) (Reduce n ∷ xs) (suc k) f = act_there None xs k f.1
  act_there (Some m) (Free n ∷ xs) k f = absurd f
  act_there (Some m) (Ordered n ∷ xs) k f = absurd f
  act_there (Some m) (Host a ∷ xs) k f = absurd f

pub loops_are_there : LoopsAreThere
loops_are_there b k fits h = loop_there b None b.trace k fits.items h

pub acts_are_there : ActsAreThere
acts_are_there b k fits = act_there b None b.trace k fits.items

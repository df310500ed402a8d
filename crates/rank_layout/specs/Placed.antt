-- The windows of an element's arguments, put down one after another.
use Rattle.std.specs.Prelude.{◌≡◌, ◌≢◌, ◌<◌, ◌≤◌, ◌+◌, ◌⊎◌, ℕ, Bool, true, false, List, ◌++◌, map, length, take, get_or}
use Rattle.std.specs.List.{flat_map}
use Rattle.kernel_model.specs.declared.types.views.frame.Place.{Place}
use Rattle.kernel_model.specs.Framed.{no_place, target_of}
use Rattle.bound_program.specs.declared.sites.Arg.{Arg}
use Rattle.bound_program.specs.declared.sites.Arg.TheVariants.{Dat, Global}
use Rattle.bound_program.specs.Values.{BoundValue}
use Rattle.run_model.specs.Windows.{Reached, reached, different, cells_in, window_of}
use Rattle.run_model.specs.Arguments.{no_arg, arg_width}
use Rattle.bound_plan.specs.Windows.{on_dats, on_variables}
use Rattle.rank_layout.specs.Seen.{has}
use Rattle.rank_layout.specs.Numbered.{is_one_at}

-- the argument is on a dat
abbrev pub is_dat : Arg → Bool
is_dat (Dat d v a) = true
is_dat (Global v a) = false

-- The window of argument i: that of the first argument before it that reaches the same, or a new one from `next` on.
pub record IsPut (b : BoundValue) (args : List Arg) (numbers : List ℕ) (i next : ℕ) (old new : List Place) (after : ℕ) : Type 0 where
  pub first : ℕ
  pub within : first ≤ i
  pub same : first < i → is_one_at args numbers first i ≡ true
  pub fresh : first ≡ i → (k : ℕ) → k < i → is_one_at args numbers k i ≡ false
  pub others : (k : ℕ) → k ≢ i → get_or new k no_place ≡ get_or old k no_place
  pub shared : first < i → (get_or new i no_place ≡ get_or old first no_place) × (after ≡ next)
  pub single : first ≡ i
      → (get_or new i no_place ≡ record { from = next; count = arg_width b (get_or args i no_arg) })
      × (after ≡ next + arg_width b (get_or args i no_arg))

module _ (b : BoundValue) (e : ℕ) (args : List Arg) where
  -- what element e reaches by argument k
  abbrev pub reached_at : ℕ → Reached
  reached_at k = reached b e (get_or args k no_arg)

  -- The arguments that are done have their windows among those of what was reached so far, which end before `next`.
  pub record ArePut (seen : List Reached) (done : ℕ → Type 0) (places : List Place) (next : ℕ) : Type 0 where
    pub next_is : next ≡ length (flat_map (cells_in b) (different seen))
    pub each : (k : ℕ) → k < length args → done k
        → (has seen (reached_at k) ≡ true) × (target_of (get_or places k no_place) ≡ window_of b (different seen) (reached_at k))
    pub only : (q : Reached) → has seen q ≡ true → (k : ℕ) × (k < length args) × done k × (reached_at k ≡ q)

  -- those on dats among the first i
  abbrev pub DatsPut : ℕ → List Place → ℕ → Type 0
  DatsPut i places next =
      ArePut (map (reached b e) (on_dats (take i args))) (λ k. (k < i) × (is_dat (get_or args k no_arg) ≡ true)) places next

  -- all those on dats, and those on variables among the first i
  abbrev pub AllPut : ℕ → List Place → ℕ → Type 0
  AllPut i places next =
      ArePut (map (reached b e) (on_dats args ++ on_variables (take i args))) (λ k. (k < i)
      ⊎ (is_dat (get_or args k no_arg) ≡ true)) places next

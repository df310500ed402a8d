-- What items do for a loop, one after another.
use Rattle.std.proofs.Common.{◌≡◌, ◌<◌, ◌+◌, ℕ, Bool, true, false, cond, nat_eq, List, ◌++◌, length, get_or, drop, take, refl, sym, ap, ◌∙◌, arith, append-nil}
use Rattle.std.proofs.lemmas.List.{drop_more, drop_all, take_all}
use Rattle.local_mesh.specs.declared.types.RankMesh.{RankMesh}
use Rattle.bound_program.specs.Values.{ItemValue, Free, Reduce, Ordered, Host, Exit, BoundValue}
use Rattle.loop_plan.specs.declared.exchange.LoopRun.{LoopRun}
use Rattle.loop_plan.specs.Values.{ItemPlanValue, no_item_plan}
use Rattle.loop_plan.specs.Needs as needs
use Rattle.plan_counts.specs.Counts.{exchanged_cells, runs_of, exchanges_of, messages_of, cells_of}
use Rattle.plan_counts.specs.Parts.{no_tally, plus, free_tally, ordered_tally, run_tally, items_tally}
use Rattle.plan_counts.specs.declared.tallies.Tally.{Tally}

-- ---- sums

three : (a b c : ℕ) → (a + b) + c ≡ a + (b + c)
three a b c = omega arith

plus_assoc : (a b c : Tally) → plus (plus a b) c ≡ plus a (plus b c)
plus_assoc a b c =
    rw (three a.runs b.runs c.runs, three a.exchanges b.exchanges c.exchanges, three a.messages b.messages c.messages, three a.cells b.cells c.cells) refl

-- what a call leaves of a slice is what its list has
pub written : (n : ℕ) (old new : List Tally) → length new ≡ length old → n ≡ length old → take n (new ++ drop (length new) old) ≡ new
written n old new e en =
    ap (λ z. take n (new ++ z)) (drop_all (length new) old (omega (arith, e)))
    ∙ ap (λ z. take n z) (append-nil new)
    ∙ take_all n new (omega (arith, e, en))

-- ---- items

-- how an item runs a loop
pub run_read : (b : BoundValue) (k : ℕ) (r : LoopRun) → r ≡ needs.run_of (needs.item_at b k) → r ≡ needs.run_of (get_or b.trace k (Host Exit))
unfolding needs.item_at
run_read b k r e = e

module _ (b : BoundValue) (meshes : List RankMesh) (s : ℕ) where
  -- what one item does for the loop
  abbrev item_tally : ItemValue → ItemPlanValue → Tally
  item_tally i p = record {
    runs = runs_of s i p;
    exchanges = exchanges_of s i p;
    messages = messages_of s i p;
    cells = cells_of b meshes s i p;
  }

  by_run : (i : ItemValue) (p : ItemPlanValue) → item_tally i p ≡ run_tally s (needs.run_of i) p (exchanged_cells b.mesh meshes p)
  by_run (Free n) p = by (nat_eq n s)
    where
      by : (t : Bool)
          → record {
            runs = cond t 1 0;
            exchanges = cond t (free_tally p 0).exchanges 0;
            messages = cond t (length p.pairs) 0;
            cells = cond t (exchanged_cells b.mesh meshes p) 0;
          }
          ≡ cond t (free_tally p (exchanged_cells b.mesh meshes p)) no_tally
      by true = refl
      by false = refl
  by_run (Ordered n) p = by (nat_eq n s)
    where
      by : (t : Bool) → record { runs = cond t 1 0; exchanges = 0; messages = 0; cells = 0 } ≡ cond t ordered_tally no_tally
      by true = refl
      by false = refl
  by_run (Reduce n) p = refl
  by_run (Host a) p = refl

  items_step : (is : List ItemValue) (ps : List ItemPlanValue) (k : ℕ) → k < length is → k < length ps
      → items_tally b meshes s (drop k is) (drop k ps)
      ≡ plus (run_tally s (needs.run_of (get_or is k (Host Exit))) (get_or ps k no_item_plan) (exchanged_cells b.mesh meshes (get_or ps k no_item_plan)))
      (items_tally b meshes s (drop (k + 1) is) (drop (k + 1) ps))
  items_step is ps k li lp =
      rw (drop_more is k (Host Exit) li, drop_more ps k no_item_plan lp)
      (ap (λ t. plus t (items_tally b meshes s (drop (k + 1) is) (drop (k + 1) ps))) (by_run (get_or is k (Host Exit)) (get_or ps k no_item_plan)))

  -- an item more is counted, by how it runs a loop, by its plan and by its cells, and the rest is what it was
  pub item_counted : (is : List ItemValue) (ps : List ItemPlanValue) (k : ℕ) (old new all : Tally) (run : LoopRun) (p : ItemPlanValue) (cells : ℕ)
      → k < length is
      → k < length ps
      → run ≡ needs.run_of (get_or is k (Host Exit))
      → p ≡ get_or ps k no_item_plan
      → cells ≡ exchanged_cells b.mesh meshes p
      → new ≡ plus old (run_tally s run p cells)
      → plus old (items_tally b meshes s (drop k is) (drop k ps)) ≡ all
      → plus new (items_tally b meshes s (drop (k + 1) is) (drop (k + 1) ps)) ≡ all
  item_counted is ps k old new all run p cells li lp er ep ec e rest =
      let after = items_tally b meshes s (drop (k + 1) is) (drop (k + 1) ps) in
      let e' = e
      ∙ ap (λ c. plus old (run_tally s run p c)) ec
      ∙ ap (λ r. plus old (run_tally s r p (exchanged_cells b.mesh meshes p))) er
      ∙ ap (λ q. plus old (run_tally s (needs.run_of (get_or is k (Host Exit))) q (exchanged_cells b.mesh meshes q))) ep in
      ap (λ t. plus t after) e'
      ∙ plus_assoc old (run_tally s (needs.run_of (get_or is k (Host Exit))) (get_or ps k no_item_plan) (exchanged_cells b.mesh meshes (get_or ps k no_item_plan))) after
      ∙ ap (plus old) (sym (items_step is ps k li lp))
      ∙ rest

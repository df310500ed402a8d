-- Partials are units before an item that merges none.
use Rattle.std.proofs.Common.{◌≡◌, ◌≢◌, ◌<◌, ℕ, zero, suc, pos, Option, Some, None, length, refl, sym, ap, subst, ◌∙◌}
use Rattle.std.proofs.lemmas.Option.{same_Some, none-some}
use Rattle.kernel_model.specs.declared.types.faults.KernelFault.{KernelFault}
use Rattle.op_num.specs.Reduction.{Reduction}
use Rattle.schedule_model.specs.Cells.{VarCell}
use Rattle.schedule_model.specs.Machine.{unit_at}
use Rattle.schedule_model.specs.Program as program
use Rattle.bound_program.specs.Values.{BoundValue, ItemValue, Free, Reduce, Ordered, Host, no_site}
use Rattle.bound_program.specs.Classes.{reduces}
use Rattle.bound_program.specs.Fits.{Fits, site_at}
use Rattle.run_model.specs.Laws.{LoopsAreThere}
use Rattle.run_model.specs.Programs.{item_at, kind_of, loop_of}
use Rattle.bound_plan.specs.Variables.{reduces_at}
use Rattle.bound_plan.proofs.Public.{reduces_is, merges, reduce_next}
use Rattle.chain_model.specs.Machine.{ChainState}
use Rattle.deep_halo.specs.Stands.{free_loop, recent}

some_free : (x : ItemValue) (s : ℕ) → free_loop x ≡ Some s → x ≡ Free s
some_free (Free n) s h = ap Free (same_Some n s h)
some_free (Reduce n) s h = absurd (none-some s h)
some_free (Ordered n) s h = absurd (none-some s h)
some_free (Host a) s h = absurd (none-some s h)

module _ (b : BoundValue) (fits : Fits b) (law : LoopsAreThere) (k : ℕ) (other : kind_of (item_at b k) ≢ program.Reduce) where
  -- a loop that merges amounts isn't directly before it
  not_before : (j n : ℕ) (v : VarCell) (q : Reduction) → kind_of (item_at b j) ≢ program.Reduce → reduces_at b n v ≡ Some q → recent b j ≢ Some n
  not_before zero n v q not e h = none-some n h
  not_before (suc j) n v q not e h =
      let before : item_at b j ≡ Free n = some_free (item_at b j) n h in
      let there : n < length b.sites = subst (λ m. m < length b.sites) (ap loop_of before) (law b j fits (ap (λ i. program.is_loop (kind_of i)) before)) in
      let all = reduces_is (site_at b n).args v.variable q (merges b n (fits.sites n no_site there) v q e).argument in
      not (reduce_next b None b.trace j fits.items (ap kind_of before) (ap (λ m. reduces (site_at b m).args) (ap loop_of before) ∙ all))

  pub units_before : (st : ChainState KernelFault) → ((r n : ℕ) (v : VarCell) → recent b k ≢ Some n → st.partials r n v ≡ unit_at (reduces_at b n v))
      → ((r n : ℕ) (v : VarCell) → reduces_at b n v ≡ None → st.partials r n v ≡ pos 0)
      → (r n : ℕ) (v : VarCell) → st.partials r n v ≡ unit_at (reduces_at b n v)
  units_before st others none r n v = by (reduces_at b n v) refl
    where
      by : (x : Option Reduction) → reduces_at b n v ≡ x → st.partials r n v ≡ unit_at (reduces_at b n v)
      by None e = none r n v e ∙ sym (ap unit_at e)
      by (Some q) e = others r n v (not_before k n v q other e)

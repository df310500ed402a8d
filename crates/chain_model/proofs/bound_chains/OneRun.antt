-- Runs by chains with kernels that have the same trees, and the same owners, are one.
use Rattle.std.proofs.Common.{◌≡◌, ℕ, suc, ◌&&◌, ◌||◌, not, Bool, true, false, cond, nat_eq, nat_lt, List, [], ◌∷◌, drop, length, Option, Some, None, refl, ap, ap₂, ◌∙◌, ◌++◌, codes}
use Rattle.std.specs.Fmt.{decimal}
use Rattle.std.specs.List.{list_any}
use Rattle.std.proofs.Math.Path.{fun_ext}
use Rattle.lemmas.specs.Below.{any_below, count_below}
use Rattle.kernel_model.specs.declared.types.faults.KernelFault.{KernelFault}
use Rattle.kernel_model.specs.declared.types.kernels.RKernel.{RKernel}
use Rattle.mesh_decl.specs.declared.owners.Owners.{Owners}
use Rattle.mesh_decl.specs.Mesh.{dat_set, set_size}
use Rattle.mesh_decl.specs.Owners.{owners_in, owner_of}
use Rattle.schedule_model.specs.Program.{Program}
use Rattle.schedule_model.specs.Sequential.{Stop}
use Rattle.bound_program.specs.Values.{BoundValue, SiteValue, ItemValue, Free, Reduce, Ordered, Host}
use Rattle.run_model.specs.Programs.{program_of}
use Rattle.run_model.specs.Laws.{site_of}
use Rattle.bound_plan.specs.OneRun.{with_kernels, ProgramsAreOne}
use Rattle.bound_plan.specs.Variables.{reduces_at}
use Rattle.chain_model.specs.Chains.{begins}
use Rattle.chain_model.specs.Slicing.{Slicing}
use Rattle.chain_model.specs.Machine.{chain_machine, ChainState}
use Rattle.chain_model.specs.Slices.{modifies_some, reads_pair, owns_pair, executes_for, needs_before, free_sites, loops_from, needs, executes, slicing_of}
use Rattle.chain_model.specs.Counts.{sum_below, begins_at, some_pair, message_count}
use Rattle.chain_model.specs.Outcomes.{chains_run, chains_text, dump_after}
use Rattle.chain_model.specs.OneRun.{SameChains, ChainsAreOne}

module _ (b : BoundValue) (ks : List RKernel) (o u : Owners) (programs_are_one : ProgramsAreOne) (h : SameChains b ks o u) where
  abbrev c : BoundValue
  c = with_kernels b ks

  -- ---- owners

  owner_same : owner_of o ≡ owner_of u
  unfolding owners_in owner_of
  owner_same = fun_ext (λ s. fun_ext (λ e. rw h.owners refl))

  owns_same : (r d y : ℕ) → owns_pair b o r d y ≡ owns_pair c u r d y
  owns_same r d y = ap (λ (f : ℕ → ℕ → ℕ). nat_eq (cond (nat_lt y (set_size b.mesh (dat_set b.mesh d))) (f (dat_set b.mesh d) y) 0) r) owner_same

  -- ---- needs and executed elements

  executes_for_same : (r : ℕ) (pairs others : ℕ → ℕ → Bool) → pairs ≡ others → (site : SiteValue) (e : ℕ) → executes_for b o r pairs site e ≡ executes_for c u r others site e
  executes_for_same r pairs others same site e =
      ap₂ (λ (f : ℕ → ℕ → ℕ) (p : ℕ → ℕ → Bool). nat_eq (f site.set e) r || list_any (modifies_some b p e) site.args) owner_same same

  needs_before_same : (r : ℕ) (sites : List SiteValue) → needs_before b o r sites ≡ needs_before c u r sites
  needs_before_same r [] = fun_ext (λ d. fun_ext (λ y. owns_same r d y))
  needs_before_same r (site ∷ sites) =
      let ih = needs_before_same r sites in
      fun_ext (λ d. fun_ext (λ y. ap₂
      (λ (p : ℕ → ℕ → Bool) (f : ℕ → Bool). p d y || any_below (set_size b.mesh site.set)
      (λ e. f e && list_any (reads_pair b d y e) site.args)) ih
      (fun_ext (λ e. executes_for_same r (needs_before b o r sites) (needs_before c u r sites) ih site e))))

  free_sites_same : (xs : List ItemValue) → free_sites b xs ≡ free_sites c xs
  free_sites_same [] = refl
  free_sites_same (Free s ∷ xs) = rw (free_sites_same xs) refl
  free_sites_same (Reduce s ∷ xs) = refl
  free_sites_same (Ordered s ∷ xs) = refl
  free_sites_same (Host a ∷ xs) = refl

  needs_same : needs b o ≡ needs c u
  unfolding needs
  needs_same =
      fun_ext (λ k. fun_ext (λ r. needs_before_same r (loops_from b k) ∙ ap (needs_before c u r) (free_sites_same (drop k b.trace))))

  executes_same : executes b o ≡ executes c u
  unfolding executes
  executes_same =
      fun_ext (λ k. fun_ext (λ r. fun_ext (λ e. executes_for_same r (needs b o (suc k) r) (needs c u (suc k) r) (ap (λ (f : ℕ → ℕ → ℕ → ℕ → Bool). f (suc k) r) needs_same) (site_of b k) e)))

  -- ---- the machine

  abbrev slicing_with : Program KernelFault → ℕ → (ℕ → ℕ → ℕ) → (ℕ → ℕ → ℕ → ℕ → Bool) → (ℕ → ℕ → ℕ → Bool) → Slicing KernelFault
  slicing_with p n f ns es = record { program = p; reduces = reduces_at b; ranks = n; owner = f; needs = ns; executes = es }

  slicing_same : slicing_of b o ≡ slicing_of c u
  slicing_same =
      ap (λ p. slicing_with p o.ranks (owner_of o) (needs b o) (executes b o)) (programs_are_one b ks h.kernels)
      ∙ ap (λ n. slicing_with (program_of c) n (owner_of o) (needs b o) (executes b o)) h.ranks
      ∙ ap (λ f. slicing_with (program_of c) u.ranks f (needs b o) (executes b o)) owner_same
      ∙ ap (λ ns. slicing_with (program_of c) u.ranks (owner_of u) ns (executes b o)) needs_same
      ∙ ap (λ es. slicing_with (program_of c) u.ranks (owner_of u) (needs c u) es) executes_same

  run_same : chains_run b o ≡ chains_run c u
  run_same = ap chain_machine slicing_same

  dump_same : (dumps : Bool) (x : Option (Stop KernelFault)) → dump_after b o dumps (chains_run b o) x ≡ dump_after c u dumps (chains_run c u) x
  dump_same true None = ap₂ (λ n (st : ChainState KernelFault). dump_after b (record o { ranks = n }) true st None) h.ranks run_same
  dump_same true (Some x) = refl
  dump_same false x = refl

  -- ---- counts

  begins_same : begins_at b ≡ begins_at c
  begins_same = ap {B = ℕ → Bool} (λ (p : Program KernelFault) (k : ℕ). begins p.kind k) (programs_are_one b ks h.kernels)

  abbrev messages_with : ℕ → (ℕ → Bool) → (ℕ → ℕ → ℕ → ℕ → Bool) → (ℕ → ℕ → ℕ → Bool) → ℕ
  messages_with n begin ns own =
      sum_below (length b.trace) (λ k. sum_below n (λ s. count_below n (λ r. begin k && some_pair b (λ d y. ns k r d y && (own s d y && not (own r d y))))))

  owns_all : owns_pair b o ≡ owns_pair c u
  owns_all = fun_ext (λ r. fun_ext (λ d. fun_ext (λ y. owns_same r d y)))

  messages_same : message_count b o ≡ message_count c u
  messages_same =
      ap (λ n. messages_with n (begins_at b) (needs b o) (owns_pair b o)) h.ranks
      ∙ ap (λ f. messages_with u.ranks f (needs b o) (owns_pair b o)) begins_same
      ∙ ap (λ f. messages_with u.ranks (begins_at c) f (owns_pair b o)) needs_same
      ∙ ap (λ f. messages_with u.ranks (begins_at c) (needs c u) f) owns_all

pub chains_are_one : ProgramsAreOne → ChainsAreOne
chains_are_one programs_are_one b ks o u h = record { text = text; dump = dump_same b ks o u programs_are_one h }
  where
    text : chains_text b o ≡ chains_text (with_kernels b ks) u
    text = ap₂ (λ chains messages. codes "ok items " ++ decimal (length b.trace) ++ codes " chains " ++ decimal chains ++ codes " messages "
        ++ decimal messages ++ codes "\n") (ap (λ f. count_below (length b.trace) f) (begins_same b ks o u programs_are_one h))
        (messages_same b ks o u programs_are_one h)

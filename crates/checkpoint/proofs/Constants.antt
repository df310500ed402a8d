-- A run keeps the variables that are `const`.
use Rattle.std.proofs.Common.{◌≡◌, ◌<◌, ◌≤◌, ℕ, zero, suc, ℤ, pos, true, false, List, [], ◌∷◌, length, Some, None, Result, Ok, Err, refl, sym, ap, ◌∙◌, subst, ⊎_elim, eqb-true}
use Rattle.std.specs.Prelude.{◌&&◌, nat_eq, nat_lt, if◌then◌else◌}
use Rattle.std.proofs.lemmas.Bool.{cases_Bool, cases_lt, and_parts, false≢true}
use Rattle.std.proofs.lemmas.List.{get_or_past}
use Rattle.kernel_model.specs.declared.types.faults.KernelFault.{KernelFault}
use Rattle.kernel_model.specs.declared.types.kernels.RKernel.{RKernel}
use Rattle.kernel_model.specs.Meaning.{on_value, stored}
use Rattle.op_num.specs.Access.{OpRead}
use Rattle.op_num.specs.Access as access
use Rattle.mesh_decl.specs.Printed.{printed_line}
use Rattle.schedule_model.specs.Cells.{Variable, Store}
use Rattle.schedule_model.specs.Effects.{Ran, Faulted, Finished}
use Rattle.schedule_model.specs.Program as program
use Rattle.schedule_model.specs.Program.{Kind, Hosted, Halts, Goes, is_loop, elements}
use Rattle.schedule_model.specs.Sequential.{Loop, Broke, Ran_through, loop, one_more, after_run, Seq, Stopped, Going, with_variables, after_loop, after_host, item_from, after_item, seq}
use Rattle.schedule_model.specs.Arguments.{reaches}
use Rattle.schedule_model.specs.Arguments as laws
use Rattle.bound_program.specs.declared.sites.Arg.{Arg}
use Rattle.bound_program.specs.declared.sites.Arg.TheVariants.{Dat, Global}
use Rattle.bound_program.specs.Values.{BoundValue, ItemValue, Free, Reduce, Ordered, Host, ActValue, Clear, Assign, Line, Print, Exit, no_site}
use Rattle.bound_program.specs.Fits.{Fits, TakesArgs, var_at}
use Rattle.loop_bind.specs.Constants.{ActLeaves, ItemLeaves, ArgLeaves, LeavesConstants}
use Rattle.run_model.specs.Kernels.{kernel_at}
use Rattle.run_model.specs.Hosts.{variables_of, with_cell, value_of, values_of, component_of, prints, act_run}
use Rattle.run_model.specs.Programs.{kind_of, loop_of, item_at, act_in, program_of}
use Rattle.run_model.specs.Arguments.{no_arg, arg_at, argument_of, entries, dat_width, var_width}
use Rattle.run_model.specs.Laws.{site_of, LoopsAreThere, LoopsKeepReads}
use Rattle.run_model.specs.Ranges.{AllObey}
use Rattle.checkpoint.specs.Laws.{KeepsConstants, RunsKeepConstants}

kernel_there : (xs : List RKernel) (n m : ℕ) → TakesArgs xs n m → (f : RKernel) × (kernel_at xs n ≡ Some f)
kernel_there [] n m h = absurd h
kernel_there (x ∷ xs) zero m h = (x, refl)
kernel_there (x ∷ xs) (suc n) m h = kernel_there xs n m h

module _ (there : LoopsAreThere) (reads : LoopsKeepReads) (b : BoundValue) (fits : Fits b) (obey : AllObey b) (leaves : LeavesConstants b) where
  -- an argument that reaches a cell of such a variable reads it
  only : (x : Arg) (e v i : ℕ) → ArgLeaves b x → (var_at b v).is_const ≡ true
      → reaches (entries b) (dat_width b) (var_width b) e (argument_of x) (Variable (record { variable = v; component = i })) ≡ true
      → laws.access_of (argument_of x) ≡ OpRead
  only (Dat d None a) e v i h c r = absurd (false≢true r)
  only (Dat d (Some m) a) e v i h c r = absurd (false≢true r)
  only (Global w a) e v i h c r =
      let same : w ≡ v = eqb-true w v (and_parts (nat_eq w v) (nat_lt i (var_width b w)) r).0 in
      ap access.access_of (h (subst (λ n. (var_at b n).is_const ≡ true) (sym same) c))

  module _ (k : ℕ) (is : is_loop (kind_of (item_at b k)) ≡ true) where
    element_keeps : (e : ℕ) (s t : Store) → (program_of b).run k e s ≡ Finished t → KeepsConstants b s → KeepsConstants b t
    element_keeps e s t ran kept v i c =
        let lt = there b k fits is in
        let w = kernel_there b.kernels (site_of b k).kernel (length (site_of b k).args) (fits.sites (loop_of (item_at b k)) no_site lt).kernel in
        reads b k e w.0 s t (Variable (record { variable = v; component = i })) fits
        (record { is_loop = is; kernel = w.1 }) (obey (loop_of (item_at b k)) w.0 lt w.1) ran
        (λ a la r. only (arg_at (site_of b k) a) e v i (leaves.args (loop_of (item_at b k)) no_site lt a no_arg la) c r)
        ∙ kept v i c

    abbrev LoopKeeps : Loop KernelFault → Type 0
    LoopKeeps (Broke e f s) = KeepsConstants b s
    LoopKeeps (Ran_through s) = KeepsConstants b s

    after_one : (e : ℕ) (s : Store) → KeepsConstants b s → (r : Ran KernelFault) → (program_of b).run k e s ≡ r → LoopKeeps (after_run e s r)
    after_one e s kept (Faulted f) ran = kept
    after_one e s kept (Finished t) ran = element_keeps e s t ran kept

    with_one : (e : ℕ) (x : Loop KernelFault) → LoopKeeps x → LoopKeeps (one_more (program_of b) k e x)
    with_one e (Broke a f s) kept = kept
    with_one e (Ran_through s) kept = after_one e s kept ((program_of b).run k e s) refl

    loop_keeps : (n : ℕ) (s : Store) → KeepsConstants b s → LoopKeeps (loop (program_of b) k n s)
    loop_keeps zero s kept = kept
    loop_keeps (suc n) s kept = with_one n (loop (program_of b) k n s) (loop_keeps n s kept)

  abbrev RunKeeps : Seq KernelFault → Type 0
  RunKeeps (Stopped x s o) = Unit {0}
  RunKeeps (Going s o) = KeepsConstants b s

  by_loop : (k : ℕ) (is : is_loop (kind_of (item_at b k)) ≡ true) (o : List ℕ) (x : Loop KernelFault) → LoopKeeps k is x → RunKeeps (after_loop k o x)
  by_loop k is o (Broke e f s) kept = tt
  by_loop k is o (Ran_through s) kept = kept

  -- ---- statements
  other : (v n : ℕ) → (var_at b v).is_const ≡ true → (var_at b n).is_const ≡ false → nat_eq v n ≡ false
  other v n c d = ⊎_elim
      (λ (t : nat_eq v n ≡ true). absurd (false≢true (sym d ∙ (ap (λ m. (var_at b m).is_const) (sym (eqb-true v n t)) ∙ c))))
      (λ (f : nat_eq v n ≡ false). f)
      (cases_Bool (nat_eq v n))

  -- the statement of an item sets none
  act_leaves : (x : ItemValue) → ItemLeaves b x → ActLeaves b (act_in x)
  act_leaves (Free n) h = tt
  act_leaves (Reduce n) h = tt
  act_leaves (Ordered n) h = tt
  act_leaves (Host a) h = h

  acts_leave : (k : ℕ) → ActLeaves b (act_in (item_at b k))
  acts_leave k = ⊎_elim
      (λ (l : k < length b.trace). act_leaves (item_at b k) (leaves.items k (Host Exit) l))
      (λ (g : length b.trace ≤ k). subst (λ x. ActLeaves b (act_in x)) (sym (get_or_past b.trace k (Host Exit) g)) tt)
      (cases_lt k (length b.trace))

  abbrev HostKeeps : Store → Hosted KernelFault → Type 0
  HostKeeps s (Halts f) = Unit {0}
  HostKeeps s (Goes u o) = KeepsConstants b (with_variables u s)

  line_keeps : (s : Store) → KeepsConstants b s → (text : List ℕ) (r : Result (List ℤ) KernelFault) (f : List ℤ → List ℕ) → HostKeeps s (on_value Halts r (λ zs. prints b s (f zs)))
  line_keeps s kept text (Err e) f = tt
  line_keeps s kept text (Ok zs) f = kept

  store_keeps : (s : Store) → KeepsConstants b s → (n i : ℕ) → (var_at b n).is_const ≡ false → (r : Result ℤ KernelFault)
      → HostKeeps s (on_value Halts r (λ z. Goes (with_cell (record { variable = n; component = i }) z (variables_of s)) []))
  store_keeps s kept n i free (Err e) = tt
  store_keeps s kept n i free (Ok z) = λ v j c.
      ap (λ t. if t && nat_eq j i then z else s (Variable (record { variable = v; component = j }))) (other v n c free) ∙ kept v j c

  value_keeps : (s : Store) → KeepsConstants b s → (n i : ℕ) → (var_at b n).is_const ≡ false → (r : Result ℤ KernelFault) (f : ℤ → Result ℤ KernelFault)
      → HostKeeps s (on_value Halts r (λ x. on_value Halts (f x) (λ z. Goes (with_cell (record { variable = n; component = i }) z (variables_of s)) [])))
  value_keeps s kept n i free (Err e) f = tt
  value_keeps s kept n i free (Ok x) f = store_keeps s kept n i free (f x)

  index_keeps : (s : Store) → KeepsConstants b s → (n : ℕ) → (var_at b n).is_const ≡ false → (q : Result ℕ KernelFault) (r : Result ℤ KernelFault) (f : ℕ → ℤ → Result ℤ KernelFault)
      → HostKeeps s (on_value Halts q (λ i. on_value Halts r (λ x. on_value Halts (f i x) (λ z. Goes (with_cell (record { variable = n; component = i }) z (variables_of s)) []))))
  index_keeps s kept n free (Err e) r f = tt
  index_keeps s kept n free (Ok i) r f = value_keeps s kept n i free r (f i)

  act_keeps : (s : Store) → KeepsConstants b s → (a : ActValue) → ActLeaves b a → HostKeeps s (act_run b s a)
  act_keeps s kept (Clear n) free = λ v i c. ap (λ t. if t then pos 0 else s (Variable (record { variable = v; component = i }))) (other v n c free) ∙ kept v i c
  act_keeps s kept (Assign n index op op_at e at) free =
      index_keeps s kept n free (component_of b s (var_at b n) at index) (value_of b s e) (λ i x. stored op op_at (s (Variable (record { variable = n; component = i }))) x)
  act_keeps s kept (Line text es) free = line_keeps s kept text (values_of b s es) (printed_line text)
  act_keeps s kept (Print d file) free = kept
  act_keeps s kept Exit free = kept

  by_host : (k : ℕ) (s : Store) (o : List ℕ) (x : Hosted KernelFault) → HostKeeps s x → RunKeeps (after_host k s o x)
  by_host k s o (Halts f) h = tt
  by_host k s o (Goes v w) h = h

  by_item : (k : ℕ) (s : Store) (o : List ℕ) → KeepsConstants b s → (kind : Kind) → kind_of (item_at b k) ≡ kind → RunKeeps (item_from (program_of b) k kind s o)
  by_item k s o kept program.Free e = by_loop k (ap is_loop e) o (loop (program_of b) k (elements (program_of b) k) s) (loop_keeps k (ap is_loop e) (elements (program_of b) k) s kept)
  by_item k s o kept program.Reduce e = kept
  by_item k s o kept program.Ordered e = by_loop k (ap is_loop e) o (loop (program_of b) k (elements (program_of b) k) s) (loop_keeps k (ap is_loop e) (elements (program_of b) k) s kept)
  by_item k s o kept program.Host e = by_host k s o (act_run b s (act_in (item_at b k))) (act_keeps s kept (act_in (item_at b k)) (acts_leave k))

  by_run : (k : ℕ) (x : Seq KernelFault) → RunKeeps x → RunKeeps (after_item (program_of b) k x)
  by_run k (Stopped x s o) h = tt
  by_run k (Going s o) h = by_item k s o h (kind_of (item_at b k)) refl

  run_keeps : (k : ℕ) → RunKeeps (seq (program_of b) k)
  run_keeps zero = λ v i c. refl
  run_keeps (suc k) = by_run k (seq (program_of b) k) (run_keeps k)

pub runs_keep_constants : LoopsAreThere → LoopsKeepReads → RunsKeepConstants
runs_keep_constants there reads b k s o fits obey leaves at = subst (RunKeeps there reads b fits obey leaves) at (run_keeps there reads b fits obey leaves k)

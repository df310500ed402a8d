-- A setup whose loop runs a kernel: a[0] = 7; for the one element of a set, on a direct OP_RW argument, on one rank.
use Rattle.std.proofs.Common.{◌≡◌, ◌<◌, ℕ, ℤ, zero, suc, pos, true, false, List, length, Option, Some, None, inr, refl, arith, Vec, Global}
use Rattle.std.specs.Prelude.{◌==◌}
use Rattle.op_num.specs.declared.bytes.Name.{Name}
use Rattle.op_num.specs.declared.refusals.Fault.TheVariants.{DivZero}
use Rattle.c_tree.specs.declared.lexer.tokens.Pos.{Pos}
use Rattle.kernel_model.specs.declared.types.faults.KernelFault.{KernelFault}
use Rattle.op_num.specs.Access.{Access, OpRead, OpReduce}
use Rattle.op_num.specs.Reduction.{Reduction}
use Rattle.schedule_model.specs.Cells.{Cell, VarCell}
use Rattle.schedule_model.specs.Effects.{Touch}
use Rattle.schedule_model.specs.Program.{Program, Free, Ordered, Halts, Goes}
use Rattle.schedule_model.specs.Setup.{Setup}
use Rattle.schedule_model.specs.Arguments.{Indirect, Global as GlobalArgument, Entries}
use Rattle.schedule_model.specs.ByArguments.{touch_with}
use Rattle.schedule_model.specs.LoopParts.{LoopParts}
use Rattle.run_model.specs.ElementRun.{IsElementRun}
use Rattle.run_model.specs.RunsKernels.{RunsKernels}
use Rattle.run_model.proofs.element_runs.Example.{here, modes, argument, cell_of, sevens, run, is_element_run, obeys}

-- no map leads anywhere
abbrev pub entries : Entries
entries m e i = 0

abbrev pub one : ℕ → ℕ
one d = 1

abbrev pub none : ℕ → ℕ
none v = 0

-- the loop, for the one element of its set
abbrev pub loop : Program KernelFault
loop = record {
  items = 1;
  kind = λ k. Free;
  site = λ k. 0;
  set = λ k. 0;
  size = λ s. 1;
  set_of = λ d. 0;
  start = λ c. pos 0;
  run = λ k e s. run s;
  host = λ k s. Halts (record { kind = DivZero; at = here });
}

abbrev pub touches : ℕ → Cell → Touch
touches e c = touch_with entries one none argument 1 e (λ x. false) c

-- one rank, which owns the element
abbrev pub alone : Setup KernelFault
alone = record {
  program = loop;
  touch = λ k e c. touches e c;
  reduces = λ s v. None;
  modifies = λ k d. 0 == d;
  scatters = λ k. false;
  ranks = 1;
  owner = λ s e. 0;
  import_execute = λ r s e. false;
  import_nonexecute = λ r s e. false;
  core = λ r s e. true;
  needs = λ k d. false;
  exchanged = λ k d. false;
  sends = λ k s r. false;
  block = λ k r e. 0;
  block_colour = λ k r b. 0;
  colour = λ k r e. 0;
}

pub not_indirect : (a d m i : ℕ) (x : Access) → argument a ≡ Indirect d m i x → ⊥
not_indirect a d m i x h = cc

pub not_global : (a v : ℕ) (x : Access) → argument a ≡ GlobalArgument v x → ⊥
not_global a v x h = cc

pub not_some : (o : Reduction) → ◌≡◌ {A = Option Reduction} None (Some o) → ⊥
not_some o h = cc

pub not_true : false ≡ true → ⊥
not_true h = cc

abbrev pub parts : LoopParts alone
parts = record {
  args = one;
  arg = λ s a. argument a;
  maps = 0;
  from_set = none;
  to_set = none;
  arity = none;
  entry = entries;
  dim = one;
  width = none;
  direct_set = λ k a d x f l h. refl;
  indirect_set = λ k a d m i x f l h. absurd (not_indirect a d m i x h);
  in_range = λ m e i l le li. absurd (omega (arith, l));
  named_once = λ k a b v x o f la lb ha hb. absurd (not_global a v x ha);
  reduces_only = λ k v o f h. absurd (not_some o h);
  touch_is = λ k e c f l. refl;
  variable_touch = λ k e v o f l h. absurd (not_some o h);
  constant_touch = λ k e v f l h. refl;
  free_is = λ k b d f l on m. inr (λ a la ona. refl);
  modifies_is = λ k a d f l on m. on;
  modifies_only = λ k d f h. (0, omega arith, h, refl);
  scatters_is = λ k a d m i o f l h. absurd (not_indirect a d m i (OpReduce o) h);
  needs_indirect = λ k a d m i f l h. absurd (not_indirect a d m i OpRead h);
  needs_direct = λ k a d x f l h r s. absurd (not_true s);
  execute_if = λ r s e m i lr le o lm fs li h. absurd (omega (arith, lm));
  execute_other = λ r s e lr le h o. not_true h;
  nonexecute_if = λ r m e i lr lm li le h o n. absurd (omega (arith, lm));
  nonexecute_other = λ r s e lr le h o. not_true h;
  core_own = λ r s e lr le h. omega (arith, lr);
  core_targets = λ r s e m i lr le h lm fs li. absurd (omega (arith, lm));
  sent = λ k r d e f lr h le i. absurd (not_true h);
  coloured = λ k r x y a b d f lr lx ly ex ey n la lb oa ob o p ra rb t. absurd (n (omega (arith, lx, ly)));
}

pub not_goes : (f : KernelFault) (v : VarCell → ℤ) (o : List ℕ) → Halts f ≡ Goes v o → ⊥
not_goes f v o h = cc

pub not_ordered : Free ≡ Ordered → ⊥
not_ordered h = cc

module _ (name : Name) (places : Vec Pos Global) (one_place : length places.items ≡ 1) where
  first : (e : ℕ) → e < 1 → IsElementRun entries one none argument 1 e modes cell_of (sevens name places) (λ c. false) run
  first zero l = is_element_run entries none name places one_place
  first (suc e) l = absurd (omega (arith, l))

  -- its loop runs a kernel for its element
  pub runs_kernels : RunsKernels alone parts
  runs_kernels = record {
    kernel = λ s. sevens name places;
    modes = λ s. modes;
    cell_of = λ k e. cell_of;
    is_constant = λ c. false;
    runs = λ k e h l. first e l;
    obeys = λ k h. obeys name places;
    read_constants = λ k e f l c h. absurd (not_true h);
    touches = λ k e c f l. refl;
    ordered_modifies = λ k a d h. absurd (not_ordered h);
    start_in_range = λ c. record { sfits = omega arith };
    host_in_range = λ k s v o h g. absurd (not_goes (record { kind = DivZero; at = here }) v o g);
  }

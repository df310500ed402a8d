-- What the walk over the text has come to, as the program holds it.
use Rattle.std.specs.Prelude.{List, map}
use Rattle.main_declarations.specs.declared.names.declared.Declared.{Declared as DeclaredCode}
use Rattle.bound_program.specs.declared.trace.steps.Step.{Step as StepCode}
use Rattle.bound_program.specs.Values.{var_of, site_of}
use Rattle.main_declarations.specs.Names.{scope_of}
use Rattle.main_declarations.specs.SoFar.{Declared, Walked}
use Rattle.bound_program.specs.Unrolling.{steps_of}

-- what is declared so far, as lists
abbrev pub declared_of : DeclaredCode → Declared
declared_of k = record {
  mesh = k.mesh;
  filled = k.filled;
  vars = map var_of k.vars.items;
  cells = k.cells;
  externs = k.externs.entries;
  sites = map site_of k.sites.items;
  kernels = k.kernels;
  names = scope_of k.names;
}

-- what is declared and the steps so far, as lists
abbrev pub walked : DeclaredCode → List StepCode → Walked
walked k ss = record { declared = declared_of k; steps = steps_of ss }

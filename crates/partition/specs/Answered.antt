-- What the reader's functions answer.
use Rattle.std.specs.Prelude.{◌≡◌, ℕ, ◌⊎◌, Option, Some, None, Result, Ok, Err}
use Rattle.op_num.specs.Cut.{Uncut}
use Rattle.op_num.specs.Automaton
use Rattle.op_num.specs.Automaton.{after, onto}
use Rattle.mesh_decl.specs.Mesh.{MeshValue}
use Rattle.partition.specs.declared.part_text.refusals.PartRefusal.{PartRefusal}
use Rattle.partition.specs.declared.part_text.refusals.PartRefusal.TheVariants.{OutOfMemory}
use Rattle.partition.specs.Spelling.{Table}
use Rattle.partition.specs.Reading.{State, Between, Count, End, gathered, step, finish, run_from}

module _ (g : MeshValue) (ranks : ℕ) where
  -- Reading on from here, with this awaited, is reading on from there; or it is refused. Want of memory is free.
  abbrev pub Leads : State → Uncut → {X : Type 0} → Result X PartRefusal → (X → State) → Uncut → Type 0
  Leads p old r q new = Automaton.Leads (step g ranks) finish OutOfMemory p old r q new

  -- Reading on from here, with `set` and a name or `done` awaited, is reading on from there; or it is refused.
  abbrev pub LeadsToSet : Table → Uncut → Result (Option ℕ) PartRefusal → Uncut → Type 0
  LeadsToSet t old (Ok (Some k)) new = run_from g ranks (Between t) old ≡ run_from g ranks (Count t k) new
  LeadsToSet t old (Ok None) new = run_from g ranks (Between t) old ≡ after (onto (gathered new.last t) End) (λ q. run_from g ranks q new)
  LeadsToSet t old (Err e) new = (e ≡ OutOfMemory) ⊎ (run_from g ranks (Between t) old ≡ Err e)

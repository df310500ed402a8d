-- A bound program begins with values of 32 bits: those of its source and of its mesh text, and what these come to.
use Rattle.std.proofs.Common.{◌≡◌, ℕ, zero, suc, ℤ, List, ◌∷◌, map, Ok, subst, []}
use Rattle.std.specs.Prelude.{All, slice_index_or}
use Rattle.std.proofs.lemmas.List.Elements.{All-nil}
use Rattle.c_tree.specs.Tree.{ProgramTree}
use Rattle.kernel_model.specs.declared.types.kernels.Resolved.{Resolved}
use Rattle.mesh_decl.specs.declared.decl.DatDecl.{DatDecl}
use Rattle.mesh_decl.specs.Mesh.{dat_values}
use Rattle.mesh_decl.specs.Spelling.{Named, Spells}
use Rattle.bound_program.specs.Limits.{max_trace}
use Rattle.bound_program.specs.Values.{BoundValue, VarValue, no_var}
use Rattle.bound_program.specs.Fits.{var_at}
use Rattle.main_declarations.specs.SoFar.{Walked, quiet, nothing_declared}
use Rattle.bound_program.specs.Limited.{ToldValue, unrolled}
use Rattle.main_declarations.specs.File.{judged_tops}
use Rattle.loop_bind.specs.Text.{outermost, judged_hosts}
use Rattle.loop_bind.specs.Sources.{TopIsRead, HostsAreRead}
use Rattle.loop_bind.specs.Weights.{started, with_told, within_weight, weight_of_all, trace}
use Rattle.loop_bind.specs.Bound.{text, happens, finished, unrolled_text, bound}
use Rattle.main_declarations.proofs.Public.{Gives, gives_then, gives_any}
use Rattle.run_model.specs.Ranges.{StartsInRange}
use Rattle.answers.proofs.laws.SpelledValues.{Num, AllNum, num_at, VarsNum, DatsNum, EntriesNum, spelled_num}
use Rattle.answers.proofs.laws.ExpressionValues.{NameNum}
use Rattle.answers.proofs.laws.DeclaredValues.{In, WalkIn, tops_in, hosts_in}
use Rattle.answers.proofs.laws.UnrolledValues.{main_num, ToldNum, UnrolledNum, unrolled_num}

-- ---- the program

started_in : (v : ℕ) (z : ℤ) (vs : List VarValue) → Num z → VarsNum vs → VarsNum (started v z vs)
started_in v z [] f h = tt
started_in zero z (x ∷ xs) f h = ((f, tt), h.1)
started_in (suc v) z (x ∷ xs) f h = (h.0, started_in v z xs f h.1)

told_in : (ts : List ToldValue) (vs : List VarValue) → ToldNum ts → VarsNum vs → VarsNum (with_told ts vs)
told_in [] vs t h = h
told_in (t ∷ ts) vs k h = told_in ts (started t.var t.value vs) k.1 (started_in t.var t.value vs k.0 h)

record Begins (b : BoundValue) : Type 0 where
  vars : VarsNum b.vars
  dats : DatsNum b.mesh.dats

walked_begins : (r : Resolved) (w : Walked) → WalkIn w → Gives Begins (unrolled_text r w)
walked_begins r w h =
    gives_then UnrolledNum Begins (trace w.declared.mesh (happens w)) (λ u. Ok (finished r w.declared u))
    (gives_then UnrolledNum UnrolledNum (unrolled max_trace (happens w)) _ (unrolled_num max_trace (happens w) (main_num w.declared.sites w.steps h.steps))
    (λ u f. gives_then (λ v. Unit {0}) UnrolledNum (within_weight (weight_of_all w.declared.mesh u.items)) (λ v. Ok u) (gives_any (within_weight (weight_of_all w.declared.mesh u.items))) (λ v t. f)))
    (λ u f. record { vars = told_in u.values w.declared.vars f h.declared.vars; dats = h.declared.dats })

no_values : In nothing_declared
no_values = record { vars = tt; dats = tt; names = record { file = All-nil NameNum; own = All-nil NameNum } }

text_begins : (p : ProgramTree) (r : Resolved) (es : List Named) → EntriesNum es → All TopIsRead p.tops → HostsAreRead p.main.body → Gives Begins (bound p r es)
text_begins p r es entries file body =
    gives_then WalkIn Begins (text p r es) (unrolled_text r)
    (gives_then In WalkIn (judged_tops p.places r.consts.items es nothing_declared p.tops) (λ k. judged_hosts p.places r.consts.items es (quiet k) outermost p.main.body)
    (tops_in p.places r.consts.items es entries nothing_declared p.tops no_values file)
    (λ k i. hosts_in p.places r.consts.items es entries (quiet k) outermost p.main.body (record { declared = i; steps = tt }) body))
    (λ w i. walked_begins r w i)

vars_at : (vs : List VarValue) → VarsNum vs → (v : ℕ) → AllNum (slice_index_or vs v no_var).start
vars_at [] h v = tt
vars_at (x ∷ xs) h zero = h.0
vars_at (x ∷ xs) h (suc v) = vars_at xs h.1 v

dats_at : (ds : List DatDecl) → DatsNum ds → (d : ℕ) → AllNum (slice_index_or (map (λ (e : DatDecl). e.values) ds) d [])
dats_at [] h d = tt
dats_at (x ∷ xs) h zero = h.0
dats_at (x ∷ xs) h (suc d) = dats_at xs h.1 d

begins_in_range : (b : BoundValue) → Begins b → StartsInRange b
unfolding dat_values
begins_in_range b h = record {
  dats = λ d i. num_at (dat_values b.mesh d) (dats_at b.mesh.dats h.dats d) i;
  vars = λ v i. num_at (var_at b v).start (vars_at b.vars h.vars v) i;
}

-- what is bound of a source that was read and of a mesh text begins with values of 32 bits
pub bound_programs_start_in_range : (p : ProgramTree) (r : Resolved) (bytes : List ℕ) (es : List Named) (b : BoundValue)
    → All TopIsRead p.tops → HostsAreRead p.main.body → Spells bytes es → bound p r es ≡ Ok b → StartsInRange b
bound_programs_start_in_range p r bytes es b file body spells is =
    begins_in_range b (subst (Gives Begins) is (text_begins p r es (spelled_num bytes es spells) file body))

use Rattle.std.proofs.Common.{◌≡◌, ◌++◌, refl, inr, rules, w32, FitsSigned}
use Rattle.std.proofs.lemmas.Int.{to_z-of_z}
use lib.ListN.{replicate}
use Rattle.op_num.proofs.Public.{passes_on, fewer}
use Rattle.mesh_decl.specs.declared.text.entry.MeshRefusal.TheVariants.{OutOfMemory}
use Rattle.mesh_decl.specs.Reading.{filled, step, finish}
use Rattle.mesh_decl.proofs.text.Running.{piece_given, piece_refused, piece_missing}
use Rattle.mesh_decl.proofs.text.ShortPiece.{short_given}
use Rattle.mesh_decl.proofs.text.read.next_values.Goals as goal

pub returns-in-Some-clause-leads : goal.returns-in-Some-clause-leads
returns-in-Some-clause-leads c es name zs =
    let fits : FitsSigned w32 c.in-Some.value = search rules in
    let k = short_given c.args.form c.args.tokens.now c.next_short.new.self c.args.left c.in-Some.value c.requires fits c.in-Some.ensures.value (c.in-Some.ensures.some refl) in
    rw (to_z-of_z w32 c.in-Some.value fits)
    (piece_given c.args.form es name c.args.left zs (zs ++ replicate 1 c.in-Some.value) c.args.tokens.now c.next_short.new.self k.0 1
    c.in-Some.value c.requires k.1 k.2 refl)

pub returns-in-Some-clause-fewer : goal.returns-in-Some-clause-fewer
returns-in-Some-clause-fewer c =
    let fits : FitsSigned w32 c.in-Some.value = search rules in
    let k = short_given c.args.form c.args.tokens.now c.next_short.new.self c.args.left c.in-Some.value c.requires fits c.in-Some.ensures.value (c.in-Some.ensures.some refl) in
    fewer _ _ _ k.1

-- the token was still to come
pub returns-in_err-token-clause-leads : goal.returns-in_err-token-clause-leads
returns-in_err-token-clause-leads c es name zs =
    let same : c.next_short.new.self ≡ c.args.tokens.now = search rules in
    let none = rw same at c.in_err-token.ensures.none in
    passes_on step finish OutOfMemory (filled c.args.form es name c.args.left zs) c.args.tokens.now _ _ _ _ c.from_residual.ensures.1
    (inr (piece_missing c.args.form es name c.args.left zs c.args.tokens.now _ c.requires none.0 none.1))

pub returns-in_err-given-clause-leads : goal.returns-in_err-given-clause-leads
returns-in_err-given-clause-leads c es name zs =
    let same : c.next_short.new.self ≡ c.args.tokens.now = search rules in
    let some = rw same at c.in_ok-token.ensures.some in
    passes_on step finish OutOfMemory (filled c.args.form es name c.args.left zs) c.args.tokens.now _ _ _ _ c.from_residual-in_err-given.ensures.1
    (inr (piece_refused c.args.form es name c.args.left zs c.args.tokens.now c.next_value.new.tokens c.in_ok-token.token _ c.requires some c.in_err-given.ensures.is))

pub returns-clause-leads : goal.returns-clause-leads
returns-clause-leads c es name zs =
    let same : c.next_short.new.self ≡ c.args.tokens.now = search rules in
    let some = rw same at c.in_ok-token.ensures.some in
    piece_given c.args.form es name c.args.left zs (zs ++ replicate c.in_ok-given.given.0 c.in_ok-given.given.1) c.args.tokens.now
    c.next_value.new.tokens c.in_ok-token.token c.in_ok-given.given.0 c.in_ok-given.given.1 c.requires some c.in_ok-given.ensures.is
    refl

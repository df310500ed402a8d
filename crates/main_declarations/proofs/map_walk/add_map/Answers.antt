use Rattle.std.proofs.Common.{◌≡◌, ◌∙◌, ◌⊎◌, ◌+◌, length, Ok, refl, ap, subst, rules, arith}
use Rattle.std.proofs.lemmas.Grind.{common_steps}
use Rattle.mesh_decl.specs.declared.decl.MapRefusal.TheVariants.{OutOfMemory}
use Rattle.mesh_decl.specs.Mesh.{map_count, set_size, AreElements, RefusesTarget}
use Rattle.main_declarations.specs.Targets.{target_refusal}
use Rattle.main_declarations.proofs.MapTargets.{good_targets, bad_target_answers}
use Rattle.main_declarations.proofs.map_walk.add_map.Goals as goal

pub returns-in-Err : goal.returns-in-Err
returns-in-Err c =
    let places = c.args.source.now.places.now in
    let x = c.args.array.now in
    let r = c.in-Err.refusal in
    let size = set_size c.args.k.now.mesh c.args.to in
    let e : c.in_ok-targets.targets.items ≡ c.args.values.now = first_of (search rules, grind (arith, common_steps)) in
    let m : c.map_count-map.result ≡ map_count c.args.k.now.mesh = c.map_count-map.ensures.count in
    let q = c.target_refusal.ensures ∙ ap (λ n. target_refusal places n x r) m in
    bad_target_answers places (map_count c.args.k.now.mesh) c.args.dim size x c.args.values.now _ r c.target_refusal.result q
    (subst (λ zs. (r ≡ OutOfMemory) ⊎ RefusesTarget size c.args.dim zs r) e c.in-Err.ensures.target)

pub returns-in_ok-declare_map-in-Ok : goal.returns-in_ok-declare_map-in-Ok
returns-in_ok-declare_map-in-Ok c =
    let size = set_size c.args.k.now.mesh c.args.to in
    let e : c.in_ok-targets.targets.items ≡ c.args.values.now = first_of (search rules, grind (arith, common_steps)) in
    let f : c.in-Some.filled ≡ c.args.k.now.filled + length c.args.values.now = first_of (search rules, grind (arith, common_steps)) in
    good_targets c.args.source.now.places.now (map_count c.args.k.now.mesh) c.args.dim size c.args.array.now c.args.values.now _ (subst (AreElements size) e c.in-Ok.ensures.good)
    ∙ ap Ok (rw (c.in_ok-declare_map-in-Ok.ensures, c.in-Ok.ensures.ok.0, c.in-Ok.ensures.ok.1, c.in_ok-name.ensures, e, f) refl)

use Rattle.std.proofs.Common.{◌≡◌, ◌-◌, ◌++◌, length, length-append, ap, subst, ◌∙◌, arith}
use Rattle.std.proofs.lemmas.Result.{IfOk-weaker, IfErr-weaker}
use Rattle.gmsh_mesh.specs.Places.{AreHolders, AreFound, IsRefused, IsRefusedClass, IsRefusedFind}
use Rattle.gmsh_mesh.proofs.tag_places.Holding.{places, class-refused, find-refused, refused-so}
use Rattle.gmsh_mesh.proofs.tag_places.finding.tag_places.Goals as goal

pub returns-clause-places : goal.returns-clause-places
returns-clause-places c =
    let is : c.deref.result.now ≡ c.args.tags.now ++ c.args.keys.now = c.deref.ensures.value ∙ c.in_ok-all.ensures in
    let long = ap length c.deref-3.ensures.value in
    let n : length c.deref-3.result.now - length c.args.tags.now ≡ length c.args.keys.now =
    omega (arith, long, c.in_ok-of.ensures.size, ap length is, length-append c.args.tags.now c.args.keys.now) in
    let holders = subst (λ x. AreHolders x (length c.args.tags.now) c.in_ok-holders.holders.items) c.deref-2.ensures.value c.in_ok-holders.ensures.holders in
    IfOk-weaker c.find_places.result _ _
    (λ found f. places c.args.tags.now c.args.keys.now c.deref.result.now c.in_ok-of.of.items is c.in_ok-of.ensures
    c.in_ok-holders.holders.items (length c.deref-3.result.now - length c.args.tags.now) found.items n holders
    (subst (λ x. AreFound x (length c.args.tags.now) (length c.deref-3.result.now - length c.args.tags.now) found.items) c.deref-3.ensures.value f))
    c.find_places.ensures.found

pub returns-clause-refused : goal.returns-clause-refused
returns-clause-refused c =
    let is : c.deref.result.now ≡ c.args.tags.now ++ c.args.keys.now = c.deref.ensures.value ∙ c.in_ok-all.ensures in
    let long = ap length c.deref-3.ensures.value in
    let n : length c.deref-3.result.now - length c.args.tags.now ≡ length c.args.keys.now =
    omega (arith, long, c.in_ok-of.ensures.size, ap length is, length-append c.args.tags.now c.args.keys.now) in
    let holders = subst (λ x. AreHolders x (length c.args.tags.now) c.in_ok-holders.holders.items) c.deref-2.ensures.value c.in_ok-holders.ensures.holders in
    IfErr-weaker c.find_places.result _ _
    (λ e h. find-refused c.args.tags.now c.args.keys.now c.deref.result.now c.in_ok-of.of.items is c.in_ok-of.ensures
    c.in_ok-holders.holders.items (length c.deref-3.result.now - length c.args.tags.now) n holders e
    (subst (λ x. IsRefusedFind x (length c.args.tags.now) (length c.deref-3.result.now - length c.args.tags.now) e) c.deref-3.ensures.value h))
    c.find_places.ensures.refused

pub returns-in_err-holders-clause-refused : goal.returns-in_err-holders-clause-refused
returns-in_err-holders-clause-refused c =
    let is : c.deref.result.now ≡ c.args.tags.now ++ c.args.keys.now = c.deref.ensures.value ∙ c.in_ok-all.ensures in
    refused-so c.from_residual-in_err-holders.result _ (IsRefused c.args.tags.now c.args.keys.now) c.from_residual-in_err-holders.ensures.1
    (class-refused c.args.tags.now c.args.keys.now c.deref.result.now c.in_ok-of.of.items is c.in_ok-of.ensures _
    (subst (λ x. IsRefusedClass x (length c.args.tags.now) c.in_err-holders.field-0.0) c.deref-2.ensures.value c.in_err-holders.ensures.refused))

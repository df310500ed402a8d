use Rattle.std.proofs.Common.{◌≡◌, ◌<◌, ◌∙◌, ℕ, List, [], true, false, Option, Vec, is_some, arith, length, get_or, sym, ap, subst, ⊎_elim}
use Rattle.std.specs.declared.alloc.Global.{Global}
use Rattle.std.proofs.lemmas.Bool.{cases_eq}
use Rattle.std.proofs.lemmas.List.{get_or-map}
use Rattle.mesh_decl.specs.Mesh.{set_count, set_size}
use Rattle.partition.specs.Derive.{is_given, given_in, given_list}
use Rattle.partition.proofs.given.given_fits.Goals as goal

reads : (given : List (Option (Vec ℕ Global))) (s : ℕ) (entry : Option (Vec ℕ Global)) → s < length given → entry ≡ get_or given s entry
    → (is_given given s ≡ is_some entry) × (given_in given s ≡ given_list entry)
unfolding is_given given_in
reads given s entry l e = (
  get_or-map (λ (v : Option (Vec ℕ Global)). is_some v) given s entry false l ∙ sym (ap (λ (v : Option (Vec ℕ Global)). is_some v) e),
  get_or-map given_list given s entry [] l ∙ sym (ap given_list e),
)

pub returns-then-not-entry_fits : goal.returns-then-not-entry_fits
returns-then-not-entry_fits c = (
  λ h. (let z : false ≡ true = h in cc),
  λ a. (
      let s : ℕ = c.loop-set.set in
      let l : s < set_count c.args.mesh.now = omega (arith, c.set_count-count.ensures.count, c.loop-set-test.true) in
      let ll : s < length c.args.given.now = rw a.sets l in
      let r = reads c.args.given.now s c.index-given-set.result ll c.index-given-set.is in
      let z : c.set_size.result ≡ set_size c.args.mesh.now s = c.set_size.ensures in
      let t : c.entry_fits.result ≡ true = c.entry_fits.ensures.1
      (λ k. (
        ap (length {A = ℕ}) (sym r.1) ∙ (a.lengths s l (r.0 ∙ k) ∙ sym z),
        λ x lx. subst (λ (q : List ℕ). get_or q x 0 < c.args.ranks) r.1 (a.below s x l (r.0 ∙ k) (rw (sym z) lx)),
      )) in
      let f : c.entry_fits.result ≡ false = c.if-not-entry_fits.true in
      cc),
)

pub loop-set-preserved : goal.loop-set-preserved
loop-set-preserved c = λ t l k. ⊎_elim
    (λ (e : t ≡ c.loop-set.set).
    let s : ℕ = c.loop-set.set in
    let ll : s < length c.args.given.now = omega (arith, c.loop-set-test.true, c.if-given-count.false) in
    let r = reads c.args.given.now s c.index-given-set.result ll c.index-given-set.is in
    let z : c.set_size.result ≡ set_size c.args.mesh.now s = c.set_size.ensures in
    let f = c.entry_fits.ensures.0 c.if-not-entry_fits.false (sym r.0 ∙ subst (λ (q : ℕ). is_given c.args.given.now q ≡ true) e k) in
    rw (e, r.1) (f.0 ∙ z, λ x lx. f.1 x (rw z lx)))
    (λ (n : t ≡ c.loop-set.set → ⊥). c.loop-set.invariant t (omega (arith, n, l)) k)
    (cases_eq t c.loop-set.set)

use Rattle.std.proofs.Common.{◌≡◌, ◌<◌, ℕ, List, [], Bool, true, false, not, Option, Some, None, IfSome, IfNone, Vec, ◌+◌, arith, length, get_or, set, subst}
use Rattle.std.specs.declared.alloc.Global.{Global}
use Rattle.mesh_decl.specs.Mesh.{MeshValue, set_count, set_size}
use Rattle.lemmas.specs.Below.{any_below}
use Rattle.partition.specs.Derive.{IsNextSet}
use Rattle.partition.proofs.TurnSteps.{IsTurn, turn_init, turn_step, turn_none, turn_done}
use Rattle.partition.proofs.turns.derive_rest.Goals as goal
use Rattle.partition.proofs.turns.derive_rest.Goals.{in-Some, in-None}

pub loop-turn-init : goal.loop-turn-init
loop-turn-init c = turn_init c.args.mesh.now c.args.ranks c.args.sets.items c.args.known.items c.requires.known

choice : (g : MeshValue) (ranks : ℕ) (now items : List (List ℕ)) (kn known : List Bool) (r : Option (ℕ × Vec ℕ Global)) (s : ℕ)
    (v : Vec ℕ Global) → r ≡ Some (s, v) → now ≡ items → kn ≡ known
    → IfSome r (λ p. IsNextSet g ranks (λ t. get_or now t []) (λ t. get_or kn t false) p.0 p.1.items)
    → IsNextSet g ranks (λ t. get_or items t []) (λ t. get_or known t false) s v.items
choice g ranks now items kn known r s v e n k h =
    let a : IsNextSet g ranks (λ t. get_or now t []) (λ t. get_or kn t false) s v.items =
    subst (λ (q : Option (ℕ × Vec ℕ Global)). IfSome q
    (λ p. IsNextSet g ranks (λ t. get_or now t []) (λ t. get_or kn t false) p.0 p.1.items)) e h in
    let b : IsNextSet g ranks (λ t. get_or items t []) (λ t. get_or kn t false) s v.items =
    subst (λ (z : List (List ℕ)). IsNextSet g ranks (λ t. get_or z t []) (λ t. get_or kn t false) s v.items) n a in
    subst (λ (z : List Bool). IsNextSet g ranks (λ t. get_or items t []) (λ t. get_or z t false) s v.items) k b

taken : (P : ℕ × Vec ℕ Global → Type 0) (r : Option (ℕ × Vec ℕ Global)) (s : ℕ) (v : Vec ℕ Global) → r ≡ Some (s, v) → IfSome r P → P (s, v)
taken P r s v e h = subst (λ (q : Option (ℕ × Vec ℕ Global)). IfSome q P) e h

no_choice : (P : Type 0) (r : Option (ℕ × Vec ℕ Global)) → r ≡ None → IfNone r P → P
no_choice P r e h = subst (λ (q : Option (ℕ × Vec ℕ Global)). IfNone q P) e h

pub loop-turn-preserved : goal.loop-turn-preserved
loop-turn-preserved c =
    let g = c.args.mesh.now in
    let turn : ℕ = c.loop-turn.turn in
    let items = c.loop-turn.sets.items in
    let known = c.loop-turn.known.items in
    let k0 : ℕ → Bool = λ s. get_or c.args.known.items s false in
    let s0 : ℕ → List ℕ = λ s. get_or c.args.sets.items s [] in
    let r : Option (ℕ × Vec ℕ Global) = c.in_ok-set.field-0 in
    let l : turn < set_count g = omega (arith, c.set_count-turn-end.ensures.count, c.loop-turn-test.true, c.loop-turn.auto.turn-end) in
    elim c.match-branch-2.branch [
      | in-Some w ↦ (
          let s : ℕ = w.in-Some.set in
          let v : Vec ℕ Global = w.in-Some.owners in
          let next : IsNextSet g c.args.ranks (λ t. get_or items t []) (λ t. get_or known t false) s v.items =
          choice g c.args.ranks c.deref.result.now items c.deref-in-loop-turn.result.now known r s v w.in-Some.is c.deref.ensures.value
          c.deref-in-loop-turn.ensures.value c.in_ok-set.ensures.next in
          let len : length v.items ≡ set_size g s = taken (λ p. length p.1.items ≡ set_size g p.0) r s v w.in-Some.is c.in_ok-set.ensures.length in
          let within : (x : ℕ) → x < set_size g s → get_or v.items x 0 < c.args.ranks =
          taken (λ p. (x : ℕ) → x < set_size g p.0 → get_or p.1.items x 0 < c.args.ranks) r s v w.in-Some.is c.in_ok-set.ensures.within
          in
          let step : IsTurn g c.args.ranks (turn + 1) k0 s0 (set items s v.items) (set known s true) =
          turn_step g c.args.ranks turn k0 s0 items known s v.items l c.loop-turn.invariant next len within in
          rw (w.sets-is, w.known-is, w.new.ensures) step)
      | in-None w ↦ (
          let none : any_below (set_count g) (λ s. not (get_or c.deref-in-loop-turn.result.now s false)) ≡ false =
          no_choice (any_below (set_count g) (λ s. not (get_or c.deref-in-loop-turn.result.now s false)) ≡ false) r w.in-None.is
          c.in_ok-set.ensures.none in
          let all : any_below (set_count g) (λ s. not (get_or known s false)) ≡ false =
          subst (λ (z : List Bool). any_below (set_count g) (λ s. not (get_or z s false)) ≡ false) c.deref-in-loop-turn.ensures.value
          none in
          rw (w.sets-is, w.known-is) (turn_none g c.args.ranks turn k0 s0 items known l c.loop-turn.invariant all))
    ]

pub returns-clause-derived : goal.returns-clause-derived
returns-clause-derived c =
    let n : c.loop-turn.turn ≡ set_count c.args.mesh.now = omega (arith, c.set_count-turn-end.ensures.count, c.loop-turn-test.false, c.loop-turn.auto.turn-end) in
    turn_done c.args.mesh.now (record { ranks = c.args.ranks; sets = c.loop-turn.sets }) (λ s. get_or c.args.known.items s false)
    (λ s. get_or c.args.sets.items s []) c.loop-turn.known.items c.requires.some c.requires.few
    (subst (λ (k : ℕ). IsTurn c.args.mesh.now c.args.ranks k (λ s. get_or c.args.known.items s false) (λ s. get_or c.args.sets.items s [])
    c.loop-turn.sets.items c.loop-turn.known.items) n c.loop-turn.invariant)

-- The arguments of a loop that merge amounts into dats.
use Rattle.std.proofs.Common.{◌≡◌, ◌<◌, ℕ, zero, suc, Bool, true, false, List, [], ◌∷◌, length, get_or, All, Option, Some, None, refl, sym, ap, subst, ◌∙◌, arith}
use Rattle.std.specs.Prelude.{Contains, if◌then◌else◌}
use Rattle.std.proofs.lemmas.List.Elements.{All-cons}
use Rattle.op_num.specs.declared.reductions.access.Access.{Access}
use Rattle.mesh_decl.specs.declared.access.Via.{Via}
use Rattle.mesh_decl.specs.Mesh.{dat_set}
use Rattle.colouring.specs.declared.types.IncArg.{IncArg}
use Rattle.colouring.specs.Colours.{IsArg, Leads, reached_by}
use Rattle.schedule_model.specs.Arguments as theorem
use Rattle.bound_program.specs.declared.sites.Arg.{Arg}
use Rattle.bound_program.specs.declared.sites.Arg.TheVariants.{Dat, Global}
use Rattle.bound_program.specs.Values.{BoundValue}
use Rattle.bound_program.specs.Classes.{is_reducing}
use Rattle.bound_program.specs.Fits.{ArgFits, ViaFits}
use Rattle.run_model.specs.Arguments.{no_arg, argument_of, entries}
use Rattle.loop_plan.specs.Places.{reducing}

abbrev pub inc_arg : ℕ → Option Via → IncArg
inc_arg d v = record { dat = d; via = v }

further : (x y : IncArg) (xs : List IncArg) → Contains xs y → Contains (x ∷ xs) y
further x y xs c = (suc c.0, (let l : c.0 < length xs = c.1 in omega arith), c.2)

later : (f : ℕ) (w : Option Via) (d : ℕ) (v : Option Via) (ys : List IncArg) (z : Bool) → Contains ys (inc_arg d v) → Contains (if z then inc_arg f w ∷ ys else ys) (inc_arg d v)
later f w d v ys true c = further (inc_arg f w) (inc_arg d v) ys c
later f w d v ys false c = c

-- each argument that merges amounts into a dat is among them
pub is_among : (xs : List Arg) (a d : ℕ) (v : Option Via) (x : Access) → a < length xs → get_or xs a no_arg ≡ Dat d v x → is_reducing x ≡ true → Contains (reducing xs) (inc_arg d v)
is_among [] a d v x l e h = absurd (omega arith)
is_among (Global w y ∷ xs) zero d v x l e h = let q : ⊥ = cc in absurd q
is_among (Global w y ∷ xs) (suc a) d v x l e h = is_among xs a d v x (omega arith) e h
is_among (Dat f w y ∷ xs) zero d v x l e h =
    let i : f ≡ d = cc in
    let j : w ≡ v = cc in
    let k : y ≡ x = cc in
    subst (λ z. Contains (if z then inc_arg f w ∷ reducing xs else reducing xs) (inc_arg d v)) (sym (ap is_reducing k ∙ h))
    (subst (λ z. Contains (inc_arg z w ∷ reducing xs) (inc_arg d v)) (sym i) (subst (λ z. Contains (inc_arg d z ∷ reducing xs) (inc_arg d v)) (sym j) (zero, omega arith, refl)))
is_among (Dat f w y ∷ xs) (suc a) d v x l e h = later f w d v (reducing xs) (is_reducing y) (is_among xs a d v x (omega arith) e h)

module _ (b : BoundValue) (set : ℕ) where
  leads : (d : ℕ) (v : Option Via) → ViaFits b set d v → Leads b.mesh set (dat_set b.mesh d) v
  leads d None h = h
  leads d (Some v) h = (h.0, h.3, h.1, h.2)

  both : (f : ℕ) (w : Option Via) (z : Bool) (ys : List IncArg) → IsArg b.mesh set (inc_arg f w) → All (IsArg b.mesh set) ys → All (IsArg b.mesh set) (if z then inc_arg f w ∷ ys else ys)
  both f w false ys h r = r
  both f w true ys h r = All-cons (IsArg b.mesh set) (inc_arg f w) ys h r

  -- they are arguments of a loop over the set
  pub are_args : (xs : List Arg) → All (ArgFits b set) xs → All (IsArg b.mesh set) (reducing xs)
  are_args [] h = λ i d l. absurd (omega arith)
  are_args (Global v a ∷ xs) h = are_args xs (λ i d l. h (suc i) d (omega arith))
  are_args (Dat d v a ∷ xs) h =
      both d v (is_reducing a) (reducing xs)
      (let f : ArgFits b set (Dat d v a) = h 0 no_arg (omega arith) in record { dat = f.0; leads = leads d v f.2 })
      (are_args xs (λ i e l. h (suc i) e (omega arith)))

-- what an argument reaches, as the theorem and as the colours name it
pub target_is : (b : BoundValue) (e d : ℕ) (v : Option Via) (x : Access) → theorem.target (entries b) e (argument_of (Dat d v x)) ≡ reached_by b.mesh e v
target_is b e d None x = refl
target_is b e d (Some v) x = refl

-- The plan of a loop as lists alone, and the lines of a plan's text by them.
use Rattle.std.proofs.Common.{◌≡◌, ◌≢◌, ◌<◌, ℕ, zero, suc, true, false, nat_eq, List, [], ◌∷◌, Option, Some, None, length, get_or, map, drop, refl, sym, ap, ◌∙◌, arith, ⊎_elim}
use Rattle.std.specs.Map.{lookup}
use Rattle.std.specs.List.{flat_map}
use Rattle.std.proofs.lemmas.Bool.{cases_Bool, eq-eqb, ne_eqb}
use Rattle.mesh_decl.specs.Mesh.{MeshValue}
use Rattle.colouring.specs.declared.types.Colours.{Colours}
use Rattle.bound_program.specs.Values.{ItemValue}
use Rattle.loop_plan.specs.Values.{SitePlanValue, ItemPlanValue, or_none}
use Rattle.loop_plan.specs.PlanText.{site_line, site_lines, loop_lines, item_lines}

pub record Lists : Type 0 where
  pub places : List ℕ
  pub blocks : List (List ℕ)
  pub inner : List (List ℕ)

abbrev pub lists : SitePlanValue → Lists
lists l = record { places = l.places; blocks = map (λ (c : Colours). c.blocks.items) l.colours; inner = map (λ (c : Colours). c.inner.items) l.colours }

abbrev pub none : Lists
none = record { places = []; blocks = []; inner = [] }

abbrev pub or_empty : Option Lists → Lists
or_empty None = none
or_empty (Some l) = l

abbrev pub entry : ℕ × SitePlanValue → ℕ × Lists
entry e = (e.0, lists e.1)

pub found_lists : (s : ℕ) (es : List (ℕ × SitePlanValue)) → lists (or_none (lookup (nat_eq s) es)) ≡ or_empty (lookup (nat_eq s) (map entry es))
found_lists s [] = refl
found_lists s (e ∷ es) = ⊎_elim
    (λ (t : nat_eq s e.0 ≡ true). rw t refl)
    (λ (f : nat_eq s e.0 ≡ false). rw f (found_lists s es))
    (cases_Bool (nat_eq s e.0))

-- an entry is found by its key, where no earlier one has it
pub found_at : (es : List (ℕ × SitePlanValue)) (i : ℕ) (d : ℕ × SitePlanValue) → i < length es
    → ((j : ℕ) → j < i → (get_or es j d).0 ≢ (get_or es i d).0) → lookup (nat_eq (get_or es i d).0) es ≡ Some (get_or es i d).1
found_at [] i d l h = absurd (omega arith)
found_at (e ∷ es) zero d l h = rw (eq-eqb e.0 e.0 refl) refl
found_at (e ∷ es) (suc i) d l h =
    let other : nat_eq (get_or es i d).0 e.0 ≡ false = ne_eqb (get_or es i d).0 e.0 (λ q. h 0 (omega arith) (sym q)) in
    rw other (found_at es i d (omega arith) (λ j lj. h (suc j) (omega arith)))

-- ---- lines

-- lists with the same heads and tails
same_head : {X : Type 0} (d : X) (x y : X) (xs ys : List X) → x ∷ xs ≡ y ∷ ys → x ≡ y
same_head d x y xs ys e = ap (λ zs. get_or zs 0 d) e

same_tail : {X : Type 0} (x y : X) (xs ys : List X) → x ∷ xs ≡ y ∷ ys → xs ≡ ys
same_tail x y xs ys e = ap (λ zs. drop 1 zs) e

longer : {X : Type 0} {Y : Type 0} (x : X) (xs : List X) → [] ≡ x ∷ xs → Y
longer x xs e = let z : 0 ≡ suc (length xs) = ap (λ zs. length zs) e in absurd (omega arith)

site_lines_same : (s r : ℕ) (ns : List ℕ) (cs ds : List Colours)
    → map (λ (c : Colours). c.blocks.items) cs ≡ map (λ (c : Colours). c.blocks.items) ds
    → map (λ (c : Colours). c.inner.items) cs ≡ map (λ (c : Colours). c.inner.items) ds
    → site_lines s r ns cs ≡ site_lines s r ns ds
site_lines_same s r [] cs ds e f = refl
site_lines_same s r (n ∷ ns) [] [] e f = refl
site_lines_same s r (n ∷ ns) [] (d ∷ ds) e f = longer d.blocks.items (map (λ (c : Colours). c.blocks.items) ds) e
site_lines_same s r (n ∷ ns) (c ∷ cs) [] e f = longer c.blocks.items (map (λ (c : Colours). c.blocks.items) cs) (sym e)
site_lines_same s r (n ∷ ns) (c ∷ cs) (d ∷ ds) e f =
    let blocks : c.blocks.items ≡ d.blocks.items = same_head [] c.blocks.items d.blocks.items (map (λ (c : Colours). c.blocks.items) cs) (map (λ (c : Colours). c.blocks.items) ds) e in
    let inner : c.inner.items ≡ d.inner.items = same_head [] c.inner.items d.inner.items (map (λ (c : Colours). c.inner.items) cs) (map (λ (c : Colours). c.inner.items) ds) f in
    let here : site_line s r n c ≡ site_line s r n d = rw (blocks, inner) refl in
    rw (
      here,
      site_lines_same s (suc r) ns cs ds
          (same_tail c.blocks.items d.blocks.items (map (λ (c : Colours). c.blocks.items) cs) (map (λ (c : Colours). c.blocks.items) ds) e)
          (same_tail c.inner.items d.inner.items (map (λ (c : Colours). c.inner.items) cs) (map (λ (c : Colours). c.inner.items) ds) f),
    ) refl

loop_same : (e f : ℕ × SitePlanValue) → entry e ≡ entry f → loop_lines e ≡ loop_lines f
loop_same e f h =
    let key : e.0 ≡ f.0 = ap (λ (z : ℕ × Lists). z.0) h in
    let places : e.1.places ≡ f.1.places = ap (λ (z : ℕ × Lists). z.1.places) h in
    site_lines_same e.0 0 e.1.places e.1.colours f.1.colours (ap (λ (z : ℕ × Lists). z.1.blocks) h) (ap (λ (z : ℕ × Lists). z.1.inner) h)
    ∙ (ap (λ z. site_lines z 0 e.1.places f.1.colours) key ∙ ap (λ z. site_lines f.0 0 z f.1.colours) places)

pub loops_same : (es fs : List (ℕ × SitePlanValue)) → map entry es ≡ map entry fs → flat_map loop_lines es ≡ flat_map loop_lines fs
loops_same [] [] h = refl
loops_same [] (f ∷ fs) h = longer (entry f) (map entry fs) h
loops_same (e ∷ es) [] h = longer (entry e) (map entry es) (sym h)
loops_same (e ∷ es) (f ∷ fs) h = rw (
  loop_same e f (same_head (entry e) (entry e) (entry f) (map entry es) (map entry fs) h),
  loops_same es fs (same_tail (entry e) (entry f) (map entry es) (map entry fs) h),
) refl

pub items_same : (g : MeshValue) (k : ℕ) (is : List ItemValue) (ps qs : List ItemPlanValue)
    → map (λ (p : ItemPlanValue). p.exchange) ps ≡ map (λ (p : ItemPlanValue). p.exchange) qs → item_lines g k is ps ≡ item_lines g k is qs
items_same g k [] ps qs h = refl
items_same g k (i ∷ is) [] [] h = refl
items_same g k (i ∷ is) [] (q ∷ qs) h = longer q.exchange (map (λ (p : ItemPlanValue). p.exchange) qs) h
items_same g k (i ∷ is) (p ∷ ps) [] h = longer p.exchange (map (λ (p : ItemPlanValue). p.exchange) ps) (sym h)
items_same g k (i ∷ is) (p ∷ ps) (q ∷ qs) h =
    rw (
      same_head [] p.exchange q.exchange (map (λ (p : ItemPlanValue). p.exchange) ps) (map (λ (p : ItemPlanValue). p.exchange) qs) h,
      items_same g (suc k) is ps qs (same_tail p.exchange q.exchange (map (λ (p : ItemPlanValue). p.exchange) ps) (map (λ (p : ItemPlanValue). p.exchange) qs) h),
    ) refl

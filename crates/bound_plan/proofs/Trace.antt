-- The order of a program's items.
use Rattle.std.proofs.Common.{◌≡◌, ℕ, zero, suc, Bool, true, false, List, [], ◌∷◌, length, get_or, Option, Some, None, refl, sym, ap, ◌∙◌, arith}
use Rattle.std.specs.Prelude.{if◌then◌else◌}
use Rattle.std.proofs.lemmas.Bool.{false≢true}
use Rattle.schedule_model.specs.Program as program
use Rattle.schedule_model.specs.Program.{Kind}
use Rattle.bound_program.specs.declared.sites.Class.TheVariants as class
use Rattle.bound_program.specs.Values.{BoundValue, ItemValue, Free, Reduce, Ordered, Host, Exit}
use Rattle.bound_program.specs.Classes.{reduces}
use Rattle.bound_program.specs.Fits.{ItemsFit, EndsWithHost, due, site_at}
use Rattle.run_model.specs.Programs.{kind_of, loop_of}

abbrev is_reduce : Kind → Bool
is_reduce program.Reduce = true
is_reduce program.Free = false
is_reduce program.Ordered = false
is_reduce program.Host = false

not_reduce : (x : Kind) → x ≡ program.Reduce → is_reduce x ≡ false → ⊥
not_reduce x e h = false≢true (sym h ∙ ap is_reduce e)

not_free : (x : Kind) → x ≡ program.Free → program.is_free x ≡ false → ⊥
not_free x e h = false≢true (sym h ∙ ap program.is_free e)

module _ (b : BoundValue) where
  abbrev at : List ItemValue → ℕ → ItemValue
  at xs k = get_or xs k (Host Exit)

  -- a merging that stands first is due
  head_due : (o : Option ℕ) (xs : List ItemValue) → ItemsFit b o xs → kind_of (at xs 0) ≡ program.Reduce → o ≡ Some (loop_of (at xs 0))
  head_due o [] f h = absurd (not_reduce program.Host h refl)
  head_due None (Free s ∷ xs) f h = absurd (not_reduce program.Free h refl)
  head_due None (Ordered s ∷ xs) f h = absurd (not_reduce program.Ordered h refl)
  head_due None (Host a ∷ xs) f h = absurd (not_reduce program.Host h refl)
  head_due None (Reduce s ∷ xs) f h = absurd f
  head_due (Some n) (Reduce s ∷ xs) f h = ap (λ z. Some z) (sym f.0)
  head_due (Some n) (Free s ∷ xs) f h = absurd f
  head_due (Some n) (Ordered s ∷ xs) f h = absurd f
  head_due (Some n) (Host a ∷ xs) f h = absurd f

  none_due : (xs : List ItemValue) → ItemsFit b None xs → kind_of (at xs 0) ≡ program.Reduce → ⊥
  none_due xs f h = let e : None ≡ Some (loop_of (at xs 0)) = head_due None xs f h in cc

  due_own : (s n : ℕ) (c : Bool) → (if c then Some s else None) ≡ Some n → n ≡ s
  due_own s n true e = cc
  due_own s n false e = cc

  pub reduce_after : (o : Option ℕ) (xs : List ItemValue) (k : ℕ) → ItemsFit b o xs → kind_of (at xs (suc k)) ≡ program.Reduce
      → (kind_of (at xs k) ≡ program.Free) × (loop_of (at xs (suc k)) ≡ loop_of (at xs k))
  reduce_after o [] k f h = absurd (not_reduce program.Host h refl)
  reduce_after None (Free s ∷ xs) zero f h = (refl, due_own s (loop_of (at xs 0)) (reduces (site_at b s).args) (head_due (due b s) xs f.2 h))
  reduce_after None (Ordered s ∷ xs) zero f h = absurd (none_due xs f.2 h)
  reduce_after None (Host a ∷ xs) zero f h = absurd (none_due xs f.1 h)
  reduce_after None (Reduce s ∷ xs) k f h = absurd f
  reduce_after None (Free s ∷ xs) (suc k) f h = reduce_after (due b s) xs k f.2 h
  reduce_after None (Ordered s ∷ xs) (suc k) f h = reduce_after None xs k f.2 h
  reduce_after None (Host a ∷ xs) (suc k) f h = reduce_after None xs k f.1 h
  reduce_after (Some n) (Reduce s ∷ xs) zero f h = absurd (none_due xs f.1 h)
  reduce_after (Some n) (Reduce s ∷ xs) (suc k) f h = reduce_after None xs k f.1 h
  reduce_after (Some n) (Free s ∷ xs) k f h = absurd f
  reduce_after (Some n) (Ordered s ∷ xs) k f h = absurd f
  reduce_after (Some n) (Host a ∷ xs) k f h = absurd f

  some_due : (n : ℕ) (xs : List ItemValue) → ItemsFit b (Some n) xs → kind_of (at xs 0) ≡ program.Reduce
  some_due n [] f = absurd f
  some_due n (Reduce s ∷ xs) f = refl
  some_due n (Free s ∷ xs) f = absurd f
  some_due n (Ordered s ∷ xs) f = absurd f
  some_due n (Host a ∷ xs) f = absurd f

  due_there : (s : ℕ) (xs : List ItemValue) (c : Bool) → c ≡ true → ItemsFit b (if c then Some s else None) xs → kind_of (at xs 0) ≡ program.Reduce
  due_there s xs true e f = some_due s xs f
  due_there s xs false e f = absurd (false≢true e)

  pub reduce_next : (o : Option ℕ) (xs : List ItemValue) (k : ℕ) → ItemsFit b o xs → kind_of (at xs k) ≡ program.Free
      → reduces (site_at b (loop_of (at xs k))).args ≡ true → kind_of (at xs (suc k)) ≡ program.Reduce
  reduce_next o [] k f h r = absurd (not_free program.Host h refl)
  reduce_next None (Free s ∷ xs) zero f h r = due_there s xs (reduces (site_at b s).args) r f.2
  reduce_next None (Ordered s ∷ xs) zero f h r = absurd (not_free program.Ordered h refl)
  reduce_next None (Host a ∷ xs) zero f h r = absurd (not_free program.Host h refl)
  reduce_next None (Reduce s ∷ xs) k f h r = absurd f
  reduce_next None (Free s ∷ xs) (suc k) f h r = reduce_next (due b s) xs k f.2 h r
  reduce_next None (Ordered s ∷ xs) (suc k) f h r = reduce_next None xs k f.2 h r
  reduce_next None (Host a ∷ xs) (suc k) f h r = reduce_next None xs k f.1 h r
  reduce_next (Some n) (Reduce s ∷ xs) zero f h r = absurd (not_free program.Reduce h refl)
  reduce_next (Some n) (Reduce s ∷ xs) (suc k) f h r = reduce_next None xs k f.1 h r
  reduce_next (Some n) (Free s ∷ xs) k f h r = absurd f
  reduce_next (Some n) (Ordered s ∷ xs) k f h r = absurd f
  reduce_next (Some n) (Host a ∷ xs) k f h r = absurd f

  pub first_item : (xs : List ItemValue) → ItemsFit b None xs → kind_of (at xs 0) ≡ program.Reduce → ⊥
  first_item xs f h = none_due xs f h

  pub last_item : (xs : List ItemValue) (n : ℕ) → EndsWithHost xs → length xs ≡ suc n → kind_of (at xs n) ≡ program.Free → ⊥
  last_item [] n e l h = absurd (omega arith)
  last_item (Host a ∷ []) zero e l h = not_free program.Host h refl
  last_item (Free s ∷ []) zero e l h = e
  last_item (Reduce s ∷ []) zero e l h = e
  last_item (Ordered s ∷ []) zero e l h = e
  last_item (x ∷ []) (suc n) e l h = absurd (omega arith)
  last_item (x ∷ y ∷ xs) zero e l h = absurd (omega arith)
  last_item (Host a ∷ y ∷ xs) (suc n) e l h = last_item (y ∷ xs) n e (omega arith) h
  last_item (Free s ∷ y ∷ xs) (suc n) e l h = last_item (y ∷ xs) n e (omega arith) h
  last_item (Reduce s ∷ y ∷ xs) (suc n) e l h = last_item (y ∷ xs) n e (omega arith) h
  last_item (Ordered s ∷ y ∷ xs) (suc n) e l h = last_item (y ∷ xs) n e (omega arith) h

  -- the loop of a Free item is of that class
  pub class_is : (o : Option ℕ) (xs : List ItemValue) (k : ℕ) → ItemsFit b o xs → kind_of (at xs k) ≡ program.Free → (site_at b (loop_of (at xs k))).class ≡ class.Free
  class_is o [] k f h = absurd (not_free program.Host h refl)
  class_is None (Free s ∷ xs) zero f h = f.1
  class_is None (Ordered s ∷ xs) zero f h = absurd (not_free program.Ordered h refl)
  class_is None (Host a ∷ xs) zero f h = absurd (not_free program.Host h refl)
  class_is None (Reduce s ∷ xs) k f h = absurd f
  class_is None (Free s ∷ xs) (suc k) f h = class_is (due b s) xs k f.2 h
  class_is None (Ordered s ∷ xs) (suc k) f h = class_is None xs k f.2 h
  class_is None (Host a ∷ xs) (suc k) f h = class_is None xs k f.1 h
  class_is (Some n) (Reduce s ∷ xs) zero f h = absurd (not_free program.Reduce h refl)
  class_is (Some n) (Reduce s ∷ xs) (suc k) f h = class_is None xs k f.1 h
  class_is (Some n) (Free s ∷ xs) k f h = absurd f
  class_is (Some n) (Ordered s ∷ xs) k f h = absurd f
  class_is (Some n) (Host a ∷ xs) k f h = absurd f

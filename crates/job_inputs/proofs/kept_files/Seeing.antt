-- What follows of what was seen.
use Rattle.std.proofs.Common.{◌≡◌, ℕ, Bool, true, false, List, Option, None, Some, IfSome, IsSome, refl, sym, ap, subst, ◌∙◌}
use Rattle.std.specs.Str.{bytes_eq}
use Rattle.std.proofs.lemmas.Slice.Eq.{bytes_eq-Decides}
use Rattle.op_outside.specs.Outside.{Files}
use Rattle.job_inputs.specs.Seen.{Seen, seen_with, Agree, Grows, files_of}

-- ---- what is seen more

-- files that are as they were seen later are as they were seen before
pub agree_before : (before after : Seen) (files : Files) → Grows before after → Agree after files → Agree before files
agree_before before after files grows agree name = by (before name) (grows name)
  where
    by : (o : Option (Option (List ℕ))) → IfSome o (λ held. after name ≡ Some held) → IfSome o (λ held. files name ≡ held)
    by None g = tt
    by (Some held) g = subst (λ x. IfSome x (λ h. files name ≡ h)) g (agree name)

pub grows_same : (seen : Seen) → Grows seen seen
grows_same seen name = by (seen name)
  where
    by : (o : Option (Option (List ℕ))) → IfSome o (λ held. o ≡ Some held)
    by None = tt
    by (Some held) = refl

pub grows_on : (a b c : Seen) → Grows a b → Grows b c → Grows a c
grows_on a b c f g name = by (a name) (f name)
  where
    by : (o : Option (Option (List ℕ))) → IfSome o (λ held. b name ≡ Some held) → IfSome o (λ held. c name ≡ Some held)
    by None f = tt
    by (Some held) f = subst (λ x. IfSome x (λ h. c name ≡ Some h)) f (g name)

-- ---- one name more

module _ (seen : Seen) (name : List ℕ) (held : Option (List ℕ)) where
  pub with_name : seen_with seen name held name ≡ Some held
  with_name = rw ((bytes_eq-Decides name name).1 refl) refl

  pub with_other : (other : List ℕ) → bytes_eq other name ≡ false → seen_with seen name held other ≡ seen other
  with_other other e = rw e refl

  pub grows_with : seen name ≡ None → Grows seen (seen_with seen name held)
  grows_with unseen other = by (bytes_eq other name) refl
    where
      by : (x : Bool) → bytes_eq other name ≡ x → IfSome (seen other) (λ h. seen_with seen name held other ≡ Some h)
      by true e =
          let none : seen other ≡ None = ap seen ((bytes_eq-Decides other name).0 e) ∙ unseen in
          subst (λ x. IfSome x (λ h. seen_with seen name held other ≡ Some h)) (sym none) tt
      by false e = subst (λ x. IfSome (seen other) (λ h. x ≡ Some h)) (sym (with_other other e)) (grows_same seen other)

  pub agree_with : (files : Files) → Agree seen files → files name ≡ held → Agree (seen_with seen name held) files
  agree_with files agree same other = by (bytes_eq other name) refl
    where
      by : (x : Bool) → bytes_eq other name ≡ x → IfSome (seen_with seen name held other) (λ h. files other ≡ h)
      by true e = rw e (ap files ((bytes_eq-Decides other name).0 e) ∙ same)
      by false e = rw e (agree other)

  pub agreed : (files : Files) → Agree (seen_with seen name held) files → files name ≡ held
  agreed files agree = subst (λ x. IfSome x (λ h. files name ≡ h)) with_name (agree name)

  pub there_with : ((n : List ℕ) → IfSome (seen n) IsSome) → IsSome held → (n : List ℕ) → IfSome (seen_with seen name held n) IsSome
  there_with there some other = by (bytes_eq other name) refl
    where
      by : (x : Bool) → bytes_eq other name ≡ x → IfSome (seen_with seen name held other) IsSome
      by true e = rw e some
      by false e = rw e (there other)

-- ---- files that are as they were seen

pub made_agree : (seen : Seen) → Agree seen (files_of seen)
made_agree seen name = by (seen name) refl
  where
    by : (o : Option (Option (List ℕ))) → seen name ≡ o → IfSome o (λ held. files_of seen name ≡ held)
    by None e = tt
    by (Some held) e = rw e refl

pub made_hold : (seen : Seen) → ((name : List ℕ) → IfSome (seen name) IsSome) → (name : List ℕ) → IsSome (files_of seen name)
made_hold seen there name = by (seen name) refl (there name)
  where
    by : (o : Option (Option (List ℕ))) → seen name ≡ o → IfSome o IsSome → IsSome (files_of seen name)
    by None e h = rw e refl
    by (Some held) e h = rw e h

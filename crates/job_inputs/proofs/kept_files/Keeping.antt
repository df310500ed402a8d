-- What a reading keeps, and what is known behind it.
use Rattle.std.proofs.Common.{◌≡◌, ◌<◌, ◌≤◌, ◌+◌, ℕ, zero, suc, Bool, true, false, not, cond, List, [], ◌∷◌, map, set, get_or, length, replicate, drop, nat_lt, Option, None, Some, option_map, IfSome, IsSome, IsSomeAnd, refl, sym, ap, subst, ◌∙◌, arith}
use Rattle.std.specs.Str.{bytes_eq}
use Rattle.std.specs.List.{position, position_or_len}
use Rattle.std.proofs.lemmas.Bool.Decides.{nat_tests}
use Rattle.std.specs.Prelude.{if◌then◌else◌}
use Rattle.std.proofs.lemmas.List.{length-replicate}
use Rattle.std.proofs.lemmas.Slice.Eq.{bytes_eq-Decides}
use Rattle.op_outside.specs.Outside.{Files, Holds, Lacks}
use Rattle.job_inputs.specs.declared.kept_files.kept.Reading.{Reading}
use Rattle.job_inputs.specs.Views.{reading_of}
use Rattle.job_inputs.specs.Seen.{Seen, seen_with, Agree, IsSight}
use Rattle.job_inputs.specs.Readings.{Readings, kept_for, keeping, names_of, Keeps, IsSeen, Finds, IsUnseen, IsLarge}
use Rattle.job_inputs.proofs.kept_files.Seeing.{grows_same, grows_with, with_name, with_other, agree_with, agreed, there_with}

-- ---- the place of a name

module _ (name : List ℕ) where
  abbrev pub is_of : Reading → Bool
  is_of r = bytes_eq r.name.now name

  pub keeping_none : (bytes : List ℕ) (rs : List Reading) → length rs ≤ position_or_len is_of rs → map reading_of rs ≡ keeping (map reading_of rs) name bytes
  keeping_none bytes [] le = refl
  keeping_none bytes (r ∷ rs) le = by (keeping_none bytes rs) (is_of r) refl le
    where
      by : (length rs ≤ position_or_len is_of rs → map reading_of rs ≡ keeping (map reading_of rs) name bytes)
          → (x : Bool) → is_of r ≡ x → suc (length rs) ≤ cond (not x) (1 + position_or_len is_of rs) 0
          → reading_of r ∷ map reading_of rs ≡ (if x then (r.name.now, Some bytes) ∷ map reading_of rs else reading_of r ∷ keeping (map reading_of rs) name bytes)
      by behind true e le = absurd (omega (arith, le))
      by behind false e le = ap (λ z. reading_of r ∷ z) (behind (omega (arith, le)))

  pub keeping_set : (bytes : List ℕ) (rs : List Reading) (x d : Reading) (n : ℕ) → n ≡ position_or_len is_of rs → n < length rs
      → reading_of x ≡ ((get_or rs n d).name.now, Some bytes)
      → map reading_of (set rs n x) ≡ keeping (map reading_of rs) name bytes
  keeping_set bytes [] x d n e lt is = absurd (omega (arith, lt))
  keeping_set bytes (r ∷ rs) x d zero e lt is = by (is_of r) refl e
    where
      by : (y : Bool) → is_of r ≡ y → 0 ≡ cond (not y) (1 + position_or_len is_of rs) 0
          → reading_of x ∷ map reading_of rs ≡ (if y then (r.name.now, Some bytes) ∷ map reading_of rs else reading_of r ∷ keeping (map reading_of rs) name bytes)
      by true f e = ap (λ z. z ∷ map reading_of rs) is
      by false f e = absurd (omega (arith, e))
  keeping_set bytes (r ∷ rs) x d (suc n) e lt is = by (λ f. keeping_set bytes rs x d n f (omega (arith, lt)) is) (is_of r) refl e
    where
      by : (n ≡ position_or_len is_of rs → map reading_of (set rs n x) ≡ keeping (map reading_of rs) name bytes)
          → (y : Bool) → is_of r ≡ y → suc n ≡ cond (not y) (1 + position_or_len is_of rs) 0
          → reading_of r ∷ map reading_of (set rs n x) ≡ (if y then (r.name.now, Some bytes) ∷ map reading_of rs else reading_of r ∷ keeping (map reading_of rs) name bytes)
      by behind true f e = absurd (omega (arith, e))
      by behind false f e = ap (λ z. reading_of r ∷ z) (behind (omega (arith, e)))

-- ---- what is kept of other names

module _ (name bytes : List ℕ) where
  pub names_keeping : (rs : Readings) → names_of (keeping rs name bytes) ≡ names_of rs
  names_keeping [] = refl
  names_keeping (r ∷ rs) = by (names_keeping rs) (bytes_eq r.0 name)
    where
      by : names_of (keeping rs name bytes) ≡ names_of rs → (x : Bool) → names_of (if x then (r.0, Some bytes) ∷ rs else r ∷ keeping rs name bytes) ≡ r.0 ∷ names_of rs
      by behind true = refl
      by behind false = ap (λ z. r.0 ∷ z) behind

  -- of this name the bytes are kept, if it is still to be read
  kept_name : (rs : Readings) → IfSome (kept_for (keeping rs name bytes) name) (λ o. o ≡ Some bytes)
  kept_name [] = tt
  kept_name (r ∷ rs) = by (kept_name rs) (bytes_eq r.0 name) refl
    where
      by : IfSome (kept_for (keeping rs name bytes) name) (λ o. o ≡ Some bytes) → (x : Bool) → bytes_eq r.0 name ≡ x
          → IfSome (kept_for (if x then (r.0, Some bytes) ∷ rs else r ∷ keeping rs name bytes) name) (λ o. o ≡ Some bytes)
      by behind true e = rw e refl
      by behind false e = rw e behind

  kept_other : (rs : Readings) (other : List ℕ) → bytes_eq other name ≡ false → kept_for (keeping rs name bytes) other ≡ kept_for rs other
  kept_other [] other apart = refl
  kept_other (r ∷ rs) other apart = by (kept_other rs other apart) (bytes_eq r.0 name) refl
    where
      no_other : (x : Bool) → bytes_eq r.0 name ≡ true → bytes_eq r.0 other ≡ x
          → (if x then Some (Some bytes) else kept_for rs other) ≡ (if x then Some r.1 else kept_for rs other)
      no_other true e f =
          let same : other ≡ name = sym ((bytes_eq-Decides r.0 other).0 f) ∙ (bytes_eq-Decides r.0 name).0 e in
          absurd (let w : true ≡ false = sym ((bytes_eq-Decides other name).1 same) ∙ apart in cc)
      no_other false e f = refl

      by : kept_for (keeping rs name bytes) other ≡ kept_for rs other → (x : Bool) → bytes_eq r.0 name ≡ x
          → kept_for (if x then (r.0, Some bytes) ∷ rs else r ∷ keeping rs name bytes) other ≡ (if bytes_eq r.0 other then Some r.1 else kept_for rs other)
      by behind true e = no_other (bytes_eq r.0 other) e refl
      by behind false e = ap (λ z. if bytes_eq r.0 other then Some r.1 else z) behind

  -- what was kept for the next reading is kept for the one behind it
  pub keeps_on : (o : Option (List ℕ)) (rs : Readings) (seen after : Seen) → Keeps ((name, o) ∷ rs) seen
      → after name ≡ Some (Some bytes)
      → ((other : List ℕ) → bytes_eq other name ≡ false → after other ≡ seen other)
      → Keeps (keeping rs name bytes) after
  keeps_on o rs seen after keeps now same other = by (bytes_eq other name) refl
    where
      by_name : (k : Option (Option (List ℕ))) → IfSome k (λ o. o ≡ Some bytes) → IfSome k (λ o. Some (Some bytes) ≡ option_map Some o)
      by_name None h = tt
      by_name (Some o) h = ap (λ z. option_map Some z) (sym h)

      flipped : bytes_eq other name ≡ false → bytes_eq name other ≡ false
      flipped e = go (bytes_eq name other) refl
        where
          go : (x : Bool) → bytes_eq name other ≡ x → x ≡ false
          go true f = (let w : true ≡ false = sym ((bytes_eq-Decides other name).1 (sym ((bytes_eq-Decides name other).0 f))) ∙ e in absurd (let z : ⊥ = cc in z))
          go false f = refl

      by : (x : Bool) → bytes_eq other name ≡ x → IfSome (kept_for (keeping rs name bytes) other) (λ o. after other ≡ option_map Some o)
      by true e =
          let is : other ≡ name = (bytes_eq-Decides other name).0 e in
          subst (λ n. IfSome (kept_for (keeping rs name bytes) n) (λ o. after n ≡ option_map Some o)) (sym is)
          (subst (λ z. IfSome (kept_for (keeping rs name bytes) name) (λ o. z ≡ option_map Some o)) (sym now)
          (by_name (kept_for (keeping rs name bytes) name) (kept_name rs)))
      by false e =
          let at_other : kept_for ((name, o) ∷ rs) other ≡ kept_for rs other = rw (flipped e) refl in
          subst (λ z. IfSome (kept_for (keeping rs name bytes) other) (λ o. z ≡ option_map Some o)) (sym (same other e))
          (subst (λ z. IfSome z (λ o. seen other ≡ option_map Some o)) (at_other ∙ sym (kept_other rs other e)) (keeps other))

-- nothing is to be kept
keeps_nothing : (seen : Seen) → Keeps [] seen
keeps_nothing seen name = tt

-- ---- the next reading

module _ (told : Option Files) (name : List ℕ) (o : Option (List ℕ)) (rs : Readings) where
  abbrev old : Readings
  old = (name, o) ∷ rs

  -- of the next name what was seen is kept
  next_kept : (before : Seen) → Keeps old before → before name ≡ option_map Some o
  next_kept before keeps = subst (λ x. IfSome x (λ z. before name ≡ option_map Some z)) first_kept (keeps name)
    where
      first_kept : kept_for old name ≡ Some o
      first_kept = rw ((bytes_eq-Decides name name).1 refl) refl

  pub unseen : o ≡ None → IsUnseen told old name
  unseen e before seen = next_kept before seen.keeps ∙ ap (option_map Some) e

  -- what was kept
  pub found_kept : (v w : List ℕ) → o ≡ Some w → v ≡ w → Finds told old (keeping rs name v) (λ files. files name ≡ Some v)
  found_kept v w e same before seen = record {
    after = before;
    grows = grows_same before;
    seen = record { sight = seen.sight; keeps = keeps_on name v o rs before before seen.keeps now (λ other f. refl) };
    all = λ files agree. subst (λ x. IfSome x (λ h. files name ≡ h)) now (agree name);
  }
    where
      now : before name ≡ Some (Some v)
      now = next_kept before seen.keeps ∙ ap (option_map Some) e ∙ ap (λ z. Some (Some z)) (sym same)

  module _ (none : o ≡ None) (held : Option (List ℕ)) (so : IfSome told (λ files. files name ≡ held)) (there : told ≡ None → IsSome held) (before : Seen) (seen : IsSeen told old before) where
    abbrev after : Seen
    after = seen_with before name held

    first : before name ≡ None
    first = unseen none before seen

    sight : IsSight told after
    sight = record { so = by told so seen.sight.so; there = λ e. there_with before name held (seen.sight.there e) (there e) }
      where
        by : (t : Option Files) → IfSome t (λ files. files name ≡ held) → IfSome t (Agree before) → IfSome t (Agree after)
        by None s a = tt
        by (Some files) s a = agree_with before name held files a s

  -- what was read
  pub found_read : (v : List ℕ) → o ≡ None → Holds told name (λ bytes. bytes ≡ v) → Finds told old (keeping rs name v) (λ files. files name ≡ Some v)
  found_read v none holds before seen = record {
    after = after none (Some v) so (λ e. refl) before seen;
    grows = grows_with before name (Some v) (first none (Some v) so (λ e. refl) before seen);
    seen = record {
      sight = sight none (Some v) so (λ e. refl) before seen;
      keeps = keeps_on name v o rs before (seen_with before name (Some v)) seen.keeps (with_name before name (Some v)) (with_other before name (Some v));
    };
    all = λ files agree. agreed before name (Some v) files agree;
  }
    where
      held_is : (x : Option (List ℕ)) → IsSomeAnd x (λ bytes. bytes ≡ v) → x ≡ Some v
      held_is None h = absurd h
      held_is (Some bytes) h = ap Some h

      by : (t : Option Files) → Holds t name (λ bytes. bytes ≡ v) → IfSome t (λ files. files name ≡ Some v)
      by None h = tt
      by (Some files) h = held_is (files name) h

      so : IfSome told (λ files. files name ≡ Some v)
      so = by told holds

  -- what ends a call: the held is seen, and no reading is to come
  found_last : (held : Option (List ℕ)) (K : Files → Type 0) → o ≡ None → IfSome told (λ files. files name ≡ held) → (told ≡ None → IsSome held)
      → ((files : Files) → files name ≡ held → K files)
      → Finds told old [] K
  found_last held K none so there step before seen = record {
    after = after none held so there before seen;
    grows = grows_with before name held (first none held so there before seen);
    seen = record { sight = sight none held so there before seen; keeps = keeps_nothing (seen_with before name held) };
    all = λ files agree. step files (agreed before name held files agree);
  }

  pub found_missing : o ≡ None → Lacks told name → Finds told old [] (λ files. files name ≡ None)
  found_missing none lacks = found_last None (λ files. files name ≡ None) none (so told lacks) (λ e. absurd (there told lacks e)) (λ files e. e)
    where
      so : (t : Option Files) → Lacks t name → IfSome t (λ files. files name ≡ None)
      so None h = tt
      so (Some files) h = h

      there : (t : Option Files) → Lacks t name → t ≡ None → ⊥
      there None h e = h
      there (Some files) h e = cc

  -- of what was kept, or of what is read
  pub found_large : (limit : ℕ) → IsLarge told name limit o → Finds told old [] (λ files. IsSomeAnd (files name) (λ bytes. limit < length bytes))
  found_large limit large = by_kept o refl large
    where
      Large : Option (List ℕ) → Type 0
      Large x = IsSomeAnd x (λ bytes. limit < length bytes)

      long : List ℕ
      long = replicate (suc limit) 0

      is_long : limit < length long
      is_long = (let zero_byte : ℕ = 0 in rw (length-replicate (suc limit) zero_byte) (omega arith))

      chosen : (t : Option Files) → Holds t name (λ bytes. limit < length bytes)
          → (held : Option (List ℕ)) × IfSome t (λ files. files name ≡ held) × (t ≡ None → IsSome held) × Large held
      chosen None h = (Some long, tt, λ e. refl, is_long)
      chosen (Some files) h = (files name, refl, λ e. absurd (let w : Some files ≡ None = e in let z : ⊥ = cc in z), h)

      by_kept : (k : Option (List ℕ)) → o ≡ k → IsLarge told name limit k → Finds told old [] (λ files. Large (files name))
      by_kept None e h =
          let c = chosen told h in
          found_last c.0 (λ files. Large (files name)) e c.1 c.2 (λ files is. subst Large (sym is) c.3)
      by_kept (Some w) e h = λ before seen. record {
        after = before;
        grows = grows_same before;
        seen = record { sight = seen.sight; keeps = keeps_nothing before };
        all = λ files agree.
            subst Large (sym (subst (λ x. IfSome x (λ z. files name ≡ z)) (next_kept before seen.keeps ∙ ap (option_map Some) e) (agree name))) h;
      }

  pub found_bytes : (v : List ℕ) → IfSome o (λ w. v ≡ w) → (o ≡ None → Holds told name (λ bytes. bytes ≡ v))
      → Finds told old (keeping rs name v) (λ files. files name ≡ Some v)
  found_bytes v kept read = by o refl kept
    where
      by : (k : Option (List ℕ)) → o ≡ k → IfSome k (λ w. v ≡ w) → Finds told old (keeping rs name v) (λ files. files name ≡ Some v)
      by None e h = found_read v e (read e)
      by (Some w) e h = found_kept v w e h

-- ---- places in lists

pub names_behind : (rs : Readings) → names_of (drop 1 rs) ≡ drop 1 (names_of rs)
names_behind [] = refl
names_behind (r ∷ rs) = refl

module _ {X : Type 0} (p : X → Bool) (xs : List X) where
  pub position_there : (i : ℕ) → position p xs ≡ Some i → (i ≡ position_or_len p xs) × (i < length xs)
  position_there i e = by (nat_lt (position_or_len p xs) (length xs)) refl e
    where
      by : (b : Bool) → nat_lt (position_or_len p xs) (length xs) ≡ b → cond b (Some (position_or_len p xs)) None ≡ Some i
          → (i ≡ position_or_len p xs) × (i < length xs)
      by true t e = (let same : position_or_len p xs ≡ i = cc in (sym same, grind (arith, nat_tests)))
      by false t e = absurd (let z : ⊥ = cc in z)

  pub position_missing : position p xs ≡ None → length xs ≤ position_or_len p xs
  position_missing e = by (nat_lt (position_or_len p xs) (length xs)) refl e
    where
      by : (b : Bool) → nat_lt (position_or_len p xs) (length xs) ≡ b → cond b (Some (position_or_len p xs)) None ≡ None → length xs ≤ position_or_len p xs
      by true t e = absurd (let z : ⊥ = cc in z)
      by false t e = grind (arith, nat_tests)

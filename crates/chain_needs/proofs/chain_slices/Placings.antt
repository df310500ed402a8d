-- The places of items among the chains that are kept.
use Rattle.std.proofs.Common.{◌≡◌, ℕ, zero, suc, ◌<◌, ◌≤◌, ◌+◌, ◌-◌, Bool, true, false, List, [], ◌∷◌, ◌++◌, length, get_or, map, drop, Option, Some, None, refl, sym, ap, subst, ◌∙◌, arith, ⊎_elim, length-drop}
use Rattle.std.specs.Prelude.{◌&&◌, not, is_some, IfSome}
use Rattle.std.proofs.lemmas.Bool.{false≢true, cases_Bool, cases_eq}
use Rattle.std.proofs.lemmas.List.{length_push, length-map, get_or_append_left, get_or_push}
use Rattle.mesh_decl.specs.declared.owners.Owners.{Owners}
use Rattle.schedule_model.specs.Program.{is_free}
use Rattle.schedule_model.specs.Tests.{free_kind}
use Rattle.chain_model.specs.Chains.{follows_free}
use Rattle.bound_program.specs.Values.{BoundValue, SiteValue}
use Rattle.bound_program.specs.Fits.{site_at}
use Rattle.run_model.specs.Programs.{program_of, item_at, kind_of}
use Rattle.run_model.specs.Laws.{site_of}
use Rattle.chain_model.specs.Slices.{loops_from}
use Rattle.chain_model.specs.Counts.{begins_at}
use Rattle.chain_model.proofs.Public.{next_loop}
use Rattle.chain_needs.specs.declared.chain_slices.shapes.Shape.{Shape}
use Rattle.chain_needs.specs.declared.chain_slices.sliced.LevelAt.{LevelAt}
use Rattle.chain_needs.specs.Shapes.{loops_of}
use Rattle.chain_needs.specs.Slices.{AreShapes, ArePlaces, IsPlace, StandsAt, Keeps, next_of}

-- ---- places

module _ (b : BoundValue) where
  pub still_stands : (old new : List Shape) (k : ℕ) (at : LevelAt) → Keeps old new → StandsAt b old k at → StandsAt b new k at
  still_stands old new k at keeps h = record {
    free = h.free;
    shape = (let l : at.shape < length old = h.shape in let m : length old ≤ length new = keeps.longer in omega arith);
    level = λ s. subst (λ (z : Shape). at.level < length z.sites.items) (sym (keeps.same at.shape s h.shape)) (h.level s);
    loops = λ s. subst (λ (z : Shape). drop (length z.sites.items - suc at.level) (loops_of b z) ≡ loops_from b k) (sym (keeps.same at.shape s h.shape)) (h.loops s);
    first = λ s first. subst (λ (z : Shape). suc at.level ≡ length z.sites.items) (sym (keeps.same at.shape s h.shape)) (h.first s first);
  }

  pub still_placed : (old new : List Shape) (k : ℕ) (p : Option LevelAt) → Keeps old new → IsPlace b old k p → IsPlace b new k p
  still_placed old new k None keeps h = h
  still_placed old new k (Some at) keeps h = still_stands old new k at keeps h

  pub places_push : (old new : List Shape) (n : ℕ) (places : List (Option LevelAt)) (p : Option LevelAt) → Keeps old new → ArePlaces b old n places → IsPlace b new n p
      → ArePlaces b new (n + 1) (places ++ p ∷ [])
  places_push old new n places p keeps h is = record {
    count = omega (arith, length_push places p, h.count);
    each = λ k l. ⊎_elim
        (λ (q : k ≡ n). subst (λ z. IsPlace b new z (get_or (places ++ p ∷ []) z None)) (sym q)
        (subst (IsPlace b new n) (sym (get_or_push places p None n h.count)) is))
        (λ (q : k ≡ n → ⊥).
        let m : k < length places = omega (arith, h.count) in
        let lk : k < n = omega arith in
        subst (IsPlace b new k) (sym (get_or_append_left places (p ∷ []) None k m)) (still_placed old new k (get_or places k None) keeps (h.each k lk)))
        (cases_eq k n);
  }

  -- a chain that begins at an item
  pub some_loop : (k : ℕ) (sites : List ℕ) → is_free ((program_of b).kind k) ≡ true → map (site_at b) sites ≡ loops_from b k → 0 < length sites
  some_loop k sites free loops =
      let e : length (map (site_at b) sites) ≡ suc (length (loops_from b (suc k))) = ap (length {A = SiteValue}) (loops ∙ next_loop b k (free_kind (kind_of (item_at b k)) free)) in
      omega (arith, length-map sites (site_at b))

  pub begun_stands : (shapes : List Shape) (k i level : ℕ) (sites : List ℕ) → is_free ((program_of b).kind k) ≡ true → map (site_at b) sites ≡ loops_from b k
      → i < length shapes → ((s : Shape) → (get_or shapes i s).sites.items ≡ sites) → level + 1 ≡ length sites
      → StandsAt b shapes k (record { shape = i; level = level })
  begun_stands shapes k i level sites free loops there of last = record {
    free = free;
    shape = there;
    level = λ s. subst (λ (z : List ℕ). level < length z) (sym (of s)) (omega arith);
    loops = λ s. subst (λ (z : List ℕ). drop (length z - suc level) (map (site_at b) z) ≡ loops_from b k) (sym (of s))
        (let zero : length sites - suc level ≡ 0 = omega arith in ap (λ n. drop n (map (site_at b) sites)) zero ∙ loops);
    first = λ s first. subst (λ (z : List ℕ). suc level ≡ length z) (sym (of s)) (omega arith);
  }

  -- the next item of a chain
  tail_of : (xs : List SiteValue) (n : ℕ) (x : SiteValue) (rest : List SiteValue) → drop n xs ≡ x ∷ rest → drop (suc n) xs ≡ rest
  tail_of [] zero x rest h = absurd (let e : length {A = SiteValue} [] ≡ length (x ∷ rest) = ap (length {A = SiteValue}) h in omega arith)
  tail_of (y ∷ ys) zero x rest h = Rattle.std.proofs.Common.ap (drop 1) h
  tail_of [] (suc n) x rest h = absurd (let e : length {A = SiteValue} [] ≡ length (x ∷ rest) = ap (length {A = SiteValue}) h in omega arith)
  tail_of (y ∷ ys) (suc n) x rest h = tail_of ys n x rest h

  module _ (shapes : List Shape) (k : ℕ) (at : LevelAt) (h : StandsAt b shapes k at) (s : Shape) (free : is_free ((program_of b).kind (suc k)) ≡ true) where
    abbrev here : Shape
    here = get_or shapes at.shape s

    loops_here : drop (length here.sites.items - suc at.level) (loops_of b here) ≡ site_of b k ∷ loops_from b (suc k)
    loops_here = h.loops s ∙ next_loop b k (free_kind (kind_of (item_at b k)) h.free)

    two : drop (length here.sites.items - suc at.level) (loops_of b here) ≡ site_of b k ∷ (site_of b (suc k) ∷ loops_from b (suc (suc k)))
    two = loops_here ∙ ap (λ z. site_of b k ∷ z) (next_loop b (suc k) (free_kind (kind_of (item_at b (suc k))) free))

    pub not_last : 0 < at.level
    not_last =
        let l : at.level < length here.sites.items = h.level s in
        let e : length (drop (length here.sites.items - suc at.level) (loops_of b here)) ≡ suc (suc (length (loops_from b (suc (suc k))))) = ap (length {A = SiteValue}) two in
        omega (arith, length-map here.sites.items (site_at b), length-drop (length here.sites.items - suc at.level) (loops_of b here))

  pub next_stands : (shapes : List Shape) (k : ℕ) (at : LevelAt) → StandsAt b shapes k at → Shape → is_free ((program_of b).kind (suc k)) ≡ true
      → StandsAt b shapes (suc k) (record { shape = at.shape; level = at.level - 1 })
  next_stands shapes k at h s0 free = record {
    free = free;
    shape = h.shape;
    level = λ s. (let l : at.level < length (get_or shapes at.shape s).sites.items = h.level s in omega arith);
    loops = λ s.
        let l : at.level < length (get_or shapes at.shape s).sites.items = h.level s in
        let n : 0 < at.level = not_last shapes k at h s free in
        let e : length (get_or shapes at.shape s).sites.items - suc (at.level - 1) ≡ suc (length (get_or shapes at.shape s).sites.items - suc at.level) = omega arith in
        ap (λ z. drop z (loops_of b (get_or shapes at.shape s))) e
        ∙ tail_of (loops_of b (get_or shapes at.shape s)) (length (get_or shapes at.shape s).sites.items - suc at.level) (site_of b k) (loops_from b (suc k)) (loops_here shapes k at h s free);
    first = λ s first. absurd (false≢true (sym (ap (λ z. is_free ((program_of b).kind (suc k)) && not z) h.free ∙ and_no (is_free ((program_of b).kind (suc k)))) ∙ first));
  }
    where
      and_no : (x : Bool) → (x && false) ≡ false
      and_no true = refl
      and_no false = refl

  -- what stands before an item that is Free and begins no chain
  pub follows : (k : ℕ) → is_free ((program_of b).kind k) ≡ true → begins_at b k ≡ false → follows_free (program_of b).kind k ≡ true
  follows k free first = ⊎_elim
      (λ (q : follows_free (program_of b).kind k ≡ true). q)
      (λ (q : follows_free (program_of b).kind k ≡ false).
      absurd (false≢true (sym first ∙ (ap (λ z. z && not (follows_free (program_of b).kind k)) free ∙ ap not q))))
      (cases_Bool (follows_free (program_of b).kind k))

  -- the place behind that of the item before
  some_shape : (shapes : List Shape) → 0 < length shapes → Shape
  some_shape [] l = absurd (omega arith)
  some_shape (x ∷ xs) l = x

  next_level : (shapes : List Shape) (k : ℕ) (p : Option LevelAt) → IsPlace b shapes k p → is_free ((program_of b).kind k) ≡ true → is_free ((program_of b).kind (suc k)) ≡ true
      → IfSome p (λ (at : LevelAt). 0 < at.level)
  next_level shapes k None h here free = absurd (false≢true (sym h ∙ here))
  next_level shapes k (Some at) h here free = not_last shapes k at h (some_shape shapes (let l : at.shape < length shapes = h.shape in omega arith)) free

  next_place : (shapes : List Shape) (k : ℕ) (p : Option LevelAt) → IsPlace b shapes k p → is_free ((program_of b).kind k) ≡ true → is_free ((program_of b).kind (suc k)) ≡ true
      → IsPlace b shapes (suc k) (next_of p)
  next_place shapes k None h here free = absurd (false≢true (sym h ∙ here))
  next_place shapes k (Some at) h here free = next_stands shapes k at h (some_shape shapes (let l : at.shape < length shapes = h.shape in omega arith)) free

  pub level_behind : (shapes : List Shape) (item : ℕ) (places : List (Option LevelAt)) → ArePlaces b shapes item places → is_free ((program_of b).kind item) ≡ true → begins_at b item ≡ false
      → IfSome (get_or places (item - 1) None) (λ (at : LevelAt). 0 < at.level)
  level_behind shapes zero places h free no_first = absurd (false≢true (follows zero free no_first))
  level_behind shapes (suc k) places h free no_first =
      let e : suc k - 1 ≡ k = omega arith in
      subst (λ n. IfSome (get_or places n None) (λ (at : LevelAt). 0 < at.level)) (sym e)
      (next_level shapes k (get_or places k None) (h.each k (omega arith)) (follows (suc k) free no_first) free)

  pub place_behind : (shapes : List Shape) (item : ℕ) (places : List (Option LevelAt)) → ArePlaces b shapes item places → is_free ((program_of b).kind item) ≡ true → begins_at b item ≡ false
      → IsPlace b shapes item (next_of (get_or places (item - 1) None))
  place_behind shapes zero places h free no_first = absurd (false≢true (follows zero free no_first))
  place_behind shapes (suc k) places h free no_first =
      let e : suc k - 1 ≡ k = omega arith in
      subst (λ n. IsPlace b shapes (suc k) (next_of (get_or places n None))) (sym e)
      (next_place shapes k (get_or places k None) (h.each k (omega arith)) (follows (suc k) free no_first) free)

  pub free_of : (i : Rattle.bound_program.specs.Values.ItemValue) (r : Option ℕ) → r ≡ Rattle.chain_needs.specs.FreeSites.free_site_of i → is_some r ≡ true → is_free (kind_of i) ≡ true
  free_of i r e h = sym (Rattle.chain_needs.proofs.Following.free_is_some i) ∙ (ap is_some (sym e) ∙ h)

  -- the messages of a chain that begins at an item
  pub messages_here : (o : Owners) (shapes : List Shape) (k : ℕ) (p : Option LevelAt) (r : ℕ) → AreShapes b o shapes → IsPlace b shapes k p → begins_at b k ≡ true
      → IfSome p (λ (at : LevelAt). (s : Shape) → r ≡ (get_or shapes at.shape s).messages) → r ≡ Rattle.chain_needs.specs.Shapes.chain_messages b o (loops_from b k)
  messages_here o shapes k None r h is first all =
      absurd (false≢true (sym is ∙ (Rattle.std.proofs.lemmas.Bool.and_parts (is_free ((program_of b).kind k)) (not (follows_free (program_of b).kind k)) first).0))
  messages_here o shapes k (Some at) r h is first all =
      let s = some_shape shapes (let l : at.shape < length shapes = is.shape in omega arith) in
      let x = get_or shapes at.shape s in
      let n : suc at.level ≡ length x.sites.items = is.first s first in
      let zero : length x.sites.items - suc at.level ≡ 0 = omega arith in
      let whole : loops_of b x ≡ loops_from b k = sym (ap (λ m. drop m (loops_of b x)) zero) ∙ is.loops s in
      all s ∙ ((h at.shape s is.shape).messages ∙ ap (Rattle.chain_needs.specs.Shapes.chain_messages b o) whole)

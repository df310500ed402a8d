-- Taking one class after another, and finding them again.
use Rattle.std.proofs.Common.{◌≡◌, ℕ, ◌+◌, ◌<◌, ◌≤◌, ◌∙◌, ◌++◌, [], ◌∷◌, arith, ⊎_elim, List, length, get_or, set, Option, Some, None, is_some, true, Result, IsErrAnd, IfErr, refl, sym, ap, subst, get_or-set_other, get_or-set_same, length-append}
use Rattle.std.proofs.lemmas.Bool.{cases_lt, cases_eq}
use Rattle.std.proofs.lemmas.List.{length-set, get_or_append_left, get_or-append-add}
use Rattle.std.proofs.Math.Seq.{get_or-append_seam}
use Rattle.std.proofs.lemmas.Result.{err_from_is_err_and}
use Rattle.gmsh_mesh.specs.Mates.{IsSeen}
use Rattle.gmsh_mesh.specs.EqualKeys.{AreClasses}
use Rattle.gmsh_mesh.specs.Places.{IsFirstDoubled, AreDistinct, ArePlaces, IsFirstUnknown, AreHolders, IsFirstAgain, AreFound, IsFirstMissing, IsRefusedFind, IsRefusedClass, IsRefused}
use Rattle.gmsh_mesh.specs.declared.tag_places.refusal.TagRefusal.{TagRefusal}
use Rattle.gmsh_mesh.specs.declared.tag_places.refusal.TagRefusal.TheVariants.{Doubled, Unknown, OutOfMemory}

module _ (of : List ℕ) (n place : ℕ) (holders : List (Option ℕ)) (s : AreHolders of place holders) (l : place < n) (small : get_or of place 0 < length of) where
  pub again : is_some (get_or holders (get_or of place 0) None) ≡ true → IsFirstAgain of n place
  again h = go (get_or holders (get_or of place 0) None) refl h
    where
      go : (o : Option ℕ) → get_or holders (get_or of place 0) None ≡ o → is_some o ≡ true → IsFirstAgain of n place
      go None e t = cc
      go (Some j) e t =
          let found : IsSeen of place (get_or of place 0) (Some j) = subst (IsSeen of place (get_or of place 0)) e (s.places (get_or of place 0) small) in
          record { first = j; before = found.0; within = l; same = found.1; none_before = s.once }

  more : (class : ℕ) (o : Option ℕ) → (get_or of place 0 ≡ class → ⊥) → IsSeen of place class o → IsSeen of (place + 1) class o
  more class None ne h = λ i li e. ⊎_elim
      (λ (a : i < place). h i a e)
      (λ (a : place ≤ i). let q : place ≡ i = omega arith in ne (ap (λ x. get_or of x 0) q ∙ e))
      (cases_lt i place)
  more class (Some j) ne h = (omega (arith, h.0), h.1)

  pub hold : get_or holders (get_or of place 0) None ≡ None → AreHolders of (place + 1) (set holders (get_or of place 0) (Some place))
  hold e =
      let free : IsSeen of place (get_or of place 0) None = subst (IsSeen of place (get_or of place 0)) e (s.places (get_or of place 0) small) in
      let low : get_or of place 0 < length holders = omega (arith, s.room) in
      record {
        room = length-set holders (get_or of place 0) (Some place) ∙ s.room;
        places = λ class h. ⊎_elim
            (λ (a : class ≡ get_or of place 0).
            subst (IsSeen of (place + 1) class) (sym (ap (λ x. get_or (set holders (get_or of place 0) (Some place)) x None) a ∙ get_or-set_same holders (get_or of place 0) (Some place) None low))
            (omega arith, sym a))
            (λ (a : class ≡ get_or of place 0 → ⊥).
            subst (IsSeen of (place + 1) class) (sym (get_or-set_other holders (get_or of place 0) class (Some place) None a))
            (more class (get_or holders class None) (λ x. a (sym x)) (s.places class h)))
            (cases_eq class (get_or of place 0));
        once = λ i j a b q. ⊎_elim
            (λ (x : j < place). s.once i j a x q)
            (λ (x : place ≤ j). let same : j ≡ place = omega arith in free i (omega (arith, a, b, x)) (q ∙ ap (λ y. get_or of y 0) same))
            (cases_lt j place);
      }

-- a refusal that `?` passes on
pub refused-so : {A : Type 0} (r : Result A TagRefusal) (e : TagRefusal) (P : TagRefusal → Type 0) → IsErrAnd r (λ y. y ≡ e) → P e → IfErr r P
refused-so r e P h f = let k = err_from_is_err_and r h in rw (k.1, k.2) f

module _ (of : List ℕ) (from : ℕ) (holders : List (Option ℕ)) (s : AreHolders of from holders) where
  pub found-more : (n h : ℕ) (found : List ℕ) → AreFound of from n found → get_or of (from + n) 0 < length of → get_or holders (get_or of (from + n) 0) None ≡ Some h
      → AreFound of from (n + 1) (found ++ h ∷ [])
  found-more n h found f small e =
      let seen : IsSeen of from (get_or of (from + n) 0) (Some h) = subst (IsSeen of from (get_or of (from + n) 0)) e (s.places (get_or of (from + n) 0) small) in
      record {
        size = length-append found (h ∷ []) ∙ omega (arith, f.size);
        each = λ k l. ⊎_elim
            (λ (a : k < n).
            subst (λ x. (x < from) × (get_or of x 0 ≡ get_or of (from + k) 0)) (sym (get_or_append_left found (h ∷ []) 0 k (omega (arith, f.size)))) (f.each k a))
            (λ (a : n ≤ k).
            let q : n ≡ k = omega arith in
            let at : get_or (found ++ h ∷ []) k 0 ≡ h = ap (λ x. get_or (found ++ h ∷ []) x 0) (sym q ∙ sym f.size) ∙ get_or-append_seam found h [] 0 in
            subst (λ x. (x < from) × (get_or of x 0 ≡ get_or of (from + k) 0)) (sym at) (seen.0, seen.1 ∙ ap (λ x. get_or of (from + x) 0) q))
            (cases_lt k n);
      }

  pub missing : (n place : ℕ) (found : List ℕ) → AreFound of from place found → place < n → get_or of (from + place) 0 < length of
      → get_or holders (get_or of (from + place) 0) None ≡ None
      → IsFirstMissing of from n place
  missing n place found f l small e =
      let free : IsSeen of from (get_or of (from + place) 0) None = subst (IsSeen of from (get_or of (from + place) 0)) e (s.places (get_or of (from + place) 0) small) in
      record {
        within = l;
        missing = free;
        there_before = λ k a no. let x = f.each k a in no (get_or found k 0) x.0 x.1;
      }

  pub found-next : (n m place h : ℕ) (found next : List ℕ) → AreFound of from n found → place ≡ from + n → m ≡ n + 1 → get_or of place 0 < length of
      → get_or holders (get_or of place 0) None ≡ Some h
      → next ≡ found ++ h ∷ []
      → AreFound of from m next
  found-next n m place h found next f p q small e t =
      let low : get_or of (from + n) 0 < length of = subst (λ x. get_or of x 0 < length of) p small in
      let held : get_or holders (get_or of (from + n) 0) None ≡ Some h = subst (λ x. get_or holders (get_or of x 0) None ≡ Some h) p e in
      subst (λ x. AreFound of from x next) (sym q) (subst (AreFound of from (n + 1)) (sym t) (found-more n h found f low held))

  pub missing-at : (n m place : ℕ) (found : List ℕ) (e : TagRefusal) → AreFound of from n found → place ≡ from + n → n < m → get_or of place 0 < length of
      → get_or holders (get_or of place 0) None ≡ None
      → e ≡ Unknown n
      → IsRefusedFind of from m e
  missing-at n m place found e f p l small free is =
      let low : get_or of (from + n) 0 < length of = subst (λ x. get_or of x 0 < length of) p small in
      let none : get_or holders (get_or of (from + n) 0) None ≡ None = subst (λ x. get_or holders (get_or of x 0) None ≡ None) p free in
      subst (IsRefusedFind of from m) (sym is) (missing m n found f l low none)

-- classes of tags and keys that stand one behind another
module _ (tags keys all of : List ℕ) (is : all ≡ tags ++ keys) (c : AreClasses all of) where
  long : length all ≡ length tags + length keys
  long = ap length is ∙ length-append tags keys

  tag_at : (i : ℕ) → i < length tags → get_or all i 0 ≡ get_or tags i 0
  tag_at i l = ap (λ xs. get_or xs i 0) is ∙ get_or_append_left tags keys 0 i l

  key_at : (k : ℕ) → get_or all (length tags + k) 0 ≡ get_or keys k 0
  key_at k = ap (λ xs. get_or xs (length tags + k) 0) is ∙ get_or-append-add tags keys k 0

  to_tags : (i j : ℕ) → i < length tags → j < length tags → get_or of i 0 ≡ get_or of j 0 → get_or tags i 0 ≡ get_or tags j 0
  to_tags i j li lj e = sym (tag_at i li) ∙ (c.same i j (omega (arith, long)) (omega (arith, long))).0 e ∙ tag_at j lj

  from_tags : (i j : ℕ) → i < length tags → j < length tags → get_or tags i 0 ≡ get_or tags j 0 → get_or of i 0 ≡ get_or of j 0
  from_tags i j li lj e = (c.same i j (omega (arith, long)) (omega (arith, long))).1 (tag_at i li ∙ e ∙ sym (tag_at j lj))

  to_key : (i k : ℕ) → i < length tags → k < length keys → get_or of i 0 ≡ get_or of (length tags + k) 0 → get_or tags i 0 ≡ get_or keys k 0
  to_key i k li lk e = sym (tag_at i li) ∙ (c.same i (length tags + k) (omega (arith, long)) (omega (arith, long))).0 e ∙ key_at k

  from_key : (i k : ℕ) → i < length tags → k < length keys → get_or tags i 0 ≡ get_or keys k 0 → get_or of i 0 ≡ get_or of (length tags + k) 0
  from_key i k li lk e = (c.same i (length tags + k) (omega (arith, long)) (omega (arith, long))).1 (tag_at i li ∙ e ∙ sym (key_at k))

  pub doubled : (place : ℕ) → IsFirstAgain of (length tags) place → IsFirstDoubled tags place
  doubled place a = record {
    doubled = record { first = a.first; before = a.before; within = a.within; same = to_tags a.first place (omega (arith, a.before, a.within)) a.within a.same };
    none_before = λ k l d. a.none_before d.first k d.before l (from_tags d.first k (omega (arith, d.before, d.within)) d.within d.same);
  }

  pub distinct : (holders : List (Option ℕ)) → AreHolders of (length tags) holders → AreDistinct tags
  distinct holders s k d = s.once d.first k d.before d.within (from_tags d.first k (omega (arith, d.before, d.within)) d.within d.same)

  pub places : (holders : List (Option ℕ)) (n : ℕ) (found : List ℕ) → n ≡ length keys → AreHolders of (length tags) holders → AreFound of (length tags) n found → ArePlaces tags keys found
  places holders n found e s f = record {
    distinct = distinct holders s;
    size = f.size ∙ e;
    each = λ k l. let x = f.each k (omega arith) in (x.0, to_key (get_or found k 0) k x.0 l x.1);
  }

  pub unknown : (holders : List (Option ℕ)) (n place : ℕ) → n ≡ length keys → AreHolders of (length tags) holders → IsFirstMissing of (length tags) n place → IsFirstUnknown tags keys place
  unknown holders n place e s m = record {
    distinct = distinct holders s;
    within = omega (arith, m.within);
    unknown = λ i l q. m.missing i l (from_key i place l (omega (arith, m.within)) q);
    known_before = λ k l no. m.there_before k l (λ i li q. no i li (to_key i k li (omega (arith, m.within)) q));
  }

  pub class-refused : (e : TagRefusal) → IsRefusedClass of (length tags) e → IsRefused tags keys e
  class-refused (Doubled place) h = doubled place h
  class-refused (Unknown place) h = absurd h
  class-refused OutOfMemory h = tt

  pub find-refused : (holders : List (Option ℕ)) (n : ℕ) → n ≡ length keys → AreHolders of (length tags) holders → (e : TagRefusal)
      → IsRefusedFind of (length tags) n e
      → IsRefused tags keys e
  find-refused holders n q s (Doubled place) h = absurd h
  find-refused holders n q s (Unknown place) h = unknown holders n place q s h
  find-refused holders n q s OutOfMemory h = tt

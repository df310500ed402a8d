-- What is judged of some lines and of those behind them is judged of both.
use Rattle.std.proofs.Common.{◌≡◌, ℕ, suc, zero, ◌+◌, ◌<◌, ⊎_elim, refl, sym, ap, subst, ◌∙◌, arith, List, [], ◌∷◌, ◌++◌, append_assoc, append-nil, length, length-append, Result, Ok, Err}
use Rattle.std.specs.Result.{IsErrAnd}
use Rattle.std.proofs.lemmas.Bool.{cases_eq}
use Rattle.std.proofs.lemmas.Grind.{flat_map-append}
use Rattle.op_num.specs.CutLines.{Unread, IsTaken}
use Rattle.local_mesh.specs.declared.types.RankMesh.{RankMesh}
use Rattle.bound_program.specs.Values.{BoundValue}
use Rattle.plan_cert.specs.declared.types.CertRefusal.{CertRefusal}
use Rattle.plan_cert.specs.declared.types.CertRefusal.TheVariants.{Header, Ranks, Halo, Site, Item, BlockConflict, InnerConflict, End, TooManySteps, OutOfMemory}
use Rattle.plan_cert.specs.Awaited.{Awaited, Exactly, each_below, ColourLists, FitsLine, FitLines}
use Rattle.plan_cert.specs.Certified.{all, Refuses, RefusedAmong}
use Rattle.plan_cert.specs.Judged.{Says, FitsAmong, RefusesAmong, JudgesAmong}

-- what is said of the number and the line
pub says_map : (e : CertRefusal) (P Q : ℕ → ℕ → Type 0) → ((n l : ℕ) → P n l → Q n l) → Says e P → Says e Q
says_map (Header line) P Q f h = f 1 line h
says_map (Ranks line) P Q f h = f 2 line h
says_map (Halo line) P Q f h = f 3 line h
says_map (Site line) P Q f h = f 4 line h
says_map (Item line) P Q f h = f 5 line h
says_map (BlockConflict line) P Q f h = f 6 line h
says_map (InnerConflict line) P Q f h = f 7 line h
says_map (End line) P Q f h = f 8 line h
says_map (TooManySteps steps) P Q f h = h
says_map OutOfMemory P Q f h = h

pub all_append : (ls ms : List (List ℕ)) → all (ls ++ ms) ≡ all ls ++ all ms
all_append ls ms = flat_map-append (λ (l : List ℕ). l) ls ms

module _ (b : BoundValue) (meshes : List RankMesh) (size : ℕ) where
  abbrev Fit : List Awaited → List (List ℕ) → List ColourLists → Type 0
  Fit xs ls cs = FitLines b meshes size xs ls cs

  pub fit_append : (xs ys : List Awaited) (ls ms : List (List ℕ)) (cs ds : List ColourLists) → Fit xs ls cs → Fit ys ms ds → Fit (xs ++ ys) (ls ++ ms) (cs ++ ds)
  fit_append [] ys [] ms cs ds f g = subst (λ z. Fit ys ms (z ++ ds)) (sym f) g
  fit_append [] ys (l ∷ ls) ms cs ds f g = absurd f
  fit_append (x ∷ xs) ys [] ms cs ds f g = absurd f
  fit_append (x ∷ xs) ys (l ∷ ls) ms cs ds f g =
      (f.0, f.1 ++ ds, ap (λ (z : List ColourLists). z ++ ds) f.2 ∙ append_assoc f.0 f.1 ds, f.3, fit_append xs ys ls ms f.1 ds f.4 g)

  -- nothing is awaited
  pub fits_none : (u : Unread) → FitsAmong b meshes size [] u u []
  fits_none u = record { lines = []; split = refl; fit = refl; taken = (let e : u.taken ≡ u.taken + 0 = omega arith in e) }

  -- one line
  pub fits_one : (x : Awaited) (old new : Unread) (line : List ℕ) (cs : List ColourLists) → IsTaken old new line → FitsLine b meshes size x line cs → FitsAmong b meshes size (x ∷ []) old new cs
  fits_one x old new line cs t f = record {
    lines = line ∷ [];
    split = t.whole ∙ ap (λ (z : List ℕ). z ++ new.rest) (sym (append-nil line));
    fit = (cs, [], sym (append-nil cs), f, refl);
    taken = t.taken;
  }

  -- and those behind them
  pub fits_append : (xs ys : List Awaited) (u v w : Unread) (cs ds : List ColourLists) → FitsAmong b meshes size xs u v cs
      → FitsAmong b meshes size ys v w ds → FitsAmong b meshes size (xs ++ ys) u w (cs ++ ds)
  fits_append xs ys u v w cs ds f g = record {
    lines = f.lines ++ g.lines;
    split =
        f.split
        ∙ (ap (λ (z : List ℕ). all f.lines ++ z) g.split
        ∙ (sym (append_assoc (all f.lines) (all g.lines) w.rest) ∙ ap (λ (z : List ℕ). z ++ w.rest) (sym (all_append f.lines g.lines))));
    fit = fit_append xs ys f.lines g.lines cs ds f.fit g.fit;
    taken = (
        let a = f.taken in
        let c = g.taken in
        let l : length (f.lines ++ g.lines) ≡ length f.lines + length g.lines = length-append f.lines g.lines in
        omega arith);
  }

  -- the line that comes next is refused
  pub refused_here : (x : Awaited) (old : Unread) (number : ℕ) → Refuses b meshes size x old.rest number → RefusedAmong b meshes size (x ∷ []) old.rest number 0
  refused_here x old number r = record {
    lines = [];
    rest = old.rest;
    split = refl;
    earlier = [];
    here = x;
    later = [];
    order = refl;
    colours = [];
    fit = refl;
    refuses = r;
    at = refl;
  }

  -- one of the first is
  pub among_first : (xs ys : List Awaited) (bytes : List ℕ) (number before : ℕ) → RefusedAmong b meshes size xs bytes number before → RefusedAmong b meshes size (xs ++ ys) bytes number before
  among_first xs ys bytes number before r = record {
    lines = r.lines;
    rest = r.rest;
    split = r.split;
    earlier = r.earlier;
    here = r.here;
    later = r.later ++ ys;
    order = ap (λ (z : List Awaited). z ++ ys) r.order ∙ append_assoc r.earlier (r.here ∷ r.later) ys;
    colours = r.colours;
    fit = r.fit;
    refuses = r.refuses;
    at = r.at;
  }

  -- one of those behind lines that fit is
  pub among_then : (xs ys : List Awaited) (ls : List (List ℕ)) (cs : List ColourLists) (bytes rest : List ℕ) (number before : ℕ)
      → bytes ≡ all ls ++ rest → Fit xs ls cs → RefusedAmong b meshes size ys rest number before
      → RefusedAmong b meshes size (xs ++ ys) bytes number (length ls + before)
  among_then xs ys ls cs bytes rest number before e f r =
      let at = r.at in
      let long : length (ls ++ r.lines) ≡ length ls + length r.lines = length-append ls r.lines in
      record {
        lines = ls ++ r.lines;
        rest = r.rest;
        split =
            e
            ∙ (ap (λ (z : List ℕ). all ls ++ z) r.split
            ∙ (sym (append_assoc (all ls) (all r.lines) r.rest) ∙ ap (λ (z : List ℕ). z ++ r.rest) (sym (all_append ls r.lines))));
        earlier = xs ++ r.earlier;
        here = r.here;
        later = r.later;
        order = ap (λ (z : List Awaited). xs ++ z) r.order ∙ sym (append_assoc xs r.earlier (r.here ∷ r.later));
        colours = cs ++ r.colours;
        fit = fit_append xs r.earlier ls r.lines cs r.colours f r.fit;
        refuses = r.refuses;
        at = (let e : length ls + before ≡ length (ls ++ r.lines) = omega arith in e);
      }

  pub refused_first : (xs ys : List Awaited) (u : Unread) (e : CertRefusal) → RefusesAmong b meshes size xs u e → RefusesAmong b meshes size (xs ++ ys) u e
  refused_first xs ys u e h = says_map e _ _ (λ n l k. (k.0, k.1, among_first xs ys u.rest n k.0 k.2)) h

  pub refused_then : (xs ys : List Awaited) (u v : Unread) (cs : List ColourLists) (e : CertRefusal) → FitsAmong b meshes size xs u v cs
      → RefusesAmong b meshes size ys v e → RefusesAmong b meshes size (xs ++ ys) u e
  refused_then xs ys u v cs e f h = says_map e _ _ (λ n l k. (
    length f.lines + k.0,
    (
        let a = f.taken in
        let c = k.1 in
        omega arith),
    among_then xs ys f.lines cs u.rest v.rest n k.0 f.split f.fit k.2,
  )) h

  -- a line that is one
  pub exactly_taken : (n : ℕ) (line : List ℕ) (old new : Unread) → IsTaken old new line → FitsAmong b meshes size (Exactly n line ∷ []) old new []
  exactly_taken n line old new t = fits_one (Exactly n line) old new line [] t (refl, refl)

  pub exactly_refused : (n : ℕ) (line : List ℕ) (old : Unread) → ((more : List ℕ) → old.rest ≡ line ++ more → ⊥) → RefusedAmong b meshes size (Exactly n line ∷ []) old.rest n 0
  exactly_refused n line old h = refused_here (Exactly n line) old n (refl, h)

-- ---- one after another

-- those below n begin with those up to k
pub front_of : (f : ℕ → List Awaited) (k n : ℕ) → k < n → (rest : List Awaited) × (each_below f n ≡ (each_below f k ++ f k) ++ rest)
front_of f k zero l = absurd (omega arith)
front_of f k (suc n) l = ⊎_elim
    (λ (e : k ≡ n). ([], subst (λ z. each_below f n ++ f n ≡ (each_below f z ++ f z) ++ []) (sym e) (sym (append-nil (each_below f n ++ f n)))))
    (λ (ne : k ≡ n → ⊥). (
    let r = front_of f k n (omega arith) in
    (r.0 ++ f n, ap (λ (z : List Awaited). z ++ f n) r.1 ∙ append_assoc (each_below f k ++ f k) r.0 (f n))))
    (cases_eq k n)

module _ (b : BoundValue) (meshes : List RankMesh) (size : ℕ) (f : ℕ → List Awaited) where
  -- those of k as well
  pub fits_more : (k : ℕ) (u v w : Unread) (cs ds : List ColourLists) → FitsAmong b meshes size (each_below f k) u v cs
      → FitsAmong b meshes size (f k) v w ds → FitsAmong b meshes size (each_below f (k + 1)) u w (cs ++ ds)
  fits_more k u v w cs ds a c =
      let e : suc k ≡ k + 1 = omega arith in
      subst (λ z. FitsAmong b meshes size (each_below f z) u w (cs ++ ds)) e (fits_append b meshes size (each_below f k) (f k) u v w cs ds a c)

  -- one of k's is refused
  pub refused_at : (k n : ℕ) (u v : Unread) (cs : List ColourLists) (e : CertRefusal) → k < n
      → FitsAmong b meshes size (each_below f k) u v cs → RefusesAmong b meshes size (f k) v e
      → RefusesAmong b meshes size (each_below f n) u e
  refused_at k n u v cs e l a r =
      let p = front_of f k n l in
      subst (λ (z : List Awaited). RefusesAmong b meshes size z u e) (sym p.1)
      (refused_first b meshes size (each_below f k ++ f k) p.0 u e (refused_then b meshes size (each_below f k) (f k) u v cs e a r))

-- ---- answers

module _ (b : BoundValue) (meshes : List RankMesh) (size : ℕ) where
  -- a refusal is passed on
  pub passed_on : {X : Type 0} → (xs : List Awaited) (old new : Unread) (cs : X → List ColourLists) (r : Result X CertRefusal) (e : CertRefusal)
      → IsErrAnd r (λ x. x ≡ e) → RefusesAmong b meshes size xs old e → JudgesAmong b meshes size xs old new cs r
  passed_on xs old new cs (Ok x) e h k = absurd h
  passed_on xs old new cs (Err x) e h k = subst (λ z. RefusesAmong b meshes size xs old z) (sym h) k

-- ---- a line that is written for comparison

-- the number of the line that comes next
pub next_number : (old new : Unread) (n : ℕ) → n ≡ new.taken → new ≡ old → n + 1 ≡ old.taken + suc 0
next_number old new n e k = let t : n ≡ old.taken = e ∙ ap (λ (u : Unread). u.taken) k in omega arith

module _ (b : BoundValue) (meshes : List RankMesh) (size : ℕ) (number : ℕ) (line text : List ℕ) (same : text ≡ line) (old : Unread) where
  pub text_taken : (new : Unread) → IsTaken old new text → FitsAmong b meshes size (Exactly number line ∷ []) old new []
  text_taken new t = exactly_taken b meshes size number line old new (subst (IsTaken old new) same t)

  pub text_refused : ((more : List ℕ) → old.rest ≡ text ++ more → ⊥) → RefusedAmong b meshes size (Exactly number line ∷ []) old.rest number 0
  text_refused h = exactly_refused b meshes size number line old (λ more e. h more (e ∙ ap (λ (z : List ℕ). z ++ more) (sym same)))

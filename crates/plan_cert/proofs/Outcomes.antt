-- Of awaited lines all are at the front of bytes, or one is refused.
use Rattle.std.proofs.Common.{◌≡◌, ℕ, zero, suc, ◌<◌, ◌⊎◌, inl, inr, refl, sym, ap, ◌∙◌, arith, List, [], ◌∷◌, ◌++◌, append_assoc, append-nil}
use Rattle.std.proofs.lemmas.Bool.{cases_eq}
use Rattle.local_mesh.specs.declared.types.RankMesh.{RankMesh}
use Rattle.bound_program.specs.Values.{BoundValue}
use Rattle.plan_cert.specs.Awaited.{Awaited, Exactly, each_below, ColourLists, FitsLine, FitLines}
use Rattle.plan_cert.specs.Certified.{all, Refuses, RefusedAmong}
use Rattle.plan_cert.proofs.Deciding.{Known, Begins, begins_known}
use Rattle.plan_cert.proofs.Reading.{all_append, fit_append, among_first, among_then}

module _ (b : BoundValue) (meshes : List RankMesh) (size : ℕ) where
  -- lines that fit, with colours of which something holds
  pub record Taken (xs : List Awaited) (bytes : List ℕ) (Holds : List ColourLists → Type 0) : Type 0 where
    pub lines : List (List ℕ)
    pub rest : List ℕ
    pub colours : List ColourLists
    pub split : bytes ≡ all lines ++ rest
    pub fit : FitLines b meshes size xs lines colours
    pub holds : Holds colours

  -- they are there, or one is refused
  abbrev pub Outcome : List Awaited → List ℕ → (List ColourLists → Type 0) → Type 0
  Outcome xs bytes Holds = Taken xs bytes Holds ⊎ ((number : ℕ) × (before : ℕ) × RefusedAmong b meshes size xs bytes number before)

  -- none are awaited
  pub none_taken : (bytes : List ℕ) (Holds : List ColourLists → Type 0) → Holds [] → Outcome [] bytes Holds
  none_taken bytes Holds h = inl (record { lines = []; rest = bytes; colours = []; split = refl; fit = refl; holds = h })

  -- one line
  pub line_taken : (x : Awaited) (line more bytes : List ℕ) (cs : List ColourLists) (Holds : List ColourLists → Type 0)
      → bytes ≡ line ++ more → FitsLine b meshes size x line cs → Holds cs → Outcome (x ∷ []) bytes Holds
  line_taken x line more bytes cs Holds e f h = inl (record {
    lines = line ∷ [];
    rest = more;
    colours = cs;
    split = e ∙ ap (λ z. z ++ more) (sym (append-nil line));
    fit = (cs, [], sym (append-nil cs), f, refl);
    holds = h;
  })

  pub line_refused : (x : Awaited) (bytes : List ℕ) (number : ℕ) (Holds : List ColourLists → Type 0) → Refuses b meshes size x bytes number → Outcome (x ∷ []) bytes Holds
  line_refused x bytes number Holds r = inr (
    number,
    0,
    record {
      lines = [];
      rest = bytes;
      split = refl;
      earlier = [];
      here = x;
      later = [];
      order = refl;
      colours = [];
      fit = refl;
      refuses = r;
      at = refl;
    },
  )

  -- and others behind them
  pub and_then : (xs ys : List Awaited) (P Q R : List ColourLists → Type 0) → ((cs ds : List ColourLists) → P cs → Q ds → R (cs ++ ds))
      → (bytes : List ℕ) → Outcome xs bytes P → ((rest : List ℕ) → Outcome ys rest Q) → Outcome (xs ++ ys) bytes R
  and_then xs ys P Q R both bytes (inr r) next = inr (r.0, r.1, among_first b meshes size xs ys bytes r.0 r.1 r.2)
  and_then xs ys P Q R both bytes (inl t) next = by_next (next t.rest)
    where
      by_next : Outcome ys t.rest Q → Outcome (xs ++ ys) bytes R
      by_next (inr r) = inr (r.0, _, among_then b meshes size xs ys t.lines t.colours bytes t.rest r.0 r.1 t.split t.fit r.2)
      by_next (inl u) = inl (record {
        lines = t.lines ++ u.lines;
        rest = u.rest;
        colours = t.colours ++ u.colours;
        split = t.split ∙ (ap (λ z. all t.lines ++ z) u.split ∙ (sym (append_assoc (all t.lines) (all u.lines) u.rest) ∙ ap (λ z. z ++ u.rest) (sym (all_append t.lines u.lines))));
        fit = fit_append b meshes size xs ys t.lines u.lines t.colours u.colours t.fit u.fit;
        holds = both t.colours u.colours t.holds u.holds;
      })

  -- those of each number below n
  pub each_taken : (f : ℕ → List Awaited) (P Q : ℕ → List ColourLists → Type 0) (n : ℕ) → P 0 [] → ((k : ℕ) (cs ds : List ColourLists) → k < n → P k cs → Q k ds → P (suc k) (cs ++ ds))
      → ((k : ℕ) (rest : List ℕ) → k < n → Outcome (f k) rest (Q k)) → (bytes : List ℕ) → Outcome (each_below f n) bytes (P n)
  each_taken f P Q zero none more each bytes = none_taken bytes (P 0) none
  each_taken f P Q (suc n) none more each bytes =
      and_then (each_below f n) (f n) (P n) (Q n) (P (suc n)) (λ cs ds. more n cs ds (omega arith)) bytes
      (each_taken f P Q n none (λ k cs ds l. more k cs ds (omega arith)) (λ k rest l. each k rest (omega arith)) bytes)
      (λ rest. each n rest (omega arith))

  -- a line that is known
  exact_by : (number : ℕ) (line bytes : List ℕ) → Known (Begins line bytes) → Outcome (Exactly number line ∷ []) bytes (λ cs. cs ≡ [])
  exact_by number line bytes (inl h) = line_taken (Exactly number line) line h.0 bytes [] (λ cs. cs ≡ []) h.1 (refl, refl) refl
  exact_by number line bytes (inr h) = line_refused (Exactly number line) bytes number (λ cs. cs ≡ []) (refl, λ more e. h (more, e))

  pub exact_taken : (number : ℕ) (line bytes : List ℕ) → Outcome (Exactly number line ∷ []) bytes (λ cs. cs ≡ [])
  exact_taken number line bytes = exact_by number line bytes (begins_known cases_eq line bytes)

  -- lines without colours, one after another
  pub none_told : (cs ds : List ColourLists) → cs ≡ [] → ds ≡ [] → cs ++ ds ≡ []
  none_told cs ds h k = ap (λ z. z ++ ds) h ∙ ap (λ z. [] ++ z) k

  pub all_exact : (f : ℕ → List Awaited) (n : ℕ) → ((k : ℕ) (rest : List ℕ) → Outcome (f k) rest (λ cs. cs ≡ [])) → (bytes : List ℕ) → Outcome (each_below f n) bytes (λ cs. cs ≡ [])
  all_exact f n each bytes = each_taken f (λ k cs. cs ≡ []) (λ k cs. cs ≡ []) n refl (λ k cs ds l. none_told cs ds) (λ k rest l. each k rest) bytes

-- Comments and `#include` lines.
use Rattle.std.proofs.Common.{◌≡◌, ◌≢◌, ℕ, suc, ◌+◌, Bool, true, false, ◌&&◌, ◌||◌, cond, List, [], ◌∷◌, ◌++◌, length, take, drop, Option, Some, None, refl, sym, ap, subst, ◌∙◌, arith, nat_eq, not, take-append-drop, inl, inr, codes}
use Rattle.std.specs.List.{list_all, prefix_len, starts_with}
use Rattle.std.proofs.Math.Numerals.{one-add}
use Rattle.std.proofs.lemmas.Slice.Eq.{bytes_eq-Decides}
use Rattle.std.proofs.lemmas.Bool.{eqb-true, and_parts, true≢false}
use Rattle.c_tree.specs.declared.lexer.front.Front.TheVariants.{Passed, OpenComment}
use Rattle.c_tree.specs.Lexed.{EndsLine, HasNoClose}
use Rattle.c_tree.specs.Front.{in_line, further, closes, close_len, passes_line, IsFront}
use Rattle.c_tree.proofs.lexer.Runs.{all_of_prefix}
use Rattle.std.proofs.Math.Seq.{take-append_seam}

-- a list that begins with another is that and what is left
pub starts : (p bs : List ℕ) → starts_with nat_eq bs p ≡ true → bs ≡ p ++ drop (length p) bs
starts p bs h =
    sym (take-append-drop (length p) bs) ∙ ap (λ z. z ++ drop (length p) bs) (sym ((bytes_eq-Decides p (take (length p) bs)).0 h))

pub starts_not : (p bs rest : List ℕ) → starts_with nat_eq bs p ≡ false → bs ≢ p ++ rest
starts_not p bs rest h e =
    true≢false (sym ((bytes_eq-Decides p (take (length p) bs)).1 (sym (ap (take (length p)) e ∙ take-append_seam p rest))) ∙ h)

-- what goes up to the end of the line
no_line_feed : (s a b : List ℕ) → list_all in_line s ≡ true → s ≢ a ++ 10 ∷ b
no_line_feed [] [] b h e = cc
no_line_feed [] (x ∷ a) b h e = cc
no_line_feed (y ∷ s) [] b h e =
    let r = and_parts (in_line y) (list_all in_line s) h in
    let same : y ≡ 10 = cc in
    let line : in_line 10 ≡ true = subst (λ z. in_line z ≡ true) same r.0 in cc
no_line_feed (y ∷ s) (x ∷ a) b h e =
    let r = and_parts (in_line y) (list_all in_line s) h in no_line_feed s a b r.1 (let q : s ≡ a ++ 10 ∷ b = cc in q)

line_feed : (b : ℕ) → in_line b ≡ false → b ≡ 10
line_feed b h = by_test (nat_eq b 10) refl h
  where
    by_test : (t : Bool) → nat_eq b 10 ≡ t → not t ≡ false → b ≡ 10
    by_test true e h = eqb-true b 10 e
    by_test false e h = cc

line_ended : (bs : List ℕ) (b : ℕ) (more : List ℕ) → drop (prefix_len in_line bs) bs ≡ b ∷ more → b ≡ 10
line_ended [] b more e = cc
line_ended (x ∷ bs) b more e = by_test (in_line x) refl e (line_ended bs b more)
  where
    by_test : (t : Bool) → in_line x ≡ t → drop (cond t (1 + prefix_len in_line bs) 0) (x ∷ bs) ≡ b ∷ more → (drop (prefix_len in_line bs) bs ≡ b ∷ more → b ≡ 10) → b ≡ 10
    by_test true h e f = f (rw (one-add (prefix_len in_line bs)) at e)
    by_test false h e f = let same : x ≡ b = cc in sym same ∙ line_feed x h

pub line_ends : (bs : List ℕ) → EndsLine (take (prefix_len in_line bs) bs) (drop (prefix_len in_line bs) bs)
line_ends bs = record {
  no_line_feed = λ a b. no_line_feed (take (prefix_len in_line bs) bs) a b (all_of_prefix in_line bs);
  ended = line_ended bs;
}

line_cut : (p more : List ℕ) → list_all in_line p ≡ true → take (prefix_len in_line (p ++ more)) (p ++ more) ≡ p ++ take (prefix_len in_line more) more
line_cut [] more h = refl
line_cut (x ∷ p) more h =
    let r = and_parts (in_line x) (list_all in_line p) h in
    rw (r.0, one-add (prefix_len in_line (p ++ more))) (ap (λ z. x ∷ z) (line_cut p more r.1))

line_is : (p bs : List ℕ) → list_all in_line p ≡ true → starts_with nat_eq bs p ≡ true → (body : List ℕ) × (take (prefix_len in_line bs) bs ≡ p ++ body)
line_is p bs h g =
    let row = starts p bs g in
    let more = drop (length p) bs in
    (take (prefix_len in_line more) more, ap (λ z. take (prefix_len in_line z) z) row ∙ line_cut p more h)

pub line_front : (fresh : Bool) (bs : List ℕ) → passes_line fresh bs ≡ true → IsFront fresh bs (Passed (prefix_len in_line bs))
line_front fresh bs h = by_tests (starts_with nat_eq bs (codes "//")) refl fresh refl (starts_with nat_eq bs (codes "#include")) refl h
  where
    by_tests : (t : Bool) → starts_with nat_eq bs (codes "//") ≡ t → (u : Bool) → fresh ≡ u → (v : Bool)
        → starts_with nat_eq bs (codes "#include") ≡ v → (t || (u && v)) ≡ true → IsFront fresh bs (Passed (prefix_len in_line bs))
    by_tests true e u f v g h =
        let r = line_is (codes "//") bs refl e in inr (inl (record { body = r.0; cut = r.1; ends = line_ends bs }))
    by_tests false e true f true g h =
        let r = line_is (codes "#include") bs refl g in
        inr (inr (inr (record { alone = f; body = r.0; cut = r.1; ends = line_ends bs })))
    by_tests false e true f false g h = cc
    by_tests false e false f v g h = cc

-- a byte before bytes with no `*/`
no_close_more : (b : ℕ) (xs : List ℕ) → HasNoClose xs → closes (b ∷ xs) ≡ false → HasNoClose (b ∷ xs)
no_close_more b xs h c [] q e =
    let first : b ≡ 42 = cc in
    let rest : xs ≡ 47 ∷ q = cc in
    let here : closes (42 ∷ 47 ∷ q) ≡ false = subst (λ z. closes (42 ∷ z) ≡ false) rest (subst (λ z. closes (z ∷ xs) ≡ false) first c) in cc
no_close_more b xs h c (x ∷ p) q e = h p q (let r : xs ≡ p ++ 42 ∷ 47 ∷ q = cc in r)

no_close_nil : HasNoClose []
no_close_nil [] q e = cc
no_close_nil (x ∷ p) q e = cc

further_some : (n : ℕ) (o : Option ℕ) (m : ℕ) → further n o ≡ Some m → (l : ℕ) × (o ≡ Some l) × (n + l ≡ m)
further_some n None m h = cc
further_some n (Some l) m h = (l, refl, let e : n + l ≡ m = cc in e)

further_nothing : (n : ℕ) (o : Option ℕ) → further n o ≡ None → o ≡ None
further_nothing n None h = refl
further_nothing n (Some l) h = cc

closes_is : (bs : List ℕ) → closes bs ≡ true → (more : List ℕ) × (bs ≡ 42 ∷ 47 ∷ more)
closes_is [] h = cc
closes_is (b ∷ []) h = cc
closes_is (b ∷ c ∷ bs) h =
    let r = and_parts (nat_eq b 42) (nat_eq c 47) h in
    (bs, rw (eqb-true b 42 r.0, eqb-true c 47 r.1) refl)

-- the first `*/` ends what stands before it
pub record Closed (bs : List ℕ) (n : ℕ) : Type 0 where
  pub body : List ℕ
  pub rest : List ℕ
  pub cut : bs ≡ body ++ 42 ∷ 47 ∷ rest
  pub size : n ≡ length body + 2
  pub next : HasNoClose (body ++ 42 ∷ [])

-- a byte before a body
before_body : (b : ℕ) (body rest : List ℕ) → closes (b ∷ (body ++ 42 ∷ 47 ∷ rest)) ≡ false → closes (b ∷ (body ++ 42 ∷ [])) ≡ false
before_body b [] rest h = h
before_body b (c ∷ body) rest h = h

pub close_found : (bs : List ℕ) (n : ℕ) → close_len bs ≡ Some n → Closed bs n
close_found [] n h = cc
close_found (b ∷ bs) n h = by_test (closes (b ∷ bs)) refl h (close_found bs)
  where
    by_test : (t : Bool) → closes (b ∷ bs) ≡ t → cond t (Some 2) (further 1 (close_len bs)) ≡ Some n → ((m : ℕ) → close_len bs ≡ Some m → Closed bs m) → Closed (b ∷ bs) n
    by_test true e h f =
        let r = closes_is (b ∷ bs) e in
        let two : 2 ≡ n = cc in
        record {
          body = [];
          rest = r.0;
          cut = r.1;
          size = sym two;
          next = no_close_more 42 [] no_close_nil refl;
        }
    by_test false e h f =
        let r = further_some 1 (close_len bs) n h in
        let g = f r.0 r.1 in
        let open_ = subst (λ z. closes (b ∷ z) ≡ false) g.cut e in
        record {
          body = b ∷ g.body;
          rest = g.rest;
          cut = ap (λ z. b ∷ z) g.cut;
          size = omega (arith, r.2, g.size);
          next = no_close_more b (g.body ++ 42 ∷ []) g.next (before_body b g.body g.rest open_);
        }

pub close_nowhere : (bs : List ℕ) → close_len bs ≡ None → HasNoClose bs
close_nowhere [] h = no_close_nil
close_nowhere (b ∷ bs) h = by_test (closes (b ∷ bs)) refl h (close_nowhere bs)
  where
    by_test : (t : Bool) → closes (b ∷ bs) ≡ t → cond t (Some 2) (further 1 (close_len bs)) ≡ None → (close_len bs ≡ None → HasNoClose bs) → HasNoClose (b ∷ bs)
    by_test true e h f = cc
    by_test false e h f = no_close_more b bs (f (further_nothing 1 (close_len bs) h)) e

take_more : (xs : List ℕ) (n : ℕ) (b c : ℕ) → take (n + 2) (b ∷ c ∷ xs) ≡ b ∷ c ∷ take n xs
take_more xs n b c = rw (let e : n + 2 ≡ suc (suc n) = omega arith in e) refl

-- a block comment
pub block_front : (fresh : Bool) (bs : List ℕ) (n : ℕ) → starts_with nat_eq bs (codes "/*") ≡ true → close_len (drop 2 bs) ≡ Some n → IsFront fresh bs (Passed (n + 2))
block_front fresh bs n h g =
    let row = starts (codes "/*") bs h in
    let r = close_found (drop 2 bs) n g in
    let front : take n (drop 2 bs) ≡ r.body ++ 42 ∷ 47 ∷ [] = ap (take n) r.cut ∙ ap (λ z. take z (r.body ++ 42 ∷ 47 ∷ r.rest)) r.size ∙ take_two r.body r.rest in
    inr (inr (inl (record {
      body = r.body;
      cut = ap (take (n + 2)) row ∙ take_more (drop 2 bs) n 47 42 ∙ ap (λ z. 47 ∷ 42 ∷ z) front;
      next = r.next;
    })))
  where
    take_two : (xs rest : List ℕ) → take (length xs + 2) (xs ++ 42 ∷ 47 ∷ rest) ≡ xs ++ 42 ∷ 47 ∷ []
    take_two [] rest = refl
    take_two (x ∷ xs) rest =
        rw (let e : length (x ∷ xs) + 2 ≡ suc (length xs + 2) = omega arith in e) (ap (λ z. x ∷ z) (take_two xs rest))

pub open_front : (fresh : Bool) (bs : List ℕ) → starts_with nat_eq bs (codes "/*") ≡ true → close_len (drop 2 bs) ≡ None → IsFront fresh bs OpenComment
open_front fresh bs h g = (drop 2 bs, starts (codes "/*") bs h, close_nowhere (drop 2 bs) g)

-- What is translated can be restored, with the same kinds of tokens.
use Rattle.std.proofs.Common.{◌≡◌, ℕ, Bool, true, false, List, [], ◌∷◌, ◌++◌, map, Option, Some, None, Ok, refl, sym, ap, ap₂, subst, ◌∙◌, append_assoc}
use Rattle.c_tree.specs.declared.lexer.tokens.Token.{Token}
use Rattle.c_tree.specs.Lexed.{start, AtEnd, Part, bytes_of, all_bytes, is_fresh_behind, is_number_part, AreParts, tokens_of, Outcome, Lexes}
use Rattle.c_tree.specs.Reads.{shown}
use Rattle.op_translate.specs.declared.refusals.TransRefusal.{TransRefusal}
use Rattle.op_translate.specs.Edits.{edited, edits}
use Rattle.op_translate.specs.Stubs.{Loop, all_loops_of, table_text}
use Rattle.op_translate.specs.Translation as spec
use Rattle.op_translate.specs.Translation.{line_end, to_stub, to_call, first_refusal, refuses_stub, translation, restoration, unless, restored, Restores, SameKinds, RestoresTranslations}
use Rattle.op_translate.proofs.Spans.{cut}
use Rattle.op_translate.proofs.Patches.{all_bytes-append, olds, news, spliced}
use Rattle.op_translate.proofs.Made.{made}
use Rattle.op_translate.proofs.Printed.{AllFollow, shown_follow}
use Rattle.op_translate.proofs.Named.{AllNamed, LoopsNamed, loops_named}
use Rattle.op_translate.proofs.Lines.{line_parts, table_lines, table_clean, table_bytes}
use Rattle.op_translate.proofs.Tail.{grows}
use Rattle.op_translate.proofs.Sites.{part_kinds, token_kinds, have_forms, all_named, Site, forward, backward, AreSites, stubs_there, forward_swaps, backward_swaps, divide, others, others_are, more_sites, old_more, new_more, kinds_back, kinds_with}
use Rattle.op_translate.proofs.Edited.{forward_edits, backward_edits, none_refused, none_taken}

-- parts up to the end are all the bytes
pub parts_bytes : (fresh number : Bool) (bs : List ℕ) (xs : List Part) → AreParts AtEnd fresh number bs xs → bs ≡ all_bytes xs
parts_bytes fresh number bs [] a = a
parts_bytes fresh number bs (x ∷ xs) a =
    a.1.1 ∙ ap (λ z. bytes_of x ++ z) (parts_bytes (is_fresh_behind fresh x) (is_number_part x) a.1.0 xs a.1.3)

lexes : (bs : List ℕ) (xs : List Part) → AreParts AtEnd true false bs xs → Lexes bs (Ok (tokens_of 0 start xs))
lexes bs xs a = record { parts = xs; stop = AtEnd; are = a; gives = refl }

one_list : (a b : List Token) → ◌≡◌ {A = Outcome} (Ok a) (Ok b) → a ≡ b
one_list a b h = cc

-- an answer that is no refusal
answered : (o : Option TransRefusal) (out bs : List ℕ) → ◌≡◌ {A = spec.Outcome} (Ok out) (unless o bs) → (o ≡ None) × (out ≡ bs)
answered None out bs e = (refl, cc)
answered (Some r) out bs e = let q : ⊥ = cc in absurd q

-- ---- sites, there and back

module _ (ss : List Site) (h : AreSites ss) (a : AreParts AtEnd true false (all_bytes (olds (forward ss))) (olds (forward ss))) where
  abbrev stubs : List Part
  stubs = olds (backward ss)

  abbrev calls : List Part
  calls = news (backward ss)

  stubs_are : AreParts AtEnd true false (all_bytes stubs) stubs
  stubs_are = subst (λ z. AreParts AtEnd true false (all_bytes z) z) (stubs_there ss) (spliced (forward ss) true false (forward_swaps ss h) a)

  calls_are : AreParts AtEnd true false (all_bytes calls) calls
  calls_are = spliced (backward ss) true false (backward_swaps ss h) stubs_are

  restored_is : ◌≡◌ {A = spec.Outcome} (Ok (all_bytes calls)) (restored (all_bytes stubs) (Ok (tokens_of 0 start stubs)))
  restored_is =
      ap Ok (sym (made to_call (backward ss) (backward_edits ss h) start))
      ∙ ap (λ o. unless o (restoration (all_bytes stubs) (tokens_of 0 start stubs))) (sym (none_refused ss h 0 start))

  pub goes_back : (translated : List ℕ) → translated ≡ all_bytes stubs → Restores translated (Ok (all_bytes calls))
  goes_back translated e = subst (λ z. Restores z (Ok (all_bytes calls))) (sym e) (record {
    found = Ok (tokens_of 0 start stubs);
    lexed = lexes (all_bytes stubs) stubs stubs_are;
    is = restored_is;
  })

  pub keeps_kinds : (bytes : List ℕ) (tokens : List Token) → Lexes bytes (Ok tokens) → map (λ t. t.kind) tokens ≡ part_kinds (olds (forward ss)) → SameKinds bytes (all_bytes calls)
  keeps_kinds bytes tokens l e = record {
    tokens = tokens;
    lexed = l;
    others = tokens_of 0 start calls;
    other_lexed = lexes (all_bytes calls) calls calls_are;
    kinds = e ∙ (sym (kinds_back ss) ∙ sym (token_kinds calls 0 start));
  }

-- ---- the law

module _ (one_outcome : (bytes : List ℕ) (a b : Outcome) → Lexes bytes a → Lexes bytes b → a ≡ b) where
  pub restorable : RestoresTranslations
  restorable bytes translated p r t =
      let c = cut bytes t.tokens t.lexed in
      let xs : List Part = c.parts in
      let got = answered (first_refusal refuses_stub t.tokens) translated (translation bytes t.tokens p) t.is in
      let same : t.tokens ≡ r.tokens = one_list t.tokens r.tokens (one_outcome bytes (Ok t.tokens) (Ok r.tokens) t.lexed r.lexed) in
      let kinds : part_kinds xs ≡ shown p =
      sym (token_kinds xs 0 start) ∙ (ap (λ z. map (λ k. k.kind) z) (sym c.tokens_are ∙ same) ∙ sym r.prints.kinds) in
      let none : first_refusal refuses_stub (tokens_of 0 start xs) ≡ None = subst (λ z. first_refusal refuses_stub z ≡ None) c.tokens_are got.0 in
      let forms = have_forms AtEnd true false bytes xs c.are in
      let d = divide xs (subst AllFollow (sym kinds) (shown_follow p)) (none_taken xs 0 start none) forms in
      let loops : List Loop = all_loops_of p.main.body in
      let names : LoopsNamed loops = loops_named p (subst AllNamed kinds (all_named xs forms)) in
      let g = grows bytes (table_lines loops) xs (table_clean loops names) c.are in
      let ss : List Site = d.sites ++ others g.more in
      let are : AreSites ss = more_sites d.sites (others g.more) d.are (others_are g.more g.passed) in
      let old : xs ++ g.more ≡ olds (forward ss) = ap (λ z. z ++ g.more) d.same ∙ sym (old_more d.sites g.more) in
      let whole : AreParts AtEnd true false (all_bytes (xs ++ g.more)) (xs ++ g.more) =
      subst (λ z. AreParts AtEnd true false z (xs ++ g.more)) (parts_bytes true false (bytes ++ (line_end bytes ++ all_bytes (line_parts (table_lines loops)))) (xs ++ g.more) g.are) g.are in
      let parts : AreParts AtEnd true false (all_bytes (olds (forward ss))) (olds (forward ss)) =
      subst (λ z. AreParts AtEnd true false (all_bytes z) z) old whole in
      let bytes_are : bytes ≡ all_bytes (olds (forward d.sites)) = parts_bytes true false bytes xs c.are ∙ ap all_bytes d.same in
      let tokens_are : t.tokens ≡ tokens_of 0 start (olds (forward d.sites)) = c.tokens_are ∙ ap (tokens_of 0 start) d.same in
      let edited_is : edited 0 bytes (edits to_stub t.tokens) ≡ all_bytes (news (forward d.sites)) =
      ap₂ (λ u v. edited 0 u (edits to_stub v)) bytes_are tokens_are ∙ made to_stub (forward d.sites) (forward_edits d.sites d.are) start in
      let end_is : line_end bytes ++ table_text loops ≡ all_bytes g.more = ap (λ z. line_end bytes ++ z) (table_bytes loops) ∙ sym g.bytes_are in
      let all_is : translated ≡ all_bytes (olds (backward ss)) =
      got.1
      ∙ append_assoc (edited 0 bytes (edits to_stub t.tokens)) (line_end bytes) (table_text loops)
      ∙ (ap₂ (λ u v. u ++ v) edited_is end_is
      ∙ (sym (all_bytes-append (news (forward d.sites)) g.more) ∙ (ap all_bytes (sym (new_more d.sites g.more)) ∙ ap all_bytes (stubs_there ss)))) in
      let kinds_are : map (λ k. k.kind) t.tokens ≡ part_kinds (olds (forward ss)) =
      ap (λ z. map (λ k. k.kind) z) c.tokens_are ∙ (token_kinds xs 0 start ∙ (sym (kinds_with xs g.more g.passed) ∙ ap part_kinds old)) in
      (all_bytes (news (backward ss)), goes_back ss are parts translated all_is, keeps_kinds ss are parts bytes t.tokens t.lexed kinds_are)

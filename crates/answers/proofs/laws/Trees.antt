-- The refusals of a source that isn't read, and that a source is read or refused.
use Rattle.std.proofs.Common.{◌≡◌, ℕ, ◌⊎◌, inl, inr, Bool, true, false, List, Option, Some, None, Ok, Err, refl, sym, ap, ◌∙◌, subst, bytes_eq}
use Rattle.std.proofs.lemmas.Slice.Eq.{bytes_eq-Decides}
use Rattle.c_tree.specs.declared.lexer.tokens.Pos.{Pos}
use Rattle.c_tree.specs.declared.lexer.tokens.Token.{Token}
use Rattle.c_tree.specs.declared.lexer.refusals.LexRefusal.{LexRefusal}
use Rattle.c_tree.specs.Lexed.{Lexes, Outcome}
use Rattle.c_tree.specs.Tree.{ProgramTree}
use Rattle.c_tree.specs.Print.{program}
use Rattle.c_tree.specs.Reads.{Reads, Deep, Prints, first_deep}
use Rattle.c_tree.specs.declared.refusals.SourceRefusal.{SourceRefusal}
use Rattle.c_tree.specs.declared.refusals.SourceRefusal.TheVariants as source
use Rattle.c_tree.specs.Refused.{HasNoTree}
use Rattle.command_words.specs.Refusal.{Refusal}
use Rattle.command_words.specs.Lines.{line_of}
use Rattle.answers.specs.Said.{SaysLex, SaysSource}
use Rattle.answers.specs.Judgements.{IsUnread, TreeIs}
use Rattle.answers.specs.Laws.{LacksTree}
use Rattle.answers.proofs.laws.SaidOnce.{lex_once, source_once}

-- a tree that has the tokens has at most 64 levels, or is deeper
pub shallow_or_deep : (bytes : List ℕ) (tokens : List Token) → Lexes bytes (Ok tokens) → (p : ProgramTree) → Prints tokens p
    → Reads bytes p ⊎ ((n : ℕ) × Deep bytes p n)
shallow_or_deep bytes tokens lexed p prints = by_first (first_deep 0 (program p)) refl
  where
    by_first : (o : Option ℕ) → first_deep 0 (program p) ≡ o → Reads bytes p ⊎ ((n : ℕ) × Deep bytes p n)
    by_first None is = inl (record { tokens = tokens; lexed = lexed; prints = prints; shallow = is })
    by_first (Some n) is = inr (n, record { tokens = tokens; lexed = lexed; prints = prints; first = is })

-- two refusals for depth have one line, or no tree has the tokens
deep_lines : (bytes : List ℕ) (p q : Pos) (r s : Refusal) → IsUnread bytes (source.TooDeep p) → IsUnread bytes (source.TooDeep q)
    → SaysSource (source.TooDeep p) r → SaysSource (source.TooDeep q) s → (line_of r ≡ line_of s) ⊎ LacksTree bytes
deep_lines bytes p q r s u v h k = by_lines (bytes_eq (line_of r) (line_of s)) refl
  where
    same : (t : ProgramTree) (n : ℕ) → Deep bytes t n → r ≡ s
    same t n d = source_once (source.TooDeep p) r s h (subst (λ e. SaysSource e s) (v.deep t n d ∙ sym (u.deep t n d)) k)

    by_lines : (b : Bool) → bytes_eq (line_of r) (line_of s) ≡ b → (line_of r ≡ line_of s) ⊎ LacksTree bytes
    by_lines true is = inl ((bytes_eq-Decides (line_of r) (line_of s)).0 is)
    by_lines false is = inr (record { tokens = u.cause.tokens; lexed = u.cause.lexed; none = no_tree })
      where
        differ : r ≡ s → ⊥
        differ e = let t : bytes_eq (line_of r) (line_of s) ≡ true = (bytes_eq-Decides (line_of r) (line_of s)).1 (ap line_of e) in let bad : true ≡ false = sym t ∙ is in let f : ⊥ = cc in f

        no_tree : (t : ProgramTree) → ¬ Prints u.cause.tokens t
        no_tree t prints = by_depth (shallow_or_deep bytes u.cause.tokens u.cause.lexed t prints)
          where
            by_depth : Reads bytes t ⊎ ((n : ℕ) × Deep bytes t n) → ⊥
            by_depth (inl reads) = u.none t reads
            by_depth (inr d) = differ (same t d.0 d.1)

module _ (one_outcome : (bytes : List ℕ) (a b : Outcome) → Lexes bytes a → Lexes bytes b → a ≡ b) where
  not_both : (bytes : List ℕ) (l : LexRefusal) (tokens : List Token) → Lexes bytes (Err l) → Lexes bytes (Ok tokens) → ⊥
  not_both bytes l tokens h k = let e = one_outcome bytes (Err l) (Ok tokens) h k in let f : ⊥ = cc in f

  lexed_lines : (bytes : List ℕ) (l m : LexRefusal) (r s : Refusal) → Lexes bytes (Err l) → Lexes bytes (Err m) → SaysLex l r → SaysLex m s → r ≡ s
  lexed_lines bytes l m r s u v h k =
      let e = one_outcome bytes (Err l) (Err m) u v in
      let same : l ≡ m = cc in
      lex_once l r s h (subst (λ x. SaysLex x s) (sym same) k)

  lacks : (bytes : List ℕ) (at : Pos) → HasNoTree bytes at → LacksTree bytes
  lacks bytes at h = record { tokens = h.tokens; lexed = h.lexed; none = h.none }

  -- two refusals of one source have one line, unless it has tokens and no tree
  unread_lines : (bytes : List ℕ) (e f : SourceRefusal) (r s : Refusal) → IsUnread bytes e → IsUnread bytes f → SaysSource e r → SaysSource f s → (line_of r ≡ line_of s) ⊎ LacksTree bytes
  unread_lines bytes (source.Lex l) (source.Lex m) r s u v h k = inl (ap line_of (lexed_lines bytes l m r s u.cause v.cause h k))
  unread_lines bytes (source.Lex l) (source.Syntax at) r s u v h k = inr (lacks bytes at v.cause)
  unread_lines bytes (source.Lex l) (source.TooDeep at) r s u v h k = absurd (not_both bytes l v.cause.tokens u.cause v.cause.lexed)
  unread_lines bytes (source.Syntax at) f r s u v h k = inr (lacks bytes at u.cause)
  unread_lines bytes (source.TooDeep at) (source.Lex l) r s u v h k = absurd (not_both bytes l u.cause.tokens v.cause u.cause.lexed)
  unread_lines bytes (source.TooDeep at) (source.Syntax here) r s u v h k = inr (lacks bytes here v.cause)
  unread_lines bytes (source.TooDeep at) (source.TooDeep here) r s u v h k = deep_lines bytes at here r s u v h k
  unread_lines bytes source.OutOfMemory f r s u v h k = absurd h
  unread_lines bytes (source.Lex l) source.OutOfMemory r s u v h k = absurd k
  unread_lines bytes (source.TooDeep at) source.OutOfMemory r s u v h k = absurd k

  pub tree_lines : (bytes : List ℕ) (r s : Refusal) → TreeIs bytes (Err r) → TreeIs bytes (Err s) → (line_of r ≡ line_of s) ⊎ LacksTree bytes
  tree_lines bytes r s h k = unread_lines bytes h.0 k.0 r s h.1 k.1 h.2 k.2

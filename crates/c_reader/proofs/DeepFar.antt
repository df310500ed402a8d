-- The first token beyond level 64 of a tree stands behind at least 64 others.
use Rattle.std.proofs.Common.{◌≡◌, ℕ, List, Option, Some, None, Ok, refl, sym, subst, slice_get}
use Rattle.c_tree.specs.declared.lexer.tokens.Pos.{Pos}
use Rattle.c_tree.specs.declared.lexer.tokens.Token.{Token}
use Rattle.c_tree.specs.Lexed.{Lexes, Outcome, advance, start}
use Rattle.c_tree.specs.Tree.{ProgramTree}
use Rattle.c_tree.specs.Reads.{Prints, Deep}
use Rattle.c_tree.specs.Refused.{places, place_or, place_at, IsFar, CanRefuse}
use Rattle.c_reader.specs.declared.faults.Fault.TheVariants.{TooDeep}
use Rattle.c_reader.specs.Answered.{deep_at}
use Rattle.c_reader.proofs.Programs.{read_deep, deep_places, can_refuse}

pub deep_far : (bytes : List ℕ) (p : ProgramTree) (n : ℕ) → ((b : List ℕ) (x y : Outcome) → Lexes b x → Lexes b y → x ≡ y) → Deep bytes p n → IsFar bytes (place_at p.places bytes n)
deep_far bytes p n one d =
    rw (deep_places bytes d.tokens p n only d) (by_place (slice_get (places d.tokens) n) refl)
  where
    only : (o : Outcome) → Lexes bytes o → Ok d.tokens ≡ o
    only o l = one bytes (Ok d.tokens) o d.lexed l

    cause : CanRefuse bytes (deep_at (slice_get (places d.tokens) n) (advance start bytes))
    cause = can_refuse bytes d.tokens (TooDeep n) d.lexed (read_deep bytes d.tokens p n only d)

    same : (ts : List Token) → ◌≡◌ {A = Outcome} (Ok d.tokens) (Ok ts) → d.tokens ≡ ts
    same ts h = cc

    by_place : (o : Option Pos) → slice_get (places d.tokens) n ≡ o → IsFar bytes (place_at (places d.tokens) bytes n)
    by_place (Some at) is =
        subst (λ q. IsFar bytes (place_or q (advance start bytes))) (sym is)
        (subst (λ q. CanRefuse bytes (deep_at q (advance start bytes))) is cause)
    by_place None is =
        let c = subst (λ q. CanRefuse bytes (deep_at q (advance start bytes))) is cause in
        absurd (c.none p (subst (λ ts. Prints ts p) (same c.tokens (only (Ok c.tokens) c.lexed)) d.prints))

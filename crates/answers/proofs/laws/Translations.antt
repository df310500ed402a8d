-- Translations and restorations have one outcome, and there is one.
use Rattle.std.proofs.Common.{◌≡◌, Bool, true, false, ℕ, List, [], ◌∷◌, Option, Some, None, Result, Ok, Err, refl, sym, subst, if◌then◌else◌}
use Rattle.c_tree.specs.declared.lexer.tokens.Kind.{Kind}
use Rattle.c_tree.specs.declared.lexer.tokens.Kind.TheVariants as kind
use Rattle.c_tree.specs.declared.lexer.tokens.Word.TheVariants as word
use Rattle.c_tree.specs.declared.lexer.tokens.Pos.{Pos}
use Rattle.c_tree.specs.declared.lexer.tokens.Token.{Token}
use Rattle.c_tree.specs.Tree.{ProgramTree}
use Rattle.c_tree.specs.Reads.{Reads}
use Rattle.op_translate.specs.Edits.{Edit}
use Rattle.op_translate.specs.Translation.{Outcome, Translates, Restores, begins, or_else, first_refusal, taken, refuses_stub, uncalled, refuses_call, to_call, translation, restoration}
use Rattle.op_translate.specs.declared.refusals.TransRefusal.{TransRefusal}
use Rattle.op_translate.specs.declared.refusals.TransRefusal.TheVariants.{NameTaken, NoCall}
use Rattle.c_tree.specs.Lexed.{Lexes}
use Rattle.command_words.specs.Refusal.{Refusal, BadStub}
use Rattle.answers.specs.Said.{SaysTranslation}
use Rattle.answers.specs.Judgements.{TranslationIs, RestorationIs}
use Rattle.answers.proofs.laws.IsOne.{IsOne}
use Rattle.answers.proofs.laws.SaidOnce.{translation_once}

-- ---- one

-- what gives one outcome, and refuses as it is said, is a judgement with one outcome
module _ (one_translation : (bytes : List ℕ) (p : ProgramTree) (a b : Outcome) → Translates bytes p a → Translates bytes p b → a ≡ b) where
  pub translation_is_one : (bytes : List ℕ) (p : ProgramTree) → IsOne (TranslationIs bytes p)
  translation_is_one bytes p = record {
    refusals = λ r s h k.
        let e = one_translation bytes p (Err h.0) (Err k.0) h.1 k.1 in
        let same : h.0 ≡ k.0 = cc in
        translation_once h.0 r s h.2 (subst (λ f. SaysTranslation f s) (sym same) k.2);
    apart = λ r x h k. let e = one_translation bytes p (Err h.0) (Ok x) h.1 k in cc;
    values = λ x y h k. let e = one_translation bytes p (Ok x) (Ok y) h k in cc;
  }

module _ (one_restoration : (bytes : List ℕ) (a b : Outcome) → Restores bytes a → Restores bytes b → a ≡ b) where
  pub restoration_is_one : (bytes : List ℕ) → IsOne (RestorationIs bytes)
  restoration_is_one bytes = record {
    refusals = λ r s h k.
        let e = one_restoration bytes (Err h.0) (Err k.0) h.1 k.1 in
        let same : h.0 ≡ k.0 = cc in
        translation_once h.0 r s h.2 (subst (λ f. SaysTranslation f s) (sym same) k.2);
    apart = λ r x h k. let e = one_restoration bytes (Err h.0) (Ok x) h.1 k in cc;
    values = λ x y h k. let e = one_restoration bytes (Ok x) (Ok y) h k in cc;
  }

-- ---- some

-- a refusal, if there is one, is one of the program
abbrev IsSaid : Option TransRefusal → Type 0
IsSaid None = Unit {0}
IsSaid (Some e) = (r : Refusal) × SaysTranslation e r

or_said : (a b : Option TransRefusal) → IsSaid a → IsSaid b → IsSaid (or_else a b)
or_said None b h k = k
or_said (Some e) b h k = h

first_said : (refuses : List Token → Option TransRefusal) → ((ts : List Token) → IsSaid (refuses ts)) → (ts : List Token) → IsSaid (first_refusal refuses ts)
first_said refuses said [] = tt
first_said refuses said (t ∷ ts) = or_said (refuses (t ∷ ts)) (first_refusal refuses ts) (said (t ∷ ts)) (first_said refuses said ts)

if_said : (b : Bool) (e : TransRefusal) → (r : Refusal) × SaysTranslation e r → IsSaid (if b then Some e else None)
if_said true e h = h
if_said false e h = tt

taken_said : (k : Kind) (at : Pos) → IsSaid (taken k at)
taken_said (kind.Name x) at = if_said (begins x) (NameTaken at) (BadStub 1 at, refl)
taken_said k at = tt

stub_said : (ts : List Token) → IsSaid (refuses_stub ts)
stub_said [] = tt
stub_said (t ∷ ts) = taken_said t.kind t.at

uncalled_said : (k : Kind) (at : Pos) (e : Option Edit) → IsSaid (uncalled k at e)
uncalled_said (kind.Word word.OpParLoop) at e = (BadStub 3 at, refl)
uncalled_said (kind.Name x) at None = if_said (begins x) (NoCall at) (BadStub 2 at, refl)
uncalled_said k at e = tt

call_said : (ts : List Token) → IsSaid (refuses_call ts)
call_said [] = tt
call_said (t ∷ ts) = uncalled_said t.kind t.at (to_call (t ∷ ts))

-- a source that was read has a translation, or is refused
pub translation_exists : (bytes : List ℕ) (p : ProgramTree) → Reads bytes p → (r : Result (List ℕ) Refusal) × TranslationIs bytes p r
translation_exists bytes p reads = by_refusal (first_refusal refuses_stub reads.tokens) refl (first_said refuses_stub stub_said reads.tokens)
  where
    by_refusal : (o : Option TransRefusal) → first_refusal refuses_stub reads.tokens ≡ o → IsSaid o → (r : Result (List ℕ) Refusal) × TranslationIs bytes p r
    by_refusal None is said = (Ok (translation bytes reads.tokens p), record { tokens = reads.tokens; lexed = reads.lexed; is = rw is refl })
    by_refusal (Some e) is said = (Err said.0, (e, record { tokens = reads.tokens; lexed = reads.lexed; is = rw is refl }, said.1))

-- bytes that have tokens have a restoration, or are refused
pub restoration_exists : (bytes : List ℕ) (tokens : List Token) → Lexes bytes (Ok tokens) → (r : Result (List ℕ) Refusal) × RestorationIs bytes r
restoration_exists bytes tokens lexed = by_refusal (first_refusal refuses_call tokens) refl (first_said refuses_call call_said tokens)
  where
    by_refusal : (o : Option TransRefusal) → first_refusal refuses_call tokens ≡ o → IsSaid o → (r : Result (List ℕ) Refusal) × RestorationIs bytes r
    by_refusal None is said = (Ok (restoration bytes tokens), record { found = Ok tokens; lexed = lexed; is = rw is refl })
    by_refusal (Some e) is said = (Err said.0, (e, record { found = Ok tokens; lexed = lexed; is = rw is refl }, said.1))

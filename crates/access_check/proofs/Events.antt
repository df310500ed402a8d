-- An occurrence as an event keeps its argument, its index and its place.
use Rattle.std.proofs.Common.{◌≡◌, ℕ, ℤ, Option, Bool, refl, ap, ◌∙◌}
use Rattle.c_tree.specs.declared.lexer.tokens.Pos.{Pos}
use Rattle.kernel_model.specs.Refusals.{argument_of, index_of, place_of, Rule}
use Rattle.access_check.specs.declared.uses.Use.{Use}
use Rattle.access_check.specs.declared.uses.Use.TheVariants as used
use Rattle.access_check.specs.Uses.{use_event}
use Rattle.kernel_model.specs.Walk.{Breach, noted_if}

pub argument_is : (how : Use) (a : ℕ) (ix : Option ℤ) (at : Pos) → argument_of (use_event how a ix at) ≡ a
argument_is used.Read a ix at = refl
argument_is used.Assign a ix at = refl
argument_is used.Add a ix at = refl
argument_is used.Change a ix at = refl
argument_is (used.Own which) a ix at = refl
argument_is (used.Merge which) a ix at = refl

pub index_is : (how : Use) (a : ℕ) (ix : Option ℤ) (at : Pos) → index_of (use_event how a ix at) ≡ ix
index_is used.Read a ix at = refl
index_is used.Assign a ix at = refl
index_is used.Add a ix at = refl
index_is used.Change a ix at = refl
index_is (used.Own which) a ix at = refl
index_is (used.Merge which) a ix at = refl

pub place_is : (how : Use) (a : ℕ) (ix : Option ℤ) (at : Pos) → place_of (use_event how a ix at) ≡ at
place_is used.Read a ix at = refl
place_is used.Assign a ix at = refl
place_is used.Add a ix at = refl
place_is used.Change a ix at = refl
place_is (used.Own which) a ix at = refl
place_is (used.Merge which) a ix at = refl

pub noted_same : (rule : Rule) (b c : Bool) (at there : Pos) (f g : Option Breach) → b ≡ c → at ≡ there → f ≡ g → noted_if b rule at f ≡ noted_if c rule there g
noted_same rule b c at there f g p q r = ap (λ x. noted_if x rule at f) p ∙ ap (λ x. noted_if c rule x f) q ∙ ap (λ x. noted_if c rule there x) r

-- The windows on dats of a loop's arguments, put down one after another.
use Rattle.std.proofs.Common.{◌≡◌, ◌<◌, ◌≤◌, ◌+◌, ℕ, Bool, true, false, List, [], ◌∷◌, ◌++◌, length, take, get_or, refl, sym, ap, ◌∙◌, arith, length-append}
use Rattle.std.specs.Prelude.{if◌then◌else◌}
use Rattle.std.proofs.lemmas.List.{take_more}
use Rattle.mesh_decl.specs.Mesh.{MeshValue}
use Rattle.local_mesh.specs.declared.types.RankMesh.{RankMesh}
use Rattle.bound_program.specs.declared.sites.Arg.{Arg}
use Rattle.bound_program.specs.declared.sites.Arg.TheVariants.{Dat, Global}
use Rattle.bound_program.specs.Classes.{modifies}
use Rattle.rank_state.specs.declared.spans.Span.{Span}
use Rattle.rank_layout.specs.DatWindows.{local_by, begins_at, with_span, spans_after}
use Rattle.rank_layout.specs.WindowLaws.{dat_span, arg_span}
use Rattle.rank_layout.specs.Made.{writes_by}

pub pick : {A : Type 0} (P : A → Type 0) (c : Bool) (x y : A) → P x → P y → P (if c then x else y)
pick P true x y h g = h
pick P false x y h g = g

with_count : (s : Span) (spans : List Span) → length (with_span s spans) ≤ length spans + 1
with_count s spans =
    let more = length-append spans (s ∷ []) in
    pick (λ z. length z ≤ length spans + 1) (begins_at s.at spans) spans (spans ++ s ∷ []) (omega arith) (omega (arith, more))

module _ (span : Arg → Span) where
  after_append : (xs ys : List Arg) (spans : List Span) → spans_after span (xs ++ ys) spans ≡ spans_after span ys (spans_after span xs spans)
  after_append [] ys spans = refl
  after_append (Dat d v a ∷ xs) ys spans = after_append xs ys (with_span (span (Dat d v a)) spans)
  after_append (Global v a ∷ xs) ys spans = after_append xs ys spans

  after_more : (xs : List Arg) (i : ℕ) (d : Arg) → i < length xs
      → spans_after span (take (i + 1) xs) [] ≡ spans_after span (get_or xs i d ∷ []) (spans_after span (take i xs) [])
  after_more xs i d lt = ap (λ z. spans_after span z []) (take_more xs i d lt) ∙ after_append (take i xs) (get_or xs i d ∷ []) []

  -- an argument has one span at most
  pub one_more : (x : Arg) (spans : List Span) → length (spans_after span (x ∷ []) spans) ≤ length spans + 1
  one_more (Dat d v a) spans = with_count (span (Dat d v a)) spans
  one_more (Global v a) spans = omega arith

module _ (g : MeshValue) (m : RankMesh) (place : ℕ) (args : List Arg) where
  -- its mark is that of its dat
  same_mark : (x : Arg) (w : Bool) (spans : List Span) → w ≡ writes_by args x
      → spans_after (arg_span g m place (λ d. w)) (x ∷ []) spans ≡ spans_after (arg_span g m place (modifies args)) (x ∷ []) spans
  same_mark (Dat d v a) w spans e = ap (λ z. with_span (dat_span g m d (local_by g m place v) z) spans) e
  same_mark (Global v a) w spans e = refl

  pub pushed_more : (i : ℕ) (d : Arg) (w : Bool) (now new : List Span) → i < length args → w ≡ writes_by args (get_or args i d)
      → now ≡ spans_after (arg_span g m place (modifies args)) (take i args) []
      → new ≡ spans_after (arg_span g m place (λ e. w)) (get_or args i d ∷ []) now
      → new ≡ spans_after (arg_span g m place (modifies args)) (take (i + 1) args) []
  pushed_more i d w now new lt mark old more =
      more ∙ same_mark (get_or args i d) w now mark ∙ ap (spans_after (arg_span g m place (modifies args)) (get_or args i d ∷ [])) old
      ∙ sym (after_more (arg_span g m place (modifies args)) args i d lt)

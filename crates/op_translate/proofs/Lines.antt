-- The table of loops as parts: lines that are comments.
use Rattle.std.proofs.Common.{◌≡◌, ◌≢◌, ℕ, suc, Bool, List, [], ◌∷◌, ◌++◌, length, inl, inr, refl, sym, ap, subst, ◌∙◌, append_assoc}
use Rattle.std.specs.Prelude.{codes}
use Rattle.std.specs.List.{flat_map}
use Rattle.std.specs.Fmt.{decimal}
use Rattle.c_tree.specs.Front.{in_line}
use Rattle.c_tree.specs.Lexed.{EndsLine, AtEnd, Part, Passed, all_bytes, AreParts}
use Rattle.op_translate.specs.Stubs.{Loop, arg_text, stub_text, stubs_text, table_text}
use Rattle.op_translate.proofs.Ahead.{all_at}
use Rattle.op_translate.proofs.Named.{LoopNamed, LoopsNamed, Clean, clean_both, name_clean, decimal_clean, args_clean}
use Rattle.std.proofs.lemmas.Bool.{true≢false}

abbrev pub line_parts : List (List ℕ) → List Part
line_parts [] = []
line_parts (l ∷ ls) = Passed (codes "//" ++ l) ∷ Passed (codes "\n") ∷ line_parts ls

abbrev pub AllClean : List (List ℕ) → Type 0
AllClean [] = Unit {0}
AllClean (l ∷ ls) = Clean l × AllClean ls

no_lf : (l : List ℕ) → Clean l → (a b : List ℕ) → l ≢ a ++ 10 ∷ b
no_lf l h a b e = true≢false (sym (all_at in_line a 10 b (subst Clean e h)))

line_ends : (l rest : List ℕ) → Clean l → EndsLine (codes "//" ++ l) (10 ∷ rest)
line_ends l rest h = record {
  no_line_feed = no_lf (codes "//" ++ l) h;
  ended = λ b more e. let same : 10 ≡ b = cc in sym same;
}

-- Lines of comments stand wherever they are put.
pub lines_stand : (ls : List (List ℕ)) (fresh number : Bool) → AllClean ls → AreParts AtEnd fresh number (all_bytes (line_parts ls)) (line_parts ls)
lines_stand [] fresh number h = refl
lines_stand (l ∷ ls) fresh number h = (
  (λ n. refl),
  (
    codes "\n" ++ all_bytes (line_parts ls),
    refl,
    inr (inl (record { body = l; cut = refl; ends = line_ends l (all_bytes (line_parts ls)) h.0 })),
    (
      (λ n. absurd (true≢false (sym n))),
      (all_bytes (line_parts ls), refl, inl (record { byte = 10; cut = refl; blank = refl }), lines_stand ls _ _ h.1),
    ),
  ),
)

abbrev stub_line : ℕ → Loop → List ℕ
stub_line s l = codes " stub " ++ (decimal s ++ (codes " " ++ (l.kernel ++ (codes " " ++ (l.set ++ flat_map arg_text l.args)))))

abbrev stub_lines : ℕ → List Loop → List (List ℕ)
stub_lines s [] = []
stub_lines s (l ∷ ls) = stub_line s l ∷ stub_lines (suc s) ls

abbrev pub table_lines : List Loop → List (List ℕ)
table_lines ls = (codes " op2stubs " ++ decimal (length ls)) ∷ stub_lines 0 ls

stub_clean : (s : ℕ) (l : Loop) → LoopNamed l → Clean (stub_line s l)
stub_clean s l h =
    let six : List ℕ = flat_map arg_text l.args in
    let five : List ℕ = l.set ++ six in
    let four : List ℕ = codes " " ++ five in
    let three : List ℕ = l.kernel ++ four in
    let two : List ℕ = codes " " ++ three in
    let c5 : Clean five = clean_both l.set six (name_clean l.set h.set) (args_clean l.args h.args) in
    let c3 : Clean three = clean_both l.kernel four (name_clean l.kernel h.kernel) (clean_both (codes " ") five refl c5) in
    clean_both (codes " stub ") (decimal s ++ two) refl (clean_both (decimal s) two (decimal_clean s) (clean_both (codes " ") three refl c3))

stubs_clean : (s : ℕ) (ls : List Loop) → LoopsNamed ls → AllClean (stub_lines s ls)
stubs_clean s [] h = tt
stubs_clean s (l ∷ ls) h = (stub_clean s l h.0, stubs_clean (suc s) ls h.1)

pub table_clean : (ls : List Loop) → LoopsNamed ls → AllClean (table_lines ls)
table_clean ls h = (clean_both (codes " op2stubs ") (decimal (length ls)) refl (decimal_clean (length ls)), stubs_clean 0 ls h)

stub_bytes : (s : ℕ) (l : Loop) (rest : List ℕ) → stub_text s l ++ rest ≡ (codes "//" ++ stub_line s l) ++ (codes "\n" ++ rest)
stub_bytes s l rest = simp append_assoc refl

stubs_bytes : (s : ℕ) (ls : List Loop) → stubs_text s ls ≡ all_bytes (line_parts (stub_lines s ls))
stubs_bytes s [] = refl
stubs_bytes s (l ∷ ls) = ap (λ z. stub_text s l ++ z) (stubs_bytes (suc s) ls) ∙ stub_bytes s l (all_bytes (line_parts (stub_lines (suc s) ls)))

pub table_bytes : (ls : List Loop) → table_text ls ≡ all_bytes (line_parts (table_lines ls))
table_bytes ls =
    ap (λ z. codes "// op2stubs " ++ decimal (length ls) ++ codes "\n" ++ z) (stubs_bytes 0 ls)
    ∙ append_assoc (codes "// op2stubs " ++ decimal (length ls)) (codes "\n") (all_bytes (line_parts (stub_lines 0 ls)))

-- A line that is written in pieces.
use Rattle.std.proofs.Common.{◌≡◌, ℕ, ◌+◌, List, ◌++◌, length, take, Option, None, Some, Result, Ok, Err, OnErr, codes, refl, sym, ap, subst, ◌∙◌, arith, append_assoc, length-append}
use Rattle.std.proofs.Math.Seq.{take-append-add}
use Rattle.std.proofs.lemmas.List.{take-append-le}
use Rattle.op_outside.specs.Outside.{appended, AppendsFront}
use Rattle.command_words.specs.Lines.{whole_line}

pub appended_twice : (old : Option (List ℕ)) (a b : List ℕ) → appended (appended old a) b ≡ appended old (a ++ b)
appended_twice None a b = refl
appended_twice (Some x) a b = ap Some (append_assoc x a b)

-- what stops in the first piece is a front of the whole
pub front_first : (old : Option (List ℕ)) (a b : List ℕ) (new : Option (List ℕ)) → AppendsFront old a new → AppendsFront old (a ++ b) new
front_first old a b new f = record {
  count = f.count;
  within = omega (arith, f.within, length-append a b);
  appends = rw (take-append-le f.count a b f.within) f.appends;
}

-- what stops in the second piece, behind the first
pub front_then : (old mid : Option (List ℕ)) (a b : List ℕ) (new : Option (List ℕ)) → mid ≡ appended old a → AppendsFront mid b new → AppendsFront old (a ++ b) new
front_then old mid a b new e f = record {
  count = length a + f.count;
  within = omega (arith, f.within, length-append a b);
  appends =
      f.appends
      ∙ ap (λ v. appended v (take f.count b)) e
      ∙ appended_twice old a (take f.count b)
      ∙ ap (appended old) (sym (take-append-add a b f.count));
}

-- a line in its two pieces
pub line_pieces : (text name : List ℕ) → (codes "op2: " ++ text) ++ (name ++ codes "\n") ≡ whole_line (text ++ name)
line_pieces text name = simp append_assoc refl

-- where it stopped in the first, or in the second
pub stops_first : {T E : Type 0} (r : Result T E) (old new : Option (List ℕ)) (text name : List ℕ)
    → AppendsFront old (codes "op2: " ++ text) new
    → OnErr r (AppendsFront old (whole_line (text ++ name)) new)
stops_first (Ok v) old new text name f = tt
stops_first (Err e) old new text name f =
    subst (λ t. AppendsFront old t new) (line_pieces text name) (front_first old (codes "op2: " ++ text) (name ++ codes "\n") new f)

pub stops_then : {T E : Type 0} (r : Result T E) (old mid new : Option (List ℕ)) (text name : List ℕ)
    → mid ≡ appended old (codes "op2: " ++ text)
    → OnErr r (AppendsFront mid (name ++ codes "\n") new)
    → OnErr r (AppendsFront old (whole_line (text ++ name)) new)
stops_then (Ok v) old mid new text name e f = tt
stops_then (Err x) old mid new text name e f =
    subst (λ t. AppendsFront old t new) (line_pieces text name) (front_then old mid (codes "op2: " ++ text) (name ++ codes "\n") new e f)

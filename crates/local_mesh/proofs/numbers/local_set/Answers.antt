use Rattle.std.proofs.Common.{◌≡◌, ◌+◌, ◌<◌, ◌≤◌, ◌∙◌, ◌++◌, ◌&&◌, ℕ, List, Vec, length, get_or, false, ltb, refl, arith, sym, ap, subst}
use Rattle.std.specs.Prelude.{Option, Some, None, IfSome, IfNone}
use Rattle.std.specs.declared.alloc.Global.{Global}
use Rattle.std.proofs.lemmas.List.{length-append}
use Rattle.local_mesh.specs.Lookup.{Rises, AreStretches}
use Rattle.local_mesh.specs.Parts.{AreParts, AreSorted}
use Rattle.local_mesh.proofs.Stretches.{are_stretches}
use Rattle.local_mesh.proofs.numbers.local_set.Goals as goal

few : (a b c : List ℕ) → length (a ++ b ++ c) < 4294967296 → length a + length b + length c < 4294967296
few a b c l = omega (arith, length-append (a ++ b) c, length-append a b)

pub joined-requires : goal.joined-requires
joined-requires c = few c.args.own.now c.args.exec.now c.args.nonexec.now c.requires.parts.few

pub own_flags-requires : goal.own_flags-requires
own_flags-requires c = rw (c.deref.ensures.value ∙ c.in_ok-numbers.ensures) c.requires.parts.within

pub overflow_cast-result : goal.overflow_cast-result
overflow_cast-result c = omega (arith, few c.args.own.now c.args.exec.now c.args.nonexec.now c.requires.parts.few)

pub overflow_cast-result-2 : goal.overflow_cast-result-2
overflow_cast-result-2 c = omega (arith, few c.args.own.now c.args.exec.now c.args.nonexec.now c.requires.parts.few)

pub overflow_cast-result-3 : goal.overflow_cast-result-3
overflow_cast-result-3 c = omega (arith, few c.args.own.now c.args.exec.now c.args.nonexec.now c.requires.parts.few)

roomier : (n m : ℕ) (xs ys : List ℕ) → AreParts n xs → ys ≡ xs → n ≤ m → AreParts m ys
roomier n m xs ys p e l = subst (λ (z : List ℕ). AreParts m z) (sym e) (record {
  few = p.few;
  within = λ k lk. (let a = p.within k lk in omega arith);
  apart = p.apart;
})

-- what is so of a list that may be told is so of it as it is read
told : (v : Option (Vec ℕ Global)) (xs ys : List ℕ) → ys ≡ xs → IfSome v (λ c. AreSorted xs c.items) → IfSome v (λ c. AreSorted ys c.items)
told (Some c) xs ys e h = subst (λ (z : List ℕ). AreSorted z c.items) (sym e) h
told None xs ys e h = h

rising : (v : Option (Vec ℕ Global)) (n : ℕ) (a b c ys : List ℕ) → ys ≡ a ++ b ++ c → AreParts n (a ++ b ++ c)
    → IfNone v (Rises a × Rises b × Rises c) → IfNone v (AreStretches ys (length a) (length a + length b))
rising (Some d) n a b c ys e p h = h
rising None n a b c ys e p h = are_stretches a b c n ys e p h

pub new-requires-clause-parts : goal.new-requires-clause-parts
new-requires-clause-parts c = roomier (length c.args.core.now) (length c.args.scratch.now)
    (c.args.own.now ++ c.args.exec.now ++ c.args.nonexec.now) c.deref-2.result.now c.requires.parts
    (c.deref-2.ensures.value ∙ c.in_ok-numbers.ensures) c.requires.room

pub new-requires-clause-sorted : goal.new-requires-clause-sorted
new-requires-clause-sorted c = told c.args.copies (c.args.own.now ++ c.args.exec.now ++ c.args.nonexec.now) c.deref-2.result.now (c.deref-2.ensures.value ∙ c.in_ok-numbers.ensures) c.requires.sorted

pub new-requires-clause-rising : goal.new-requires-clause-rising
new-requires-clause-rising c = rising c.args.copies (length c.args.core.now) c.args.own.now c.args.exec.now c.args.nonexec.now
    c.deref-2.result.now (c.deref-2.ensures.value ∙ c.in_ok-numbers.ensures) c.requires.parts c.requires.rising

pub returns : goal.returns
returns c =
    let e : c.deref.result.now ≡ c.new-2.result = c.deref.ensures.value ∙ sym c.new-2.ensures in
    record {
      own = refl;
      exec = refl;
      nonexec = refl;
      original = c.new-2.ensures ∙ c.in_ok-numbers.ensures;
      core_count = c.in_ok-core.ensures.length ∙ ap (length {A = ℕ}) e;
      core = subst (λ (z : List ℕ). (k : ℕ) → k < length z
          → get_or c.in_ok-core.core.items k false ≡ (ltb k (length c.args.own.now) && get_or c.args.core.now (get_or z k 0) false)) e
          c.in_ok-core.ensures.flags;
    }

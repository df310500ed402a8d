use Rattle.std.proofs.Common.{◌≡◌, ◌++◌, ◌∷◌, ◌∙◌, List, ℕ, [], refl, sym, ap, arith, append_assoc}
use Rattle.std.specs.Fmt.{decimal}
use Rattle.plan_cert.specs.Awaited.{sizes_front}
use Rattle.plan_cert.proofs.Reading.{next_number}
use Rattle.plan_cert.proofs.Sizing.{none_refused, size_refused, other_refused, sizes_taken}
use Rattle.plan_cert.proofs.lines.take_sizes.Goals as goal
use Rattle.plan_cert.proofs.lines.take_sizes.Goals.{then-size-eq0-via-then-size-eq0, then-size-eq0-via-else-size-eq0+then-size-gt65536}

front_is : (ranks : ℕ) (none text read : List ℕ) → none ≡ [] → text ≡ none ++ sizes_front ranks → read ≡ text → read ≡ sizes_front ranks
front_is ranks none text read e t r = r ∙ (t ∙ ap (λ z. z ++ sizes_front ranks) e)

text_is : (ranks size : ℕ) (front text more all read : List ℕ) → front ≡ text → more ≡ text ++ decimal size → all ≡ more ++ 10 ∷ [] → read ≡ all → read ≡ front ++ (decimal size ++ 10 ∷ [])
text_is ranks size front text more all read f m a r = r ∙ (a ∙ (ap (λ z. z ++ 10 ∷ []) m ∙ (append_assoc text (decimal size) (10 ∷ []) ∙ ap (λ z. z ++ (decimal size ++ 10 ∷ [])) (sym f))))

pub returns-in_default-clause-judged : goal.returns-in_default-clause-judged
returns-in_default-clause-judged c = λ b meshes count size. (
  0,
  next_number c.args.lines.now c.args.lines.now c.taken-line.result c.taken-line.ensures.taken refl,
  none_refused b meshes c.args.ranks count c.args.lines.now c.told_number.result c.rest.result.now c.deref.result.now c.rest.ensures
      (front_is c.args.ranks c.new-text.result.items c.put_sizes_front.new.text.items c.deref.result.now c.new-text.ensures.items c.in_ok-put_sizes_front.ensures c.deref.ensures.value)
      c.told_number.ensures c.in_default.is size,
)

pub returns-then-size-eq0-clause-judged : goal.returns-then-size-eq0-clause-judged
returns-then-size-eq0-clause-judged c = λ b meshes count size. (
  0,
  next_number c.args.lines.now c.args.lines.now c.taken-line.result c.taken-line.ensures.taken refl,
  size_refused b meshes c.args.ranks count c.args.lines.now c.told_number.result c.rest.result.now c.deref.result.now c.rest.ensures
      (front_is c.args.ranks c.new-text.result.items c.put_sizes_front.new.text.items c.deref.result.now c.new-text.ensures.items c.in_ok-put_sizes_front.ensures c.deref.ensures.value)
      c.told_number.ensures c.in-Some.size c.in-Some.is
      (λ some few. elim c.then-size-eq0.branch [
        | then-size-eq0-via-then-size-eq0 w ↦ (let e = w.if-size-eq0.true in omega arith)
        | then-size-eq0-via-else-size-eq0+then-size-gt65536 w ↦ (let e = w.if-size-gt65536.true in omega arith)
      ])
      size,
)

pub returns-then-not-take-clause-judged : goal.returns-then-not-take-clause-judged
returns-then-not-take-clause-judged c = λ b meshes count size. (
  0,
  next_number c.args.lines.now c.args.lines.now c.taken-line.result c.taken-line.ensures.taken refl,
  other_refused b meshes c.args.ranks count c.args.lines.now c.told_number.result c.rest.result.now c.deref.result.now c.rest.ensures
      (front_is c.args.ranks c.new-text.result.items c.put_sizes_front.new.text.items c.deref.result.now c.new-text.ensures.items c.in_ok-put_sizes_front.ensures c.deref.ensures.value)
      c.told_number.ensures c.in-Some.size c.deref-2.result.now c.in-Some.is
      (text_is c.args.ranks c.in-Some.size c.deref.result.now c.put_sizes_front.new.text.items c.put_u64.new.out.items
      c.extend_from_slice.new.self.items c.deref-2.result.now c.deref.ensures.value c.in_ok-put_u64.ensures.ok
      c.in_ok-extend_from_slice.ensures.items c.deref-2.ensures.value)
      (c.take.ensures.other c.if-not-take.true) size,
)

pub returns-clause-judged : goal.returns-clause-judged
returns-clause-judged c = λ b meshes count.
    sizes_taken b meshes c.args.ranks count c.args.lines.now c.told_number.result c.rest.result.now c.deref.result.now c.rest.ensures
    (front_is c.args.ranks c.new-text.result.items c.put_sizes_front.new.text.items c.deref.result.now c.new-text.ensures.items c.in_ok-put_sizes_front.ensures c.deref.ensures.value)
    c.told_number.ensures c.in-Some.size c.deref-2.result.now c.take.new.self (omega arith) (omega arith)
    (text_is c.args.ranks c.in-Some.size c.deref.result.now c.put_sizes_front.new.text.items c.put_u64.new.out.items
    c.extend_from_slice.new.self.items c.deref-2.result.now c.deref.ensures.value c.in_ok-put_u64.ensures.ok
    c.in_ok-extend_from_slice.ensures.items c.deref-2.ensures.value)
    (c.take.ensures.taken c.if-not-take.false)

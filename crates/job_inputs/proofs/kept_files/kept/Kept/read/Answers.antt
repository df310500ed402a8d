use Rattle.std.proofs.Common.{◌≡◌, ◌<◌, ℕ, List, [], ◌∷◌, length, Option, None, Some, IsSomeAnd, option_map, drop, ◌∙◌, sym, ap, subst}
use Rattle.std.proofs.lemmas.Result.{err_from_is_err_and}
use Rattle.job_inputs.specs.Readings.{names_of, keeping, Finds, IsUnseen}
use Rattle.job_inputs.proofs.kept_files.Keeping.{unseen, found_missing, found_large, found_bytes, names_keeping, names_behind}
use Rattle.job_inputs.proofs.kept_files.kept.Kept.read.Goals as goal

pub returns-in_err-bytes-clause-unseen : goal.returns-in_err-bytes-clause-unseen
returns-in_err-bytes-clause-unseen g c =
    let p = err_from_is_err_and c.from_residual.result c.from_residual.ensures.1 in
    let name = c.args.name.now in
    let told = g.F.Shelf.told c.args.shelf.now in
    let o : Option (List ℕ) = option_map (λ v. v.items) c.next-kept.result in
    let next = c.next-kept.ensures.kept name c.requires.next.0 c.requires.next.1 in
    rw (p.1, p.2) (λ h. subst (λ rs. IsUnseen told rs name) (sym next) (unseen told name o (drop 1 c.args.self.now) (c.in_err-bytes.ensures.unkept h)))

pub returns-in_err-bytes-clause-missing : goal.returns-in_err-bytes-clause-missing
returns-in_err-bytes-clause-missing g c =
    let p = err_from_is_err_and c.from_residual.result c.from_residual.ensures.1 in
    let name = c.args.name.now in
    let told = g.F.Shelf.told c.args.shelf.now in
    let o : Option (List ℕ) = option_map (λ v. v.items) c.next-kept.result in
    let next = c.next-kept.ensures.kept name c.requires.next.0 c.requires.next.1 in
    rw (p.1, p.2) (λ h. let m = c.in_err-bytes.ensures.missing h in
    subst (λ rs. Finds told rs [] (λ files. files name ≡ None)) (sym next) (found_missing told name o (drop 1 c.args.self.now) m.0 m.1))

pub returns-in_err-bytes-clause-too_large : goal.returns-in_err-bytes-clause-too_large
returns-in_err-bytes-clause-too_large g c =
    let p = err_from_is_err_and c.from_residual.result c.from_residual.ensures.1 in
    let name = c.args.name.now in
    let told = g.F.Shelf.told c.args.shelf.now in
    let o : Option (List ℕ) = option_map (λ v. v.items) c.next-kept.result in
    let next = c.next-kept.ensures.kept name c.requires.next.0 c.requires.next.1 in
    rw (p.1, p.2) (λ h. subst (λ rs. Finds told rs [] (λ files. IsSomeAnd (files name) (λ bytes. c.args.limit < length bytes))) (sym next)
    (found_large told name o (drop 1 c.args.self.now) c.args.limit (c.in_err-bytes.ensures.too_large h)))

pub returns-clause-come : goal.returns-clause-come
returns-clause-come g c = λ rest e.
    let behind = ap (drop 1) e in
    ap names_of c.in_ok-keep.ensures ∙ (names_keeping c.args.name.now c.deref.result.now c.next-kept.new.self
    ∙ (ap names_of c.next-kept.ensures.rest ∙ (names_behind c.args.self.now ∙ behind)))

pub returns-clause-read : goal.returns-clause-read
returns-clause-read g c =
    let name = c.args.name.now in
    let told = g.F.Shelf.told c.args.shelf.now in
    let o : Option (List ℕ) = option_map (λ v. v.items) c.next-kept.result in
    let next = c.next-kept.ensures.kept name c.requires.next.0 c.requires.next.1 in
    let bytes = c.in_ok-bytes.bytes.items in
    let kept : c.keep.new.self ≡ keeping (drop 1 c.args.self.now) name bytes =
    c.in_ok-keep.ensures ∙ (ap (λ z. keeping c.next-kept.new.self name z) c.deref.ensures.value ∙ ap (λ z. keeping z name bytes) c.next-kept.ensures.rest) in
    subst (λ rs. Finds told rs c.keep.new.self (λ files. files name ≡ Some bytes)) (sym next)
    (subst (λ rs. Finds told ((name, o) ∷ drop 1 c.args.self.now) rs (λ files. files name ≡ Some bytes)) (sym kept)
    (found_bytes told name o (drop 1 c.args.self.now) bytes c.in_ok-bytes.ensures.kept c.in_ok-bytes.ensures.read))

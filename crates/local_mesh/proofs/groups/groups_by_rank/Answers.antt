use Rattle.std.proofs.Common.{◌≡◌, ◌<◌, ◌||◌, ◌∙◌, ℕ, true, List, Vec, length, get_or, nat_eq, refl, ap, sym}
use Rattle.std.specs.declared.alloc.Global.{Global}
use Rattle.std.specs.Vec.{with_items}
use Rattle.std.proofs.lemmas.List.{with_items_is}
use Rattle.lemmas.specs.Below.{row}
use Rattle.local_mesh.specs.RankSet.{has_at}
use Rattle.local_mesh.specs.declared.rank_sets.rank_set.RankSet.{RankSet}
use Rattle.lemmas.proofs.Below.{listed_agree}
use Rattle.local_mesh.specs.Standing.{stands}
use Rattle.local_mesh.proofs.Adding.{stands_below, empty_long, empty_rows}
use Rattle.local_mesh.proofs.Inverse.{ordered_agree}
use Rattle.local_mesh.proofs.groups.groups_by_rank.Goals as goal

-- the sets of ranks as they are read
read_has : (now sets : List RankSet) (lists : List (Vec ℕ Global)) → now ≡ sets → ((x r : ℕ) → has_at sets x r ≡ stands (row lists r) x) → (x r : ℕ) → has_at now x r ≡ stands (row lists r) x
read_has now sets lists e h x r = ap (λ (z : List RankSet). has_at z x r) e ∙ h x r

read_below : (now sets : List RankSet) (lists : List (Vec ℕ Global)) (ranks : ℕ) → now ≡ sets
    → ((x r : ℕ) → has_at sets x r ≡ stands (row lists r) x) → length lists ≡ ranks → (x r : ℕ) → has_at now x r ≡ true → r < ranks
read_below now sets lists ranks e h n x r t = rw (← n) (stands_below lists r x (sym (read_has now sets lists e h x r) ∙ t))

pub push_owned-requires : goal.push_owned-requires
push_owned-requires c =
    let own : length c.deref_mut.result.now ≡ c.args.ranks =
    empty_long c.deref_mut.result.now c.in_ok-own.own.items c.deref.result.now c.in_ok-counts.counts.items c.args.ranks
    c.deref_mut.ensures.value c.in_ok-own.ensures.length c.deref.ensures.value c.in_ok-counts.ensures in
    record {
      few = rw own c.requires.few;
      owners = λ x l. rw own (c.requires.owners x l);
      order = c.requires.order;
      none = λ r l. empty_rows c.deref_mut.result.now c.in_ok-own.own.items c.deref.result.now c.in_ok-counts.counts.items c.args.ranks
          c.deref_mut.ensures.value c.deref.ensures.value c.in_ok-counts.ensures c.in_ok-own.ensures.empty r (rw (← own) l);
    }

pub push_listed-requires : goal.push_listed-requires
push_listed-requires c =
    let counts : length c.in_ok-exec_counts.exec_counts.items ≡ c.args.ranks = c.in_ok-exec_counts.ensures ∙ c.requires.exec_count in
    let long : length c.deref_mut-2.result.now ≡ c.args.ranks =
    empty_long c.deref_mut-2.result.now c.in_ok-executed.executed.items c.deref-2.result.now c.in_ok-exec_counts.exec_counts.items
    c.args.ranks c.deref_mut-2.ensures.value c.in_ok-executed.ensures.length c.deref-2.ensures.value counts in
    record {
      few = rw long c.requires.few;
      below = λ x r lr t. rw long (read_below c.deref-5.result.now c.in_ok-exec_sets.exec_sets.items c.args.exec.now c.args.ranks
          c.deref-5.ensures.value c.in_ok-exec_sets.ensures.has c.requires.exec_count x r t);
      order = λ k l. rw (c.deref-5.ensures.value, c.in_ok-exec_sets.ensures.length) (c.requires.order k l);
      none = λ r l. empty_rows c.deref_mut-2.result.now c.in_ok-executed.executed.items c.deref-2.result.now
          c.in_ok-exec_counts.exec_counts.items c.args.ranks c.deref_mut-2.ensures.value c.deref-2.ensures.value counts
          c.in_ok-executed.ensures.empty r (rw (← long) l);
    }

pub push_listed-requires-2 : goal.push_listed-requires-2
push_listed-requires-2 c =
    let counts : length c.in_ok-nonexec_counts.nonexec_counts.items ≡ c.args.ranks = c.in_ok-nonexec_counts.ensures ∙ c.requires.nonexec_count in
    let long : length c.deref_mut-3.result.now ≡ c.args.ranks =
    empty_long c.deref_mut-3.result.now c.in_ok-read.read.items c.deref-3.result.now c.in_ok-nonexec_counts.nonexec_counts.items
    c.args.ranks c.deref_mut-3.ensures.value c.in_ok-read.ensures.length c.deref-3.ensures.value counts in
    record {
      few = rw long c.requires.few;
      below = λ x r lr t. rw long (read_below c.deref-6.result.now c.in_ok-nonexec_sets.nonexec_sets.items c.args.nonexec.now c.args.ranks
          c.deref-6.ensures.value c.in_ok-nonexec_sets.ensures.has c.requires.nonexec_count x r t);
      order = λ k l. rw (c.deref-6.ensures.value, c.in_ok-nonexec_sets.ensures.length) (c.requires.order k l);
      none = λ r l. empty_rows c.deref_mut-3.result.now c.in_ok-read.read.items c.deref-3.result.now
          c.in_ok-nonexec_counts.nonexec_counts.items c.args.ranks c.deref_mut-3.ensures.value c.deref-3.ensures.value counts
          c.in_ok-read.ensures.empty r (rw (← long) l);
    }

pub push_copies-requires : goal.push_copies-requires
push_copies-requires c =
    let long : length c.deref_mut-4.result.now ≡ c.args.ranks =
    empty_long c.deref_mut-4.result.now c.in_ok-copies.copies.items c.deref-4.result.now c.in_ok-counts.counts.items c.args.ranks
    c.deref_mut-4.ensures.value c.in_ok-copies.ensures.length c.deref-4.ensures.value c.in_ok-counts.ensures in
    record {
      few = rw long c.requires.few;
      size = c.requires.size;
      owners = λ x l. rw long (c.requires.owners x l);
      exec_count = ap (length {A = RankSet}) c.deref-7.ensures.value ∙ c.in_ok-exec_sets.ensures.length;
      exec_below = λ x r lr t. rw long
          (read_below c.deref-7.result.now c.in_ok-exec_sets.exec_sets.items c.args.exec.now c.args.ranks c.deref-7.ensures.value
          c.in_ok-exec_sets.ensures.has c.requires.exec_count x r t);
      nonexec_count = ap (length {A = RankSet}) c.deref-8.ensures.value ∙ c.in_ok-nonexec_sets.ensures.length;
      nonexec_below = λ x r lr t. rw long
          (read_below c.deref-8.result.now c.in_ok-nonexec_sets.nonexec_sets.items c.args.nonexec.now c.args.ranks c.deref-8.ensures.value
          c.in_ok-nonexec_sets.ensures.has c.requires.nonexec_count x r t);
      none = λ r l. empty_rows c.deref_mut-4.result.now c.in_ok-copies.copies.items c.deref-4.result.now c.in_ok-counts.counts.items
          c.args.ranks c.deref_mut-4.ensures.value c.deref-4.ensures.value c.in_ok-counts.ensures c.in_ok-copies.ensures.empty r
          (rw (← long) l);
    }

pub returns : goal.returns
returns c =
    let own : length c.deref_mut.result.now ≡ c.args.ranks =
    empty_long c.deref_mut.result.now c.in_ok-own.own.items c.deref.result.now c.in_ok-counts.counts.items c.args.ranks
    c.deref_mut.ensures.value c.in_ok-own.ensures.length c.deref.ensures.value c.in_ok-counts.ensures in
    let exec_counts : length c.in_ok-exec_counts.exec_counts.items ≡ c.args.ranks = c.in_ok-exec_counts.ensures ∙ c.requires.exec_count in
    let nonexec_counts : length c.in_ok-nonexec_counts.nonexec_counts.items ≡ c.args.ranks = c.in_ok-nonexec_counts.ensures ∙ c.requires.nonexec_count in
    let exec : length c.deref_mut-2.result.now ≡ c.args.ranks =
    empty_long c.deref_mut-2.result.now c.in_ok-executed.executed.items c.deref-2.result.now c.in_ok-exec_counts.exec_counts.items
    c.args.ranks c.deref_mut-2.ensures.value c.in_ok-executed.ensures.length c.deref-2.ensures.value exec_counts in
    let nonexec : length c.deref_mut-3.result.now ≡ c.args.ranks =
    empty_long c.deref_mut-3.result.now c.in_ok-read.read.items c.deref-3.result.now c.in_ok-nonexec_counts.nonexec_counts.items
    c.args.ranks c.deref_mut-3.ensures.value c.in_ok-read.ensures.length c.deref-3.ensures.value nonexec_counts in
    let copies : length c.deref_mut-4.result.now ≡ c.args.ranks =
    empty_long c.deref_mut-4.result.now c.in_ok-copies.copies.items c.deref-4.result.now c.in_ok-counts.counts.items c.args.ranks
    c.deref_mut-4.ensures.value c.in_ok-copies.ensures.length c.deref-4.ensures.value c.in_ok-counts.ensures in
    let e1 = with_items_is c.in_ok-own.own c.push_owned.new.lists (c.push_owned.auto.lists ∙ c.deref_mut.ensures.len) in
    let e2 = with_items_is c.in_ok-executed.executed c.push_listed.new.lists (c.push_listed.auto.lists ∙ c.deref_mut-2.ensures.len) in
    let e3 = with_items_is c.in_ok-read.read c.push_listed-2.new.lists (c.push_listed-2.auto.lists ∙ c.deref_mut-3.ensures.len) in
    let e4 = with_items_is c.in_ok-copies.copies c.push_copies.new.lists (c.push_copies.auto.lists ∙ c.deref_mut-4.ensures.len) in
    let order : ℕ → ℕ = λ j. get_or c.args.order.now j 0 in
    record {
      own_count = rw e1 (c.push_owned.auto.lists ∙ own);
      own = rw e1 (λ r l. c.in_ok-push_owned.ensures r (rw own l));
      exec_count = rw e2 (c.push_listed.auto.lists ∙ exec);
      exec = rw e2 (λ r l. c.in_ok-push_listed.ensures r (rw exec l) ∙ ordered_agree (length c.args.order.now) order (λ x. has_at c.deref-5.result.now x r) (λ x. stands (row c.args.exec.now r) x)
          (λ j lj. read_has c.deref-5.result.now c.in_ok-exec_sets.exec_sets.items c.args.exec.now c.deref-5.ensures.value c.in_ok-exec_sets.ensures.has (order j) r));
      nonexec_count = rw e3 (c.push_listed-2.auto.lists ∙ nonexec);
      nonexec = rw e3 (λ r l. c.in_ok-push_listed-2.ensures r (rw nonexec l)
          ∙ ordered_agree (length c.args.order.now) order (λ x. has_at c.deref-6.result.now x r) (λ x. stands (row c.args.nonexec.now r) x)
          (λ j lj. read_has c.deref-6.result.now c.in_ok-nonexec_sets.nonexec_sets.items c.args.nonexec.now c.deref-6.ensures.value c.in_ok-nonexec_sets.ensures.has (order j) r));
      copies = (
        with_items c.in_ok-copies.copies c.push_copies.new.lists,
        refl,
        rw e4 (c.push_copies.auto.lists ∙ copies),
        rw e4 (λ r l. c.in_ok-push_copies.ensures r (rw copies l)
            ∙ listed_agree (length c.args.owners.now)
            (λ x. nat_eq (get_or c.args.owners.now x 0) r || (has_at c.deref-7.result.now x r || has_at c.deref-8.result.now x r))
            (λ x. nat_eq (get_or c.args.owners.now x 0) r || (stands (row c.args.exec.now r) x || stands (row c.args.nonexec.now r) x))
            (λ x lx. ap (λ z. nat_eq (get_or c.args.owners.now x 0) r || (z || has_at c.deref-8.result.now x r))
            (read_has c.deref-7.result.now c.in_ok-exec_sets.exec_sets.items c.args.exec.now c.deref-7.ensures.value
            c.in_ok-exec_sets.ensures.has x r)
            ∙ ap (λ z. nat_eq (get_or c.args.owners.now x 0) r || (stands (row c.args.exec.now r) x || z))
            (read_has c.deref-8.result.now c.in_ok-nonexec_sets.nonexec_sets.items c.args.nonexec.now c.deref-8.ensures.value
            c.in_ok-nonexec_sets.ensures.has x r))),
      );
    }

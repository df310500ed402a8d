use Rattle.std.proofs.Common.{◌≡◌, ◌<◌, ◌≤◌, ℕ, true, List, length, get_or, refl, ap, ◌∙◌, arith}
use Rattle.std.specs.Prelude.{min}
use Rattle.std.proofs.lemmas.Bool.{false≢true}
use Rattle.schedule_model.specs.Program as model
use Rattle.schedule_model.specs.Layout.{message_cells}
use Rattle.bound_program.specs.Values.{BoundValue, ItemValue, Free, Reduce, Ordered, Host}
use Rattle.run_model.specs.Programs.{kind_of}
use Rattle.run_model.specs.Programs as program
use Rattle.loop_plan.specs.Needs.{item_at}
use Rattle.loop_plan.specs.StepOutline.{is_free}
use Rattle.rank_program.specs.declared.program.DistributedProgram.{DistributedProgram}
use Rattle.rank_program.specs.Sound.{program_in, plan_in, layout_in, outline_in, tables_in}
use Rattle.rank_exec.proofs.planned_run.rooms.standard_room.Goals as goal

free_kind : (i : ItemValue) → is_free i ≡ true → kind_of i ≡ model.Free
free_kind (Free s) h = refl
free_kind (Reduce s) h = absurd (false≢true h)
free_kind (Ordered s) h = absurd (false≢true h)
free_kind (Host a) h = absurd (false≢true h)

free_item : (b : BoundValue) (k : ℕ) → is_free (item_at b k) ≡ true → kind_of (program.item_at b k) ≡ model.Free
unfolding item_at
free_item b k h = free_kind (program.item_at b k) h

pub returns : goal.returns
returns c =
    let x = c.args.program.now in
    let s = c.is_sound.ensures in
    let places : c.parts.result.now.tables.places.items ≡ x.tables.places.items = ap (λ (d : DistributedProgram). d.tables.places.items) c.parts.ensures.are in
    let ranks : (plan_in x).ranks ≡ x.owners.now.ranks = s.planned.proper.ranks ∙ s.planned.distributed.are_meshes.count in
    record {
      opened = c.standard_has_room.ensures.frames (outline_in x) c.args.group c.most_open-frames.result (omega arith) (λ k r lk free lr.
          let lo : r < x.owners.now.ranks = omega arith in
          let count : length c.deref.result.now ≡ x.owners.now.ranks = ap length (c.deref.ensures.value ∙ places) ∙ s.made.place_count in
          let here : get_or c.deref.result.now r 0 ≡ (tables_in x).places r = ap (λ (z : List ℕ). get_or z r 0) (c.deref.ensures.value ∙ places) ∙ s.made.places r lo in
          let few : (layout_in x).count k r ≤ (tables_in x).places r = s.indexed.counts_fit k r (free_item (program_in x) k free) lo in
          let one : min c.args.group (get_or c.deref.result.now r 0) ≤ c.most_open-frames.result = c.most_open-frames.ensures r (omega arith) in
          let same : (outline_in x).count k r ≡ (layout_in x).count k r = refl in
          omega arith);
      mails = c.standard_has_room.ensures.mail (outline_in x) c.args.group c.in_ok-mail.mail (message_cells (layout_in x)) c.in_ok-mail.ensures;
    }

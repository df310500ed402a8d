-- From the files of a source and a mesh to the program that is bound to them.
use Rattle.std.proofs.Common.{◌≡◌, ℕ, inl, inr, List, Option, Ok, Err, refl, ap, subst}
use Rattle.std.specs.List.{Contains}
use Rattle.op_outside.specs.Outside.{Files}
use Rattle.job_inputs.specs.Readings.{Readings, names_of, Finds}
use Rattle.job_inputs.proofs.kept_files.Finding.{finds_on, finds_weaker}
use Rattle.c_tree.specs.Tree.{ProgramTree}
use Rattle.kernel_model.specs.declared.types.kernels.Resolved.{Resolved}
use Rattle.bound_program.specs.Values.{BoundValue}
use Rattle.mesh_gen.specs.Sample.{sample_source, sample_mesh}
use Rattle.command_words.specs.Refusal.{Refusal, SourceBytes, MeshBytes}
use Rattle.command_words.specs.Lines.{refused}
use Rattle.command_words.specs.Words.{InFiles, OfSample}
use Rattle.answers.specs.Judgements.{IsHeld, TreeIs, TypesAre}
use Rattle.answers.specs.Answers.{BoundAnswers}
use Rattle.command_words.specs.declared.answer_lines.refusals.Halt.{Halt}
use Rattle.command_words.specs.Halts.{StopsWhere}
use Rattle.job_inputs.specs.Inputs.{IsBoundOver, IsBoundIn}
use Rattle.job_inputs.specs.Chains.{Never, TextOver, HaltsOver}
use Rattle.command_words.proofs.Public.{stops_weaker}
use Rattle.job_inputs.proofs.Chained.{halts_weaker, halts_on, stops_on}

-- ---- files

module _ (told : Option Files) (rose : Type 0) (source mesh : List ℕ) (old : Readings) where
  abbrev Refuses : Files → Refusal → Type 0
  Refuses files r = BoundAnswers Never (InFiles source mesh) files (refused r)

  abbrev HoldSource : List ℕ → Files → Type 0
  HoldSource bytes files = IsHeld SourceBytes source (files source) (Ok bytes)

  abbrev HoldMesh : List ℕ → Files → Type 0
  HoldMesh text files = IsHeld MeshBytes mesh (files mesh) (Ok text)

  pub source_refused : (h : Halt) → HaltsOver told old (λ files r. IsHeld SourceBytes source (files source) (Err r)) rose h → HaltsOver told old Refuses rose h
  source_refused h k = halts_weaker told rose old (λ files r. IsHeld SourceBytes source (files source) (Err r)) Refuses h (λ files r j. inl (r, j, refl)) k

  module _ (mid : Readings) (bytes : List ℕ) (held : Finds told old mid (HoldSource bytes)) where
    pub tree_refused_over : (h : Halt) → StopsWhere (λ r. TreeIs bytes (Err r)) h → HaltsOver told old Refuses rose h
    tree_refused_over h s =
        stops_on told rose old mid (HoldSource bytes) held (λ r. TreeIs bytes (Err r)) Refuses h
        (λ files r k j. inr (bytes, k, inl (r, j, refl))) s

    module _ (p : ProgramTree) (reads : TreeIs bytes (Ok p)) where
      pub types_refused_over : (h : Halt) → StopsWhere (λ r. TypesAre p (Err r)) h → HaltsOver told old Refuses rose h
      types_refused_over h s =
          stops_on told rose old mid (HoldSource bytes) held (λ r. TypesAre p (Err r)) Refuses h
          (λ files r k j. inr (bytes, k, inr (p, reads, inl (r, j, refl)))) s

      module _ (types : Resolved) (typed : TypesAre p (Ok types)) where
        pub mesh_refused_over : (h : Halt) → ((name : List ℕ) → Contains (names_of mid) name → Contains (names_of old) name)
            → HaltsOver told mid (λ files r. IsHeld MeshBytes mesh (files mesh) (Err r)) rose h
            → HaltsOver told old Refuses rose h
        mesh_refused_over h named k =
            halts_on told rose old mid (HoldSource bytes) held (λ files r. IsHeld MeshBytes mesh (files mesh) (Err r)) Refuses h named
            (λ files r k j. inr (bytes, k, inr (p, reads, inr (types, typed, inl (r, j, refl))))) k

        module _ (new : Readings) (text : List ℕ) (there : Finds told mid new (HoldMesh text)) where
          abbrev HoldBoth : Files → Type 0
          HoldBoth files = HoldSource bytes files × HoldMesh text files

          both : Finds told old new HoldBoth
          both = finds_on told old mid new (HoldSource bytes) (HoldMesh text) held there

          pub text_refused_over : (h : Halt) → StopsWhere (λ r. TextOver Never p types text (refused r)) h → HaltsOver told old Refuses rose h
          text_refused_over h s =
              stops_on told rose old new HoldBoth both (λ r. TextOver Never p types text (refused r)) Refuses h
              (λ files r k j. inr (bytes, k.0, inr (p, reads, inr (types, typed, inr (text, k.1, j))))) s

          pub bound_found : (b : BoundValue) → IsBoundOver p types text b → Finds told old new (IsBoundIn (InFiles source mesh) b)
          bound_found b over =
              finds_weaker told old new HoldBoth (IsBoundIn (InFiles source mesh) b)
              (λ files k. record {
                bytes = bytes;
                program = p;
                types = types;
                text = text;
                held = k.0;
                read = reads;
                typed = typed;
                there = k.1;
                over = over;
              }) both

-- ---- the sample

module _ (side : ℕ) where
  abbrev SampleRefuses : Refusal → Type 0
  SampleRefuses r = (files : Files) → BoundAnswers Never (OfSample side) files (refused r)

  pub sample_tree_refused : (bytes : List ℕ) (h : Halt) → bytes ≡ sample_source → StopsWhere (λ r. TreeIs bytes (Err r)) h → StopsWhere SampleRefuses h
  sample_tree_refused bytes h e s =
      stops_weaker (λ r. TreeIs bytes (Err r)) SampleRefuses h
      (λ r j files. inr (sample_source, refl, inl (r, subst (λ z. TreeIs z (Err r)) e j, refl))) s

  pub sample_types_refused : (bytes : List ℕ) (p : ProgramTree) (h : Halt) → bytes ≡ sample_source → TreeIs bytes (Ok p)
      → StopsWhere (λ r. TypesAre p (Err r)) h
      → StopsWhere SampleRefuses h
  sample_types_refused bytes p h e reads s =
      stops_weaker (λ r. TypesAre p (Err r)) SampleRefuses h
      (λ r j files. inr (sample_source, refl, inr (p, subst (λ z. TreeIs z (Ok p)) e reads, inl (r, j, refl)))) s

  pub sample_text_refused : (bytes text : List ℕ) (p : ProgramTree) (types : Resolved) (h : Halt) → bytes ≡ sample_source → text ≡ sample_mesh side
      → TreeIs bytes (Ok p) → TypesAre p (Ok types)
      → StopsWhere (λ r. TextOver Never p types text (refused r)) h
      → StopsWhere SampleRefuses h
  sample_text_refused bytes text p types h e m reads typed s =
      stops_weaker (λ r. TextOver Never p types text (refused r)) SampleRefuses h
      (λ r j files. inr (
        sample_source,
        refl,
        inr (p, subst (λ z. TreeIs z (Ok p)) e reads, inr (types, typed, inr (sample_mesh side, refl, subst (λ z. TextOver Never p types z (refused r)) m j))),
      )) s

  pub sample_bound : (bytes text : List ℕ) (p : ProgramTree) (types : Resolved) (b : BoundValue) → bytes ≡ sample_source → text ≡ sample_mesh side
      → TreeIs bytes (Ok p) → TypesAre p (Ok types) → IsBoundOver p types text b
      → (files : Files) → IsBoundIn (OfSample side) b files
  sample_bound bytes text p types b e m reads typed over files = record {
    bytes = bytes;
    program = p;
    types = types;
    text = text;
    held = ap Ok e;
    read = reads;
    typed = typed;
    there = ap Ok m;
    over = over;
  }

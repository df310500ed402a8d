-- The dats that a run printed, as fields.
use Rattle.std.specs.Prelude.{◌≡◌, ◌≢◌, ℕ, zero, suc, ◌+◌, ◌<◌, ◌⊎◌, List, [], ◌∷◌, ◌++◌, Option, Some, None}
use Rattle.mesh_decl.specs.Mesh.{dat_count, dat_set, dat_dim, dat_name}
use Rattle.bound_program.specs.Values.{BoundValue}
use Rattle.mesh_draw.specs.declared.vtk_texts.field.Field.{Field}
use Rattle.mesh_draw.specs.Last.{AreLastRows, IsUnprinted, LacksLastHeader, LacksLastRows}
use Rattle.mesh_draw.specs.declared.fields.refusals.FieldRefusal.{FieldRefusal}
use Rattle.mesh_draw.specs.declared.fields.refusals.FieldRefusal.TheVariants as refusal
use Rattle.mesh_draw.specs.Numbers.{AreNumberLines, IsOther}

-- a field, where there is one
abbrev pub some_field : Option Field → List Field
some_field None = []
some_field (Some f) = f ∷ []

module _ (b : BoundValue) (output : List ℕ) where
  -- the field of a dat: its name and dim, and the lines of its last print, which have a number for each component
  pub record IsField (d : ℕ) (f : Field) : Type 0 where
    pub name : f.name ≡ dat_name b.mesh d
    pub dim : f.dim ≡ dat_dim b.mesh d
    pub before : ℕ
    pub rows : AreLastRows b d output f.rows before
    pub numbers : AreNumberLines (dat_dim b.mesh d) f.rows

  -- it, or none where the program doesn't print the dat
  abbrev pub IsFieldOrNone : (d : ℕ) → Option Field → Type 0
  IsFieldOrNone d (Some f) = IsField d f
  IsFieldOrNone d None = IsUnprinted b d

  -- what a dat adds to the fields on a set
  abbrev pub Adds : (set d : ℕ) → Option Field → Type 0
  Adds set d f = ((dat_set b.mesh d ≡ set) × IsFieldOrNone d f) ⊎ ((dat_set b.mesh d ≢ set) × (f ≡ None))

  -- the fields on a set, of the first so many dats in order
  abbrev pub AreFields : (set n : ℕ) → List Field → Type 0
  AreFields set zero fs = fs ≡ []
  AreFields set (suc n) fs =
      (before : List Field) × (f : Option Field) × AreFields set n before × Adds set n f × (fs ≡ before ++ some_field f)

  -- the lines of a dat's last print are there, and this line of the output, one of them, hasn't its numbers
  pub record LacksNumbers (d line : ℕ) : Type 0 where
    pub text : List ℕ
    pub before : ℕ
    pub rows : AreLastRows b d output text before
    pub passed : ℕ
    pub other : IsOther (dat_dim b.mesh d) text passed
    pub at : line ≡ before + passed + 1

  -- why a dat has no field; want of memory alone is free
  abbrev pub HasNoField : (d : ℕ) → FieldRefusal → Type 0
  HasNoField d (refusal.NoHeader line) = LacksLastHeader b d output line
  HasNoField d (refusal.FewRows line) = LacksLastRows b d output line
  HasNoField d (refusal.NotNumbers line) = LacksNumbers d line
  HasNoField d refusal.OutOfMemory = Unit {0}

  -- the first dat on the set that has none has none for this cause
  pub record HasNoneFor (set : ℕ) (e : FieldRefusal) : Type 0 where
    pub dat : ℕ
    pub within : dat < dat_count b.mesh
    pub on : dat_set b.mesh dat ≡ set
    pub before : List Field
    pub earlier : AreFields set dat before
    pub cause : HasNoField dat e

  -- why there are no fields on a set
  abbrev pub HaveNoFields : (set : ℕ) → FieldRefusal → Type 0
  HaveNoFields set refusal.OutOfMemory = Unit {0}
  HaveNoFields set e = HasNoneFor set e

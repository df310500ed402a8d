-- A reading in the code, as contracts see it.
use Rattle.std.specs.Prelude.{ℕ, List, Option, option_map}
use Rattle.job_inputs.specs.declared.kept_files.kept.Reading.{Reading}

-- the name of a file that was read, and its bytes, if they are kept
abbrev pub reading_of : Reading → List ℕ × Option (List ℕ)
reading_of r = (r.name.now, option_map (λ v. v.items) r.bytes)

use Rattle.std.proofs.Common.{◌≡◌, ◌<◌, ◌^◌, ◌∙◌, List, ℕ, length, arith}
use Rattle.mesh_gen.specs.declared.source.TheConstants.{SOURCE}
use Rattle.mesh_gen.specs.Sample.{sample_source}
use Rattle.mesh_gen.proofs.Short.{text_is_read, text_is_short}
use Rattle.mesh_gen.proofs.write.sample.Goals as goal

pub returns-clause-read : goal.returns-clause-read
returns-clause-read c = text_is_read c.in_ok-mesh.mesh.items c.in_ok-entries.entries.entries c.args.n (omega arith) c.in_ok-entries.ensures c.in_ok-mesh.ensures.spells

pub returns-clause-short : goal.returns-clause-short
returns-clause-short c = text_is_short c.in_ok-mesh.mesh.items c.in_ok-entries.entries.entries c.args.n (omega arith) c.in_ok-entries.ensures c.in_ok-mesh.ensures.canonical

source_is : (xs : List ℕ) → xs ≡ SOURCE.now → xs ≡ sample_source
unfolding sample_source
source_is xs e = e

source_is_short : (xs : List ℕ) → xs ≡ SOURCE.now → length xs < 2 ^ 16
source_is_short xs e = rw e (omega arith)

pub returns-clause-source : goal.returns-clause-source
returns-clause-source c = source_is c.in_ok-source.source.items (c.in_ok-source.ensures.items ∙ c.as_bytes.ensures.value)

pub returns-clause-short_source : goal.returns-clause-short_source
returns-clause-short_source c = source_is_short c.in_ok-source.source.items (c.in_ok-source.ensures.items ∙ c.as_bytes.ensures.value)

-- A kernel that is refused doesn't obey its modes.
use Rattle.std.proofs.Common.{List}
use Rattle.kernel_model.specs.declared.types.kernels.RKernel.{RKernel}
use Rattle.kernel_model.specs.Obeys.{Mode}
use Rattle.kernel_model.specs.Refusals as model
use Rattle.kernel_model.specs.Refusals.{ObeysUnlessBroken}
use Rattle.access_check.specs.declared.refusals.AccessRefusal.{AccessRefusal}
use Rattle.access_check.specs.declared.refusals.AccessRefusal.TheVariants as refusal
use Rattle.access_check.specs.Refusals.{Refuses, Disobeys}

pub refused_disobeys : ObeysUnlessBroken → (k : RKernel) (modes : List Mode) (e : AccessRefusal) → Refuses k modes e → Disobeys k modes e
refused_disobeys law k modes (refusal.WritesRead at) r = λ o. (law k modes).0 o model.WritesRead at r.breaks
refused_disobeys law k modes (refusal.ReadsInc at) r = λ o. (law k modes).0 o model.ReadsInc at r.breaks
refused_disobeys law k modes (refusal.IncNotSum at) r = λ o. (law k modes).0 o model.IncNotSum at r.breaks
refused_disobeys law k modes (refusal.ReadsUnwritten at) r = λ o. (law k modes).0 o model.ReadsUnwritten at r.breaks
refused_disobeys law k modes (refusal.NotAllWritten at) r = λ o. (law k modes).0 o model.NotAllWritten at r.breaks
refused_disobeys law k modes (refusal.WriteIndexNotStatic at) r = λ o. (law k modes).0 o model.WriteIndexNotStatic at r.breaks
refused_disobeys law k modes (refusal.LiteralIndexOut at) r = λ o. (law k modes).0 o model.LiteralIndexOut at r.breaks
refused_disobeys law k modes (refusal.MinMaxForm at) r = λ o. (law k modes).0 o model.MinMaxForm at r.breaks
refused_disobeys law k modes refusal.OutOfMemory r = tt

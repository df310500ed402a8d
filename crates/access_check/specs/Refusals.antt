-- What a refusal says of a kernel.
use Rattle.std.specs.Prelude.{List}
use Rattle.kernel_model.specs.declared.types.kernels.RKernel.{RKernel}
use Rattle.kernel_model.specs.Obeys.{Mode, KernelObeys}
use Rattle.kernel_model.specs.Refusals as model
use Rattle.kernel_model.specs.Refusals.{IsRefusal}
use Rattle.access_check.specs.declared.refusals.AccessRefusal.{AccessRefusal}
use Rattle.access_check.specs.declared.refusals.AccessRefusal.TheVariants as refusal

-- a refusal names the rule that counts, and its place; want of memory says nothing
abbrev pub Refuses : RKernel → List Mode → AccessRefusal → Type 0
Refuses k modes (refusal.WritesRead at) = IsRefusal k modes model.WritesRead at
Refuses k modes (refusal.ReadsInc at) = IsRefusal k modes model.ReadsInc at
Refuses k modes (refusal.IncNotSum at) = IsRefusal k modes model.IncNotSum at
Refuses k modes (refusal.ReadsUnwritten at) = IsRefusal k modes model.ReadsUnwritten at
Refuses k modes (refusal.NotAllWritten at) = IsRefusal k modes model.NotAllWritten at
Refuses k modes (refusal.WriteIndexNotStatic at) = IsRefusal k modes model.WriteIndexNotStatic at
Refuses k modes (refusal.LiteralIndexOut at) = IsRefusal k modes model.LiteralIndexOut at
Refuses k modes (refusal.MinMaxForm at) = IsRefusal k modes model.MinMaxForm at
Refuses k modes refusal.OutOfMemory = Unit {0}

-- the kernel doesn't obey its modes, unless memory ran out
abbrev pub Disobeys : RKernel → List Mode → AccessRefusal → Type 0
Disobeys k modes refusal.OutOfMemory = Unit {0}
Disobeys k modes e = ¬ KernelObeys k modes

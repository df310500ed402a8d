-- What a loop that fits says of its arguments.
use Rattle.std.proofs.Common.{ℕ, All, get_or}
use Rattle.bound_program.specs.declared.sites.Arg.{Arg}
use Rattle.bound_program.specs.declared.sites.Arg.TheVariants.{Dat, Global}
use Rattle.bound_program.specs.Values.{BoundValue, SiteValue}
use Rattle.bound_program.specs.Fits.{ArgFits, SiteFits}
use Rattle.rank_layout.specs.Numbered.{ArgNamed}

pub arg_named : (b : BoundValue) (set : ℕ) (x : Arg) → ArgFits b set x → ArgNamed b x
arg_named b set (Dat d v a) fit = (fit.0, fit.1)
arg_named b set (Global v a) fit = (fit.0, fit.2)

pub args_named : (b : BoundValue) (site : SiteValue) → SiteFits b site → All (ArgNamed b) site.args
args_named b site fits = λ i d lt. arg_named b site.set (get_or site.args i d) (fits.args i d lt)

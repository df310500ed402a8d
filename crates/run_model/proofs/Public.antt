-- What proofs of other crates use of this one: laws of its definitions, and nothing of its code.

-- What arguments reach, and lists of it without what stands in them before.
pub use Rattle.run_model.proofs.Reached.{Member, by_one, of_different, same_true, same_refl, not_same}
-- The windows of an element's run are the cells that its arguments reach, each once.
pub use Rattle.run_model.proofs.Windows.{mode_is, is_argument, wide, below}
-- The constants that kernels read are cells of variables that are constants.
pub use Rattle.run_model.proofs.Constants.{constants_long}
-- Where cells stand in one memory: within it, and apart.
pub use Rattle.run_model.proofs.Memory.{dat_there, has_var, inside, var_there, has_dat, apart, follow, dats_follow, vars_follow}
pub use Rattle.run_model.proofs.Memory.{after_dats}

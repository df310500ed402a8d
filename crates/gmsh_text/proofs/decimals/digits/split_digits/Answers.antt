use Rattle.gmsh_text.proofs.decimals.Numbers.{front-digits}
use Rattle.gmsh_text.proofs.decimals.digits.split_digits.Goals as goal

pub returns-clause-digits : goal.returns-clause-digits
returns-clause-digits c = rw c.split_at.ensures.front (rw c.digits_len.ensures.size (front-digits c.args.text.now))

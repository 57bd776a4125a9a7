-- Tests on the sorts of tokens.
use Rattle.std.specs.Prelude.{Bool, true, false}
use Rattle.dactl_terminals.specs.declared.token.Sort.{Sort}
use Rattle.dactl_terminals.specs.declared.token.Sort.TheVariants.{Upper, Lower, Integer}

-- the tokens that begin an expression
abbrev pub starts_expr : Sort → Bool
starts_expr Lower = true
starts_expr Integer = true
starts_expr Upper = true
starts_expr _ = false

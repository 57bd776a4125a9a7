use Rattle.std.proofs.Common.{ap, sym, ◌∙◌}
use Rattle.dactl_contractum.specs.Writing.{gives, some_give}
use Rattle.dactl_contractum.proofs.Writings.{gives_symbol}
use Rattle.dactl_contractum.proofs.overwriting.+overwritable.Goals as goal

pub is_overwritable-returns-in-Sym : goal.is_overwritable-returns-in-Sym
is_overwritable-returns-in-Sym t c =
    c.in_arguments.ensures ∙ ap (some_give _ c.args.variable) c.as_slice.ensures ∙ sym (gives_symbol _ c.args.variable c.in-Sym.symbol c.in-Sym.args) ∙ ap (gives _ c.args.variable) (sym c.in-Sym.is)

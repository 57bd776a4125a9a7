-- Expressions as the code puts them.
use Rattle.std.specs.Prelude.{◌≡◌, ◌&&◌, List, map}
use Rattle.std.specs.List.{list_all}
use Rattle.fun_meaning.specs.declared.tree.Expr.{Expr}
use Rattle.fun_meaning.specs.declared.tree.Fun.{Fun}
use Rattle.fun_meaning.specs.Names.{Spelling}
use Rattle.fun_meaning.specs.Values.{is_constructor}
use Rattle.fun_compile.specs.declared.terms.Put as code
use Rattle.fun_compile.specs.declared.terms.Arguments.{Arguments}
use Rattle.fun_compile.specs.Translated.{Put, arg_put, waiting, made_put, put}

-- what the code puts, as what is defined
abbrev pub shown : code.Put → Put
shown p = record { pure = p.pure; term = p.term }

-- the arguments are these, and so many of them are not pure
pub record ArePut (puts : List Put) (a : Arguments) : Type 0 where
  pub args : a.args ≡ map arg_put puts
  pub waiting : a.waiting ≡ waiting puts

-- a name over the terms of its arguments
abbrev pub made_of : Fun → Spelling → List Expr → Put
made_of e g args = let puts = map (put e) args in made_put (is_constructor e g && list_all (λ a. a.pure) puts) g puts

use Rattle.std.proofs.Common.{◌-◌, ◌≤◌, List, sym, ◌∙◌, subst, arith}
use Rattle.std.specs.Prelude.{Contains}
use Rattle.std.proofs.lemmas.List.Elements.{All-contains}
use Rattle.dactl_meaning.specs.Meaning.{NamedPattern}
use Rattle.dactl_patterns.specs.Levels.{level_in}
use Rattle.dactl_patterns.proofs.Descending.{is_free}
use Rattle.dactl_patterns.proofs.levels.is_free.Goals as goal

pub returns : goal.returns
returns c = λ below.
    is_free c.args.web.now.text.now (level_in c.args.levels.now) c.args.pattern c.requires
    (λ b has.
    let lower : level_in c.args.levels.now b ≤ c.level-own.result - 1 =
    All-contains (λ (a : NamedPattern). level_in c.args.levels.now a ≤ c.level-own.result - 1) c.as_slice.result.now b (c.are_below.ensures below)
    (subst (λ (l : List NamedPattern). Contains l b) (sym (c.as_slice.ensures.value ∙ c.in_ok-names.ensures)) has) in
    omega (arith, c.level-own.ensures))

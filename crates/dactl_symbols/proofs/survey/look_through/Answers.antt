use Rattle.std.proofs.Common.{ap, ◌∙◌}
use Rattle.std.specs.List.{enumerate_from}
use Rattle.dactl_meaning.specs.Declarations.{built_in_names}
use Rattle.dactl_symbols.specs.Finds.{Finds, finds_of, no_finds, joined, joined_all, module_finds}
use Rattle.dactl_symbols.proofs.Joined.{joined_numbered-more, all_numbered}
use Rattle.dactl_symbols.proofs.survey.look_through.Goals as goal

abbrev start : Finds
start = record no_finds { names = built_in_names }

pub loop-owner-preserved : goal.loop-owner-preserved
loop-owner-preserved c = joined_numbered-more module_finds c.as_slice-tree-items.result.now c.loop-owner.owner c.tree-item.result start (finds_of c.loop-owner.survey) (finds_of c.add_module.new.self) c.loop-owner-test.true c.tree-item.is c.loop-owner.invariant c.in_ok-add_module.ensures

pub returns : goal.returns
returns c =
    c.loop-owner.invariant ∙ ap (λ l. joined start (joined_all module_finds l)) (all_numbered c.as_slice-tree-items.result.now c.loop-owner.owner c.loop-owner-test.false)
    ∙ ap (λ l. joined start (joined_all module_finds (enumerate_from 0 l))) c.as_slice-tree-items.ensures

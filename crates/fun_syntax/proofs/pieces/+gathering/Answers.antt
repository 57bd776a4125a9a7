use Rattle.fun_syntax.proofs.Layers.{pieces-more, pieces-last}
use Rattle.fun_syntax.proofs.pieces.+gathering.Goals as goal

pub gather_all-loop-tree-preserved : goal.gather_all-loop-tree-preserved
gather_all-loop-tree-preserved t c = pieces-more c.args.trees.now c.loop-tree.tree-index c.tree-item.result c.args.found.now.items c.loop-tree.found.items c.gather.new.found.items c.loop-tree-test.true c.tree-item.is c.loop-tree.invariant c.in_ok-gather.ensures

pub gather-returns-in_ok-gather_all-in-Made : goal.gather-returns-in_ok-gather_all-in-Made
gather-returns-in_ok-gather_all-in-Made t c =
    pieces-last c.args.found.now.items c.push-in-Made.new.self.items c.gather_all.new.found.items c.in-Made.name c.in_ok-name-in-Made.name c.in-Made.args c.as_slice.result.now c.len-count.result c.args.tree.now
    c.in_ok-name-in-Made.ensures c.len-count.ensures c.as_slice.ensures c.in-Made.is c.in_ok-push-in-Made.ensures.items c.in_ok-gather_all-in-Made.ensures

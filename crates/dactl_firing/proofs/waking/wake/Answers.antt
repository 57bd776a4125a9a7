use Rattle.std.proofs.Common.{◌++◌, ◌∷◌, [], cond, sym, ap, ◌∙◌, refl}
use Rattle.dactl_firing.specs.Waking.{with_nodes}
use Rattle.dactl_firing.proofs.Woken.{wake_idle, wake_other}
use Rattle.dactl_firing.proofs.waking.wake.Goals as goal

pub returns-then-is_idle : goal.returns-then-is_idle
returns-then-is_idle c =
    let idle = sym c.is_idle.ensures ∙ c.if-is_idle.true in
    record {
      graph = ap (λ h. h.graph) c.set_mark.ensures ∙ ap (with_nodes c.args.store.now.graph) (wake_idle c.args.node.number c.args.store.now.graph.nodes idle);
      versions = ap (λ h. h.versions) c.set_mark.ensures;
      room = ap (λ h. h.room) c.set_mark.ensures;
      newest = ap (λ h. h.newest) c.set_mark.ensures;
      list = ap (λ w. w.list) c.push.ensures ∙ sym (ap (λ b. cond b (c.args.woken.now.list ++ c.args.node ∷ []) c.args.woken.now.list) idle);
      list_room = ap (λ w. w.room) c.push.ensures;
    }

pub returns-else-is_idle : goal.returns-else-is_idle
returns-else-is_idle c =
    let other = sym c.is_idle.ensures ∙ c.if-is_idle.false in
    record {
      graph = ap (with_nodes c.args.store.now.graph) (wake_other c.args.node.number c.args.store.now.graph.nodes other);
      versions = refl;
      room = refl;
      newest = refl;
      list = sym (ap (λ b. cond b (c.args.woken.now.list ++ c.args.node ∷ []) c.args.woken.now.list) other);
      list_room = refl;
    }

use Rattle.std.proofs.Common.{ap, sym, refl, subst, ◌∙◌, inl, inr}
use Rattle.std.proofs.lemmas.Option.{same_Some}
use Rattle.dactl_model.specs.Acts.{acts_from}
use Rattle.dactl_model.specs.Ending.{needed_by}
use Rattle.dactl_store.specs.Held.{left_in}
use Rattle.dactl_store.specs.Start.{Fits}
use Rattle.dactl_firing.proofs.Ready.{can_make, match_of}
use Rattle.dactl_firing.proofs.firing.fire.Goals as goal

pub returns-then-needed-left-clause-err : goal.returns-then-needed-left-clause-err
returns-then-needed-left-clause-err c = record {
  rule = c.rule.result.now;
  is_rule = c.rule.ensures;
  needed = c.needed_by-needed.ensures;
  left = c.left-left.ensures.left;
  above = elim c.then-needed-left.either [ inl nodes ↦ inl nodes | inr arcs ↦ inr arcs.1 ];
  same = refl;
  empty = ap (λ w. w.list) c.clear.ensures;
}

pub make-requires-clause-body : goal.make-requires-clause-body
make-requires-clause-body c =
    can_make c.args.program.now c.args.store.now.graph c.args.node c.args.rule c.rule.result.now c.args.bindings.now c.requires.program c.rule.ensures c.requires.matching

pub returns-clause-ok : goal.returns-clause-ok
returns-clause-ok c =
    let found = c.rule.result.now in
    let old = c.args.store.now in
    let tested : Fits c.needed_by-needed.result c.left-left.result = record { nodes = c.if-needed-left.false; arcs = c.if-needed-left-2.false } in
    let within : Fits c.needed_by-needed.result (left_in old) = subst (λ left. Fits c.needed_by-needed.result left) c.left-left.ensures.left tested in
    let fits : Fits (needed_by found.body) (left_in old) = subst (λ needed. Fits needed (left_in old)) c.needed_by-needed.ensures within in
    record {
      fits = λ rule is. subst (λ r. Fits (needed_by r.body) (left_in old)) (same_Some found rule (sym c.rule.ensures ∙ is)) fits;
      graph = record {
        rule = found;
        bindings = c.args.bindings.now;
        is_rule = c.rule.ensures;
        is_match = match_of c.args.program.now old.graph c.args.node c.args.rule found c.args.bindings.now c.rule.ensures c.requires.matching;
        after = c.make.ensures.graph;
      };
      versions = c.make.ensures.versions;
      room = c.make.ensures.room;
      newest = c.make.ensures.newest;
      woken = c.make.ensures.list ∙ ap (λ g. acts_from old.graph c.args.node 0 g.nodes) (sym c.make.ensures.graph);
    }

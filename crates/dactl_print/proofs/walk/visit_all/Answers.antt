use Rattle.std.proofs.Common.{◌≡◌, ◌+◌, ◌<◌, ◌++◌, ◌∷◌, [], length, sym, ap, ◌∙◌, subst, refl, arith}
use Rattle.dactl_print.proofs.Numbers.{numbers_entered, free_entered, free_all, number_found, number_zero}
use Rattle.dactl_print.proofs.Walking.{leads_same, leads_begun, leads_over, leads_pop, leads_pass, leads_enter, rest_more, rest_none, frames_popped, frames_put, nodes_put, short_popped, short_put, short_entered}
use Rattle.dactl_print.specs.declared.walk.Frame.{Frame}
use Rattle.dactl_print.proofs.walk.visit_all.Goals as goal

pub loop-frame-init : goal.loop-frame-init
loop-frame-init g c =
    let graph = g.V.View.graph c.args.view.now in
    let table = c.args.numbers.now in
    let root = c.root.result in
    let e = c.enter.ensures in
    let order : c.enter.new.order.items ≡ root ∷ [] = e.order ∙ ap (λ l. l ++ root ∷ []) c.requires.no_order in
    let path : c.enter.new.path.items ≡ record { node = root; done = 0 } ∷ [] = e.path ∙ ap (λ l. l ++ record { node = root; done = 0 } ∷ []) c.requires.no_path in
    let size = c.args.order.now.len in
    let long : size ≡ 0 = omega (arith, c.args.order.now.ok.0, ap length c.requires.no_order) in
    let is_root : root.number ≡ graph.root.number = ap (λ n. n.number) c.root.ensures in
    let inside : root.number < length table = omega (arith, is_root, c.requires.formed.root, c.requires.room) in
    record {
      numbers = numbers_entered table _ [] _ size root e.numbers order long c.requires.none inside (c.requires.none root inside);
      left = free_entered table _ [] _ size root e.numbers order (omega (arith, free_all table c.requires.none)) inside (c.requires.none root inside);
      short = omega (arith, ap length path, ap length order);
      nodes = nodes_put graph [] _ root order (λ k d below. absurd (omega arith)) (omega (arith, is_root, c.requires.formed.root));
      frames = frames_put graph [] _ (record { node = root; done = 0 }) path (λ k d below. absurd (omega arith)) (omega (arith, is_root, c.requires.formed.root));
      leads = leads_begun graph _ _ root c.root.ensures path order;
      order_capacity = omega arith;
      path_capacity = omega arith;
    }

pub loop-frame-preserved-then-numbers-target-eq0 : goal.loop-frame-preserved-then-numbers-target-eq0
loop-frame-preserved-then-numbers-target-eq0 g c =
    let graph = g.V.View.graph c.args.view.now in
    let now = c.loop-frame.invariant in
    let table = c.loop-frame.numbers in
    let before = c.loop-frame.order.items in
    let t = c.in-Some-next_target.target in
    let f = c.in-Some.frame in
    let h : Frame = record { node = f.node; done = f.done + 1 } in
    let n : Frame = record { node = t; done = 0 } in
    let below = c.pop.new.self.items in
    let next = rest_more _ f.done t c.in-Some-next_target.ensures.target in
    let has = c.in-Some-next_target.ensures.node in
    let popped = frames_popped graph _ below f c.in-Some.ensures.items now.frames in
    let entered = c.enter-then-numbers-target-eq0.ensures in
    let inside : t.number < length table = omega (arith, has, c.requires.room, c.loop-frame.auto.numbers) in
    let zero = c.if-numbers-target-eq0.true in
    let leads = leads_same graph (below ++ f ∷ []) _ before before (sym c.in-Some.ensures.items) refl now.leads in
    record {
      numbers = numbers_entered table _ before _ c.loop-frame.order.len t entered.numbers entered.order (omega (arith, c.loop-frame.order.ok.0)) now.numbers inside zero;
      left = free_entered table _ before _ c.loop-frame.order.len t entered.numbers entered.order now.left inside zero;
      short = short_entered _ _ n before _ t entered.path entered.order (short_put _ below _ f h before c.in-Some.ensures.items c.put.ensures.items now.short);
      nodes = nodes_put graph before _ t entered.order now.nodes has;
      frames = frames_put graph _ _ n entered.path (frames_put graph below _ h c.put.ensures.items popped.0 popped.1) has;
      leads =
          leads_same graph _ ((below ++ h ∷ []) ++ n ∷ []) _ (before ++ t ∷ []) (entered.path ∙ ap (λ l. l ++ n ∷ []) c.put.ensures.items) entered.order
          (leads_enter graph below f h t before leads next (number_zero 1 before t (omega arith) (sym (now.numbers t inside) ∙ zero)));
      order_capacity = omega (arith, now.order_capacity, entered.order_capacity);
      path_capacity = omega (arith, now.path_capacity, c.pop.ensures.capacity, c.put.ensures.capacity, entered.path_capacity);
    }

pub loop-frame-preserved-else-numbers-target-eq0 : goal.loop-frame-preserved-else-numbers-target-eq0
loop-frame-preserved-else-numbers-target-eq0 g c =
    let graph = g.V.View.graph c.args.view.now in
    let now = c.loop-frame.invariant in
    let table = c.loop-frame.numbers in
    let before = c.loop-frame.order.items in
    let t = c.in-Some-next_target.target in
    let f = c.in-Some.frame in
    let h : Frame = record { node = f.node; done = f.done + 1 } in
    let below = c.pop.new.self.items in
    let next = rest_more _ f.done t c.in-Some-next_target.ensures.target in
    let has = c.in-Some-next_target.ensures.node in
    let popped = frames_popped graph _ below f c.in-Some.ensures.items now.frames in
    let inside : t.number < length table = omega (arith, has, c.requires.room, c.loop-frame.auto.numbers) in
    let leads = leads_same graph (below ++ f ∷ []) _ before before (sym c.in-Some.ensures.items) refl now.leads in
    record {
      numbers = now.numbers;
      left = now.left;
      short = short_put _ below _ f h before c.in-Some.ensures.items c.put.ensures.items now.short;
      nodes = now.nodes;
      frames = frames_put graph below _ h c.put.ensures.items popped.0 popped.1;
      leads =
          leads_same graph _ (below ++ h ∷ []) _ before c.put.ensures.items refl
          (leads_pass graph below f h t before leads next (number_found 1 before t (subst (λ k. 0 < k) (now.numbers t inside) (omega (arith, c.if-numbers-target-eq0.false)))));
      order_capacity = now.order_capacity;
      path_capacity = omega (arith, now.path_capacity, c.pop.ensures.capacity, c.put.ensures.capacity);
    }

pub loop-frame-preserved : goal.loop-frame-preserved
loop-frame-preserved g c =
    let graph = g.V.View.graph c.args.view.now in
    let now = c.loop-frame.invariant in
    let before = c.loop-frame.order.items in
    let f = c.in-Some.frame in
    let below = c.pop.new.self.items in
    let leads = leads_same graph (below ++ f ∷ []) _ before before (sym c.in-Some.ensures.items) refl now.leads in
    record {
      numbers = now.numbers;
      left = now.left;
      short = short_popped _ below f before c.in-Some.ensures.items now.short;
      nodes = now.nodes;
      frames = (frames_popped graph _ below f c.in-Some.ensures.items now.frames).0;
      leads = leads_pop graph below f before leads (rest_none _ f.done c.in_default-next_target.ensures.target);
      order_capacity = now.order_capacity;
      path_capacity = omega (arith, now.path_capacity, c.pop.ensures.capacity);
    }

pub returns-clause-order : goal.returns-clause-order
returns-clause-order g c =
    let graph = g.V.View.graph c.args.view.now in
    let now = c.loop-frame.invariant in
    leads_over graph c.loop-frame.path.items c.loop-frame.order.items (omega (arith, c.loop-frame.path.ok.0, c.in_default.ensures.cases.0)) now.leads

use Rattle.std.proofs.Common.{◌≡◌, length, refl, sym, ◌∙◌, subst}
use Rattle.std.proofs.lemmas.List.{with_items_is}
use Rattle.std.specs.Vec.{with_items}
use Rattle.dactl_steal.specs.Others.{OthersFit}
use Rattle.dactl_steal.proofs.Owns.{found_there, alone_there}
use Rattle.dactl_steal.proofs.board.StealHand.find.Goals as goal

pub returns-clause-same : goal.returns-clause-same
returns-clause-same g c = let written = with_items_is c.args.self.now.others c.steal.new.others (c.steal.ensures.long ∙ c.as_mut_slice.ensures.len) in record {
  badge = refl;
  number = refl;
  back = refl;
  own = c.take.ensures.same;
  kept = c.take.ensures.reserve;
  others = λ me deques fits. subst (OthersFit me deques) (sym written) (c.steal.ensures.kept me deques (subst (OthersFit me deques) (sym c.as_mut_slice.ensures.value) fits));
}

pub returns-clause-found : goal.returns-clause-found
returns-clause-found g c = let written = with_items_is c.args.self.now.others c.steal.new.others (c.steal.ensures.long ∙ c.as_mut_slice.ensures.len) in
    found_there c.args.self.now (record c.args.self.now { own = c.take.new.self; others = with_items c.args.self.now.others c.steal.new.others }) _ _ c.as_mut_slice.ensures.value written _ c.in_default.ensures.taken c.steal.ensures.taken

pub returns-clause-alone : goal.returns-clause-alone
returns-clause-alone g c all = let written = with_items_is c.args.self.now.others c.steal.new.others (c.steal.ensures.long ∙ c.as_mut_slice.ensures.len) in
    alone_there c.args.self.now (record c.args.self.now { own = c.take.new.self; others = with_items c.args.self.now.others c.steal.new.others }) _ _ c.as_mut_slice.ensures.value written _ _ _ _ (c.in_default.ensures.alone all) c.steal.ensures.taken

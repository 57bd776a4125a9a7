use Rattle.std.proofs.Common.{◌≡◌, ◌++◌, ◌∙◌, subst, map, refl, ap, Contains, [], Some, None}
use Rattle.dactl_meaning.specs.Contractum.{fresh_of, made_by}
use Rattle.dactl_meaning.specs.RuleFaults.{contractum_faults}
use Rattle.dactl_symbols.specs.Least.{TellsLeast}
use Rattle.dactl_symbols.specs.Scoping.{seen_in}
use Rattle.dactl_contractum.specs.Initials.{root_in}
use Rattle.dactl_contractum.specs.Told.{drawn_faults}
use Rattle.dactl_contractum.specs.Drawing.{made_in}
use Rattle.dactl_contractum.specs.Meant.{nodes_with}
use Rattle.dactl_contractum.proofs.Meanings.{nodes_told, symbols_many}
use Rattle.dactl_contractum.proofs.FirstGraphs.{read_one, root_told}
use Rattle.dactl_contractum.proofs.initials.read_terms.Goals as goal

pub returns-in-Some : goal.returns-in-Some
returns-in-Some c =
    let told : c.contractum_faults.new.faults.items ≡ contractum_faults (seen_in c.args.scopes.now c.args.owner) [] [] c.args.terms.now =
    c.in_ok-symbols.ensures.faults ∙ (λ j. c.new-faults.ensures.items j ++ drawn_faults (seen_in c.args.scopes.now c.args.owner) (c.in_ok-none.ensures j) (c.in_ok-none.ensures j) (c.in_ok-contractum.ensures.drawn.made j) (c.in_ok-contractum.ensures.drawn.mentions j)) in
    let first = subst (λ o. TellsLeast (Contains c.as_slice.result.now) o) c.in-Some.is c.first.ensures in
    record {
      read = read_one (seen_in c.args.scopes.now) (record { owner = c.args.owner; terms = c.args.terms.now }) (Some c.in-Some.refusal)
          (subst (λ l. TellsLeast (Contains l) (Some c.in-Some.refusal)) (c.as_slice.ensures.value ∙ told) first) c.in_ok-contractum.ensures.counts;
      start = λ e. cc;
    }

pub returns : goal.returns
returns c =
    let told : c.contractum_faults.new.faults.items ≡ contractum_faults (seen_in c.args.scopes.now c.args.owner) [] [] c.args.terms.now =
    c.in_ok-symbols.ensures.faults ∙ (λ j. c.new-faults.ensures.items j ++ drawn_faults (seen_in c.args.scopes.now c.args.owner) (c.in_ok-none.ensures j) (c.in_ok-none.ensures j) (c.in_ok-contractum.ensures.drawn.made j) (c.in_ok-contractum.ensures.drawn.mentions j)) in
    let first = subst (λ o. TellsLeast (Contains c.as_slice.result.now) o) c.in-None.is c.first.ensures in
    let look = seen_in c.args.scopes.now c.args.owner in
    let drawn = c.in_ok-contractum.ensures.drawn in
    let made = made_in c.in_ok-contractum.contractum.drawing in
    record {
      read = read_one (seen_in c.args.scopes.now) (record { owner = c.args.owner; terms = c.args.terms.now }) None
          (subst (λ l. TellsLeast (Contains l) None) (c.as_slice.ensures.value ∙ told) first) c.in_ok-contractum.ensures.counts;
      start = λ e j. Some (record {
        fresh = (c.in_ok-fresh-in-None.ensures ∙ ap (nodes_with c.in_ok-none.none made made) (c.as_slice-in-None.ensures.value ∙ c.in_ok-symbols.ensures.symbols) ∙ nodes_told look c.in_ok-none.none made made
            ∙ (λ k. map (fresh_of look (c.in_ok-none.ensures k) (drawn.made k)) (drawn.made k))) j;
        root = (c.root-root.ensures ∙ (λ k. root_in (c.in_ok-none.ensures k) (drawn.made k) (drawn.stand k)) ∙ root_told c.args.terms.now (made_by c.args.terms.now) refl) j;
      });
    }

pub fresh-requires-clause-symbols : goal.fresh-requires-clause-symbols
fresh-requires-clause-symbols c = symbols_many (seen_in c.args.scopes.now c.args.owner) c.in_ok-contractum.contractum.drawing.made.items c.as_slice-in-None.result.now (c.as_slice-in-None.ensures.value ∙ c.in_ok-symbols.ensures.symbols)

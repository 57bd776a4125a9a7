use Rattle.std.proofs.Common.{map, ap, ◌∙◌}
use Rattle.fun_compile.specs.Translated.{group_of, equation_tree}
use Rattle.fun_compile.specs.Knowing.{told}
use Rattle.fun_compile.proofs.Groups.{put_together}
use Rattle.fun_compile.proofs.terms.Translator.groups.Goals as goal

pub returns : goal.returns
returns c =
    let e = c.args.self.now.fun.now in
    put_together e (told c.args.firsts.now) c.in_ok-groups.groups c.push_rests.new.groups c.push_rule.new.groups c.push_rule-2.new.groups c.in_ok-check_rule.field-0 c.in_ok-rest_rule.field-0 c.requires.firsts
    (c.in_ok-groups.ensures ∙ ap (map (λ eq. group_of (equation_tree e eq))) c.as_slice.ensures) c.in_ok-push_rests.ensures c.in_ok-check_rule.ensures c.in_ok-push_rule.ensures c.in_ok-rest_rule.ensures c.in_ok-push_rule-2.ensures

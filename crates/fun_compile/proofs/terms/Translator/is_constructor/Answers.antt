use Rattle.std.proofs.Common.{rules, ◌≡◌, ◌||◌, codes, sym, ◌∙◌}
use Rattle.std.specs.Str.{bytes_eq}
use Rattle.fun_compile.specs.Knowing.{has_name}
use Rattle.fun_compile.proofs.SameNames.{constructor_known}
use Rattle.fun_compile.proofs.terms.Translator.is_constructor.Goals as goal

pub returns-else-eq-2 : goal.returns-else-eq-2
returns-else-eq-2 c =
    let name = c.args.name.now in
    let e : c.contains.result ≡ (bytes_eq name (codes "True") || (bytes_eq name (codes "False") || has_name c.args.self.now.declared name)) = search rules in
    e ∙ constructor_known c.args.self.now.fun.now name (has_name c.args.self.now.declared name) (c.requires name)

use Rattle.std.proofs.Common.{rules, ◌≡◌, sym, ◌∙◌}
use Rattle.std.specs.List.{list_any}
use Rattle.std.specs.Str.{bytes_eq}
use Rattle.fun_compile.proofs.SameNames.{operations, operation_known}
use Rattle.fun_compile.proofs.names.is_operation.Goals as goal

pub returns-else-eq-4 : goal.returns-else-eq-4
returns-else-eq-4 c = let e : c.eq-else-eq-4.result ≡ list_any (bytes_eq c.args.name.now) operations = search rules in e ∙ sym (operation_known c.args.name.now)

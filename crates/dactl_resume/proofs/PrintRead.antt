-- Of a graph's print its restriction is read.
use Rattle.std.proofs.Common.{◌≡◌, ℕ, List, sym, subst}
use Rattle.dactl_model.specs.declared.graph.NodeId.{NodeId}
use Rattle.dactl_model.specs.declared.graph.Graph.{Graph}
use Rattle.dactl_model.specs.declared.program.Program.{Program}
use Rattle.dactl_model.specs.Graphs.{IsWellFormed}
use Rattle.dactl_model.specs.Programs.{IsValid}
use Rattle.dactl_print.specs.Lines.{IsGraphText}
use Rattle.dactl_resume.specs.Answers.{IsRead}
use Rattle.dactl_resume.specs.Restriction.{IsRestriction, IsPrintable}
use Rattle.dactl_resume.specs.Statements.{PrintIsRead}
use Rattle.dactl_resume.proofs.Texts.{text_comes_back}
use Rattle.dactl_resume.proofs.Canonical.{restriction_is_canonical}
use Rattle.dactl_resume.proofs.Existing.{has_restriction}
use Rattle.dactl_resume.proofs.Printable.{restriction_is_printable}
use Rattle.dactl_resume.proofs.SameText.{read_is_restriction}

read_there : (p : Program) (g h : Graph) (text : List ℕ) → IsValid p → IsWellFormed g → IsPrintable p g → IsGraphText p g text → IsRead p text h → (order : List NodeId) × IsRestriction g order h
read_there p g h text valid fine printable has read =
    let there = has_restriction g has.order fine has.is_order in
    let same : h ≡ there.0 = read_is_restriction p g h there.0 has.order text valid there.1 (restriction_is_printable p g there.0 has.order fine printable there.1) has read.fine read.canonical read.printable read.print in
    (has.order, subst (IsRestriction g has.order) (sym same) there.1)

read_back : (p : Program) (g h : Graph) (text : List ℕ) (order : List NodeId) → IsWellFormed g → IsPrintable p g → IsGraphText p g text → IsRestriction g order h → IsRead p text h
read_back p g h text order fine printable has is = record {
  fine = is.fine;
  canonical = (restriction_is_canonical g h order is).0;
  printable = restriction_is_printable p g h order fine printable is;
  print = text_comes_back p order h g text is.fine is.within has;
}

pub print_is_read : PrintIsRead
print_is_read p g h text valid fine printable has = (read_there p g h text valid fine printable has, λ is. read_back p g h text is.0 fine printable has is.1)

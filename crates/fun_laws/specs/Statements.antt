-- Statements about translations of equations, with premises on the equations alone.
use Rattle.std.specs.Prelude.{List}
use Rattle.dactl_model.specs.declared.graph.Graph.{Graph}
use Rattle.dactl_model.specs.declared.graph.Entry.{Entry}
use Rattle.dactl_model.specs.declared.program.Program.{Program}
use Rattle.dactl_model.specs.Programs.{IsValid}
use Rattle.dactl_model.specs.Firing.{start_of}
use Rattle.dactl_model.specs.Steps.{Reduction}
use Rattle.dactl_meaning.specs.Faults.{NoFault}
use Rattle.dactl_meaning.specs.Meaning.{program_of, TreeFault}
use Rattle.dactl_meaning.specs.Spelling.{IsSpelled}
use Rattle.dactl_validity.specs.Counting.{IsCountable}
use Rattle.fun_meaning.specs.declared.tree.Expr.{Expr}
use Rattle.fun_meaning.specs.declared.tree.Fun.{Fun}
use Rattle.fun_meaning.specs.Values.{HasValue}
use Rattle.fun_meaning.specs.Meaning.{symbol_names, Unfolds}
use Rattle.fun_meaning.specs.Translation.{IsProgramOf}
use Rattle.fun_meaning.specs.Invariant.{IsTidy}
use Rattle.fun_meaning.specs.Sound.{AreSound, AreSmall}
use Rattle.fun_meaning.specs.Spelt.{AreSpelt, AreLight}
use Rattle.fun_compile.specs.Translated.{translated}

-- the program of the translation
abbrev pub program_for : Fun → Program
program_for e = program_of (translated e)

-- a run of it leads to the graph
abbrev pub LeadsTo : Fun → List Entry → Graph → Type 0
LeadsTo e journal g = Reduction (program_for e) (start_of (program_for e).start) journal g

-- ---- the translation

-- the translation of sound equations means a program of them
abbrev pub TranslationIsProgram : Type 0
TranslationIsProgram = (e : Fun) → AreSound e → IsProgramOf e (program_for e)

-- it has no fault, where the equations are not too large either, so it means a program
abbrev pub TranslationHasNoFault : Type 0
TranslationHasNoFault = (e : Fun) → AreSound e → AreSmall e → NoFault (TreeFault (translated e))

-- it is spelled as tokens and the grammar could shape it
abbrev pub TranslationIsSpelled : Type 0
TranslationIsSpelled = (e : Fun) → AreSpelt e → IsSpelled (translated e)

-- what it makes can be counted
abbrev pub TranslationIsCountable : Type 0
TranslationIsCountable = (e : Fun) → AreSmall e → AreLight e → IsCountable (translated e)

-- its program is valid
abbrev pub TranslationIsValid : Type 0
TranslationIsValid = (e : Fun) → AreSound e → AreSmall e → AreSpelt e → AreLight e → IsValid (program_for e)

-- ---- its runs

-- each graph of a run keeps the invariant
abbrev pub RunsAreTidy : Type 0
RunsAreTidy = (e : Fun) (journal : List Entry) (g : Graph) → AreSound e → AreSmall e → AreSpelt e → AreLight e → LeadsTo e journal g → IsTidy e (program_for e) g

-- what the root unfolds to after a run is the value that the equations give
abbrev pub ValuesAreMeant : Type 0
ValuesAreMeant =
    (e : Fun) (journal : List Entry) (g : Graph) (v : Expr) → AreSound e → AreSmall e → AreSpelt e → AreLight e → LeadsTo e journal g → Unfolds e (symbol_names (program_for e)) g g.root v
    → HasValue e e.main v

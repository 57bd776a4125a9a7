-- Journals of steps: their growth at the end, and what they determine.
use Rattle.std.proofs.Common.{◌≡◌, List, [], ◌∷◌, ◌++◌, refl, sym, ◌∙◌, subst, arith}
use Rattle.dactl_model.specs.declared.graph.Graph.{Graph}
use Rattle.dactl_model.specs.declared.graph.Entry.{Entry}
use Rattle.dactl_model.specs.declared.graph.End.TheVariants.{Normal, Budget, Full}
use Rattle.dactl_model.specs.declared.program.Program.{Program}
use Rattle.dactl_model.specs.Graphs.{IsWellFormed}
use Rattle.dactl_model.specs.Programs.{IsValid}
use Rattle.dactl_model.specs.Steps.{Step, Reduction}
use Rattle.dactl_model.specs.Laws.{GrowsAtTheEnd, HasOneReduction, HasOneKindOfEnd}
use Rattle.dactl_model.proofs.OneMatch.{has_one_step}
use Rattle.dactl_model.proofs.KeptFire.{keeps_well_formed}

-- one journal after another
pub Reduction-append : (p : Program) (g mid after : Graph) (first second : List Entry) → Reduction p g first mid → Reduction p mid second after → Reduction p g (first ++ second) after
Reduction-append p g mid after [] second run more = subst (λ x. Reduction p x second after) run more
Reduction-append p g mid after (entry ∷ first) second run more = (run.0, run.1, Reduction-append p run.0 mid after first second run.2 more)

-- the graph between them
pub Reduction-split : (p : Program) (g after : Graph) (first second : List Entry) → Reduction p g (first ++ second) after → (mid : Graph) × Reduction p g first mid × Reduction p mid second after
Reduction-split p g after [] second run = (g, refl, run)
Reduction-split p g after (entry ∷ first) second run =
    let rest = Reduction-split p run.0 after first second run.2 in
    (rest.0, (run.0, run.1, rest.1), rest.2)

pub Reduction-push : (p : Program) (g mid after : Graph) (journal : List Entry) (entry : Entry) → Reduction p g journal mid → Step p mid entry.event after → Reduction p g (journal ++ entry ∷ []) after
Reduction-push p g mid after journal entry run step = Reduction-append p g mid after journal (entry ∷ []) run (after, step, refl)

pub Reduction-last : (p : Program) (g after : Graph) (journal : List Entry) (entry : Entry) → Reduction p g (journal ++ entry ∷ []) after → (mid : Graph) × Reduction p g journal mid × Step p mid entry.event after
Reduction-last p g after journal entry run =
    let parts = Reduction-split p g after journal (entry ∷ []) run in
    (parts.0, parts.1, subst (λ x. Step p parts.0 entry.event x) (sym parts.2.2) parts.2.1)

pub grows_at_the_end : GrowsAtTheEnd
grows_at_the_end p g after journal entry = (Reduction-last p g after journal entry, λ parts. Reduction-push p g parts.0 after journal entry parts.1 parts.2)

pub reduction_keeps : (p : Program) (g after : Graph) (journal : List Entry) → IsValid p → IsWellFormed g → Reduction p g journal after → IsWellFormed after
reduction_keeps p g after [] valid fine run = subst IsWellFormed (sym run) fine
reduction_keeps p g after (entry ∷ journal) valid fine run = reduction_keeps p run.0 after journal valid (keeps_well_formed p g run.0 entry.event valid fine run.1) run.2

pub same_reduction : (p : Program) (g after other : Graph) (journal : List Entry) → IsValid p → IsWellFormed g → Reduction p g journal after → Reduction p g journal other → after ≡ other
same_reduction p g after other [] valid fine run also = run ∙ sym also
same_reduction p g after other (entry ∷ journal) valid fine run also =
    let same : also.0 ≡ run.0 = has_one_step p g also.0 run.0 entry.event valid fine also.1 run.1 in
    same_reduction p run.0 after other journal valid (keeps_well_formed p g run.0 entry.event valid fine run.1) run.2 (subst (λ x. Reduction p x journal other) same also.2)

pub has_one_reduction : HasOneReduction
has_one_reduction p g after other journal valid fine run also = (same_reduction p g after other journal valid fine run also, reduction_keeps p g after journal valid fine run)

pub has_one_kind_of_end : HasOneKindOfEnd
has_one_kind_of_end p limits journal g Normal Normal one other = tt
has_one_kind_of_end p limits journal g Normal Budget one other = one other.1 other.2
has_one_kind_of_end p limits journal g Normal (Full n r needed left) one other = one n other.1.allowed.active
has_one_kind_of_end p limits journal g Budget Normal one other = other one.1 one.2
has_one_kind_of_end p limits journal g Budget Budget one other = tt
has_one_kind_of_end p limits journal g Budget (Full n r needed left) one other = let all = one.0 in let fewer = other.0 in absurd (omega arith)
has_one_kind_of_end p limits journal g (Full n r needed left) Normal one other = other n one.1.allowed.active
has_one_kind_of_end p limits journal g (Full n r needed left) Budget one other = let fewer = one.0 in let all = other.0 in absurd (omega arith)
has_one_kind_of_end p limits journal g (Full n r needed left) (Full m s needs has) one other = tt

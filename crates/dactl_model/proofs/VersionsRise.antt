-- Versions never fall, and an equal version means equal content.
use Rattle.std.proofs.Common.{◌≡◌, ℕ, ◌≤◌, List, ◌++◌, length, take, Some, sym, ◌∙◌, ap, subst, arith, length-append, append_assoc, inl, inr}
use Rattle.std.proofs.lemmas.List.{take-append-le}
use Rattle.std.proofs.lemmas.Bool.{cases_lt}
use Rattle.dactl_model.specs.declared.graph.NodeId.{NodeId}
use Rattle.dactl_model.specs.declared.graph.Entry.{Entry}
use Rattle.dactl_model.specs.declared.program.Program.{Program}
use Rattle.dactl_model.specs.Programs.{IsValid}
use Rattle.dactl_model.specs.Firing.{start_of}
use Rattle.dactl_model.specs.Steps.{Reduction}
use Rattle.dactl_model.specs.Versions.{Content, content, HasContent}
use Rattle.dactl_model.specs.Laws.{VersionsRise, SameVersionSameContent, ShownStays}
use Rattle.dactl_model.proofs.KeptFire.{begins_well_formed}
use Rattle.dactl_model.proofs.Reductions.{same_reduction}

-- a node has one content at most after so many entries
pub one_content : (p : Program) (journal : List Entry) (i : ℕ) (n : NodeId) (c d : Content) → IsValid p → HasContent p journal i n c → HasContent p journal i n d → c ≡ d
one_content p journal i n c d valid first second =
    let same : first.graph ≡ second.graph = same_reduction p (start_of p.start) first.graph second.graph (take i journal) valid (begins_well_formed p valid) first.reduced second.reduced in
    let both : Some c ≡ Some d = sym first.is ∙ (ap (λ g. content g n) same ∙ second.is) in
    cc

-- what holds after the first entries of a longer journal holds after those of the shorter one
pub carried : (p : Program) (journal more : List Entry) (i : ℕ) (n : NodeId) (c : Content) → i ≤ length journal → HasContent p (journal ++ more) i n c → HasContent p journal i n c
carried p journal more i n c within has = record {
  graph = has.graph;
  reduced = subst (λ js. Reduction p (start_of p.start) js has.graph) (take-append-le i journal more within) has.reduced;
  is = has.is;
}

longer : (journal more : List Entry) (i : ℕ) → i ≤ length journal → i ≤ length (journal ++ more)
longer journal more i within = omega (arith, length-append journal more)

pub versions_rise : VersionsRise
versions_rise p journal more n a b valid before after =
    elim (cases_lt b a) [
      | inl falls ↦ absurd (before.least b after.latest falls (λ i from to. carried p journal more i n after.latest to (after.kept i from (longer journal more i to))))
      | inr rises ↦ rises
    ]

pub same_version_same_content : SameVersionSameContent
same_version_same_content p journal more n k c d valid before after has has_then =
    let then : HasContent p journal (length journal) n after.latest = carried p journal more (length journal) n after.latest (omega arith) (after.kept (length journal) before.within (longer journal more (length journal) (omega arith))) in
    let last : HasContent p (journal ++ more) (length (journal ++ more)) n after.latest = after.kept (length (journal ++ more)) after.within (omega arith) in
    one_content p journal (length journal) n c after.latest valid has then ∙ one_content p (journal ++ more) (length (journal ++ more)) n after.latest d valid last has_then

pub shown_stays : ShownStays
shown_stays p entries more r shown = record {
  prefix = shown.prefix;
  rest = shown.rest ++ more;
  parts = ap (λ es. es ++ more) shown.parts ∙ append_assoc shown.prefix shown.rest more;
  has = shown.has;
  version = shown.version;
}

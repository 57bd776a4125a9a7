-- The least of all faults that the code finds is the least fault of the text's scope.
use Rattle.std.proofs.Common.{◌≡◌, ℕ, ◌^◌, ◌<◌, ◌≤◌, ◌⊎◌, inl, inr, List, map, Option, length, refl, sym, ap, ◌∙◌, subst, arith}
use Rattle.std.proofs.lemmas.Option.{slice_get_cases}
use Rattle.dactl_base.specs.declared.refusal.Kind.{Kind}
use Rattle.dactl_base.specs.declared.refusal.Kind.TheVariants as kinds
use Rattle.dactl_base.specs.declared.refusal.Place.{Place}
use Rattle.dactl_base.specs.declared.refusal.Refusal.{Refusal}
use Rattle.dactl_meaning.specs.declared.tree.Text.{Text}
use Rattle.dactl_meaning.specs.Faults.{NoFault}
use Rattle.dactl_meaning.specs.Declarations.{Declaration, all_names, own_names}
use Rattle.dactl_meaning.specs.Sight.{Import, imports}
use Rattle.dactl_meaning.specs.Uses.{Use, uses}
use Rattle.dactl_meaning.specs.ScopeFaults.{HasScopeFault, ScopeFault, TwiceDeclared, UnknownModule, UnknownName, NotVisible, PublicTooStrong, NoInitial, TwoInitials, most_names}
use Rattle.dactl_symbols.specs.Least.{sooner, least_by, TellsLeast}
use Rattle.dactl_symbols.specs.declared.survey.Survey.{Survey}
use Rattle.dactl_symbols.specs.declared.survey.Import as code
use Rattle.dactl_symbols.specs.Declaring.{declaration_of, import_of}
use Rattle.dactl_symbols.specs.Finds.{byte_of, finds_of, text_finds}
use Rattle.dactl_symbols.specs.Sights.{Sights, AreLinks}
use Rattle.dactl_symbols.specs.Scoping.{IsScopesOf}
use Rattle.dactl_symbols.specs.UseFaults.{use_fault}
use Rattle.dactl_symbols.specs.Counting.{import_fault, flat_fault}
use Rattle.dactl_symbols.proofs.Sooner.{tells-same, tells-sooner}
use Rattle.dactl_symbols.proofs.Single.{Of}
use Rattle.dactl_symbols.proofs.Again.{tells-again}
use Rattle.dactl_symbols.proofs.Found.{names-found, imports-found, strong-found, initials-found, rules-found}
use Rattle.dactl_symbols.proofs.Counts.{InitialFault, NamesBeyond, RulesBeyond, tells-imports, tells-strong, tells-initial, tells-names, tells-rules}
use Rattle.dactl_symbols.proofs.Used.{UseFault, tells-uses}
use Rattle.dactl_symbols.proofs.Scoped.{sees-some, scopes-of}

-- ---- the faults by their passes

abbrev Declared : Text → Refusal → Type 0
Declared text r = Of kinds.TwiceDeclared (TwiceDeclared text) r ⊎ Of kinds.UnknownModule (UnknownModule text) r

abbrev Stated : Text → Refusal → Type 0
Stated text r = Of kinds.PublicTooStrong (PublicTooStrong text) r ⊎ InitialFault text r

abbrev Counted : Text → Refusal → Type 0
Counted text r = Of kinds.TooMany (NamesBeyond text) r ⊎ Of kinds.TooMany (RulesBeyond text) r

abbrev Flat : Text → Refusal → Type 0
Flat text r = (Declared text r ⊎ Stated text r) ⊎ Counted text r

abbrev Passed : Text → Refusal → Type 0
Passed text r = Flat text r ⊎ UseFault text r

of_kind : (text : Text) (k : Kind) (place : Place) → HasScopeFault text k place.byte → Passed text (record { kind = k; place = place })
of_kind text kinds.TwiceDeclared place h = inl (inl (inl (inl (refl, h))))
of_kind text kinds.UnknownModule place h = inl (inl (inl (inr (refl, h))))
of_kind text kinds.UnknownName place h = inr (inl (refl, h))
of_kind text kinds.NotVisible place h = inr (inr (refl, h))
of_kind text kinds.PublicTooStrong place h = inl (inl (inr (inl (refl, h))))
of_kind text kinds.NoInitial place h = inl (inl (inr (inr (inl (refl, h)))))
of_kind text kinds.TwoInitials place h = inl (inl (inr (inr (inr (refl, h)))))
of_kind text kinds.TooMany place (inl h) = inl (inr (inl (refl, h)))
of_kind text kinds.TooMany place (inr h) = inl (inr (inr (refl, h)))
of_kind text _ place h = absurd h

as_kind : (text : Text) (k : Kind) (P : ℕ → Type 0) → ((p : ℕ) → P p → HasScopeFault text k p) → (r : Refusal) → Of k P r → ScopeFault text r
as_kind text k P holds r h = subst (λ x. HasScopeFault text x r.place.byte) (sym h.0) (holds r.place.byte h.1)

all_passes : (text : Text) (r : Refusal) → Passed text r → ScopeFault text r
all_passes text r (inl (inl (inl (inl h)))) = as_kind text kinds.TwiceDeclared (TwiceDeclared text) (λ p x. x) r h
all_passes text r (inl (inl (inl (inr h)))) = as_kind text kinds.UnknownModule (UnknownModule text) (λ p x. x) r h
all_passes text r (inl (inl (inr (inl h)))) = as_kind text kinds.PublicTooStrong (PublicTooStrong text) (λ p x. x) r h
all_passes text r (inl (inl (inr (inr (inl h))))) = as_kind text kinds.NoInitial (NoInitial text) (λ p x. x) r h
all_passes text r (inl (inl (inr (inr (inr h))))) = as_kind text kinds.TwoInitials (TwoInitials text) (λ p x. x) r h
all_passes text r (inl (inr (inl h))) = as_kind text kinds.TooMany (NamesBeyond text) (λ p x. inl x) r h
all_passes text r (inl (inr (inr h))) = as_kind text kinds.TooMany (RulesBeyond text) (λ p x. inr x) r h
all_passes text r (inr (inl h)) = as_kind text kinds.UnknownName (UnknownName text) (λ p x. x) r h
all_passes text r (inr (inr h)) = as_kind text kinds.NotVisible (NotVisible text) (λ p x. x) r h

-- ---- all passes

tells-flat : (text : Text) (is : List Import) (strong firsts rs : List Place) → is ≡ imports text → map byte_of strong ≡ (text_finds text).strong → map byte_of firsts ≡ (text_finds text).initials → map byte_of rs ≡ (text_finds text).rules
    → TellsLeast (Flat text) (flat_fault (all_names text) is strong firsts rs text.length)
tells-flat text is strong firsts rs imports_are strong_is initials_is rules_is =
    tells-sooner (λ r. Declared text r ⊎ Stated text r) (Counted text) _ _
    (tells-sooner (Declared text) (Stated text) _ _
    (tells-sooner (Of kinds.TwiceDeclared (TwiceDeclared text)) (Of kinds.UnknownModule (UnknownModule text)) _ _ (tells-again text) (subst (λ l. TellsLeast (Of kinds.UnknownModule (UnknownModule text)) (least_by (import_fault (all_names text)) l)) (sym imports_are) (tells-imports text)))
    (tells-sooner (Of kinds.PublicTooStrong (PublicTooStrong text)) (InitialFault text) _ _ (tells-strong text strong (strong_is ∙ strong-found text)) (tells-initial text firsts (initials_is ∙ initials-found text))))
    (tells-sooner (Of kinds.TooMany (NamesBeyond text)) (Of kinds.TooMany (RulesBeyond text)) _ _ (tells-names text) (tells-rules text rs (rules_is ∙ rules-found text)))

-- the least of the faults of all passes
pub tells-scope : (text : Text) (s : Sights) (is : List Import) (strong firsts rs : List Place) → s.names ≡ (text_finds text).names → is ≡ (text_finds text).imports → AreLinks s.names is s.links → map byte_of strong ≡ (text_finds text).strong → map byte_of firsts ≡ (text_finds text).initials → map byte_of rs ≡ (text_finds text).rules
    → TellsLeast (ScopeFault text) (sooner (flat_fault s.names is strong firsts rs text.length) (least_by (λ (u : ℕ × Use). use_fault s u.0 u.1) (uses text)))
tells-scope text s is strong firsts rs names_are imports_are links strong_is initials_is rules_is =
    let names : s.names ≡ all_names text = names_are ∙ names-found text in
    let imported : is ≡ imports text = imports_are ∙ imports-found text in
    let linked : AreLinks (all_names text) (imports text) s.links = subst (λ l. AreLinks (all_names text) l s.links) imported (subst (λ ds. AreLinks ds is s.links) names links) in
    tells-same (Passed text) (ScopeFault text) (sooner (flat_fault s.names is strong firsts rs text.length) (least_by (λ (u : ℕ × Use). use_fault s u.0 u.1) (uses text)))
    (all_passes text) (λ r h. of_kind text r.kind r.place h)
    (tells-sooner (Flat text) (UseFault text) _ _
    (subst (λ ds. TellsLeast (Flat text) (flat_fault ds is strong firsts rs text.length)) (sym names) (tells-flat text is strong firsts rs imported strong_is initials_is rules_is))
    (tells-uses text s (sees-some text s names linked)))

-- ---- a text with no fault

few_names : (text : Text) → NoFault (ScopeFault text) → length (all_names text) < 2 ^ 32
few_names text none =
    elim (slice_get_cases (own_names text) most_names).1 [
      | inl there ↦ absurd (none (record { kind = kinds.TooMany; place = there.0.name.place }) (inl (rw there.2 refl)))
      | inr short ↦ let below : length (own_names text) ≤ 16384 = short.0 in omega arith
    ]

pub scopes-text : (text : Text) (s : Sights) (is : List Import) → s.names ≡ (text_finds text).names → is ≡ (text_finds text).imports → AreLinks s.names is s.links → NoFault (ScopeFault text) → IsScopesOf text s
scopes-text text s is names_are imports_are links none =
    let names : s.names ≡ all_names text = names_are ∙ names-found text in
    let imported : is ≡ imports text = imports_are ∙ imports-found text in
    scopes-of text s names (subst (λ l. AreLinks (all_names text) l s.links) imported (subst (λ ds. AreLinks ds is s.links) names links)) (few_names text none)

-- ---- the whole call

module _ (text : Text) (survey : Survey) (s : Sights) (names : List Declaration) (is linked : List code.Import)
    (found : finds_of survey ≡ text_finds text) (names_are : names ≡ map declaration_of survey.declared.items) (held : s.names ≡ names) (imports_are : is ≡ survey.imports.items) (linked_are : linked ≡ survey.imports.items)
    (links : AreLinks names (map import_of linked) s.links) where
  held_names : s.names ≡ (text_finds text).names
  held_names = held ∙ names_are ∙ ap (λ f. f.names) found

  listed_imports : map import_of is ≡ (text_finds text).imports
  listed_imports = ap (map import_of) imports_are ∙ ap (λ f. f.imports) found

  held_links : AreLinks s.names (map import_of is) s.links
  held_links = subst (λ l. AreLinks s.names (map import_of l) s.links) (linked_are ∙ sym imports_are) (subst (λ ds. AreLinks ds (map import_of linked) s.links) (sym held) links)

  -- what is answered is the least fault of the text's scope
  pub tells-all : (strong firsts rs : List Place) (flat used o : Option Refusal) → strong ≡ survey.too_strong.items → firsts ≡ survey.initials.items → rs ≡ survey.rules.items → flat ≡ flat_fault names (map import_of is) strong firsts rs text.length → used ≡ least_by (λ (u : ℕ × Use). use_fault s u.0 u.1) (uses text) → o ≡ sooner flat used → TellsLeast (ScopeFault text) o
  tells-all strong firsts rs flat used o strong_are firsts_are rs_are flat_is used_is is_least =
      subst (TellsLeast (ScopeFault text)) (sym (is_least ∙ (λ j. sooner (flat_is j) (used_is j)) ∙ ap (λ ds. sooner (flat_fault ds (map import_of is) strong firsts rs text.length) (least_by (λ (u : ℕ × Use). use_fault s u.0 u.1) (uses text))) (sym held)))
      (tells-scope text s (map import_of is) strong firsts rs held_names listed_imports held_links (ap (map byte_of) strong_are ∙ ap (λ f. f.strong) found) (ap (map byte_of) firsts_are ∙ ap (λ f. f.initials) found) (ap (map byte_of) rs_are ∙ ap (λ f. f.rules) found))

  -- and where there is none, the scopes are those of the text
  pub scopes-all : NoFault (ScopeFault text) → IsScopesOf text s
  scopes-all none = scopes-text text s (map import_of is) held_names listed_imports held_links none

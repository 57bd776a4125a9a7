-- Worked texts: what their names mean and what their modules see, computed by the definitions.
use Rattle.std.proofs.Common.{◌≡◌, ℕ, true, false, List, [], ◌∷◌, length, Some, None, codes, refl, inl, lit<, ap, sym, ◌∙◌, subst, take}
use Rattle.std.specs.Prelude.{Any, IsNone}
use Rattle.dactl_model.specs.declared.program.Class.TheVariants as classes
use Rattle.dactl_base.specs.declared.refusal.Place.{Place}
use Rattle.dactl_meaning.specs.declared.tree.Name.{Name}
use Rattle.dactl_meaning.specs.declared.tree.Marks.TheVariants as marks
use Rattle.dactl_meaning.specs.declared.tree.NodeTree.TheOpen.{NodeTree-F}
use Rattle.dactl_meaning.specs.declared.tree.NodeTree.TheViews.{roll-NodeTree, roll-TermTree}
use Rattle.dactl_meaning.specs.declared.tree.NodeTree.TheFolds.{fold-roll-NodeTree, fold-roll-TermTree}
use Rattle.dactl_meaning.specs.declared.tree.TermTree.{TermTree}
use Rattle.dactl_meaning.specs.declared.tree.Item.{Item}
use Rattle.dactl_meaning.specs.declared.tree.Item.TheVariants as item
use Rattle.dactl_meaning.specs.declared.tree.Text.{Text}
use Rattle.dactl_meaning.specs.Declarations.{meaning, all_names, symbols, Written, AsSymbol}
use Rattle.dactl_meaning.specs.Sight.{sees, SeenSymbol, class_for}
use Rattle.dactl_meaning.specs.Uses.{uses, Use, term_uses, body_uses, node_uses_level, arg_uses_level, term_uses_level}
use Rattle.dactl_meaning.specs.ScopeFaults.{TwiceDeclared, UnknownModule, UnknownName, NotVisible, PublicTooStrong, NoInitial, is_usable, IsUnknown}

abbrev at : ℕ → Place
at p = record { byte = p }

abbrev name : List ℕ → ℕ → Name
name w p = record { text = w; place = at p }

-- a term that is a node of a symbol alone
abbrev bare : Name → TermTree
bare n = roll-TermTree (record { marks = marks.Plain; name = None; node = Some (roll-NodeTree (NodeTree-F.Sym n [])) })

abbrev one : List Item → ℕ → Text
one items n = record { language = 1; modules = record { name = name (codes "M") 7; items = items } ∷ []; length = n }

-- MODULE M; SYMBOL CREATABLE A, A; INITIAL => A; ENDMODULE M;
abbrev twice : Text
twice = one (item.Symbols classes.Creatable None (name (codes "A") 27 ∷ name (codes "A") 30 ∷ []) ∷ item.Initial (at 33) (bare (name (codes "A") 44) ∷ []) ∷ []) 59

bare_uses : (n : Name) → term_uses (bare n) ≡ record { name = n; given = false } ∷ []
bare_uses n =
    fold-roll-TermTree (List Use) (List Use) (List Use) node_uses_level arg_uses_level term_uses_level (record { marks = marks.Plain; name = None; node = Some (roll-NodeTree (NodeTree-F.Sym n [])) })
    ∙ ap body_uses (ap Some (fold-roll-NodeTree (List Use) (List Use) (List Use) node_uses_level arg_uses_level term_uses_level (NodeTree-F.Sym n [])))

twice_uses : uses twice ≡ (0, record { name = name (codes "A") 44; given = false }) ∷ []
twice_uses = rw (bare_uses (name (codes "A") 44)) refl

twice_sees : sees twice 0 (codes "A") ≡ Some (SeenSymbol 7 classes.Creatable)
twice_sees = refl

twice_fault : TwiceDeclared twice 30
twice_fault = record { earlier = take 10 (all_names twice); again = record { name = name (codes "A") 30; home = Written 0; entity = AsSymbol classes.Creatable None }; later = []; order = refl; at = refl; before = (9, record { name = name (codes "A") 27; home = Written 0; entity = AsSymbol classes.Creatable None }, lit< tt, refl, refl) }

-- MODULE M; IMPORTS N; INITIAL => A; ENDMODULE M;
abbrev lost : Text
lost = one (item.Imports (name (codes "N") 18 ∷ []) ∷ item.Initial (at 21) (bare (name (codes "A") 32) ∷ []) ∷ []) 47

lost_uses : uses lost ≡ (0, record { name = name (codes "A") 32; given = false }) ∷ []
lost_uses = rw (bare_uses (name (codes "A") 32)) refl

lost_import : UnknownModule lost 18
lost_import = (0, record { owner = 0; name = name (codes "N") 18 }, lit< tt, refl, (refl, refl))

lost_name : UnknownName lost 32
lost_name = let P : List (ℕ × Use) → Type 0 = λ l. Any (λ u. (32 ≡ u.1.name.place.byte) × IsUnknown lost u.1) l in subst P (sym lost_uses) (0, (0, record { name = name (codes "A") 32; given = false }), lit< tt, refl, (refl, inl refl))

-- MODULE M; INITIAL => IAdd[1 2]; ENDMODULE M;
abbrev unseen : List Item → Text
unseen before = one (item.Initial (at 10) (bare (name (codes "IAdd") 21) ∷ []) ∷ before) 44

unseen_uses : uses (unseen []) ≡ (0, record { name = name (codes "IAdd") 21; given = false }) ∷ []
unseen_uses = rw (bare_uses (name (codes "IAdd") 21)) refl

unseen_name : NotVisible (unseen []) 21
unseen_name = let P : List (ℕ × Use) → Type 0 = λ l. Any (λ u. (21 ≡ u.1.name.place.byte) × (is_usable (meaning (unseen []) u.1.name.text) ≡ true) × IsNone (sees (unseen []) u.0 u.1.name.text)) l in subst P (sym unseen_uses) (0, (0, record { name = name (codes "IAdd") 21; given = false }), lit< tt, refl, (refl, refl, refl))

-- with IMPORTS Arithmetic behind it
seen_name : sees (unseen (item.Imports (name (codes "Arithmetic") 40 ∷ []) ∷ [])) 0 (codes "IAdd") ≡ Some (SeenSymbol 0 classes.Creatable)
seen_name = refl

-- MODULE A; SYMBOL OVERWRITABLE PUBLIC CREATABLE Cell; ENDMODULE A; MODULE B; IMPORTS A; SYMBOL REWRITABLE F;
abbrev two : Text
two = record {
  language = 1;
  modules =
      record { name = name (codes "A") 7; items = item.Symbols classes.Overwritable (Some (classes.Creatable, at 38)) (name (codes "Cell") 48 ∷ []) ∷ [] }
      ∷ record { name = name (codes "B") 73; items = item.Imports (name (codes "A") 84 ∷ []) ∷ item.Symbols classes.Rewritable None (name (codes "F") 87 ∷ []) ∷ [] }
      ∷ [];
  length = 200;
}

two_own : sees two 0 (codes "Cell") ≡ Some (SeenSymbol 7 classes.Overwritable)
two_own = refl

two_imported : sees two 1 (codes "Cell") ≡ Some (SeenSymbol 7 classes.Creatable)
two_imported = refl

two_class : class_for two 1 7 ≡ Some classes.Creatable
two_class = refl

two_later : sees two 0 (codes "F") ≡ None
two_later = refl

two_last : sees two 1 (codes "F") ≡ Some (SeenSymbol 8 classes.Rewritable)
two_last = refl

two_symbols : length (symbols two) ≡ 9
two_symbols = refl

two_none : NoInitial two 200
two_none = (refl, refl)

-- MODULE M; SYMBOL CREATABLE PUBLIC OVERWRITABLE A; INITIAL => A; ENDMODULE M;
strong : PublicTooStrong (one (item.Symbols classes.Creatable (Some (classes.Overwritable, at 34)) (name (codes "A") 47 ∷ []) ∷ []) 76) 34
strong = (0, record { owner = 0; number = 0; item = item.Symbols classes.Creatable (Some (classes.Overwritable, at 34)) (name (codes "A") 47 ∷ []) }, lit< tt, refl, (refl, refl))

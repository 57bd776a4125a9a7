-- Terms, by what the code knows of their arguments.
use Rattle.std.proofs.Common.{◌≡◌, ℕ, ◌+◌, ◌<◌, Bool, true, false, cond, ◌&&◌, List, [], ◌∷◌, ◌++◌, map, length, take, get_or, refl, sym, ap, ◌∙◌, add_assoc, zero-add, arith}
use Rattle.std.specs.Prelude.{not, if◌then◌else◌}
use Rattle.std.specs.List.{list_all}
use Rattle.std.proofs.lemmas.List.{map-append, map_more}
use Rattle.dactl_model.proofs.Counting.{count_by-cons}
use Rattle.dactl_meaning.specs.declared.tree.ArgTree.{ArgTree}
use Rattle.dactl_meaning.specs.declared.tree.Marks.{Marks}
use Rattle.dactl_meaning.specs.declared.tree.Marks.TheVariants as marks
use Rattle.dactl_meaning.specs.declared.tree.NodeTree.TheOpen.{NodeTree-F}
use Rattle.dactl_meaning.specs.declared.tree.NodeTree.TheViews.{roll-NodeTree}
use Rattle.dactl_meaning.specs.declared.tree.TermTree.{TermTree}
use Rattle.fun_meaning.specs.declared.tree.Expr.{Expr}
use Rattle.fun_meaning.specs.declared.tree.Fun.{Fun}
use Rattle.fun_meaning.specs.Names.{Spelling, operation}
use Rattle.fun_meaning.specs.Values.{is_constructor}
use Rattle.fun_compile.specs.declared.terms.Arguments.{Arguments}
use Rattle.fun_compile.specs.declared.terms.Put as code
use Rattle.fun_compile.specs.Putting.{shown, made_of, ArePut}
use Rattle.fun_compile.specs.Translated.{Put, put, word, marked, marks_for, waiting, wrapped, arg_put, made_put, marked, node_over}

-- ---- how many arguments are waited for

waits_pure : (a : Put) (puts : List Put) → a.pure ≡ true → waiting (a ∷ puts) ≡ waiting puts
waits_pure a puts e = count_by-cons (λ (b : Put). not b.pure) a puts ∙ ap (λ b. cond (not b) 1 0 + waiting puts) e ∙ zero-add (waiting puts)

waits_more : (a : Put) (puts : List Put) → a.pure ≡ false → waiting (a ∷ puts) ≡ 1 + waiting puts
waits_more a puts e = count_by-cons (λ (b : Put). not b.pure) a puts ∙ ap (λ b. cond (not b) 1 0 + waiting puts) e

-- all are pure where none is waited for
all_pure : (puts : List Put) → waiting puts ≡ 0 → list_all (λ a. a.pure) puts ≡ true
all_pure [] none = refl
all_pure (a ∷ puts) none = by (all_pure puts) a.pure refl
  where
    by : (waiting puts ≡ 0 → list_all (λ a. a.pure) puts ≡ true) → (b : Bool) → a.pure ≡ b → (a.pure && list_all (λ a. a.pure) puts) ≡ true
    by rest true e = ap (λ b. b && list_all (λ a. a.pure) puts) e ∙ rest (sym (waits_pure a puts e) ∙ none)
    by rest false e = absurd (omega (arith, waits_more a puts e, none))

-- some is not where one is
some_waits : (puts : List Put) → 0 < waiting puts → list_all (λ a. a.pure) puts ≡ false
some_waits [] some = absurd (omega (arith, some))
some_waits (a ∷ puts) some = by (some_waits puts) a.pure refl
  where
    by : (0 < waiting puts → list_all (λ a. a.pure) puts ≡ false) → (b : Bool) → a.pure ≡ b → (a.pure && list_all (λ a. a.pure) puts) ≡ false
    by rest true e = ap (λ b. b && list_all (λ a. a.pure) puts) e ∙ rest (omega (arith, waits_pure a puts e, some))
    by rest false e = ap (λ b. b && list_all (λ a. a.pure) puts) e

-- ---- a name over arguments

abbrev pub called : Marks → Spelling → List ArgTree → TermTree
called m g args = marked m (roll-NodeTree (NodeTree-F.Sym (word g) args))

module _ (e : Fun) (g : Spelling) (xs : List Expr) (a : Arguments) (t : TermTree) (are : ArePut (map (put e) xs) a) where
  abbrev puts : List Put
  puts = map (put e) xs

  pub made_pure : a.waiting ≡ 0 → is_constructor e g ≡ true → t ≡ called marks.Plain g a.args → shown (record { pure = true; term = t }) ≡ made_of e g xs
  made_pure none constructs is =
      let f : TermTree → Put = λ u. record { pure = true; term = u } in
      let pure : (is_constructor e g && list_all (λ b. b.pure) puts) ≡ true = ap (λ b. b && list_all (λ b. b.pure) puts) constructs ∙ all_pure puts (sym are.waiting ∙ none) in
      ap f (is ∙ ap (called marks.Plain g) are.args) ∙ sym (ap (λ b. made_put b g puts) pure)

  made_waits : (is_constructor e g && list_all (λ b. b.pure) puts) ≡ false → t ≡ wrapped (operation g) (called (marks_for a.waiting) g a.args) → shown (record { pure = false; term = t }) ≡ made_of e g xs
  made_waits impure is =
      let f : TermTree → Put = λ u. record { pure = false; term = u } in
      ap f (is ∙ ap (λ l. wrapped (operation g) (called (marks_for a.waiting) g l)) are.args ∙ ap (λ n. wrapped (operation g) (marked (marks_for n) (node_over g puts))) are.waiting)
      ∙ sym (ap (λ b. made_put b g puts) impure)

  -- of no constructor
  pub made_active : is_constructor e g ≡ false → t ≡ wrapped (operation g) (called (marks_for a.waiting) g a.args) → shown (record { pure = false; term = t }) ≡ made_of e g xs
  made_active other is = made_waits (ap (λ b. b && list_all (λ b. b.pure) puts) other) is

  -- over arguments that are not all pure
  pub made_waiting : 0 < a.waiting → t ≡ wrapped (operation g) (called (marks_for a.waiting) g a.args) → shown (record { pure = false; term = t }) ≡ made_of e g xs
  made_waiting some is = made_waits (ap (λ b. is_constructor e g && b) (some_waits puts (omega (arith, some, are.waiting))) ∙ and_false (is_constructor e g)) is
    where
      and_false : (b : Bool) → (b && false) ≡ false
      and_false true = refl
      and_false false = refl

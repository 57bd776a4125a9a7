-- A notification keeps the invariant: only what is finished, or an operation, has no rule that matches.
use Rattle.std.proofs.Common.{◌≡◌, ℕ, zero, suc, ◌+◌, ◌-◌, ◌<◌, ◌≤◌, Bool, true, false, ◌&&◌, not, cond, List, [], ◌∷◌, map, length, count_by, replicate, Option, Some, None, IsSomeAnd, slice_get, refl, sym, ◌∙◌, ap, subst, arith, ◌==◌, nat_le, if◌then◌else◌, ◌⊎◌, inl, inr}
use Rattle.std.proofs.lemmas.List.{length-map}
use Rattle.std.proofs.lemmas.List.Elements.{All-from_recursion}
use Rattle.std.proofs.lemmas.Bool.{eqb-true, eq-eqb}
use Rattle.std.proofs.lemmas.Option.{slice_get_within, slice_get_cases}
use Rattle.dactl_model.specs.declared.graph.NodeId.{NodeId}
use Rattle.dactl_model.specs.declared.graph.Label.{Label}
use Rattle.dactl_model.specs.declared.graph.Label.TheVariants.{Symbol, Integer, Character}
use Rattle.dactl_model.specs.declared.graph.Arc.{Arc}
use Rattle.dactl_model.specs.declared.graph.Mark.{Mark}
use Rattle.dactl_model.specs.declared.graph.Mark.TheVariants.{Idle, Active, Waiting}
use Rattle.dactl_model.specs.declared.graph.Node.{Node}
use Rattle.dactl_model.specs.declared.graph.Graph.{Graph}
use Rattle.dactl_model.specs.declared.program.Op.{Op}
use Rattle.dactl_model.specs.declared.program.Pat.{Pat}
use Rattle.dactl_model.specs.declared.program.Pat.TheOpen.{Pat-F}
use Rattle.dactl_model.specs.declared.program.Pat.TheViews.{roll-Pat}
use Rattle.dactl_model.specs.declared.program.Program.{Program}
use Rattle.dactl_model.specs.Graphs.{node_at, HasNode, flags, IsWellFormed}
use Rattle.dactl_model.specs.Patterns.{sat, all_hold, symbol_holds, has_symbol, same_node}
use Rattle.dactl_model.specs.Matching.{RuleMatches, Matches, HasResult, IsActive, IsQuiet}
use Rattle.dactl_model.specs.Noting.{waits_for, cleared, noted_mark, noted_node, noted_nodes, noted}
use Rattle.dactl_model.specs.Versions.{content_of}
use Rattle.dactl_model.proofs.Counting.{count_by-cons}
use Rattle.dactl_model.proofs.KeptNote.{length-noted_nodes}
use Rattle.dactl_model.proofs.Pairs.{has_node}
use Rattle.dactl_model.proofs.Unique.{same_node_is, sat_roll}
use Rattle.fun_meaning.specs.declared.tree.Fun.{Fun}
use Rattle.fun_meaning.specs.Names.{Spelling, operation}
use Rattle.fun_meaning.specs.Meaning.{symbol_names}
use Rattle.fun_meaning.specs.Translation.{awaited, arity, FitsArity, FitsSymbol, is_operation, names_operation, is_arithmetic, names_check, is_check, names_constructor, is_settled, HasRestRule, IsProgramOf}
use Rattle.fun_meaning.specs.Invariant.{Finished, IsStuck, IsTidyArc, IsTidyNode, IsTidy}
use Rattle.fun_meaning.proofs.Depths.{AreConstructors}
use Rattle.fun_meaning.proofs.Matches.{both_true}
use Rattle.fun_meaning.proofs.After.{noted_after, carried_noted, targets_in}
use Rattle.fun_meaning.proofs.FinishedNodes.{no_flags, finished_args}
use Rattle.fun_meaning.proofs.Settled.{finished_over, finished_kept}
use Rattle.fun_meaning.proofs.KeptTidy.{Settles, arcs_kept}
use Rattle.fun_meaning.proofs.StillNone.{stuck_none, unflagged_none}
use Rattle.fun_meaning.proofs.FireTidy.{one_of}

one_arc : (w s : Bool) (x y z : ℕ) → x + y ≡ z → (cond (w && not s) 1 0 + x) + (cond (w && s) 1 0 + y) ≡ cond w 1 0 + z
one_arc true true x y z e = omega arith
one_arc true false x y z e = omega arith
one_arc false s x y z e = omega arith

flags_left : (n : NodeId) (arcs : List Arc) → flags (map (cleared n) arcs) + count_by (waits_for n) arcs ≡ flags arcs
flags_left n [] = refl
flags_left n (a ∷ arcs) =
    rw (count_by-cons (λ b. b.waits) (cleared n a), count_by-cons (waits_for n) a, count_by-cons (λ b. b.waits) a arcs)
    (one_arc a.waits (same_node a.target n) _ _ _ (flags_left n arcs))

within_by : (k j : ℕ) → nat_le k j ≡ true → k ≤ j
within_by k j e = grind arith

past_by : (k j : ℕ) → nat_le k j ≡ false → j < k
past_by k j e = grind arith

fewer_await : (left j k : ℕ) (b : Bool) → left + j ≡ k → nat_le k j ≡ b → left ≡ awaited (if b then Active else Waiting (k - j))
fewer_await left j k true sum is = let within : k ≤ j = within_by k j is in omega arith
fewer_await left j k false sum is = let past : j < k = past_by k j is in omega arith

some_await : (left j k : ℕ) (b : Bool) → left + j ≡ k → (j == 0) ≡ b → left ≡ awaited (if b then Waiting k else (if nat_le k j then Active else Waiting (k - j)))
some_await left j k true sum is = let none : j ≡ 0 = eqb-true j 0 is in omega arith
some_await left j k false sum is = fewer_await left j k (nat_le k j) sum refl

mark_await : (left j all : ℕ) (mark : Mark) → left + j ≡ all → all ≡ awaited mark → left ≡ awaited (noted_mark j mark)
mark_await left j all Idle sum is = omega arith
mark_await left j all Active sum is = omega arith
mark_await left j all (Waiting k) sum is = some_await left j k (j == 0) (sum ∙ is) refl

noted_await : (left j all : ℕ) (mark : Mark) (b : Bool) → left + j ≡ all → all ≡ awaited mark → (b ≡ true → mark ≡ Active) → left ≡ awaited (if b then Idle else noted_mark j mark)
noted_await left j all mark true sum is active = let none : awaited mark ≡ 0 = ap awaited (active refl) in omega arith
noted_await left j all mark false sum is active = mark_await left j all mark sum is

idle_noted : (j : ℕ) (b : Bool) → (if b then Idle else noted_mark j Idle) ≡ Idle
idle_noted j true = refl
idle_noted j false = refl

cleared_cases : (w s : Bool) → (w && not s) ≡ false → (w ≡ false) ⊎ (s ≡ true)
cleared_cases false s is = inl refl
cleared_cases true true is = inr refl
cleared_cases true false is = cc

check_cases : (b : Bool) → (b ≡ true) ⊎ (b ≡ false)
check_cases true = inl refl
check_cases false = inr refl

-- an active node
pub record HasActive (g : Graph) (n : NodeId) : Type 0 where
  pub node : Node
  pub at : node_at g n ≡ Some node
  pub active : node.mark ≡ Active

active_from : (g : Graph) (n : NodeId) (o : Option Node) → node_at g n ≡ o → IsSomeAnd o (λ x. x.mark ≡ Active) → HasActive g n
active_from g n None at is = absurd is
active_from g n (Some node) at is = record { node = node; at = at; active = is }

pub has_active : (g : Graph) (n : NodeId) → IsActive g n → HasActive g n
has_active g n active = active_from g n (node_at g n) refl active

any_hold : (g : Graph) (h : List NodeId) (arcs : List Arc) (k : ℕ) → length arcs ≡ k → all_hold (map (sat g h) (replicate k (roll-Pat Pat-F.Any))) arcs ≡ true
any_hold g h [] zero long = refl
any_hold g h [] (suc k) long = absurd (omega arith)
any_hold g h (a ∷ arcs) zero long = absurd (omega arith)
any_hold g h (a ∷ arcs) (suc k) long = both_true _ _ (sat_roll g h Pat-F.Any a.target) (any_hold g h arcs k (omega arith))

-- the rule of a last group matches at each node of its symbol with that many arcs
pub rest_matches : (p : Program) (g : Graph) (n : NodeId) (node : Node) (f k : ℕ) → node_at g n ≡ Some node → node.label ≡ Symbol f → length node.arcs ≡ k → (has : HasRestRule p f k) → Matches p g n has.number (n ∷ [])
rest_matches p g n node f k at label long has =
    let args : List Pat = replicate k (roll-Pat Pat-F.Any) in
    let inner : sat g (n ∷ []) (roll-Pat (Pat-F.Sym f (replicate k (roll-Pat Pat-F.Any)))) n ≡ true =
    sat_roll g (n ∷ []) (Pat-F.Sym f (replicate k (roll-Pat Pat-F.Any))) n ∙ ap (λ o. symbol_holds o f (map (sat g (n ∷ [])) (replicate k (roll-Pat Pat-F.Any)))) at
    ∙ both_true _ _ (ap (λ l. has_symbol l f) label ∙ eq-eqb f f refl) (any_hold g (n ∷ []) node.arcs k long) in
    let holds : sat g (n ∷ []) has.rule.pattern n ≡ true =
    ap (λ q. sat g (n ∷ []) q n) has.pattern ∙ sat_roll g (n ∷ []) (Pat-F.Bind 0 (roll-Pat (Pat-F.Sym f (replicate k (roll-Pat Pat-F.Any))))) n ∙ both_true _ _ (eq-eqb n.number n.number refl) inner in
    subst (λ o. IsSomeAnd o (λ rule. RuleMatches p.wide g n rule (n ∷ []))) (sym has.at) (record {
      long = sym has.variables;
      nodes = All-from_recursion (HasNode g) (n ∷ []) (has_node g n node at, tt);
      holds = holds;
      result = subst (λ b. HasResult p.wide b g (n ∷ [])) (sym has.body) tt;
    })

no_check_name : (e : Fun) (o : Option Spelling) → AreConstructors e → names_constructor e o ≡ true → names_check o ≡ false
no_check_name e None plain is = refl
no_check_name e (Some name) plain is = (plain name is).1

pub settled_no_check : (e : Fun) (symbols : List Spelling) (label : Label) → AreConstructors e → is_settled e symbols label ≡ true → is_check symbols label ≡ false
settled_no_check e symbols (Integer i) plain is = refl
settled_no_check e symbols (Symbol f) plain is = no_check_name e (slice_get symbols f) plain is
settled_no_check e symbols (Character c) plain is = refl

module _ (e : Fun) (p : Program) (g : Graph) (n : NodeId) (is : IsProgramOf e p) (fine : IsWellFormed g) (tidy : IsTidy e p g) (quiet : IsQuiet p g n) (node : Node) (at : node_at g n ≡ Some node) (active : node.mark ≡ Active) where
  abbrev IsOneKind : Label → Type 0
  IsOneKind label = (is_settled e (symbol_names p) label ≡ true) ⊎ (is_arithmetic (symbol_names p) label ≡ true)

  operation_kind : (f : ℕ) (name : Spelling) (k : ℕ) (o : Option Op) → node.label ≡ Symbol f → slice_get (symbol_names p) f ≡ Some name → arity e name ≡ Some k → length node.arcs ≡ k → operation name ≡ o → IsOneKind (Symbol f)
  operation_kind f name k (Some o) label named has long operates = inr (ap names_operation named ∙ ap is_operation operates)
  operation_kind f name k None label named has long operates =
      let rest = is.rest_rules f k name named operates has in
      absurd (quiet.none rest.number (n ∷ []) (rest_matches p g n node f k at label long rest))

  named_kind : (f : ℕ) (o : Option Spelling) → node.label ≡ Symbol f → slice_get (symbol_names p) f ≡ o → FitsArity e o (length node.arcs) → IsOneKind (Symbol f)
  named_kind f None label named fits = absurd fits
  named_kind f (Some name) label named fits =
      elim (is.symbols_known f name named) [
        | inl constructor ↦ inl (ap (names_constructor e) named ∙ constructor)
        | inr known ↦ operation_kind f name known.0 (operation name) label named known.1 (fits known.0 known.1) refl
      ]

  label_kind : (label : Label) → node.label ≡ label → FitsSymbol e (symbol_names p) label (length node.arcs) → IsOneKind label
  label_kind (Integer i) same fits = inl refl
  label_kind (Symbol f) same fits = named_kind f (slice_get (symbol_names p) f) same refl fits
  label_kind (Character c) same fits = absurd fits

  -- a node at which no rule matches is an integer, a constructor or an operation
  pub quiet_kind : IsOneKind node.label
  quiet_kind = label_kind node.label refl (tidy n node at).symbol

  quiet_finished : is_settled e (symbol_names p) node.label ≡ true → Finished e (symbol_names p) g n
  quiet_finished settled =
      let here = tidy n node at in
      finished_over e (symbol_names p) g n (record { label = node.label; targets = map (λ a. a.target) node.arcs }) (ap content_of at) settled
      (finished_args e p g node.label node.arcs (settled_no_check e (symbol_names p) node.label is.constructors settled) here.arcs_tidy (no_flags node.arcs (here.mark ∙ ap awaited active)))

  stuck_noted : (x : NodeId) → IsStuck p g x → IsStuck p (noted g n) x
  stuck_noted x was = record {
    node = noted_node n x.number was.node;
    at = noted_after g n x was.node was.at;
    arithmetic = was.arithmetic;
    idle = ap (λ mark. if x.number == n.number then Idle else noted_mark (count_by (waits_for n) was.node.arcs) mark) was.idle ∙ idle_noted (count_by (waits_for n) was.node.arcs) (x.number == n.number);
    none = stuck_none e p g (noted g n) (λ y. y) is fine (carried_noted g n) tidy (λ y finished. refl) x was;
  }

  now_stuck : is_arithmetic (symbol_names p) node.label ≡ true → IsStuck p (noted g n) n
  now_stuck arithmetic = record {
    node = noted_node n n.number node;
    at = noted_after g n n node at;
    arithmetic = arithmetic;
    idle = ap (λ b. if b then Idle else noted_mark (count_by (waits_for n) node.arcs) node.mark) (eq-eqb n.number n.number refl);
    none = unflagged_none e p g (noted g n) (λ y. y) is fine (carried_noted g n) tidy (λ y finished. refl) n node at arithmetic (ap awaited active) quiet.none;
  }

  still_finished : (x : NodeId) → Finished e (symbol_names p) g x → Finished e (symbol_names p) (noted g n) x
  still_finished x finished = (finished.0, finished_kept finished.0 e (symbol_names p) g (noted g n) (λ y. y) (carried_noted g n) (λ y was. refl) x finished.1)

  checked_settles : (label : Label) (a : Arc) → IsTidyArc e p g label a → a.target ≡ n → is_arithmetic (symbol_names p) node.label ≡ true → (is_check (symbol_names p) label ≡ true) ⊎ (is_check (symbol_names p) label ≡ false) → Settles e p (noted g n) label n
  checked_settles label a was same arithmetic (inl check) = inr (check, now_stuck arithmetic)
  checked_settles label a was same arithmetic (inr no_check) =
      absurd (let clash : true ≡ false = sym arithmetic ∙ was.checked no_check node (subst (λ y. node_at g y ≡ Some node) (sym same) at) in cc)

  kind_settles : (label : Label) (a : Arc) → IsTidyArc e p g label a → a.target ≡ n → IsOneKind node.label → Settles e p (noted g n) label n
  kind_settles label a was same (inl settled) = inl (still_finished n (quiet_finished settled))
  kind_settles label a was same (inr arithmetic) = checked_settles label a was same arithmetic (check_cases (is_check (symbol_names p) label))

  arc_settles : (label : Label) (a : Arc) → IsTidyArc e p g label a → (cleared n a).waits ≡ false → (a.waits ≡ false) ⊎ Settles e p (noted g n) label a.target
  arc_settles label a was free =
      elim (cleared_cases a.waits (same_node a.target n) free) [
        | inl before ↦ inl before
        | inr same ↦ let to : a.target ≡ n = same_node_is a.target n same in inr (subst (Settles e p (noted g n) label) (sym to) (kind_settles label a was to quiet_kind))
      ]

  node_noted : (x : NodeId) (other : Node) → node_at g x ≡ Some other → IsTidyNode e p (noted g n) (noted_node n x.number other)
  node_noted x other other_at =
      let was = tidy x other other_at in
      record {
        symbol = subst (FitsSymbol e (symbol_names p) other.label) (sym (length-map other.arcs (cleared n))) was.symbol;
        mark = noted_await (flags (map (cleared n) other.arcs)) (count_by (waits_for n) other.arcs) (flags other.arcs) other.mark (x.number == n.number) (flags_left n other.arcs) was.mark
            (λ same. ap (λ y. y.mark) (one_of (node_at g n) other node (subst (λ y. node_at g y ≡ Some other) (same_node_is x n same) other_at) at) ∙ active);
        arcs_tidy = arcs_kept e p g (noted g n) (λ y. y) (carried_noted g n) (λ y finished. refl) (λ y has. inl refl) stuck_noted other.label (cleared n) (λ a. refl) (arc_settles other.label) other.arcs (targets_in g x other fine other_at) was.arcs_tidy;
      }

  pub noted_tidy : IsTidy e p (noted g n)
  noted_tidy x found found_at =
      elim (slice_get_cases g.nodes x.number).1 [
        | inl (other, below, other_at, same) ↦
            subst (IsTidyNode e p (noted g n)) (sym (one_of (node_at (noted g n) x) found (noted_node n x.number other) found_at (noted_after g n x other other_at))) (node_noted x other other_at)
        | inr (past, none) ↦
            absurd (let within : x.number < length (noted_nodes n 0 g.nodes) = slice_get_within (noted_nodes n 0 g.nodes) x.number found found_at in let long = length-noted_nodes n 0 g.nodes in omega arith)
      ]

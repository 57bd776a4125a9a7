-- What readings decide at a node.
use Rattle.std.specs.Prelude.{◌≡◌, ℕ, ◌<◌, ◌⊎◌, Bool, true, List, length, slice_get, Option, Some, None, IsSomeAnd}
use Rattle.dactl_model.specs.declared.graph.NodeId.{NodeId}
use Rattle.dactl_model.specs.declared.graph.Label.{Label}
use Rattle.dactl_model.specs.declared.graph.Label.TheVariants.{Symbol, Integer, Character}
use Rattle.dactl_model.specs.declared.graph.Event.{Event}
use Rattle.dactl_model.specs.declared.reading.Reading.{Reading}
use Rattle.dactl_model.specs.declared.program.Rule.{Rule}
use Rattle.dactl_model.specs.declared.program.Program.{Program}
use Rattle.dactl_model.specs.Acts.{node_of_event}
use Rattle.dactl_model.specs.Readings.{reading_of}
use Rattle.dactl_model.specs.RuleTold.{IsRuleYes, IsRuleNo, IsRuleUnknown, ShowsFire, ShowsNote, ShowsEvent}
use Rattle.dactl_decide.specs.Paths.{is_root, symbol_tests}
use Rattle.dactl_probe.specs.declared.rule.Found.{Found}
use Rattle.dactl_probe.specs.declared.rule.Found.TheVariants.{Lost, No, Unknown, Yes}
use Rattle.dactl_probe.specs.declared.verdict.Open.{Open}
use Rattle.dactl_probe.specs.declared.verdict.Open.TheVariants.{Fires, Waits}
use Rattle.dactl_probe.specs.declared.verdict.Verdict.{Verdict}
use Rattle.dactl_probe.specs.declared.verdict.Verdict.TheVariants.{Need, Fire, Note}
use Rattle.dactl_probe.specs.Leading.{Leads, Needs}
use Rattle.dactl_probe.specs.Lost.{IsRuleLost}

-- what was found of a rule at n, in a program that is wide or not
abbrev pub IsRuleFound : Bool → List Reading → NodeId → Rule → Found → Type 0
IsRuleFound wide rs n rule Lost = IsRuleLost rs n rule
IsRuleFound wide rs n rule No = IsRuleNo wide rs n rule
IsRuleFound wide rs n rule (Unknown m) = IsRuleUnknown rs n rule × Needs rs rule.pattern n m
IsRuleFound wide rs n rule Yes = IsRuleYes wide rs n rule

-- the same of the rule of a number
abbrev pub IsNumberFound : Program → List Reading → NodeId → ℕ → Found → Type 0
IsNumberFound p rs n r found = (rule : Rule) → slice_get p.rules r ≡ Some rule → IsRuleFound p.wide rs n rule found

-- rule r has the symbol at its root, and the fact holds of it
abbrev pub HasRule : List Rule → ℕ → ℕ → (Rule → Type 0) → Type 0
HasRule rules f r P = IsSomeAnd (slice_get rules r) (λ rule. (rule.symbol ≡ f) × P rule)

-- the rules of the symbol with numbers below k are No
abbrev pub AreNo : Program → ℕ → List Reading → NodeId → ℕ → Type 0
AreNo p f rs n k = (s : ℕ) (rule : Rule) → s < k → slice_get p.rules s ≡ Some rule → rule.symbol ≡ f → IsRuleNo p.wide rs n rule

-- the first rule of the symbol that is not No, if there is one
abbrev pub IsFirstOpen : Program → ℕ → List Reading → NodeId → Option Open → Type 0
IsFirstOpen p f rs n None = AreNo p f rs n (length p.rules)
IsFirstOpen p f rs n (Some (Fires r)) = AreNo p f rs n r × HasRule p.rules f r (λ rule. IsRuleYes p.wide rs n rule)
IsFirstOpen p f rs n (Some (Waits r m)) = AreNo p f rs n r × HasRule p.rules f r (λ rule. IsRuleUnknown rs n rule × Needs rs rule.pattern n m)

-- a rule of the symbol and of the group that is Yes, if there is one
abbrev pub IsYesInGroup : Program → ℕ → ℕ → List Reading → NodeId → Option ℕ → Type 0
IsYesInGroup p f group rs n None = (s : ℕ) (rule : Rule) → slice_get p.rules s ≡ Some rule → rule.symbol ≡ f → rule.group ≡ group → IsRuleYes p.wide rs n rule → ⊥
IsYesInGroup p f group rs n (Some r) = HasRule p.rules f r (λ rule. (rule.group ≡ group) × IsRuleYes p.wide rs n rule)

-- rule r is the first rule of the symbol that is not No, and it is not known yet
abbrev pub IsFirstWaiting : Program → ℕ → List Reading → NodeId → ℕ → Type 0
IsFirstWaiting p f rs n r = AreNo p f rs n r × HasRule p.rules f r (λ rule. IsRuleUnknown rs n rule)

-- a rule of the symbol and of the group of rule r that is Yes, if there is one
abbrev pub IsYesBeside : Program → ℕ → ℕ → List Reading → NodeId → Option ℕ → Type 0
IsYesBeside p f r rs n found = (rule : Rule) → slice_get p.rules r ≡ Some rule → IsYesInGroup p f rule.group rs n found

-- the node was read, and has the symbol
abbrev pub HasSymbolRead : List Reading → NodeId → ℕ → Type 0
HasSymbolRead rs n f = IsSomeAnd (reading_of rs n) (λ r. r.label ≡ Symbol f)

-- the path is the root's, or a rule for such a label tests the node at its end
abbrev pub label_tests : Program → Label → List ℕ → Bool
label_tests p (Symbol f) path = symbol_tests p.rules f path
label_tests p (Integer i) path = is_root path
label_tests p (Character c) path = is_root path

-- the root was read, and a rule for its label tests m at the end of a path
pub record IsPlaced (p : Program) (rs : List Reading) (n m : NodeId) : Type 0 where
  pub root : Reading
  pub is_root : reading_of rs n ≡ Some root
  pub path : List ℕ
  pub tested : label_tests p root.label path ≡ true
  pub leads : Leads rs n path m

-- the readings decide no event at n
abbrev pub IsUndecided : Program → List Reading → NodeId → Type 0
IsUndecided p rs n = (e : Event) → node_of_event e ≡ n → ShowsEvent p rs e → ⊥

-- nothing is decided yet, and m is to be read: the root first, and then nodes that rules test
pub record IsNeed (p : Program) (rs : List Reading) (n m : NodeId) : Type 0 where
  pub unread : reading_of rs m ≡ None
  pub undecided : IsUndecided p rs n
  pub place : ((reading_of rs n ≡ None) × (m ≡ n)) ⊎ IsPlaced p rs n m

-- what the readings decide at n
abbrev pub IsVerdict : Program → List Reading → NodeId → Verdict → Type 0
IsVerdict p rs n (Need m) = IsNeed p rs n m
IsVerdict p rs n (Fire r) = (bindings : List NodeId) × ShowsFire p rs n r bindings
IsVerdict p rs n Note = ShowsNote p rs n

-- What a look at the readings finds of a pattern: its value, and with an unknown value a node to be read next.
use Rattle.std.specs.Prelude.{ℕ, Bool, true, false, ◌&&◌, ◌==◌, List, [], ◌∷◌, length, Option, Some, None}
use Rattle.dactl_model.specs.declared.graph.NodeId.{NodeId}
use Rattle.dactl_model.specs.declared.graph.Label.{Label}
use Rattle.dactl_model.specs.declared.reading.Reading.{Reading}
use Rattle.dactl_model.specs.declared.program.Pat.{Pat}
use Rattle.dactl_model.specs.declared.program.Pat.TheOpen.{Pat-F}
use Rattle.dactl_model.specs.declared.program.Pat.TheFolds.{fold-Pat}
use Rattle.dactl_model.specs.Patterns.{has_symbol, is_integer, has_integer, is_character, has_character}
use Rattle.dactl_model.specs.Readings.{reading_of, targets_of}
use Rattle.dactl_probe.specs.declared.finding.Finding.{Finding}
use Rattle.dactl_probe.specs.declared.finding.Finding.TheVariants.{No, Unknown, Yes}

-- the lesser of two findings, with the first node to be read
abbrev pub lesser : Finding → Finding → Finding
lesser No y = No
lesser (Unknown m) No = No
lesser (Unknown m) (Unknown k) = Unknown m
lesser (Unknown m) Yes = Unknown m
lesser Yes y = y

-- the greater of two
abbrev pub greater : Finding → Finding → Finding
greater No y = y
greater (Unknown m) No = Unknown m
greater (Unknown m) (Unknown k) = Unknown m
greater (Unknown m) Yes = Yes
greater Yes y = Yes

-- the finding of a denial
abbrev pub denied : Finding → Finding
denied No = Yes
denied (Unknown m) = Unknown m
denied Yes = No

abbrev pub finding_of : Bool → Finding
finding_of true = Yes
finding_of false = No

-- a test of the label of a node
abbrev pub found_label : Option Reading → NodeId → (Label → Bool) → Finding
found_label None n test = Unknown n
found_label (Some r) n test = finding_of (test r.label)

-- the least finding of the tests at the targets
abbrev pub found_all : List (NodeId → Finding) → List NodeId → Finding
found_all [] targets = Yes
found_all (t ∷ tests) [] = No
found_all (t ∷ tests) (n ∷ targets) = lesser (t n) (found_all tests targets)

abbrev pub found_symbol_at : Bool → List (NodeId → Finding) → List NodeId → Finding
found_symbol_at false tests targets = No
found_symbol_at true tests targets = found_all tests targets

-- a symbol pattern at a node
abbrev pub found_symbol : Option Reading → NodeId → ℕ → List (NodeId → Finding) → Finding
found_symbol None n f tests = Unknown n
found_symbol (Some r) n f tests = found_symbol_at (has_symbol r.label f && (length tests == length (targets_of r.targets))) tests (targets_of r.targets)

-- One level of a pattern.
abbrev pub found_level : List Reading → Pat-F (NodeId → Finding) → NodeId → Finding
found_level rs Pat-F.Any n = Yes
found_level rs Pat-F.Int n = found_label (reading_of rs n) n is_integer
found_level rs Pat-F.Char n = found_label (reading_of rs n) n is_character
found_level rs (Pat-F.Literal i) n = found_label (reading_of rs n) n (λ l. has_integer l i)
found_level rs (Pat-F.Letter c) n = found_label (reading_of rs n) n (λ l. has_character l c)
found_level rs (Pat-F.Sym f args) n = found_symbol (reading_of rs n) n f args
found_level rs (Pat-F.Bind v q) n = q n
found_level rs (Pat-F.Union q s) n = greater (q n) (s n)
found_level rs (Pat-F.Less q s) n = lesser (q n) (denied (s n))

-- what the readings tell of the pattern at n
abbrev pub found : List Reading → Pat → NodeId → Finding
found rs = fold-Pat (NodeId → Finding) (found_level rs)

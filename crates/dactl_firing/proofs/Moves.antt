-- The redirections of a written body: few enough, and each of its ends denotes a node.
use Rattle.std.proofs.Common.{◌≡◌, ◌≢◌, ℕ, zero, suc, ◌+◌, ◌<◌, ◌≤◌, true, false, eqb, List, [], ◌∷◌, length, get_or, map, All, AllPairs, refl, sym, ap, arith, inl, inr}
use Rattle.std.proofs.lemmas.Option.{unwrap_or-slice_get}
use Rattle.std.proofs.lemmas.List.{length-map}
use Rattle.std.proofs.lemmas.List.Elements.{All-map}
use Rattle.std.proofs.lemmas.Bool.{eqb-true, cases_Bool, both_ways}
use Rattle.dactl_active.specs.Ring.{has}
use Rattle.dactl_active.proofs.Numbers.{length-apart}
use Rattle.dactl_active.specs.Places.{Lacks, AreApart}
use Rattle.dactl_model.specs.declared.graph.NodeId.{NodeId}
use Rattle.dactl_model.specs.declared.program.Left.{Left}
use Rattle.dactl_model.specs.declared.program.Left.TheVariants.{Root, Variable}
use Rattle.dactl_model.specs.declared.program.Mention.{Mention}
use Rattle.dactl_model.specs.declared.program.Mention.TheVariants.{Old, Fresh}
use Rattle.dactl_model.specs.declared.program.Move.{Move}
use Rattle.dactl_model.specs.Matching.{bound_node}
use Rattle.dactl_model.specs.Firing.{left_node, mentioned}
use Rattle.dactl_model.specs.Programs.{IsLeft, IsMention}
use Rattle.dactl_store.specs.Redirecting.{AreNodes}
use Rattle.dactl_firing.specs.Site.{pair_of, pairs_of}

bound_below : (room : ℕ) (h : List NodeId) (v : ℕ) → All (λ n. n.number < room) h → v < length h → (bound_node h v).number < room
bound_below room h v all below = rw (unwrap_or-slice_get h v) (all v _ below)

left_below : (room : ℕ) (n : NodeId) (h : List NodeId) (left : Left) → n.number < room → All (λ x. x.number < room) h → IsLeft (length h) left → (left_node n h left).number < room
left_below room n h Root there all is = there
left_below room n h (Variable v) there all is = bound_below room h v all is

mentioned_below : (room first count : ℕ) (h : List NodeId) (mention : Mention) → All (λ x. x.number < room) h → first + count ≤ room → IsMention (length h) count mention → (mentioned first h mention).number < room
mentioned_below room first count h (Old v) all fits is = bound_below room h v all is
mentioned_below room first count h (Fresh i) all fits is = omega arith

-- the ends of the redirections are nodes below the room
pub pairs_below : (room first count : ℕ) (n : NodeId) (h : List NodeId) (moves : List Move) → n.number < room → All (λ x. x.number < room) h → first + count ≤ room
    → All (λ m. IsLeft (length h) m.from × IsMention (length h) count m.to) moves → AreNodes room (pairs_of first n h moves)
pairs_below room first count n h moves there all fits ends =
    All-map (λ pair. (pair.0.number < room) × (pair.1.number < room)) (pair_of first n h) moves
    (λ k d below. (left_below room n h (get_or moves k d).from there all (ends k d below).0, mentioned_below room first count h (get_or moves k d).to all fits (ends k d below).1))

-- a single pair
pub pair_below : (room : ℕ) (a b : NodeId) → a.number < room → b.number < room → AreNodes room ((a, b) ∷ [])
pair_below room a b first second zero d below = (first, second)
pair_below room a b first second (suc k) d below = absurd (omega arith)

-- a number for each left side
number_of : Left → ℕ
number_of Root = 64
number_of (Variable v) = v

module _ (variables : ℕ) (few : variables ≤ 64) where
  numbers_differ : (a b : Left) → IsLeft variables a → IsLeft variables b → a ≢ b → number_of b ≢ number_of a
  unfolding number_of
  numbers_differ Root Root first second apart = absurd (apart refl)
  numbers_differ Root (Variable v) first second apart = λ e. omega arith
  numbers_differ (Variable v) Root first second apart = λ e. omega arith
  numbers_differ (Variable v) (Variable w) first second apart = λ e. apart (ap Variable (sym e))

  number_below : (a : Left) → IsLeft variables a → number_of a < 65
  unfolding number_of
  number_below Root is = omega arith
  number_below (Variable v) is = omega arith

  -- the numbers of the left sides
  lefts : List Move → List ℕ
  lefts moves = map (λ m. number_of m.from) moves

  lacks_left : (move : Move) (moves : List Move) → IsLeft variables move.from → All (λ m. IsLeft variables m.from) moves → ((i : ℕ) (d : Move) → i < length moves → move.from ≢ (get_or moves i d).from) → Lacks (lefts moves) (number_of move.from)
  unfolding lefts
  lacks_left move [] is all apart = tt
  lacks_left move (next ∷ moves) is all apart = (
    numbers_differ move.from next.from is (all 0 next (omega arith)) (apart 0 next (omega arith)),
    lacks_left move moves is (λ k d below. all (suc k) d (omega arith)) (λ i d below. apart (suc i) d (omega arith)),
  )

  lefts_apart : (moves : List Move) → All (λ m. IsLeft variables m.from) moves → AllPairs (λ a b. a.from ≢ b.from) moves → AreApart (lefts moves)
  unfolding lefts
  lefts_apart [] all once = tt
  lefts_apart (move ∷ moves) all once = (
    lacks_left move moves (all 0 move (omega arith)) (λ k d below. all (suc k) d (omega arith)) (λ i d below. once 0 (suc i) d (omega arith) (omega arith)),
    lefts_apart moves (λ k d below. all (suc k) d (omega arith)) (λ i j d order below. once (suc i) (suc j) d (omega arith) (omega arith)),
  )

  lefts_below : (moves : List Move) → All (λ m. IsLeft variables m.from) moves → (q : ℕ) → has (lefts moves) q ≡ true → q < 65
  unfolding lefts
  lefts_below [] all q there = absurd (both_ways false refl there)
  lefts_below (move ∷ moves) all q there = elim (cases_Bool (eqb q (number_of move.from))) [
    | inl same ↦ (let e = eqb-true q (number_of move.from) same in omega (arith, number_below move.from (all 0 move (omega arith))))
    | inr other ↦ lefts_below moves (λ k d below. all (suc k) d (omega arith)) q (rw other at there)
  ]

  -- there are at most as many as left sides
  pub moves_few : (moves : List Move) → All (λ m. IsLeft variables m.from) moves → AllPairs (λ a b. a.from ≢ b.from) moves → length moves ≤ 65
  unfolding lefts
  moves_few moves all once = omega (arith, length-apart (lefts moves) 65 (lefts_apart moves all once) (lefts_below moves all), length-map moves (λ m. number_of m.from))

-- The redirections of a rule without faults: their ends are there, and no two have one left side.
use Rattle.std.proofs.Common.{◌≡◌, ◌≢◌, ℕ, ◌+◌, Bool, true, false, if◌then◌else◌, List, [], ◌∷◌, ◌++◌, map, length, All, AllPairs, Option, Some, None, refl, sym, ap, subst, ◌∙◌, inl, inr, bytes_eq}
use Rattle.dactl_model.specs.declared.program.Left.{Left}
use Rattle.dactl_model.specs.declared.program.Left.TheVariants.{Root, Variable}
use Rattle.dactl_model.specs.declared.program.Move.{Move}
use Rattle.dactl_model.specs.Programs.{IsMention, IsLeft}
use Rattle.dactl_meaning.specs.declared.tree.Name.{Name}
use Rattle.dactl_meaning.specs.declared.tree.TermTree.{TermTree}
use Rattle.dactl_meaning.specs.declared.tree.Part.{Part}
use Rattle.dactl_meaning.specs.Expansion.{is_among, number_in}
use Rattle.dactl_meaning.specs.Contractum.{Sketch, Drawn, term_draws, terms_draw, term_of_part, left_of_part, name_list, denotes, move_of, moves_from, root_move}
use Rattle.dactl_meaning.specs.RuleFaults.{again, lefts_of}
use Rattle.dactl_validity.proofs.ValidLists.{In, Pairs, in_either, in_map, map_in, all_of, all_pairs_of, pairs_append, pairs_map, pairs_unmap, pairs_weaker}
use Rattle.dactl_validity.proofs.ValidTests.{neither_left, neither_right}
use Rattle.dactl_validity.proofs.ValidVariables.{name_unequal, number_below, number_once}

-- ---- names that do not come again

abbrev Once : List (List ℕ) → List Name → Type 0
Once seen names = Pairs (λ (a b : Name). a.text ≢ b.text) names × ((n : Name) → In names n → is_among seen n.text ≡ false)

once_more : (seen : List (List ℕ)) (n : Name) (names : List Name) → is_among seen n.text ≡ false → Once (n.text ∷ seen) names → Once seen (n ∷ names)
once_more seen n names e h = (
  (λ y k. name_unequal n.text y.text (neither_left _ _ (h.1 y k)), h.0),
  λ y k. elim k [ inl same ↦ subst (λ (z : Name). is_among seen z.text ≡ false) same e | inr more ↦ neither_right (bytes_eq n.text y.text) _ (h.1 y more) ],
)

pub again_none : (seen : List (List ℕ)) (names : List Name) → ((n : Name) → In (again seen names) n → ⊥) → Once seen names
again_none seen [] h = (tt, λ n k. absurd k)
again_none seen (n ∷ names) h = (elim (is_among seen n.text) as (λ b. is_among seen n.text ≡ b → ((x : Name) → In (if b then n ∷ again seen names else again (n.text ∷ seen) names) x → ⊥) → Once seen (n ∷ names)) [
  | true ↦ λ e k. absurd (k n (inl refl))
  | false ↦ λ e k. once_more seen n names e (again_none (n.text ∷ seen) names k)
]) refl h

-- ---- the redirections

module _ (variables : List (List ℕ)) (made : List Sketch) where
  abbrev left_of : Name → Left
  left_of n = Variable (number_in variables n.text)

  froms_more : (o : Option Name) (d : Drawn) (ms : List Move) (names : List Name) → map (λ (m : Move). m.from) ms ≡ map left_of names → map (λ (m : Move). m.from) (move_of variables made o d ++ ms) ≡ map left_of (name_list o ++ names)
  froms_more None d ms names h = h
  froms_more (Some left) d ms names h = ap (λ (z : List Left). left_of left ∷ z) h

  froms : (k : ℕ) (ps : List Part) → map (λ (m : Move). m.from) (moves_from variables made k ps) ≡ map left_of (lefts_of ps)
  froms k [] = refl
  froms k (part ∷ rest) = froms_more (left_of_part part) (term_draws (term_of_part part) k) _ (lefts_of rest) (froms (k + length (term_draws (term_of_part part) k).made) rest)

  -- the redirection leads to what one of the terms stands for
  abbrev LeadsTo : List Drawn → Move → Type 0
  LeadsTo drawn m = (d : Drawn) × In drawn d × (m.to ≡ denotes variables made d.target)

  to_here : (o : Option Name) (d : Drawn) (m : Move) → In (move_of variables made o d) m → m.to ≡ denotes variables made d.target
  to_here None d m h = absurd h
  to_here (Some left) d m (inl e) = sym (ap (λ (z : Move). z.to) e)
  to_here (Some left) d m (inr h) = absurd h

  leads : (k : ℕ) (ps : List Part) (m : Move) → In (moves_from variables made k ps) m → LeadsTo (terms_draw k (map term_of_part ps)) m
  leads k [] m h = absurd h
  leads k (part ∷ rest) m h = elim (in_either (move_of variables made (left_of_part part) (term_draws (term_of_part part) k)) _ m h) [
    | inl here ↦ (term_draws (term_of_part part) k, inl refl, to_here (left_of_part part) (term_draws (term_of_part part) k) m here)
    | inr later ↦ (let r = leads (k + length (term_draws (term_of_part part) k).made) rest m later in (r.0, inr r.1, r.2))
  ]

  root_leads : (redirects : Bool) (terms : List TermTree) (m : Move) → In (root_move variables made redirects terms) m → (m.from ≡ Root) × LeadsTo (terms_draw 0 terms) m
  root_leads false terms m h = absurd h
  root_leads true [] m h = absurd h
  root_leads true (t ∷ terms) m (inl e) = (sym (ap (λ (z : Move). z.from) e), (term_draws t 0, inl refl, sym (ap (λ (z : Move). z.to) e)))
  root_leads true (t ∷ terms) m (inr h) = absurd h

  root_once : (redirects : Bool) (terms : List TermTree) → Pairs (λ (a b : Move). a.from ≢ b.from) (root_move variables made redirects terms)
  root_once false terms = tt
  root_once true [] = tt
  root_once true (t ∷ terms) = (λ y k. absurd k, tt)

  not_root : (l : Left) (v : ℕ) → l ≡ Root → l ≡ Variable v → ⊥
  not_root l v e f = let g : true ≡ false = ap (λ (z : Left). elim z [ Root ↦ true | Variable v ↦ false ]) (sym e ∙ f) in cc

  same_number : (v w : ℕ) → Variable v ≡ Variable w → v ≡ w
  same_number v w e = ap (λ (z : Left). elim z [ Root ↦ 0 | Variable u ↦ u ]) e

  module _ (ps : List Part) (known : (n : Name) → In (lefts_of ps) n → In variables n.text) (once : Pairs (λ (a b : Name). a.text ≢ b.text) (lefts_of ps)) where
    from_left : (k : ℕ) (m : Move) → In (moves_from variables made k ps) m → (n : Name) × In (lefts_of ps) n × (left_of n ≡ m.from)
    from_left k m h = map_in left_of (lefts_of ps) m.from (subst (λ ls. In ls m.from) (froms k ps) (in_map (λ (z : Move). z.from) (moves_from variables made k ps) m h))

    moves_once : (k : ℕ) → Pairs (λ (a b : Move). a.from ≢ b.from) (moves_from variables made k ps)
    moves_once k = pairs_unmap (λ a b. a ≢ b) (λ (m : Move). m.from) (moves_from variables made k ps)
        (subst (Pairs (λ a b. a ≢ b)) (sym (froms k ps)) (pairs_map (λ a b. a ≢ b) left_of (lefts_of ps)
        (pairs_weaker (λ (a b : Name). a.text ≢ b.text) (λ (a b : Name). left_of a ≢ left_of b) (lefts_of ps)
        (λ a b in_a in_b differ same. differ (number_once variables a.text b.text (known a in_a) (known b in_b) (same_number _ _ same))) once)))

    module _ (redirects : Bool) where
      abbrev all_moves : List Move
      all_moves = root_move variables made redirects (map term_of_part ps) ++ moves_from variables made 0 ps

      pub all_once : AllPairs (λ (a b : Move). a.from ≢ b.from) all_moves
      all_once = all_pairs_of (λ (a b : Move). a.from ≢ b.from) all_moves
          (pairs_append (λ (a b : Move). a.from ≢ b.from) (root_move variables made redirects (map term_of_part ps)) (moves_from variables made 0 ps) (root_once redirects (map term_of_part ps)) (moves_once 0)
          (λ x y in_x in_y same. not_root x.from _ (root_leads redirects (map term_of_part ps) x in_x).0 (same ∙ sym (from_left 0 y in_y).2)))

      pub all_beside : (Beside : Left → Type 0) → redirects ≡ false → ((n : Name) → In (lefts_of ps) n → Beside (left_of n)) → All (λ (m : Move). Beside m.from) all_moves
      all_beside Beside kept each = all_of (λ (m : Move). Beside m.from) all_moves (λ m h. elim (in_either (root_move variables made redirects (map term_of_part ps)) _ m h) [
        | inl at_root ↦ absurd (subst (λ b. In (root_move variables made b (map term_of_part ps)) m) kept at_root)
        | inr later ↦ (let l = from_left 0 m later in subst Beside l.2 (each l.0 l.1))
      ])

      pub all_end : (fresh : ℕ) → ((d : Drawn) → In (terms_draw 0 (map term_of_part ps)) d → IsMention (length variables) fresh (denotes variables made d.target))
          → All (λ (m : Move). IsLeft (length variables) m.from × IsMention (length variables) fresh m.to) all_moves
      all_end fresh stands = all_of (λ (m : Move). IsLeft (length variables) m.from × IsMention (length variables) fresh m.to) all_moves (λ m h. elim (in_either (root_move variables made redirects (map term_of_part ps)) _ m h) [
        | inl at_root ↦ (let r = root_leads redirects (map term_of_part ps) m at_root in (subst (IsLeft (length variables)) (sym r.0) tt, ends m r.1))
        | inr later ↦ (let l = from_left 0 m later in (subst (IsLeft (length variables)) l.2 (number_below variables l.0.text (known l.0 l.1)), ends m (leads 0 ps m later)))
      ])
        where
          ends : (m : Move) → LeadsTo (terms_draw 0 (map term_of_part ps)) m → IsMention (length variables) fresh m.to
          ends m r = subst (IsMention (length variables) fresh) (sym r.2) (stands r.0 r.1)

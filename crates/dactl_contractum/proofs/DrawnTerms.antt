-- Terms that are drawn one after another.
use Rattle.std.proofs.Common.{◌≡◌, ℕ, ◌+◌, ◌<◌, List, [], ◌∷◌, ◌++◌, length, map, take, get_or, refl, sym, ap, ◌∙◌, length-append, arith}
use Rattle.std.specs.List.{flat_map}
use Rattle.std.specs.Borrow.{Bor}
use Rattle.std.proofs.lemmas.List.{append-nil, take_more, map-append, length-map}
use Rattle.std.proofs.lemmas.Grind.{flat_map-append}
use Rattle.dactl_meaning.specs.declared.tree.TermTree.{TermTree}
use Rattle.dactl_meaning.specs.Contractum as contractum
use Rattle.dactl_meaning.specs.Contractum.{Drawn, MentionTree, term_draws, terms_draw, made_by, mentions_in, mentions_of}
use Rattle.dactl_contractum.specs.declared.drawing.Target.{Target}
use Rattle.dactl_contractum.specs.declared.drawing.Drawing.{Drawing}
use Rattle.dactl_contractum.specs.Drawing.{sketch_of, target_of, next_number, Draws}
use Rattle.dactl_contractum.specs.Terms.{seen, AreDrawn}

terms_draw-push : (k : ℕ) (ts : List TermTree) (t : TermTree) → terms_draw k (ts ++ t ∷ []) ≡ terms_draw k ts ++ term_draws t (k + length (flat_map (λ d. d.made) (terms_draw k ts))) ∷ []
terms_draw-push k [] t = let e : k + 0 ≡ k = omega arith in rw e refl
terms_draw-push k (x ∷ ts) t =
    let here = (term_draws x k).made in
    let more = flat_map (λ (d : Drawn). d.made) (terms_draw (k + length here) ts) in
    let e : k + length here + length more ≡ k + length (here ++ more) = omega (arith, length-append here more) in
    ap (λ (z : List Drawn). term_draws x k ∷ z) (terms_draw-push (k + length here) ts t ∙ ap (λ (z : ℕ). terms_draw (k + length here) ts ++ term_draws t z ∷ []) e)

pub drawn_push : (ts : List TermTree) (t : TermTree) (old new : Drawing) (targets : List Target) (r : Target) → AreDrawn ts old targets
    → Draws (term_draws t (next_number old)) (mentions_in t) old new r → AreDrawn (ts ++ t ∷ []) new (targets ++ r ∷ [])
drawn_push ts t old new targets r so_far here =
    let d = term_draws t (next_number old) in
    let at : next_number old ≡ length (made_by ts) = sym (length-map old.made.items sketch_of) ∙ ap length so_far.made in
    let all : terms_draw 0 (ts ++ t ∷ []) ≡ terms_draw 0 ts ++ d ∷ [] =
    let e : 0 + length (made_by ts) ≡ next_number old = omega arith in
    terms_draw-push 0 ts t ∙ ap (λ (z : ℕ). terms_draw 0 ts ++ term_draws t z ∷ []) e in
    record {
      made = here.grows.made ∙ ap (λ (z : List contractum.Sketch). z ++ d.made) so_far.made
          ∙ ap (λ (z : List contractum.Sketch). made_by ts ++ z) (sym (append-nil d.made))
          ∙ sym (flat_map-append (λ (z : Drawn). z.made) (terms_draw 0 ts) (d ∷ []))
          ∙ ap (flat_map (λ (z : Drawn). z.made)) (sym all);
      mentions = here.grows.mentions ∙ ap (λ (z : List MentionTree). z ++ mentions_in t) so_far.mentions
          ∙ ap (λ (z : List MentionTree). mentions_of ts ++ z) (sym (append-nil (mentions_in t)))
          ∙ sym (flat_map-append mentions_in ts (t ∷ []));
      stand = map-append target_of targets (r ∷ []) ∙ ap (λ (z : List contractum.Target). z ++ target_of r ∷ []) so_far.stand
          ∙ ap (λ (z : contractum.Target). map (λ (x : Drawn). x.target) (terms_draw 0 ts) ++ z ∷ []) here.stands
          ∙ sym (map-append (λ (x : Drawn). x.target) (terms_draw 0 ts) (d ∷ [])) ∙ ap (map (λ (x : Drawn). x.target)) (sym all);
    }

pub seen_more : (terms : List (Bor TermTree)) (i : ℕ) (t : Bor TermTree) → i < length terms → t ≡ get_or terms i t → seen (take (i + 1) terms) ≡ seen (take i terms) ++ t.now ∷ []
seen_more terms i t lt is = ap seen (take_more terms i t lt ∙ ap (λ (z : Bor TermTree). take i terms ++ z ∷ []) (sym is)) ∙ map-append (λ (z : Bor TermTree). z.now) (take i terms) (t ∷ [])

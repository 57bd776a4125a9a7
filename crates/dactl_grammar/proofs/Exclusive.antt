-- A text, a first unexpected token and a first bracket too many exclude one another, and each is one.
use Rattle.std.proofs.Common.{◌≡◌, ℕ, suc, ◌≤◌, ◌<◌, Bool, ◌⊎◌, inl, inr, List, [], ◌∷◌, ◌++◌, length, Result, Ok, Err, refl, sym, ap, subst, ◌∙◌, append_assoc, arith, length-append}
use Rattle.std.proofs.lemmas.List.{append-nil}
use Rattle.std.proofs.lemmas.Bool.{cases_lt}
use Rattle.dactl_grammar.specs.declared.fault.Fault.{Fault}
use Rattle.dactl_grammar.specs.declared.fault.Fault.TheVariants.{Unexpected, TooDeep}
use Rattle.dactl_grammar.specs.Grammar.{Grammar}
use Rattle.dactl_grammar.specs.Reader.{Reader, read_all}
use Rattle.dactl_grammar.specs.Answer.{NoneWithNext, FirstUnexpected, FirstTooDeep}
use Rattle.dactl_grammar.proofs.Fronts.{cut}
use Rattle.dactl_grammar.proofs.Bounded.{Bounded}
use Rattle.dactl_grammar.proofs.Answered.{read_derives, read_unexpected, read_too_deep, front_is}

module _ {T A : Type 0} {c : T → Bool} {G : ℕ → Grammar T A} {R : ℕ → Reader T A} {more : T → Bool} (laws : Bounded c G R more) where
  closed : (n : ℕ) (u v : List T) → (G n).begins (u ++ v) → (G n).begins u
  closed n u v b = (laws.exact n).fronts u v b

  -- the earlier cut's next token is inside the later front
  record Inside (f r g : List T) : Type 0 where
    pub token : T
    pub rest : List T
    pub beyond : List T
    pub is_rest : r ≡ token ∷ rest
    pub is_front : g ≡ (f ++ token ∷ []) ++ beyond

  next_inside : (f r g s between : List T) → f ++ r ≡ g ++ s → g ≡ f ++ between → length s < length r → Inside f r g
  next_inside f r g s [] e h lt = absurd (omega (arith, ap length e, length-append f r, length-append g s, ap length h, length-append f []))
  next_inside f [] g s (t ∷ between) e h lt = absurd (omega arith)
  next_inside f (x ∷ r) g s (t ∷ between) e h lt =
      let lined : f ++ (x ∷ r) ≡ f ++ (t ∷ (between ++ s)) = e ∙ ap (λ (z : List T). z ++ s) h ∙ append_assoc f (t ∷ between) s in
      let tails : x ∷ r ≡ t ∷ (between ++ s) = behind f (x ∷ r) (t ∷ (between ++ s)) lined in
      record { token = t; rest = r; beyond = between; is_rest = ap (λ (z : T). z ∷ r) cc; is_front = h ∙ sym (append_assoc f (t ∷ []) between) }
    where
      behind : (f a b : List T) → f ++ a ≡ f ++ b → a ≡ b
      behind [] a b e = e
      behind (c ∷ f) a b e = behind f a b cc

  inside : (f r g s : List T) → f ++ r ≡ g ++ s → length s < length r → Inside f r g
  inside f r g s e lt = elim (cut f r g s e) [
    | inl k ↦ next_inside f r g s k.between e k.front lt
    | inr k ↦ absurd (omega (arith, ap length k.back, length-append k.between r))
  ]

  -- what begins past an unexpected token
  past : (n : ℕ) (f r g : List T) → NoneWithNext G f r → Inside f r g → (G n).begins g → ⊥
  past n f r g none i b =
      let next : (G n).begins (f ++ i.token ∷ []) = closed n (f ++ i.token ∷ []) i.beyond (subst (G n).begins i.is_front b) in
      let no : NoneWithNext G f (i.token ∷ i.rest) = subst (NoneWithNext G f) i.is_rest none in
      no (n, next)

  earlier : (n : ℕ) (l : List T) (j k : ℕ) → FirstUnexpected G n l j → FirstUnexpected G n l k → k < j → ⊥
  earlier n l j k a b lt =
      let pa = a.place in
      let pb = b.place in
      past n a.front a.rest b.front a.none (inside a.front a.rest b.front b.rest (sym a.parts ∙ b.parts) (omega arith)) b.before

  pub one_unexpected : (n : ℕ) (l : List T) (j k : ℕ) → FirstUnexpected G n l j → FirstUnexpected G n l k → j ≡ k
  one_unexpected n l j k a b = elim (cases_lt k j) [
    | inl lt ↦ absurd (earlier n l j k a b lt)
    | inr le ↦ elim (cases_lt j k) [ inl lt ↦ absurd (earlier n l k j b a lt) | inr ge ↦ omega arith ]
  ]

  -- a text that begins past a bracket too many
  deep_past : (n : ℕ) (l : List T) (k : ℕ) (b : FirstTooDeep c G n l k) (g more : List T) → g ≡ (b.front ++ b.bracket ∷ []) ++ more → (G n).begins g → ⊥
  deep_past n l k b g more e h = b.too_many (closed n (b.front ++ b.bracket ∷ []) more (subst (G n).begins e h))

  both_faults : (n : ℕ) (l : List T) (j k : ℕ) (a : FirstUnexpected G n l j) (b : FirstTooDeep c G n l k) → (length (b.bracket ∷ b.rest) < length a.rest) ⊎ (length a.rest ≤ length (b.bracket ∷ b.rest)) → ⊥
  both_faults n l j k a b (inl lt) = past n a.front a.rest b.front a.none (inside a.front a.rest b.front (b.bracket ∷ b.rest) (sym a.parts ∙ b.parts) lt) b.before
  both_faults n l j k a b (inr le) = elim (cases_lt (length a.rest) (length (b.bracket ∷ b.rest))) [
    | inl lt ↦ (let i = inside b.front (b.bracket ∷ b.rest) a.front a.rest (sym b.parts ∙ a.parts) lt in
        let same : b.bracket ≡ i.token = head_of i.is_rest in
        deep_past n l k b a.front i.beyond (i.is_front ∙ ap (λ (t : T). (b.front ++ t ∷ []) ++ i.beyond) (sym same)) a.before)
    | inr ge ↦ (let fronts : a.front ≡ b.front = front_is laws a.front a.rest b.front (b.bracket ∷ b.rest) (sym a.parts ∙ b.parts) (omega arith) in
        let i : a.rest ≡ b.bracket ∷ b.rest = rests a.front a.rest (b.bracket ∷ b.rest) (sym a.parts ∙ b.parts ∙ ap (λ (z : List T). z ++ (b.bracket ∷ b.rest)) (sym fronts)) in
        let no : NoneWithNext G a.front (b.bracket ∷ b.rest) = subst (NoneWithNext G a.front) i a.none in
        no (suc n, subst (λ (z : List T). (G (suc n)).begins (z ++ b.bracket ∷ [])) (sym fronts) b.one_more))
  ]
    where
      head_of : {t u : T} {r s : List T} → t ∷ r ≡ u ∷ s → t ≡ u
      head_of e = cc

      rests : (f a b : List T) → f ++ a ≡ f ++ b → a ≡ b
      rests [] a b e = e
      rests (c ∷ f) a b e = rests f a b cc

  pub not_both : (n : ℕ) (l : List T) (j k : ℕ) → FirstUnexpected G n l j → FirstTooDeep c G n l k → ⊥
  not_both n l j k a b = both_faults n l j k a b (cases_lt (length (b.bracket ∷ b.rest)) (length a.rest))

  derives_begins : (n : ℕ) (l : List T) (ms : A) → (G n).whole l ms → (G n).begins l
  derives_begins n l ms w = (laws.exact n).whole_begins l ms w

  expected : (n : ℕ) (l front rest : List T) (ms : A) → l ≡ front ++ rest → NoneWithNext G front rest → (G n).whole l ms → ⊥
  expected n l front [] ms e none w = none n ms (subst (λ (z : List T). (G n).whole z ms) (e ∙ append-nil front) w)
  expected n l front (t ∷ rest) ms e none w = none (n, closed n (front ++ t ∷ []) rest (subst (G n).begins (e ∙ sym (append_assoc front (t ∷ []) rest)) (derives_begins n l ms w)))

  pub not_unexpected : (n : ℕ) (l : List T) (ms : A) (k : ℕ) → (G n).whole l ms → FirstUnexpected G n l k → ⊥
  not_unexpected n l ms k w a = expected n l a.front a.rest ms a.parts a.none w

  pub not_too_deep : (n : ℕ) (l : List T) (ms : A) (k : ℕ) → (G n).whole l ms → FirstTooDeep c G n l k → ⊥
  not_too_deep n l ms k w b = deep_past n l k b l b.rest (b.parts ∙ sym (append_assoc b.front (b.bracket ∷ []) b.rest)) (derives_begins n l ms w)

  -- where a token is the first unexpected one, reading says so
  pub unexpected_read : (n : ℕ) (l : List T) (k : ℕ) → FirstUnexpected G n l k → read_all (R n) l ≡ Err (Unexpected k)
  unexpected_read n l k a = pick (read_all (R n) l) refl
    where
      pick : (r : Result (A) Fault) → read_all (R n) l ≡ r → read_all (R n) l ≡ Err (Unexpected k)
      pick (Ok ms) e = absurd (not_unexpected n l ms k (read_derives laws n l ms e) a)
      pick (Err (Unexpected j)) e = e ∙ ap (λ (m : ℕ). Err (Unexpected m)) (one_unexpected n l j k (read_unexpected laws n l j e) a)
      pick (Err (TooDeep j)) e = absurd (not_both n l k j a (read_too_deep laws n l j e))

  -- ---- one bracket too many

  deeper : (n : ℕ) (l : List T) (j k : ℕ) → FirstTooDeep c G n l j → FirstTooDeep c G n l k → k < j → ⊥
  deeper n l j k a b lt =
      let pa = a.place in
      let pb = b.place in
      let i = inside a.front (a.bracket ∷ a.rest) b.front (b.bracket ∷ b.rest) (sym a.parts ∙ b.parts) (omega arith) in
      let same : a.bracket ≡ i.token = first i.is_rest in
      deep_past n l j a b.front i.beyond (i.is_front ∙ ap (λ (t : T). (a.front ++ t ∷ []) ++ i.beyond) (sym same)) b.before
    where
      first : {t u : T} {r s : List T} → t ∷ r ≡ u ∷ s → t ≡ u
      first e = cc

  pub one_too_deep : (n : ℕ) (l : List T) (j k : ℕ) → FirstTooDeep c G n l j → FirstTooDeep c G n l k → j ≡ k
  one_too_deep n l j k a b = elim (cases_lt k j) [
    | inl lt ↦ absurd (deeper n l j k a b lt)
    | inr le ↦ elim (cases_lt j k) [ inl lt ↦ absurd (deeper n l k j b a lt) | inr ge ↦ omega arith ]
  ]

  -- where a bracket is the first too many, reading says so
  pub too_deep_read : (n : ℕ) (l : List T) (k : ℕ) → FirstTooDeep c G n l k → read_all (R n) l ≡ Err (TooDeep k)
  too_deep_read n l k a = pick (read_all (R n) l) refl
    where
      pick : (r : Result (A) Fault) → read_all (R n) l ≡ r → read_all (R n) l ≡ Err (TooDeep k)
      pick (Ok ms) e = absurd (not_too_deep n l ms k (read_derives laws n l ms e) a)
      pick (Err (Unexpected j)) e = absurd (not_both n l j k (read_unexpected laws n l j e) a)
      pick (Err (TooDeep j)) e = e ∙ ap (λ (m : ℕ). Err (TooDeep m)) (one_too_deep n l j k (read_too_deep laws n l j e) a)

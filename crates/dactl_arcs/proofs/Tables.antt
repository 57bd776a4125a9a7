-- A table of which the front is stored.
use Rattle.std.proofs.Common.{◌≡◌, ℕ, zero, suc, ◌+◌, ◌-◌, ◌<◌, ◌≤◌, Bool, true, false, List, [], ◌∷◌, ◌++◌, length, get_or, set, map, replicate, None, refl, sym, ap, ◌∙◌, arith, append_assoc, length-append, length-set}
use Rattle.std.proofs.lemmas.List.{get_or_append_left, get_or-append_right, set-append_left}
use Rattle.dactl_arcs.specs.Naming.{IsCounting}
use Rattle.dactl_arcs.specs.Tables.{initial_at, initials, link_of, table_of, IsTable}

pub length-initials : (counts : Bool) (place more : ℕ) → length (initials counts place more) ≡ more
length-initials counts place zero = refl
length-initials counts place (suc more) = ap suc (length-initials counts (suc place) more)

pub get_or-initials : (counts : Bool) (place more k : ℕ) → k < more → get_or (initials counts place more) k 0 ≡ initial_at counts (place + k)
get_or-initials counts place zero k inside = absurd (omega arith)
get_or-initials counts place (suc more) zero inside =
    let here : place ≡ place + 0 = omega arith in
    ap (initial_at counts) here
get_or-initials counts place (suc more) (suc k) inside =
    let there : suc place + k ≡ place + suc k = omega arith in
    get_or-initials counts (suc place) more k (omega arith) ∙ ap (initial_at counts) there

initials-append : (counts : Bool) (place one other : ℕ) → initials counts place one ++ initials counts (place + one) other ≡ initials counts place (one + other)
initials-append counts place zero other =
    let here : place + 0 ≡ place = omega arith in
    let all : other ≡ 0 + other = omega arith in
    ap (λ p. initials counts p other) here ∙ ap (initials counts place) all
initials-append counts place (suc one) other =
    let there : place + suc one ≡ suc place + one = omega arith in
    let all : suc (one + other) ≡ suc one + other = omega arith in
    ap (λ p. initial_at counts place ∷ (initials counts (suc place) one ++ initials counts p other)) there
    ∙ ap (λ xs. initial_at counts place ∷ xs) (initials-append counts (suc place) one other)
    ∙ ap (initials counts place) all

-- one more place is stored
pub initials-push : (counts : Bool) (stored : List ℕ) (more : ℕ) → (stored ++ initials counts (length stored) more) ++ initial_at counts (length stored + more) ∷ [] ≡ stored ++ initials counts (length stored) (more + 1)
initials-push counts stored more =
    append_assoc stored (initials counts (length stored) more) (initial_at counts (length stored + more) ∷ [])
    ∙ ap (λ xs. stored ++ xs) (initials-append counts (length stored) more 1)

zeros : (place more : ℕ) → initials false place more ≡ replicate more 0
zeros place zero = refl
zeros place (suc more) = ap (λ xs. 0 ∷ xs) (zeros (suc place) more)

-- a table of which nothing is stored
none_stored : (counts : Bool) (long : ℕ) (stored : List ℕ) → stored ≡ [] → table_of counts long stored ≡ initials counts 0 long
none_stored counts long stored none =
    let all : long - 0 ≡ long = omega arith in
    ap (table_of counts long) none ∙ ap (initials counts 0) all

pub table_of_zeros : (long : ℕ) (stored : List ℕ) → stored ≡ [] → table_of false long stored ≡ replicate long 0
table_of_zeros long stored none = none_stored false long stored none ∙ zeros 0 long

pub IsCounting-table : (long : ℕ) (stored : List ℕ) → stored ≡ [] → IsCounting long (table_of true long stored)
IsCounting-table long stored none = record {
  long = ap length (none_stored true long stored none) ∙ length-initials true 0 long;
  each = λ n inside.
      let place : 0 + n ≡ n = omega arith in
      ap (λ xs. get_or xs n 0) (none_stored true long stored none) ∙ get_or-initials true 0 long n inside ∙ place;
}

-- The fields, and what a contract sees of them.
module _ (counts : Bool) (long : ℕ) (stored : List ℕ) (capacity : ℕ) (is : IsTable long stored capacity) where
  rest : List ℕ
  rest = initials counts (length stored) (long - length stored)

  pub length-table : length (table_of counts long stored) ≡ long
  length-table =
      length-append stored (initials counts (length stored) (long - length stored))
      ∙ omega (arith, length-initials counts (length stored) (long - length stored), is.few)

  pub get_stored : (k : ℕ) → k < length stored → get_or (table_of counts long stored) k 0 ≡ get_or stored k 0
  get_stored k inside = get_or_append_left stored (initials counts (length stored) (long - length stored)) 0 k inside

  pub get_initial : (k : ℕ) → length stored ≤ k → k < long → get_or (table_of counts long stored) k 0 ≡ initial_at counts k
  get_initial k behind inside =
      let place : length stored + (k - length stored) ≡ k = omega arith in
      get_or-append_right stored (initials counts (length stored) (long - length stored)) (length stored) k 0 refl behind
      ∙ get_or-initials counts (length stored) (long - length stored) (k - length stored) (omega arith)
      ∙ ap (initial_at counts) place

  pub set_stored : (k v : ℕ) → k < length stored → table_of counts long (set stored k v) ≡ set (table_of counts long stored) k v
  set_stored k v inside =
      ap (λ n. set stored k v ++ initials counts n (long - n)) (length-set stored k v)
      ∙ sym (set-append_left stored (initials counts (length stored) (long - length stored)) k v inside)

  -- more places are stored
  pub grown : (more : ℕ) → length stored + more ≤ long → table_of counts long (stored ++ initials counts (length stored) more) ≡ table_of counts long stored
  grown more few =
      let now : length (stored ++ initials counts (length stored) more) ≡ length stored + more = length-append stored (initials counts (length stored) more) ∙ ap (λ n. length stored + n) (length-initials counts (length stored) more) in
      let left : more + (long - (length stored + more)) ≡ long - length stored = omega arith in
      ap (λ n. (stored ++ initials counts (length stored) more) ++ initials counts n (long - n)) now
      ∙ append_assoc stored (initials counts (length stored) more) (initials counts (length stored + more) (long - (length stored + more)))
      ∙ ap (λ xs. stored ++ xs) (initials-append counts (length stored) more (long - (length stored + more)) ∙ ap (initials counts (length stored)) left)

-- the place is stored, and the table is as it was
pub record IsReady (table : List ℕ) (place : ℕ) (counts : Bool) (long : ℕ) (stored : List ℕ) (capacity : ℕ) : Type 0 where
  pub inside : place < length stored
  pub is : IsTable long stored capacity
  pub same : table_of counts long stored ≡ table

module _ (table : List ℕ) (place : ℕ) (counts : Bool) (long : ℕ) (stored : List ℕ) (capacity : ℕ) (is : IsTable long stored capacity) (view_is : table_of counts long stored ≡ table) where
  pub below_long : place < length table → place < long
  below_long inside = omega (arith, ap length view_is, length-table counts long stored capacity is)

  pub ready_already : place < length stored → IsReady table place counts long stored capacity
  ready_already inside = record { inside = inside; is = is; same = view_is }

  pub ready_stored : (items : List ℕ) (room : ℕ) → place < length table → length stored ≤ place → items ≡ stored ++ initials counts (length stored) (place + 1 - length stored) → room ≡ capacity → IsReady table place counts long items room
  ready_stored items room below behind written same_room =
      let inside = below_long below in
      let more = place + 1 - length stored in
      let count : length items ≡ length stored + more = ap length written ∙ length-append stored (initials counts (length stored) more) ∙ ap (λ n. length stored + n) (length-initials counts (length stored) more) in
      record {
        inside = omega arith;
        is = record { few = omega arith; taken = omega (arith, is.taken) };
        same = ap (table_of counts long) written ∙ grown counts long stored capacity is more (omega arith) ∙ view_is;
      }

pub IsTable-set : (table : List ℕ) (place : ℕ) (counts : Bool) (long : ℕ) (stored : List ℕ) (capacity number : ℕ) → IsReady table place counts long stored capacity → IsTable long (set stored place number) capacity
IsTable-set table place counts long stored capacity number ready = record {
  few = omega (arith, length-set stored place number, ready.is.few);
  taken = ready.is.taken;
}

pub set_ready : (table : List ℕ) (place : ℕ) (counts : Bool) (long : ℕ) (stored : List ℕ) (capacity number : ℕ) → IsReady table place counts long stored capacity → table_of counts long (set stored place number) ≡ set table place number
set_ready table place counts long stored capacity number ready =
    set_stored counts long stored capacity ready.is place number ready.inside ∙ ap (λ xs. set xs place number) ready.same

pub no_links : (many : ℕ) → map link_of (replicate many 0) ≡ replicate many None
no_links zero = refl
no_links (suc many) = ap (λ links. None ∷ links) (no_links many)

-- Facts on the tests of sorts are found by trying each sort.
use Rattle.std.proofs.Common.{◌≡◌, ℕ, zero, suc, Bool, true, false, cond, List, [], ◌∷◌, Option, Some, None, refl, subst}
use Rattle.std.proofs.lemmas.Bool.{and_parts}
use Rattle.std.specs.Prelude.{◌&&◌, not}
use Rattle.dactl_terminals.specs.declared.token.Sort.{Sort}
use Rattle.dactl_terminals.specs.declared.token.Sort.TheVariants.{Upper, Lower, Integer, Module, EndModule, Imports, Symbol, Pattern, Rule, Initial, Public, Rewritable, Overwritable, Creatable, Any, Int, Open, Close, Left, Right, Semicolon, Comma, Bar, Colon, Becomes, Equals, Rewrites, Arrow, Star, Hash, Wait, Plus, Minus, Header, Character, Char, Data, Main}

abbrev sorts : List Sort
sorts = Upper ∷ Lower ∷ Integer ∷ Module ∷ EndModule ∷ Imports ∷ Symbol ∷ Pattern ∷ Rule ∷ Initial ∷ Public ∷ Rewritable ∷ Overwritable ∷ Creatable ∷ Any ∷ Int ∷ Open ∷ Close ∷ Left ∷ Right ∷ Semicolon ∷ Comma ∷ Bar ∷ Colon ∷ Becomes ∷ Equals ∷ Rewrites ∷ Arrow ∷ Star ∷ Hash ∷ Wait ∷ Plus ∷ Minus ∷ Header ∷ Character ∷ Char ∷ Data ∷ Main ∷ []

abbrev all : (Sort → Bool) → List Sort → Bool
all p [] = true
all p (s ∷ l) = p s && all p l

-- the test passes at every sort
abbrev pub every : (Sort → Bool) → Bool
every p = all p sorts

pub every_of : (p : Sort → Bool) → ((s : Sort) → p s ≡ true) → every p ≡ true
every_of p h = of sorts
  where
    of : (l : List Sort) → all p l ≡ true
    of [] = refl
    of (s ∷ l) = rw (h s, of l) refl

abbrev at : List Sort → ℕ → Option Sort
at [] n = None
at (s ∷ l) zero = Some s
at (s ∷ l) (suc n) = at l n

holds_at : (p : Sort → Bool) (l : List Sort) (n : ℕ) (s : Sort) → at l n ≡ Some s → all p l ≡ true → p s ≡ true
holds_at p [] n s e h = absurd cc
holds_at p (t ∷ l) zero s e h =
    let same : t ≡ s = cc in
    subst (λ (k : Sort). p k ≡ true) same (and_parts (p t) (all p l) h).0
holds_at p (t ∷ l) (suc n) s e h = holds_at p l n s e (and_parts (p t) (all p l) h).1

pub each : (p : Sort → Bool) → every p ≡ true → (s : Sort) → p s ≡ true
each p h Upper = holds_at p sorts 0 Upper refl h
each p h Lower = holds_at p sorts 1 Lower refl h
each p h Integer = holds_at p sorts 2 Integer refl h
each p h Module = holds_at p sorts 3 Module refl h
each p h EndModule = holds_at p sorts 4 EndModule refl h
each p h Imports = holds_at p sorts 5 Imports refl h
each p h Symbol = holds_at p sorts 6 Symbol refl h
each p h Pattern = holds_at p sorts 7 Pattern refl h
each p h Rule = holds_at p sorts 8 Rule refl h
each p h Initial = holds_at p sorts 9 Initial refl h
each p h Public = holds_at p sorts 10 Public refl h
each p h Rewritable = holds_at p sorts 11 Rewritable refl h
each p h Overwritable = holds_at p sorts 12 Overwritable refl h
each p h Creatable = holds_at p sorts 13 Creatable refl h
each p h Any = holds_at p sorts 14 Any refl h
each p h Int = holds_at p sorts 15 Int refl h
each p h Open = holds_at p sorts 16 Open refl h
each p h Close = holds_at p sorts 17 Close refl h
each p h Left = holds_at p sorts 18 Left refl h
each p h Right = holds_at p sorts 19 Right refl h
each p h Semicolon = holds_at p sorts 20 Semicolon refl h
each p h Comma = holds_at p sorts 21 Comma refl h
each p h Bar = holds_at p sorts 22 Bar refl h
each p h Colon = holds_at p sorts 23 Colon refl h
each p h Becomes = holds_at p sorts 24 Becomes refl h
each p h Equals = holds_at p sorts 25 Equals refl h
each p h Rewrites = holds_at p sorts 26 Rewrites refl h
each p h Arrow = holds_at p sorts 27 Arrow refl h
each p h Star = holds_at p sorts 28 Star refl h
each p h Hash = holds_at p sorts 29 Hash refl h
each p h Wait = holds_at p sorts 30 Wait refl h
each p h Plus = holds_at p sorts 31 Plus refl h
each p h Minus = holds_at p sorts 32 Minus refl h
each p h Header = holds_at p sorts 33 Header refl h
each p h Character = holds_at p sorts 34 Character refl h
each p h Char = holds_at p sorts 35 Char refl h
each p h Data = holds_at p sorts 36 Data refl h
each p h Main = holds_at p sorts 37 Main refl h

-- the first test rules the second out
abbrev pub bars : (Sort → Bool) → (Sort → Bool) → Sort → Bool
bars g m s = cond (g s) (not (m s)) true

bars_at : (a b : Bool) → cond a (not b) true ≡ true → a ≡ true → b ≡ false
bars_at true true h e = absurd cc
bars_at true false h e = refl
bars_at false b h e = absurd cc

pub apart : (g m : Sort → Bool) → every (bars g m) ≡ true → (s : Sort) → g s ≡ true → m s ≡ false
apart g m h s = bars_at (g s) (m s) (each (bars g m) h s)

abbrev pub implies : (Sort → Bool) → (Sort → Bool) → Sort → Bool
implies g m s = cond (g s) (m s) true

implies_at : (a b : Bool) → cond a b true ≡ true → a ≡ true → b ≡ true
implies_at true b h e = h
implies_at false b h e = absurd cc

pub along : (g m : Sort → Bool) → every (implies g m) ≡ true → (s : Sort) → g s ≡ true → m s ≡ true
along g m h s = implies_at (g s) (m s) (each (implies g m) h s)

-- what the second test lets by, the first does
abbrev pub clears : (Sort → Bool) → (Sort → Bool) → Sort → Bool
clears g m s = cond (m s) true (not (g s))

clears_at : (a b : Bool) → cond b true (not a) ≡ true → b ≡ false → a ≡ false
clears_at a true h e = absurd cc
clears_at true false h e = absurd cc
clears_at false false h e = refl

pub cleared : (g m : Sort → Bool) → every (clears g m) ≡ true → (s : Sort) → m s ≡ false → g s ≡ false
cleared g m h s = clears_at (g s) (m s) (each (clears g m) h s)

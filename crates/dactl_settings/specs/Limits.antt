-- The limits of the settings.
use Rattle.std.specs.Prelude.{◌≡◌, ◌&&◌, ◌≤◌, ℕ, IfSome, false}
use Rattle.dactl_settings.specs.declared.settings.Settings.{Settings}

-- the number is from 1 to the greatest
abbrev pub IsUpTo : ℕ → ℕ → Type 0
IsUpTo greatest n = (1 ≤ n) × (n ≤ greatest)

-- each number of the settings is within its limits, and not both a check and a start from a graph are asked for
pub record IsWithinLimits (s : Settings) : Type 0 where
  pub workers : IsUpTo 16 s.workers
  pub budget : IsUpTo 4000000 s.budget
  pub nodes : IsUpTo 2000000 s.nodes
  pub sample : IfSome s.sample (IsUpTo 20000)
  pub one : s.verify && s.resume ≡ false

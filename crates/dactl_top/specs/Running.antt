-- The limits that the settings give to a run, and the words of a run.
use Rattle.std.specs.Prelude.{◌*◌}
use Rattle.dactl_model.specs.declared.graph.Limits.{Limits}
use Rattle.dactl_settings.specs.declared.settings.Settings.{Settings}
pub use Rattle.dactl_crew.specs.Running.{start_room, IsFitting, IsTooSmall, IsRun}

-- the limits of a run: so many nodes, four arcs for each, and the budget of entries
abbrev pub limits_of : Settings → Limits
limits_of s = record { nodes = s.nodes; arcs = 4 * s.nodes; budget = s.budget }

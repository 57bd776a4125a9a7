use Rattle.std.proofs.Common.{refl}
use Rattle.dactl_verify.proofs.Outcomes.{no_step, no_room}
use Rattle.dactl_verify.proofs.checking.check_line.Goals as goal

pub returns-in-Wrong : goal.returns-in-Wrong
returns-in-Wrong c =
    let none = rw c.in-Wrong.is at c.in_ok-after_event.ensures in (
      refl,
      no_step c.args.program.now c.args.room c.args.reached.graph c.args.number c.args.line.now c.in-Some.entry c.requires.program c.requires.room c.requires.reached.fits
          c.ranges.number.fits c.in-Some.ensures.0 c.in-Some.ensures.1 none,
    )

pub returns-in-Full : goal.returns-in-Full
returns-in-Full c =
    let full = rw c.in-Full.is at c.in_ok-after_event.ensures in (
      refl,
      no_room c.args.program.now c.args.room c.args.reached.graph c.args.number c.args.line.now c.in-Some.entry c.in-Full.node c.in-Full.rule c.in-Full.needed c.in-Full.left
          c.in-Some.ensures.1 full.0 full.1,
    )

use Rattle.oo7.specs.Words.{command_of, texts}
use Rattle.oo7.proofs.Reasons.{completes, later, makes, spares, usage}
use Rattle.oo7.proofs.top.oo7.Goals as goal

pub returns-clause-usage : goal.returns-clause-usage
returns-clause-usage g c =
    rw c.report-status.ensures.status (usage g.D.Disk (record { pages = c.args.pages; journal = c.args.journal }) (record { pages = c.perform-outcome.result.pages; journal = c.perform-outcome.result.journal }) c.report-status.result.is_taken (command_of (texts c.args.words.now)) c.perform-outcome.result.outcome c.perform-outcome.ensures.reason)

pub returns-clause-later : goal.returns-clause-later
returns-clause-later g c =
    rw c.report-status.ensures.status (later g.D.Disk (record { pages = c.args.pages; journal = c.args.journal }) (record { pages = c.perform-outcome.result.pages; journal = c.perform-outcome.result.journal }) c.report-status.result.is_taken (command_of (texts c.args.words.now)) c.perform-outcome.result.outcome c.perform-outcome.ensures.reason)

pub returns-clause-completes : goal.returns-clause-completes
returns-clause-completes g c =
    rw c.report-status.ensures.status (completes g.D.Disk (record { pages = c.args.pages; journal = c.args.journal }) (record { pages = c.perform-outcome.result.pages; journal = c.perform-outcome.result.journal }) c.report-status.result.is_taken (command_of (texts c.args.words.now)) c.perform-outcome.result.outcome c.perform-outcome.ensures.reason)

pub returns-clause-spares : goal.returns-clause-spares
returns-clause-spares g c =
    spares g.D.Disk (record { pages = c.args.pages; journal = c.args.journal }) (record { pages = c.perform-outcome.result.pages; journal = c.perform-outcome.result.journal }) c.report-status.result.is_taken (command_of (texts c.args.words.now)) c.perform-outcome.result.outcome c.perform-outcome.ensures.reason

pub returns-clause-makes : goal.returns-clause-makes
returns-clause-makes g c =
    rw c.report-status.ensures.status (makes g.D.Disk (record { pages = c.args.pages; journal = c.args.journal }) (record { pages = c.perform-outcome.result.pages; journal = c.perform-outcome.result.journal }) c.report-status.result.is_taken (command_of (texts c.args.words.now)) c.perform-outcome.result.outcome c.perform-outcome.ensures.reason c.perform-outcome.ensures.synced)

use Rattle.std.proofs.Common.{ap, subst}
use mathlib.Core.List.{IsPrefix}
use Rattle.alm_history.proofs.Entries.{prefix_entries}
use Rattle.alm_history.proofs.history_prefix.HistoryPrefix.joined.Goals as goal

pub returns-clause-this : goal.returns-clause-this
returns-clause-this g c =
    let both = c.learn.new.self.log in
    let this : IsPrefix c.self.inside.seen.log both = subst (λ l. IsPrefix l both) (ap (λ s. s.log) c.again-seen.ensures) c.learn.ensures.2 in
    rw (← c.self.view_is) (prefix_entries c.self.inside.seen.log both this)

pub returns-clause-that : goal.returns-clause-that
returns-clause-that g c =
    let both = c.learn.new.self.log in
    rw (← c.other.view_is) (prefix_entries c.other.inside.seen.log both c.learn.ensures.3)

use Rattle.std.proofs.Common.{◌≡◌, ◌+◌, None, take, drop, arith, rules}
use Rattle.std.proofs.lemmas.Grind.{common_steps}
use Rattle.alm_session.proofs.Streams.{same_lines, same_open, nothing_left}
use Rattle.alm_session.proofs.intake.Intake.line.Goals as goal

pub returns-clause-lines : goal.returns-clause-lines
returns-clause-lines c =
    let none : c.self.inside.line ≡ None = search rules in
    let bytes = take c.self.inside.end c.self.inside.bytes in
    let rest : drop (c.self.inside.at + c.feed_from-used.result.0) bytes ≡ drop c.feed_from-used.result.0 (drop c.self.inside.at bytes) = grind (arith, common_steps) in
    rw (← c.self.view_is, none) (same_lines c.self.inside.decoder c.feed_from-used.new.decoder (drop c.self.inside.at bytes) (drop (c.self.inside.at + c.feed_from-used.result.0) bytes) c.feed_from-used.result.0 c.feed_from-used.result.1
    c.feed_from-used.ensures.used c.feed_from-used.ensures.line c.feed_from-used.ensures.held rest)

pub returns-clause-open : goal.returns-clause-open
returns-clause-open c =
    let bytes = take c.self.inside.end c.self.inside.bytes in
    let rest : drop (c.self.inside.at + c.feed_from-used.result.0) bytes ≡ drop c.feed_from-used.result.0 (drop c.self.inside.at bytes) = grind (arith, common_steps) in
    rw (← c.self.view_is) (same_open c.self.inside.decoder c.feed_from-used.new.decoder (drop c.self.inside.at bytes) (drop (c.self.inside.at + c.feed_from-used.result.0) bytes) c.feed_from-used.result.0 c.feed_from-used.ensures.held rest)

pub returns-clause-none : goal.returns-clause-none
returns-clause-none c =
    let bytes = take c.self.inside.end c.self.inside.bytes in
    let rest : drop (c.self.inside.at + c.feed_from-used.result.0) bytes ≡ drop c.feed_from-used.result.0 (drop c.self.inside.at bytes) = grind (arith, common_steps) in
    λ none. nothing_left c.self.inside.decoder (drop c.self.inside.at bytes) (drop (c.self.inside.at + c.feed_from-used.result.0) bytes) c.feed_from-used.result.0 c.feed_from-used.result.1
    c.feed_from-used.ensures.used c.feed_from-used.ensures.line rest none

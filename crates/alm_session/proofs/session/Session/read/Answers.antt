use Rattle.std.proofs.Common.{refl, ap, arith}
use Rattle.alm_session.specs.Intakes.{lines_in, open_in}
use Rattle.alm_session.proofs.Steps.{still, read_some}
use Rattle.alm_session.proofs.session.Session.read.Goals as goal

pub returns-in-Got-clause-turn : goal.returns-in-Got-clause-turn
returns-in-Got-clause-turn g c = λ base known sent heard.
    read_some base _ _ c.requires.held.0 c.requires.held.1 c.in-Got.ensures.bytes.2 (omega (arith, c.in-Got.ensures.bytes.0, c.in-Got.ensures.counts.1)) refl refl refl c.in-Got.ensures.bytes.1
    c.in-Got.ensures.written refl refl refl

pub returns-then-is_empty-clause-turn : goal.returns-then-is_empty-clause-turn
returns-then-is_empty-clause-turn g c = λ base known sent heard.
    still base _ _ (ap lines_in c.in-End.ensures.bytes.0) (ap open_in c.in-End.ensures.bytes.0) refl refl refl c.in-End.ensures.bytes.1 c.in-End.ensures.written refl refl refl

pub returns-else-is_empty-clause-turn : goal.returns-else-is_empty-clause-turn
returns-else-is_empty-clause-turn g c = λ base known sent heard.
    still base _ _ (ap lines_in c.in-End.ensures.bytes.0) (ap open_in c.in-End.ensures.bytes.0) refl refl refl c.in-End.ensures.bytes.1 c.in-End.ensures.written refl refl refl

pub returns-in-Blocked-clause-turn : goal.returns-in-Blocked-clause-turn
returns-in-Blocked-clause-turn g c = λ base known sent heard.
    still base _ _ (ap lines_in c.in-Blocked.ensures.bytes.0) (ap open_in c.in-Blocked.ensures.bytes.0) refl refl refl c.in-Blocked.ensures.bytes.1 c.in-Blocked.ensures.written refl refl refl

pub returns-in-Failed-clause-turn : goal.returns-in-Failed-clause-turn
returns-in-Failed-clause-turn g c = λ base known sent heard.
    still base _ _ (ap lines_in c.in-Failed.ensures.bytes.0) (ap open_in c.in-Failed.ensures.bytes.0) refl refl refl c.in-Failed.ensures.bytes.1 c.in-Failed.ensures.written refl refl refl

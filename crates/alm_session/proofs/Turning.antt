-- What a turn comes to.
use Rattle.std.proofs.Common.{◌≡◌, ℕ, List, [], ◌++◌, Option, None, ap, ◌∙◌, inr}
use Rattle.alm_rings.specs.declared.told.Told.{Ghosts}
use Rattle.alm_rings.specs.declared.console.Console.{Console}
use Rattle.alm_session.specs.declared.session.Session.{Session}
use Rattle.alm_session.specs.declared.turn.Turn.{Turn}
use Rattle.alm_session.specs.declared.turn.Turn.TheVariants.{Went, Idle, Ended, Fault}
use Rattle.alm_session.specs.Intakes.{Untaken, if_held, lines_from, lines_in}
use Rattle.alm_session.specs.Wires.{Counts}
use Rattle.alm_session.specs.Sides.{IsQuiet, GoOnTurns, Turns}

pub gone_turns : {T : Type 0} {g : Ghosts T} (r : Turn) (s : Session) (before console : Console T g) (old between new : Counts) (coming : Option (List ℕ))
    → between ≡ old → IsQuiet before → GoOnTurns r s console between new coming → Turns r s before console old new coming
gone_turns Went s before console old between new coming e quiet p = p ∙ e
gone_turns Idle s before console old between new coming e quiet p = inr (quiet, rw (← e) p)
gone_turns Ended s before console old between new coming e quiet p = (p.0 ∙ e, p.1, quiet)
gone_turns Fault s before console old between new coming e quiet p = rw (← e) p

-- no whole line is held
pub none_held : (h : Untaken) → h.line ≡ None → h.rest ≡ [] → lines_in h ≡ []
none_held h line rest = ap (λ l. if_held l ++ lines_from h.held h.rest) line ∙ ap (λ r. lines_from h.held r) rest

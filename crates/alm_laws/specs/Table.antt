-- The table of the core states, said by what each of its rows does.
use Rattle.std.specs.Prelude.{Bool, true, false, not, ◌&&◌, ◌||◌, Option, Some, None}
use Rattle.alm_state.specs.Rows.{is_annunciated, is_active_core}
use Rattle.alm_state.specs.Suits.{suits}
use Rattle.alm_state.specs.declared.core_state.Core.{Core}
use Rattle.alm_state.specs.declared.core_state.Core.TheVariants.{Normal, Unack, Acked, RtnUnack, LatchUnack, LatchAcked}
use Rattle.alm_state.specs.declared.happening.Happening.{Happening}
use Rattle.alm_state.specs.declared.happening.Happening.TheVariants.{Comes, Goes, Ack, Reset}
use Rattle.alm_laws.specs.Alarm.{is_unacknowledged, is_latched}

-- when each can happen to an alarm: a condition comes that didn't hold, or goes that did; ACK finds it unacknowledged, RESET latched and acknowledged
abbrev pub can_happen : Happening → Core → Bool
can_happen Comes c = not (is_active_core c)
can_happen Goes c = is_active_core c
can_happen Ack c = is_unacknowledged c
can_happen Reset c = is_latched c && not (is_unacknowledged c)

abbrev pub agree : Bool → Bool → Bool
agree true b = b
agree false b = not b

abbrev pub implies : Bool → Bool → Bool
implies a b = not a || b

abbrev pub same_core : Core → Core → Bool
same_core Normal Normal = true
same_core Unack Unack = true
same_core Acked Acked = true
same_core RtnUnack RtnUnack = true
same_core LatchUnack LatchUnack = true
same_core LatchAcked LatchAcked = true
same_core _ _ = false

-- a state is the one that the table leads to
abbrev pub is_that : Option Core → Core → Bool
is_that None d = false
is_that (Some c) d = same_core c d

abbrev pub is_comes : Happening → Bool
is_comes Comes = true
is_comes _ = false

abbrev pub is_goes : Happening → Bool
is_goes Goes = true
is_goes _ = false

abbrev pub is_ack : Happening → Bool
is_ack Ack = true
is_ack _ = false

abbrev pub is_reset : Happening → Bool
is_reset Reset = true
is_reset _ = false

-- Eight sentences of an alarm that goes from a core state c to d.
-- d is a state that such an alarm can have.
-- Its condition holds if it came, or if it held and didn't go.
-- A condition that comes makes it unacknowledged.
-- ACK acknowledges it.
-- Nothing but ACK does.
-- What is acknowledged stays so until its condition comes.
-- What latches asks for the operator until it is reset.
-- RESET leaves it normal.
abbrev pub meets_the_laws : Bool → Happening → Core → Core → Bool
meets_the_laws latching h c d =
    suits latching d
    && agree (is_active_core d) (is_comes h || is_active_core c && not (is_goes h))
    && implies (is_comes h) (is_unacknowledged d)
    && implies (is_ack h) (not (is_unacknowledged d))
    && implies (is_unacknowledged c && not (is_ack h)) (is_unacknowledged d)
    && implies (not (is_unacknowledged c) && not (is_comes h)) (not (is_unacknowledged d))
    && implies (latching && is_annunciated c && not (is_reset h)) (is_annunciated d)
    && implies (is_reset h) (not (is_annunciated d))
